use Rattle.name_listing.proofs.ToldLaw.{levels}
use Rattle.name_listing.proofs.laws.levels_above_mailboxes_are_listed.Goals as goal

pub returns : goal.returns
returns c = levels
