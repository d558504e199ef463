use Rattle.name_listing.proofs.ToldLaw.{mailboxes}
use Rattle.name_listing.proofs.laws.mailboxes_that_match_are_listed.Goals as goal

pub returns : goal.returns
returns c = mailboxes
