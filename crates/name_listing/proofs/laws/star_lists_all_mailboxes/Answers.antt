use Rattle.name_listing.proofs.Wildcards.{star_all, star_only}
use Rattle.name_listing.proofs.laws.star_lists_all_mailboxes.Goals as goal

pub returns : goal.returns
returns c = record { all = star_all; only = star_only }
