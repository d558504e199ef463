use Rattle.name_listing.proofs.Wildcards.{percent_mailboxes, percent_levels, percent_only}
use Rattle.name_listing.proofs.laws.percent_lists_one_level.Goals as goal

pub returns : goal.returns
returns c = record { mailboxes = percent_mailboxes; levels = percent_levels; only = percent_only }
