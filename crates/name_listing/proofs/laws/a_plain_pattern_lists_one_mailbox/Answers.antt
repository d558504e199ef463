use Rattle.name_listing.proofs.Wildcards.{plain_there, plain_only}
use Rattle.name_listing.proofs.laws.a_plain_pattern_lists_one_mailbox.Goals as goal

pub returns : goal.returns
returns c = record { there = plain_there; only = plain_only }
