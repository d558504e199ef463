use Rattle.name_listing.proofs.InboxTaken.{taken_so, as_it_is}
use Rattle.name_listing.proofs.laws.inbox_is_taken_as_in_names.Goals as goal

pub returns : goal.returns
returns c = record { inbox = taken_so; other = as_it_is }
