use Rattle.name_listing.proofs.FoundOrder.{found_listing}
use Rattle.name_listing.proofs.OneListing.{one_listing}
use Rattle.name_listing.proofs.laws.there_is_one_listing.Goals as goal

pub returns : goal.returns
returns c = record { some = found_listing; one = one_listing }
