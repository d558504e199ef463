use Rattle.name_listing.proofs.ToldLaw.{listed_fits, listed_as-never_noselect}
use Rattle.name_listing.proofs.laws.what_is_listed_matches.Goals as goal

pub returns : goal.returns
returns c = record { fits = listed_fits; as_these = listed_as-never_noselect }
