use Rattle.name_listing.proofs.ShownFits.{shown_fits}
use Rattle.name_listing.proofs.laws.a_shown_name_can_be_listed.Goals as goal

pub returns : goal.returns
returns c = shown_fits
