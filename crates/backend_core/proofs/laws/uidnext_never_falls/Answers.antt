use Rattle.backend_core.proofs.GoesOn.{goes_on}
use Rattle.backend_core.proofs.laws.uidnext_never_falls.Goals as goal

pub returns : goal.returns
returns c = goes_on
