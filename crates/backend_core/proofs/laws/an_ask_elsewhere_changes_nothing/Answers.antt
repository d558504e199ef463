use Rattle.backend_core.proofs.NotServed.{ask_elsewhere}
use Rattle.backend_core.proofs.laws.an_ask_elsewhere_changes_nothing.Goals as goal

pub returns : goal.returns
returns c = ask_elsewhere
