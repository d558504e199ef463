use Rattle.backend_core.proofs.NotServed.{ask_of_another}
use Rattle.backend_core.proofs.laws.an_ask_of_another_mailbox_changes_nothing.Goals as goal

pub returns : goal.returns
returns c = ask_of_another
