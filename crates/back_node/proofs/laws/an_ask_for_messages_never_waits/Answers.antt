use Rattle.back_node.proofs.AtHome.{ask_is_at_home}
use Rattle.back_node.proofs.OpenHere.{elsewhere_is_told, open_is_carried_out}
use Rattle.back_node.proofs.laws.an_ask_for_messages_never_waits.Goals as goal

pub returns-clause-open : goal.returns-clause-open
returns-clause-open c = open_is_carried_out

pub returns-clause-elsewhere : goal.returns-clause-elsewhere
returns-clause-elsewhere c = elsewhere_is_told

pub returns-clause-alone : goal.returns-clause-alone
returns-clause-alone c = ask_is_at_home
