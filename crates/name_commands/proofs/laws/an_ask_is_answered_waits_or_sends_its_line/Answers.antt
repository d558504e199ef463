use Rattle.name_commands.proofs.AskSteps.{ask_moves}
use Rattle.name_commands.proofs.PutOffLaw.{asked_moves}
use Rattle.name_commands.proofs.laws.an_ask_is_answered_waits_or_sends_its_line.Goals as goal

pub returns-clause-moves : goal.returns-clause-moves
returns-clause-moves c = ask_moves

pub returns-clause-asked : goal.returns-clause-asked
returns-clause-asked c = asked_moves
