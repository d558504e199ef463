use Rattle.name_commands.proofs.AnswerSteps.{other_answers_leave}
use Rattle.name_commands.proofs.PutOffLaw.{tested_moves}
use Rattle.name_commands.proofs.laws.the_end_of_a_resync_tests_those_that_waited.Goals as goal

pub returns-clause-leaves : goal.returns-clause-leaves
returns-clause-leaves c = other_answers_leave

pub returns-clause-tested : goal.returns-clause-tested
returns-clause-tested c = tested_moves
