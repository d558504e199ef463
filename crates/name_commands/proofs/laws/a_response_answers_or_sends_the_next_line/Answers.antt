use Rattle.name_commands.proofs.AnswerSteps.{answer_moves}
use Rattle.name_commands.proofs.laws.a_response_answers_or_sends_the_next_line.Goals as goal

pub returns : goal.returns
returns c = answer_moves
