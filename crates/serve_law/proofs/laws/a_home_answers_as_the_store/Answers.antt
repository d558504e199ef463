use Rattle.serve_law.proofs.AnswersAsActed.{answers_as_acted}
use Rattle.serve_law.proofs.laws.a_home_answers_as_the_store.Goals as goal

pub returns : goal.returns
returns c = answers_as_acted
