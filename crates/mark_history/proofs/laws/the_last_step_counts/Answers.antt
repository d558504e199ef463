use Rattle.mark_history.proofs.MarkLaw.{legal_histories}
use Rattle.mark_history.proofs.laws.the_last_step_counts.Goals as goal

pub returns : goal.returns
returns c = legal_histories
