use Rattle.std.proofs.Common.{refl}
use Rattle.reply_law.proofs.Computes.{computes}
use Rattle.reply_law.proofs.delete.a_deleted_mailbox_was_selected.Goals as goal

pub returns-clause-by_another : goal.returns-clause-by_another
unfolding computes
returns-clause-by_another c = refl

pub returns-clause-by_itself : goal.returns-clause-by_itself
unfolding computes
returns-clause-by_itself c = refl

pub returns-clause-made_again : goal.returns-clause-made_again
unfolding computes
returns-clause-made_again c = refl

pub returns-clause-unselect : goal.returns-clause-unselect
unfolding computes
returns-clause-unselect c = refl
