use Rattle.std.proofs.Common.{refl}
use Rattle.reply_law.proofs.Computes.{computes}
use Rattle.reply_law.proofs.delete.a_mailbox_is_deleted.Goals as goal

pub returns-clause-below_inbox : goal.returns-clause-below_inbox
unfolding computes
returns-clause-below_inbox c = refl

pub returns-clause-by_own_name : goal.returns-clause-by_own_name
unfolding computes
returns-clause-by_own_name c = refl

pub returns-clause-by_admin : goal.returns-clause-by_admin
unfolding computes
returns-clause-by_admin c = refl

pub returns-clause-made_again : goal.returns-clause-made_again
unfolding computes
returns-clause-made_again c = refl

pub returns-clause-while_read : goal.returns-clause-while_read
unfolding computes
returns-clause-while_read c = refl
