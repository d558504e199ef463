use Rattle.std.proofs.Common.{refl}
use Rattle.reply_law.proofs.Computes.{computes}
use Rattle.reply_law.proofs.create.a_mailbox_is_created.Goals as goal

pub returns-clause-below_inbox : goal.returns-clause-below_inbox
unfolding computes
returns-clause-below_inbox c = refl

pub returns-clause-by_own_name : goal.returns-clause-by_own_name
unfolding computes
returns-clause-by_own_name c = refl

pub returns-clause-separator : goal.returns-clause-separator
unfolding computes
returns-clause-separator c = refl

pub returns-clause-by_admin : goal.returns-clause-by_admin
unfolding computes
returns-clause-by_admin c = refl

pub returns-clause-others_stay : goal.returns-clause-others_stay
unfolding computes
returns-clause-others_stay c = refl
