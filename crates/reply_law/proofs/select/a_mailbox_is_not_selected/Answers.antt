use Rattle.std.proofs.Common.{refl}
use Rattle.reply_law.proofs.Computes.{computes}
use Rattle.reply_law.proofs.select.a_mailbox_is_not_selected.Goals as goal

pub returns-clause-missing : goal.returns-clause-missing
unfolding computes
returns-clause-missing c = refl

pub returns-clause-no_right : goal.returns-clause-no_right
unfolding computes
returns-clause-no_right c = refl

pub returns-clause-no_name : goal.returns-clause-no_name
unfolding computes
returns-clause-no_name c = refl

pub returns-clause-none_before : goal.returns-clause-none_before
unfolding computes
returns-clause-none_before c = refl

pub returns-clause-syntax : goal.returns-clause-syntax
unfolding computes
returns-clause-syntax c = refl
