use Rattle.std.proofs.Common.{refl}
use Rattle.reply_law.proofs.Computes.{computes}
use Rattle.reply_law.proofs.append.a_message_is_not_appended.Goals as goal

pub returns-clause-missing : goal.returns-clause-missing
unfolding computes
returns-clause-missing c = refl

pub returns-clause-no_name : goal.returns-clause-no_name
unfolding computes
returns-clause-no_name c = refl

pub returns-clause-no_right : goal.returns-clause-no_right
unfolding computes
returns-clause-no_right c = refl

pub returns-clause-admin_missing : goal.returns-clause-admin_missing
unfolding computes
returns-clause-admin_missing c = refl

pub returns-clause-bad_flag : goal.returns-clause-bad_flag
unfolding computes
returns-clause-bad_flag c = refl

pub returns-clause-bad_date : goal.returns-clause-bad_date
unfolding computes
returns-clause-bad_date c = refl
