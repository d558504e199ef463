use Rattle.std.proofs.Common.{refl}
use Rattle.reply_law.proofs.Computes.{computes}
use Rattle.reply_law.proofs.login.others_do_not_log_in.Goals as goal

pub returns-clause-password : goal.returns-clause-password
unfolding computes
returns-clause-password c = refl

pub returns-clause-password_case : goal.returns-clause-password_case
unfolding computes
returns-clause-password_case c = refl

pub returns-clause-longer_password : goal.returns-clause-longer_password
unfolding computes
returns-clause-longer_password c = refl

pub returns-clause-no_password : goal.returns-clause-no_password
unfolding computes
returns-clause-no_password c = refl

pub returns-clause-name : goal.returns-clause-name
unfolding computes
returns-clause-name c = refl

pub returns-clause-name_case : goal.returns-clause-name_case
unfolding computes
returns-clause-name_case c = refl

pub returns-clause-not_begun : goal.returns-clause-not_begun
unfolding computes
returns-clause-not_begun c = refl
