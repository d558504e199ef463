use Rattle.std.proofs.Common.{refl}
use Rattle.reply_law.proofs.Computes.{computes}
use Rattle.reply_law.proofs.login.a_user_logs_in.Goals as goal

pub returns-clause-atoms : goal.returns-clause-atoms
unfolding computes
returns-clause-atoms c = refl

pub returns-clause-strings : goal.returns-clause-strings
unfolding computes
returns-clause-strings c = refl

pub returns-clause-begun : goal.returns-clause-begun
unfolding computes
returns-clause-begun c = refl

pub returns-clause-each_alone : goal.returns-clause-each_alone
unfolding computes
returns-clause-each_alone c = refl
