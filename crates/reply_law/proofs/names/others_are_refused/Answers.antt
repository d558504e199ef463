use Rattle.std.proofs.Common.{refl}
use Rattle.reply_law.proofs.Computes.{computes}
use Rattle.reply_law.proofs.names.others_are_refused.Goals as goal

pub returns-clause-there : goal.returns-clause-there
unfolding computes
returns-clause-there c = refl

pub returns-clause-not_there : goal.returns-clause-not_there
unfolding computes
returns-clause-not_there c = refl

pub returns-clause-longer_name : goal.returns-clause-longer_name
unfolding computes
returns-clause-longer_name c = refl

pub returns-clause-of_nobody : goal.returns-clause-of_nobody
unfolding computes
returns-clause-of_nobody c = refl

pub returns-clause-select : goal.returns-clause-select
unfolding computes
returns-clause-select c = refl

pub returns-clause-examine : goal.returns-clause-examine
unfolding computes
returns-clause-examine c = refl

pub returns-clause-append : goal.returns-clause-append
unfolding computes
returns-clause-append c = refl

pub returns-clause-by_admin : goal.returns-clause-by_admin
unfolding computes
returns-clause-by_admin c = refl

pub returns-clause-missing : goal.returns-clause-missing
unfolding computes
returns-clause-missing c = refl
