use Rattle.std.proofs.Common.{refl}
use Rattle.reply_law.proofs.Computes.{computes}
use Rattle.reply_law.proofs.login.a_session_begins_once.Goals as goal

pub returns-clause-same : goal.returns-clause-same
unfolding computes
returns-clause-same c = refl

pub returns-clause-other : goal.returns-clause-other
unfolding computes
returns-clause-other c = refl

pub returns-clause-chosen : goal.returns-clause-chosen
unfolding computes
returns-clause-chosen c = refl
