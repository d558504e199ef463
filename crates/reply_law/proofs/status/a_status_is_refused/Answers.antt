use Rattle.std.proofs.Common.{refl}
use Rattle.reply_law.proofs.Computes.{computes}
use Rattle.reply_law.proofs.status.a_status_is_refused.Goals as goal

pub returns-clause-missing : goal.returns-clause-missing
unfolding computes
returns-clause-missing c = refl

pub returns-clause-no_name : goal.returns-clause-no_name
unfolding computes
returns-clause-no_name c = refl

pub returns-clause-no_right : goal.returns-clause-no_right
unfolding computes
returns-clause-no_right c = refl

pub returns-clause-other_item : goal.returns-clause-other_item
unfolding computes
returns-clause-other_item c = refl

pub returns-clause-no_item : goal.returns-clause-no_item
unfolding computes
returns-clause-no_item c = refl

pub returns-clause-goes_on : goal.returns-clause-goes_on
unfolding computes
returns-clause-goes_on c = refl
