use Rattle.std.proofs.Common.{refl}
use Rattle.reply_law.proofs.Computes.{computes}
use Rattle.reply_law.proofs.fetch.messages_are_named_by_uids.Goals as goal

pub returns-clause-one : goal.returns-clause-one
unfolding computes
returns-clause-one c = refl

pub returns-clause-asked_for : goal.returns-clause-asked_for
unfolding computes
returns-clause-asked_for c = refl

pub returns-clause-gap : goal.returns-clause-gap
unfolding computes
returns-clause-gap c = refl

pub returns-clause-missing : goal.returns-clause-missing
unfolding computes
returns-clause-missing c = refl

pub returns-clause-above : goal.returns-clause-above
unfolding computes
returns-clause-above c = refl

pub returns-clause-above_to_last : goal.returns-clause-above_to_last
unfolding computes
returns-clause-above_to_last c = refl

pub returns-clause-last_of_none : goal.returns-clause-last_of_none
unfolding computes
returns-clause-last_of_none c = refl

pub returns-clause-last : goal.returns-clause-last
unfolding computes
returns-clause-last c = refl

pub returns-clause-falling : goal.returns-clause-falling
unfolding computes
returns-clause-falling c = refl
