use Rattle.std.proofs.Common.{refl}
use Rattle.reply_law.proofs.Computes.{computes}
use Rattle.reply_law.proofs.fetch.a_body_is_seen.Goals as goal

pub returns-clause-sets : goal.returns-clause-sets
unfolding computes
returns-clause-sets c = refl

pub returns-clause-keeps_others : goal.returns-clause-keeps_others
unfolding computes
returns-clause-keeps_others c = refl

pub returns-clause-was_seen : goal.returns-clause-was_seen
unfolding computes
returns-clause-was_seen c = refl

pub returns-clause-asked_for : goal.returns-clause-asked_for
unfolding computes
returns-clause-asked_for c = refl

pub returns-clause-peeked : goal.returns-clause-peeked
unfolding computes
returns-clause-peeked c = refl

pub returns-clause-read_only : goal.returns-clause-read_only
unfolding computes
returns-clause-read_only c = refl

pub returns-clause-told_to_others : goal.returns-clause-told_to_others
unfolding computes
returns-clause-told_to_others c = refl
