use Rattle.std.proofs.Common.{refl}
use Rattle.reply_law.proofs.Computes.{computes}
use Rattle.reply_law.proofs.expunge.messages_are_expunged.Goals as goal

pub returns-clause-one : goal.returns-clause-one
unfolding computes
returns-clause-one c = refl

pub returns-clause-three : goal.returns-clause-three
unfolding computes
returns-clause-three c = refl

pub returns-clause-none : goal.returns-clause-none
unfolding computes
returns-clause-none c = refl

pub returns-clause-by_uid : goal.returns-clause-by_uid
unfolding computes
returns-clause-by_uid c = refl

pub returns-clause-not_named : goal.returns-clause-not_named
unfolding computes
returns-clause-not_named c = refl

pub returns-clause-read_only : goal.returns-clause-read_only
unfolding computes
returns-clause-read_only c = refl
