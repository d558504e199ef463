use Rattle.std.proofs.Common.{refl}
use Rattle.reply_law.proofs.Computes.{computes}
use Rattle.reply_law.proofs.list.levels_are_listed.Goals as goal

pub returns-clause-own : goal.returns-clause-own
unfolding computes
returns-clause-own c = refl

pub returns-clause-of_admin : goal.returns-clause-of_admin
unfolding computes
returns-clause-of_admin c = refl

pub returns-clause-below : goal.returns-clause-below
unfolding computes
returns-clause-below c = refl

pub returns-clause-below_inbox : goal.returns-clause-below_inbox
unfolding computes
returns-clause-below_inbox c = refl

pub returns-clause-not_at_the_end : goal.returns-clause-not_at_the_end
unfolding computes
returns-clause-not_at_the_end c = refl
