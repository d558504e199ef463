use Rattle.std.proofs.Common.{refl}
use Rattle.reply_law.proofs.Computes.{computes}
use Rattle.reply_law.proofs.store.flags_are_stored.Goals as goal

pub returns-clause-replaced : goal.returns-clause-replaced
unfolding computes
returns-clause-replaced c = refl

pub returns-clause-emptied : goal.returns-clause-emptied
unfolding computes
returns-clause-emptied c = refl

pub returns-clause-added : goal.returns-clause-added
unfolding computes
returns-clause-added c = refl

pub returns-clause-removed : goal.returns-clause-removed
unfolding computes
returns-clause-removed c = refl

pub returns-clause-all_in_order : goal.returns-clause-all_in_order
unfolding computes
returns-clause-all_in_order c = refl

pub returns-clause-any_case : goal.returns-clause-any_case
unfolding computes
returns-clause-any_case c = refl

pub returns-clause-keyword_case : goal.returns-clause-keyword_case
unfolding computes
returns-clause-keyword_case c = refl

pub returns-clause-bare : goal.returns-clause-bare
unfolding computes
returns-clause-bare c = refl

pub returns-clause-unchanged : goal.returns-clause-unchanged
unfolding computes
returns-clause-unchanged c = refl

pub returns-clause-several : goal.returns-clause-several
unfolding computes
returns-clause-several c = refl

pub returns-clause-by_uid : goal.returns-clause-by_uid
unfolding computes
returns-clause-by_uid c = refl

pub returns-clause-uid_gap : goal.returns-clause-uid_gap
unfolding computes
returns-clause-uid_gap c = refl

pub returns-clause-others_stay : goal.returns-clause-others_stay
unfolding computes
returns-clause-others_stay c = refl
