use Rattle.std.proofs.Common.{refl}
use Rattle.reply_law.proofs.Computes.{computes}
use Rattle.reply_law.proofs.store.flags_are_stored_silently.Goals as goal

pub returns-clause-replaced : goal.returns-clause-replaced
unfolding computes
returns-clause-replaced c = refl

pub returns-clause-added : goal.returns-clause-added
unfolding computes
returns-clause-added c = refl

pub returns-clause-removed : goal.returns-clause-removed
unfolding computes
returns-clause-removed c = refl

pub returns-clause-not_told_later : goal.returns-clause-not_told_later
unfolding computes
returns-clause-not_told_later c = refl

pub returns-clause-told_to_others : goal.returns-clause-told_to_others
unfolding computes
returns-clause-told_to_others c = refl
