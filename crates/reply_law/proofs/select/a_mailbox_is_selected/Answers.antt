use Rattle.std.proofs.Common.{refl}
use Rattle.reply_law.proofs.Computes.{computes}
use Rattle.reply_law.proofs.select.a_mailbox_is_selected.Goals as goal

pub returns-clause-to_change : goal.returns-clause-to_change
unfolding computes
returns-clause-to_change c = refl

pub returns-clause-to_read : goal.returns-clause-to_read
unfolding computes
returns-clause-to_read c = refl

pub returns-clause-empty : goal.returns-clause-empty
unfolding computes
returns-clause-empty c = refl

pub returns-clause-in_place_of_one : goal.returns-clause-in_place_of_one
unfolding computes
returns-clause-in_place_of_one c = refl

pub returns-clause-not_expunged : goal.returns-clause-not_expunged
unfolding computes
returns-clause-not_expunged c = refl
