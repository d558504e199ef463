use Rattle.std.proofs.Common.{refl}
use Rattle.reply_law.proofs.Computes.{computes}
use Rattle.reply_law.proofs.close.a_mailbox_is_closed.Goals as goal

pub returns-clause-expunges : goal.returns-clause-expunges
unfolding computes
returns-clause-expunges c = refl

pub returns-clause-told_to_others : goal.returns-clause-told_to_others
unfolding computes
returns-clause-told_to_others c = refl

pub returns-clause-read_only : goal.returns-clause-read_only
unfolding computes
returns-clause-read_only c = refl

pub returns-clause-unselect : goal.returns-clause-unselect
unfolding computes
returns-clause-unselect c = refl
