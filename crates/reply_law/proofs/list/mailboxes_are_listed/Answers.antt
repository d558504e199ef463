use Rattle.std.proofs.Common.{refl}
use Rattle.reply_law.proofs.Computes.{computes}
use Rattle.reply_law.proofs.list.mailboxes_are_listed.Goals as goal

pub returns-clause-own : goal.returns-clause-own
unfolding computes
returns-clause-own c = refl

pub returns-clause-of_other : goal.returns-clause-of_other
unfolding computes
returns-clause-of_other c = refl

pub returns-clause-of_admin : goal.returns-clause-of_admin
unfolding computes
returns-clause-of_admin c = refl

pub returns-clause-while_selected : goal.returns-clause-while_selected
unfolding computes
returns-clause-while_selected c = refl

pub returns-clause-one : goal.returns-clause-one
unfolding computes
returns-clause-one c = refl

pub returns-clause-none : goal.returns-clause-none
unfolding computes
returns-clause-none c = refl
