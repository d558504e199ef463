use Rattle.std.proofs.Common.{refl}
use Rattle.reply_law.proofs.Computes.{computes}
use Rattle.reply_law.proofs.delete.a_mailbox_is_not_deleted.Goals as goal

pub returns-clause-inbox : goal.returns-clause-inbox
unfolding computes
returns-clause-inbox c = refl

pub returns-clause-inbox_any_case : goal.returns-clause-inbox_any_case
unfolding computes
returns-clause-inbox_any_case c = refl

pub returns-clause-separator : goal.returns-clause-separator
unfolding computes
returns-clause-separator c = refl

pub returns-clause-empty : goal.returns-clause-empty
unfolding computes
returns-clause-empty c = refl

pub returns-clause-no_name_before_rights : goal.returns-clause-no_name_before_rights
unfolding computes
returns-clause-no_name_before_rights c = refl

pub returns-clause-of_other : goal.returns-clause-of_other
unfolding computes
returns-clause-of_other c = refl

pub returns-clause-rights_before_there : goal.returns-clause-rights_before_there
unfolding computes
returns-clause-rights_before_there c = refl

pub returns-clause-below : goal.returns-clause-below
unfolding computes
returns-clause-below c = refl

pub returns-clause-level : goal.returns-clause-level
unfolding computes
returns-clause-level c = refl
