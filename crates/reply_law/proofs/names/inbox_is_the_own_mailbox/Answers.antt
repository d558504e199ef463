use Rattle.std.proofs.Common.{refl}
use Rattle.reply_law.proofs.Computes.{computes}
use Rattle.reply_law.proofs.names.inbox_is_the_own_mailbox.Goals as goal

pub returns-clause-inbox : goal.returns-clause-inbox
unfolding computes
returns-clause-inbox c = refl

pub returns-clause-any_case : goal.returns-clause-any_case
unfolding computes
returns-clause-any_case c = refl

pub returns-clause-quoted : goal.returns-clause-quoted
unfolding computes
returns-clause-quoted c = refl

pub returns-clause-own_name : goal.returns-clause-own_name
unfolding computes
returns-clause-own_name c = refl

pub returns-clause-below : goal.returns-clause-below
unfolding computes
returns-clause-below c = refl

pub returns-clause-of_admin : goal.returns-clause-of_admin
unfolding computes
returns-clause-of_admin c = refl

pub returns-clause-by_admin : goal.returns-clause-by_admin
unfolding computes
returns-clause-by_admin c = refl

pub returns-clause-only_first_level : goal.returns-clause-only_first_level
unfolding computes
returns-clause-only_first_level c = refl

pub returns-clause-case_counts_below : goal.returns-clause-case_counts_below
unfolding computes
returns-clause-case_counts_below c = refl
