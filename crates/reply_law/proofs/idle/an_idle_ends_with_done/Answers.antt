use Rattle.std.proofs.Common.{refl}
use Rattle.reply_law.proofs.Computes.{computes}
use Rattle.reply_law.proofs.idle.an_idle_ends_with_done.Goals as goal

pub returns-clause-done : goal.returns-clause-done
unfolding computes
returns-clause-done c = refl

pub returns-clause-any_case : goal.returns-clause-any_case
unfolding computes
returns-clause-any_case c = refl

pub returns-clause-news : goal.returns-clause-news
unfolding computes
returns-clause-news c = refl

pub returns-clause-other_line : goal.returns-clause-other_line
unfolding computes
returns-clause-other_line c = refl

pub returns-clause-command_line : goal.returns-clause-command_line
unfolding computes
returns-clause-command_line c = refl

pub returns-clause-not_begun : goal.returns-clause-not_begun
unfolding computes
returns-clause-not_begun c = refl
