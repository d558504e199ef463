use Rattle.std.proofs.Common.{refl}
use Rattle.reply_law.proofs.Computes.{computes}
use Rattle.reply_law.proofs.list.the_separator_is_listed.Goals as goal

pub returns-clause-alone : goal.returns-clause-alone
unfolding computes
returns-clause-alone c = refl

pub returns-clause-reference : goal.returns-clause-reference
unfolding computes
returns-clause-reference c = refl
