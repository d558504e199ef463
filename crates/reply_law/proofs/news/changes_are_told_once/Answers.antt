use Rattle.std.proofs.Common.{refl}
use Rattle.reply_law.proofs.Computes.{computes}
use Rattle.reply_law.proofs.news.changes_are_told_once.Goals as goal

pub returns-clause-flags : goal.returns-clause-flags
unfolding computes
returns-clause-flags c = refl

pub returns-clause-more : goal.returns-clause-more
unfolding computes
returns-clause-more c = refl

pub returns-clause-fewer : goal.returns-clause-fewer
unfolding computes
returns-clause-fewer c = refl

pub returns-clause-flags_back : goal.returns-clause-flags_back
unfolding computes
returns-clause-flags_back c = refl
