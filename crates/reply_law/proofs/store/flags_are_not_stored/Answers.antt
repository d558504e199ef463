use Rattle.std.proofs.Common.{refl}
use Rattle.reply_law.proofs.Computes.{computes}
use Rattle.reply_law.proofs.store.flags_are_not_stored.Goals as goal

pub returns-clause-above : goal.returns-clause-above
unfolding computes
returns-clause-above c = refl

pub returns-clause-read_only : goal.returns-clause-read_only
unfolding computes
returns-clause-read_only c = refl

pub returns-clause-above_first : goal.returns-clause-above_first
unfolding computes
returns-clause-above_first c = refl

pub returns-clause-read_only_uid : goal.returns-clause-read_only_uid
unfolding computes
returns-clause-read_only_uid c = refl

pub returns-clause-sixteen : goal.returns-clause-sixteen
unfolding computes
returns-clause-sixteen c = refl

pub returns-clause-seventeen : goal.returns-clause-seventeen
unfolding computes
returns-clause-seventeen c = refl

pub returns-clause-none_changes : goal.returns-clause-none_changes
unfolding computes
returns-clause-none_changes c = refl

pub returns-clause-seventeen_at_once : goal.returns-clause-seventeen_at_once
unfolding computes
returns-clause-seventeen_at_once c = refl

pub returns-clause-other_flag : goal.returns-clause-other_flag
unfolding computes
returns-clause-other_flag c = refl
