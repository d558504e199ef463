use Rattle.std.proofs.Common.{refl}
use Rattle.reply_law.proofs.Computes.{computes}
use Rattle.reply_law.proofs.fetch.items_are_fetched.Goals as goal

pub returns-clause-flags : goal.returns-clause-flags
unfolding computes
returns-clause-flags c = refl

pub returns-clause-no_flags : goal.returns-clause-no_flags
unfolding computes
returns-clause-no_flags c = refl

pub returns-clause-uid : goal.returns-clause-uid
unfolding computes
returns-clause-uid c = refl

pub returns-clause-date : goal.returns-clause-date
unfolding computes
returns-clause-date c = refl

pub returns-clause-size : goal.returns-clause-size
unfolding computes
returns-clause-size c = refl

pub returns-clause-no_size : goal.returns-clause-no_size
unfolding computes
returns-clause-no_size c = refl

pub returns-clause-fast : goal.returns-clause-fast
unfolding computes
returns-clause-fast c = refl

pub returns-clause-peek : goal.returns-clause-peek
unfolding computes
returns-clause-peek c = refl

pub returns-clause-in_order : goal.returns-clause-in_order
unfolding computes
returns-clause-in_order c = refl

pub returns-clause-each_once : goal.returns-clause-each_once
unfolding computes
returns-clause-each_once c = refl

pub returns-clause-any_case : goal.returns-clause-any_case
unfolding computes
returns-clause-any_case c = refl

pub returns-clause-other_item : goal.returns-clause-other_item
unfolding computes
returns-clause-other_item c = refl
