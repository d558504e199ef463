use Rattle.std.proofs.Common.{refl}
use Rattle.reply_law.proofs.Computes.{computes}
use Rattle.reply_law.proofs.fetch.messages_are_named_by_numbers.Goals as goal

pub returns-clause-list : goal.returns-clause-list
unfolding computes
returns-clause-list c = refl

pub returns-clause-range : goal.returns-clause-range
unfolding computes
returns-clause-range c = refl

pub returns-clause-falling : goal.returns-clause-falling
unfolding computes
returns-clause-falling c = refl

pub returns-clause-last : goal.returns-clause-last
unfolding computes
returns-clause-last c = refl

pub returns-clause-to_last : goal.returns-clause-to_last
unfolding computes
returns-clause-to_last c = refl

pub returns-clause-from_last : goal.returns-clause-from_last
unfolding computes
returns-clause-from_last c = refl

pub returns-clause-twice : goal.returns-clause-twice
unfolding computes
returns-clause-twice c = refl

pub returns-clause-above : goal.returns-clause-above
unfolding computes
returns-clause-above c = refl

pub returns-clause-range_above : goal.returns-clause-range_above
unfolding computes
returns-clause-range_above c = refl

pub returns-clause-last_of_none : goal.returns-clause-last_of_none
unfolding computes
returns-clause-last_of_none c = refl

pub returns-clause-zero : goal.returns-clause-zero
unfolding computes
returns-clause-zero c = refl
