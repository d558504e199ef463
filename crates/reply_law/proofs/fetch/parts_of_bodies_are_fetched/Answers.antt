use Rattle.std.proofs.Common.{refl}
use Rattle.reply_law.proofs.Computes.{computes}
use Rattle.reply_law.proofs.fetch.parts_of_bodies_are_fetched.Goals as goal

pub returns-clause-within : goal.returns-clause-within
unfolding computes
returns-clause-within c = refl

pub returns-clause-front : goal.returns-clause-front
unfolding computes
returns-clause-front c = refl

pub returns-clause-to_the_end : goal.returns-clause-to_the_end
unfolding computes
returns-clause-to_the_end c = refl

pub returns-clause-past_the_end : goal.returns-clause-past_the_end
unfolding computes
returns-clause-past_the_end c = refl

pub returns-clause-at_the_end : goal.returns-clause-at_the_end
unfolding computes
returns-clause-at_the_end c = refl

pub returns-clause-two_parts : goal.returns-clause-two_parts
unfolding computes
returns-clause-two_parts c = refl

pub returns-clause-none : goal.returns-clause-none
unfolding computes
returns-clause-none c = refl

pub returns-clause-seen : goal.returns-clause-seen
unfolding computes
returns-clause-seen c = refl
