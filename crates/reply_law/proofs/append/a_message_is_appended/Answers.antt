use Rattle.std.proofs.Common.{refl}
use Rattle.reply_law.proofs.Computes.{computes}
use Rattle.reply_law.proofs.append.a_message_is_appended.Goals as goal

pub returns-clause-whole : goal.returns-clause-whole
unfolding computes
returns-clause-whole c = refl

pub returns-clause-as_sent : goal.returns-clause-as_sent
unfolding computes
returns-clause-as_sent c = refl

pub returns-clause-plain : goal.returns-clause-plain
unfolding computes
returns-clause-plain c = refl

pub returns-clause-empty : goal.returns-clause-empty
unfolding computes
returns-clause-empty c = refl

pub returns-clause-two : goal.returns-clause-two
unfolding computes
returns-clause-two c = refl

pub returns-clause-elsewhere : goal.returns-clause-elsewhere
unfolding computes
returns-clause-elsewhere c = refl

pub returns-clause-dated : goal.returns-clause-dated
unfolding computes
returns-clause-dated c = refl
