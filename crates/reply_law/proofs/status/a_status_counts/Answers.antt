use Rattle.std.proofs.Common.{refl}
use Rattle.reply_law.proofs.Computes.{computes}
use Rattle.reply_law.proofs.status.a_status_counts.Goals as goal

pub returns-clause-messages : goal.returns-clause-messages
unfolding computes
returns-clause-messages c = refl

pub returns-clause-uidnext : goal.returns-clause-uidnext
unfolding computes
returns-clause-uidnext c = refl

pub returns-clause-uidvalidity : goal.returns-clause-uidvalidity
unfolding computes
returns-clause-uidvalidity c = refl

pub returns-clause-unseen : goal.returns-clause-unseen
unfolding computes
returns-clause-unseen c = refl

pub returns-clause-deleted : goal.returns-clause-deleted
unfolding computes
returns-clause-deleted c = refl

pub returns-clause-size : goal.returns-clause-size
unfolding computes
returns-clause-size c = refl

pub returns-clause-in_order : goal.returns-clause-in_order
unfolding computes
returns-clause-in_order c = refl

pub returns-clause-of_now : goal.returns-clause-of_now
unfolding computes
returns-clause-of_now c = refl
