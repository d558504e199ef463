use Rattle.std.proofs.Common.{refl}
use Rattle.reply_law.proofs.Computes.{computes}
use Rattle.reply_law.proofs.states.some_commands_cannot_be_done.Goals as goal

pub returns-clause-rename : goal.returns-clause-rename
unfolding computes
returns-clause-rename c = refl

pub returns-clause-subscribe : goal.returns-clause-subscribe
unfolding computes
returns-clause-subscribe c = refl

pub returns-clause-unsubscribe : goal.returns-clause-unsubscribe
unfolding computes
returns-clause-unsubscribe c = refl

pub returns-clause-namespace : goal.returns-clause-namespace
unfolding computes
returns-clause-namespace c = refl

pub returns-clause-lsub : goal.returns-clause-lsub
unfolding computes
returns-clause-lsub c = refl

pub returns-clause-move_messages : goal.returns-clause-move_messages
unfolding computes
returns-clause-move_messages c = refl

pub returns-clause-uid_move : goal.returns-clause-uid_move
unfolding computes
returns-clause-uid_move c = refl

pub returns-clause-transfer : goal.returns-clause-transfer
unfolding computes
returns-clause-transfer c = refl

pub returns-clause-copy : goal.returns-clause-copy
unfolding computes
returns-clause-copy c = refl

pub returns-clause-uid_copy : goal.returns-clause-uid_copy
unfolding computes
returns-clause-uid_copy c = refl

pub returns-clause-rights : goal.returns-clause-rights
unfolding computes
returns-clause-rights c = refl
