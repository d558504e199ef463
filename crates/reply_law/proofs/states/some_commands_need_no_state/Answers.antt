use Rattle.std.proofs.Common.{refl}
use Rattle.reply_law.proofs.Computes.{computes}
use Rattle.reply_law.proofs.states.some_commands_need_no_state.Goals as goal

pub returns-clause-capability : goal.returns-clause-capability
unfolding computes
returns-clause-capability c = refl

pub returns-clause-capability_begun : goal.returns-clause-capability_begun
unfolding computes
returns-clause-capability_begun c = refl

pub returns-clause-noop : goal.returns-clause-noop
unfolding computes
returns-clause-noop c = refl

pub returns-clause-noop_begun : goal.returns-clause-noop_begun
unfolding computes
returns-clause-noop_begun c = refl

pub returns-clause-noop_selected : goal.returns-clause-noop_selected
unfolding computes
returns-clause-noop_selected c = refl

pub returns-clause-logout : goal.returns-clause-logout
unfolding computes
returns-clause-logout c = refl

pub returns-clause-logout_selected : goal.returns-clause-logout_selected
unfolding computes
returns-clause-logout_selected c = refl

pub returns-clause-enable : goal.returns-clause-enable
unfolding computes
returns-clause-enable c = refl

pub returns-clause-enable_selected : goal.returns-clause-enable_selected
unfolding computes
returns-clause-enable_selected c = refl
