use Rattle.std.proofs.Common.{◌≡◌}
use Rattle.mail_message.specs.Slots.{filled}
use Rattle.mail_message.proofs.slots.clear_all.Given as goal

abbrev pub invariant-loop-uid : goal.invariant-loop-uid
invariant-loop-uid l = filled l.slots ≡ filled l.initial.slots
