use Rattle.std.proofs.Common.{◌≡◌, ◌+◌, length}
use Rattle.mail_message.specs.Slots.{filled}
use Rattle.mail_message.proofs.slots.Slots.len.Given as goal

abbrev pub invariant-loop-uid : goal.invariant-loop-uid
invariant-loop-uid l = l.count + length (filled l._uid-iterator) ≡ length (filled l.self)
