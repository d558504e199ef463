use Rattle.std.proofs.Common.{◌≡◌, ◌+◌, ◌-◌, ◌^◌, ◌≤◌, min, map, length, ◌++◌}
use Rattle.std.specs.List.{sum_by}
use Rattle.mail_message.specs.Boxes.{row_of}
use Rattle.mail_message.specs.Slots.{filled}
use Rattle.mail_message.proofs.slots.Slots.look.Given as goal

abbrev pub invariant-loop-uid : goal.invariant-loop-uid
invariant-loop-uid l = record {
  rows : l.rows ++ map row_of (filled l._uid-iterator) ≡ map row_of (filled l.self);
  size : min (l.size + sum_by (λ message. length message.body) (filled l._uid-iterator)) (2 ^ 64 - 1)
      ≡ min (sum_by (λ message. length message.body) (filled l.self)) (2 ^ 64 - 1);
  fits : l.size ≤ 2 ^ 64 - 1;
}
