use Rattle.std.proofs.Common.{◌≡◌, drop}
use Rattle.front_core.specs.Front.{all_end, behind_them}
use Rattle.front_core.specs.Room.{HasRooms}
use Rattle.front_core.proofs.front.Front.all_end.Given as goal

-- what was let out so far, and what the connections to come let out
abbrev pub invariant-loop-conn : goal.invariant-loop-conn
invariant-loop-conn l = record {
  turned : behind_them l.outs (all_end l.self l.from (drop l.conn-index l.conns)) ≡ behind_them l.initial.outs (all_end l.initial.self l.from l.conns);
  rooms : HasRooms l.self;
}
