use Rattle.std.proofs.Common.{◌≡◌, ◌-◌, ◌≤◌, drop}
use Rattle.node_record.specs.Flags.{leaves_room}
use Rattle.node_record.proofs.keyword.leaves_room.Given as goal

-- all bytes so far are `~`, so the bytes that are left decide
abbrev pub invariant-loop-i : goal.invariant-loop-i
invariant-loop-i l = record {
  within : l.i ≤ 63;
  rest : leaves_room (63 - l.i) l.last (drop l.i l.text) ≡ leaves_room 63 l.last l.text;
}
