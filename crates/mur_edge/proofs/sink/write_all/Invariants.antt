use Rattle.std.proofs.Common.{length, take, ◌-◌, ◌≤◌, ◌≡◌}
use Rattle.mur_edge.specs.Sink.{Took}
use Rattle.mur_edge.proofs.sink.write_all.Given as goal

-- the bytes before the place are taken
abbrev pub invariant-loop-at : goal.invariant-loop-at
invariant-loop-at g l = record {
  in_range : l.at ≤ length l.bytes;
  took : Took (g.S.Sink.facts l.initial.sink).taken (g.S.Sink.facts l.sink).taken (take l.at l.bytes);
  faultless : (g.S.Sink.facts l.sink).faults ≡ (g.S.Sink.facts l.initial.sink).faults;
}

abbrev pub decreases-loop-at : goal.decreases-loop-at
decreases-loop-at g l = length l.bytes - l.at
