use Rattle.std.proofs.Common.{◌≡◌, length, ◌+◌, ◌-◌, ◌≤◌}
use Rattle.std.specs.Io.KnownBytes.{prepend_known}
use Rattle.mur_edge.proofs.source.read_front.Given as goal

-- what was read is in the list, and is no longer than one more than the limit
abbrev pub invariant-loop-piece : goal.invariant-loop-piece
invariant-loop-piece g l = record {
  read : (g.S.Source.facts l.initial.source).left ≡ prepend_known l.bytes (g.S.Source.facts l.source).left;
  bounded : length l.bytes ≤ l.limit + 1;
  same : (g.S.Source.facts l.source).whole ≡ (g.S.Source.facts l.initial.source).whole;
  faultless : (g.S.Source.facts l.source).faults ≡ (g.S.Source.facts l.initial.source).faults;
}

-- each turn takes a byte at least
abbrev pub decreases-loop-piece : goal.decreases-loop-piece
decreases-loop-piece g l = l.limit + 1 - length l.bytes
