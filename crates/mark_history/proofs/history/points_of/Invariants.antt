use Rattle.std.proofs.Common.{◌≡◌, ◌≤◌, length, drop, reverse}
use Rattle.mark_history.specs.History.{points_of}
use Rattle.mark_history.proofs.NextMarks.{HasNext}
use Rattle.mark_history.proofs.history.points_of.Given as goal

abbrev pub invariant-loop-left : goal.invariant-loop-left
invariant-loop-left l = record {
  within : l.left ≤ length l.marks;
  next : HasNext l.next (drop l.left l.marks);
  points : reverse l.points.items ≡ points_of (drop l.left l.marks);
}

abbrev pub decreases-loop-left : goal.decreases-loop-left
decreases-loop-left l = l.left
