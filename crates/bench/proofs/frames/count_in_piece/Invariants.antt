use Rattle.std.proofs.Common.{◌-◌, ◌≤◌, length}
use Rattle.bench.proofs.frames.count_in_piece.Given as goal

abbrev pub invariant-loop-taken : goal.invariant-loop-taken
invariant-loop-taken l = l.taken ≤ length l.piece

abbrev pub decreases-loop-taken : goal.decreases-loop-taken
decreases-loop-taken l = length l.piece - l.taken
