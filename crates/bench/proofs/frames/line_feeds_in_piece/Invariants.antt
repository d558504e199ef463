use Rattle.std.proofs.Common.{◌≤◌, length}
use Rattle.bench.proofs.frames.line_feeds_in_piece.Given as goal

abbrev pub invariant-loop-at : goal.invariant-loop-at
invariant-loop-at l = length l.rest ≤ length l.piece

abbrev pub decreases-loop-at : goal.decreases-loop-at
decreases-loop-at l = length l.rest
