use Rattle.std.proofs.Common.{◌-◌, ◌≤◌, length}
use Rattle.std.specs.Option.{IfSome}
use Rattle.master_core.proofs.CuttingLaw.{CutsOn}
use Rattle.master_core.proofs.cutting.cut_piece.Given as goal

-- the lines so far, and those of the rest of the piece
abbrev pub invariant-loop-taken : goal.invariant-loop-taken
invariant-loop-taken l = record {
  within : l.taken ≤ length l.piece;
  cut : IfSome l.initial.cutter (λ begun. CutsOn begun l.piece l.initial.lines l.lines l.cutter l.taken);
}

abbrev pub decreases-loop-taken : goal.decreases-loop-taken
decreases-loop-taken l = length l.piece - l.taken
