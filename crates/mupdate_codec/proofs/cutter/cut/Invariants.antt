use Rattle.std.proofs.Common.{take}
use Rattle.std.specs.List.{concat}
use Rattle.std.specs.Option.{IsSomeAnd}
use Rattle.mupdate_codec.specs.Cut.{IsCut}
use Rattle.mupdate_codec.proofs.cutter.cut.Given as goal

-- the lines so far are those of the pieces so far
abbrev pub invariant-loop-piece : goal.invariant-loop-piece
invariant-loop-piece l = IsSomeAnd l.cutter (λ begun. IsCut (concat (take l.piece-index l.pieces)) l.lines begun)
