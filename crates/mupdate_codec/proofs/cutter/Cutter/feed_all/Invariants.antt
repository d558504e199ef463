use Rattle.std.proofs.Common.{List, ℕ, ◌++◌, ◌-◌, ◌≤◌, length, take}
use Rattle.std.specs.Option.{IfSome, IsSomeAnd}
use Rattle.mupdate_codec.specs.Cut.{IsCut}
use Rattle.mupdate_codec.proofs.cutter.Cutter.feed_all.Given as goal

-- the lines so far are those of the bytes so far
abbrev pub invariant-loop-taken : goal.invariant-loop-taken
invariant-loop-taken l = record {
  within : l.taken ≤ length l.piece;
  cut : (past : List ℕ) → IfSome l.initial.self (λ begun. IsCut past l.initial.lines begun
      → IsSomeAnd l.self (λ after. IsCut (past ++ take l.taken l.piece) l.lines after));
}

abbrev pub decreases-loop-taken : goal.decreases-loop-taken
decreases-loop-taken l = length l.piece - l.taken
