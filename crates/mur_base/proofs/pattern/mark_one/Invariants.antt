use Rattle.std.proofs.Common.{ℕ, Bool, List}
use Rattle.mur_base.specs.Patterns.{behind_one, AreMarked}
use Rattle.mur_base.proofs.PatternMarks.{AreMarkedAround}
use Rattle.mur_base.proofs.pattern.mark_one.Given as goal

abbrev pub invariant-loop-i : goal.invariant-loop-i
invariant-loop-i l =
    (test : List ℕ → Bool) → AreMarked test l.text l.fn.marks → AreMarkedAround (behind_one l.byte test) test l.text l.marks l.i
