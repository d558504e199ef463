use Rattle.std.proofs.Common.{ℕ, Bool, List}
use Rattle.mur_base.specs.Patterns.{behind_some, AreMarked}
use Rattle.mur_base.proofs.PatternMarks.{AreMarkedAround}
use Rattle.mur_base.proofs.pattern.mark_some.Given as goal

abbrev pub invariant-loop-i : goal.invariant-loop-i
invariant-loop-i l =
    (test : List ℕ → Bool) → AreMarked test l.text l.fn.marks → AreMarkedAround test (behind_some l.wildcard test) l.text l.marks l.i
