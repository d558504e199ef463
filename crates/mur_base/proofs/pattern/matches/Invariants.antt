use Rattle.std.proofs.Common.{drop}
use Rattle.mur_base.specs.Patterns.{matches, AreMarked}
use Rattle.mur_base.proofs.pattern.matches.Given as goal

abbrev pub invariant-loop-i : goal.invariant-loop-i
invariant-loop-i l = AreMarked (matches (drop l.i l.pattern)) l.text l.marks
