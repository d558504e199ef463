use Rattle.std.proofs.Common.{◌≡◌, ◌++◌}
use Rattle.drill_gen.specs.Drill.{openings}
use Rattle.drill_gen.proofs.turns.put_openings.Given as goal

abbrev pub invariant-loop-before : goal.invariant-loop-before
invariant-loop-before l = l.events ≡ l.initial.events ++ openings l.round l.before
