use Rattle.std.proofs.Common.{◌≡◌, ◌++◌}
use Rattle.drill_gen.specs.Drill.{turns}
use Rattle.drill_gen.specs.Values.{state_after}
use Rattle.drill_gen.proofs.turns.put_turns.Given as goal

abbrev pub invariant-loop-before : goal.invariant-loop-before
invariant-loop-before l = (l.state ≡ state_after l.number l.before) × (l.events ≡ l.initial.events ++ turns l.number l.before)
