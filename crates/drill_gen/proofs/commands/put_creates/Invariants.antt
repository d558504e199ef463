use Rattle.std.proofs.Common.{◌≡◌, ◌++◌}
use Rattle.drill_gen.specs.Commands.{creates}
use Rattle.drill_gen.proofs.commands.put_creates.Given as goal

abbrev pub invariant-loop-before : goal.invariant-loop-before
invariant-loop-before l = l.out ≡ l.initial.out ++ creates l.before
