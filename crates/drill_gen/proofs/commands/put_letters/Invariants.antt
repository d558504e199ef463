use Rattle.std.proofs.Common.{◌≡◌, ◌++◌}
use Rattle.drill_gen.specs.Commands.{letters}
use Rattle.drill_gen.proofs.commands.put_letters.Given as goal

abbrev pub invariant-loop-before : goal.invariant-loop-before
invariant-loop-before l = l.out ≡ l.initial.out ++ letters l.before
