use Rattle.std.proofs.Common.{◌≡◌}
use Rattle.drill_gen.specs.DrillCluster.{users_up_to}
use Rattle.drill_gen.proofs.cluster.drill_users.Given as goal

abbrev pub invariant-loop-before : goal.invariant-loop-before
invariant-loop-before l = l.users ≡ users_up_to l.before
