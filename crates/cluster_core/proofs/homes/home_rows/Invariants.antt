use Rattle.std.proofs.Common.{◌≡◌, ◌++◌}
use Rattle.cluster_core.specs.Shown.{rows_of_all, home_rows}
use Rattle.cluster_core.proofs.homes.home_rows.Given as goal

abbrev pub invariant-loop-name : goal.invariant-loop-name
invariant-loop-name l = l.rows ++ rows_of_all l.layout l.world l.name-iterator ≡ home_rows l.layout l.world
