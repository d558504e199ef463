use Rattle.std.proofs.Common.{◌≡◌, ◌++◌, drop}
use Rattle.cluster_core.specs.Shown.{home_rows_of}
use Rattle.cluster_core.proofs.homes.put_rows.Given as goal

abbrev pub invariant-loop-node : goal.invariant-loop-node
invariant-loop-node l =
    l.rows ++ home_rows_of l.world l.name (drop l.node-index l.layout.backends) ≡ l.fn.rows ++ home_rows_of l.world l.name l.layout.backends
