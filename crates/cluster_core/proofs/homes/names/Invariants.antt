use Rattle.std.proofs.Common.{◌≡◌, [], drop}
use Rattle.cluster_core.specs.Shown.{names_at}
use Rattle.cluster_core.proofs.homes.names.Given as goal

abbrev pub invariant-loop-node : goal.invariant-loop-node
invariant-loop-node l = names_at l.world l.names.keys (drop l.node-index l.layout.backends) ≡ names_at l.world [] l.layout.backends
