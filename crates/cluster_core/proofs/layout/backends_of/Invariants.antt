use Rattle.std.proofs.Common.{◌≡◌, ◌++◌, drop}
use Rattle.cluster_core.specs.World.{backends_of}
use Rattle.cluster_core.proofs.layout.backends_of.Given as goal

abbrev pub invariant-loop-node : goal.invariant-loop-node
invariant-loop-node l = l.names ++ backends_of (drop l.node-index l.nodes) ≡ backends_of l.nodes
