use Rattle.std.proofs.Common.{◌≡◌, drop}
use Rattle.cluster_core.specs.World.{with_nodes}
use Rattle.cluster_core.proofs.start.add_nodes.Given as goal

abbrev pub invariant-loop-node : goal.invariant-loop-node
invariant-loop-node l = with_nodes l.config l.world (drop l.node-index l.nodes) ≡ with_nodes l.config l.initial.world l.nodes
