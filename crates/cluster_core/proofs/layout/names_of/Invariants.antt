use Rattle.std.proofs.Common.{◌≡◌, ◌++◌, drop, map}
use Rattle.mur_config.specs.declared.node.Node.{Node}
use Rattle.cluster_core.proofs.layout.names_of.Given as goal

abbrev pub invariant-loop-node : goal.invariant-loop-node
invariant-loop-node l = l.names ++ map (λ (node : Node). node.name) (drop l.node-index l.nodes) ≡ map (λ (node : Node). node.name) l.nodes
