use Rattle.std.proofs.Common.{◌≡◌, ◌≤◌, drop}
use Rattle.mur_config.specs.declared.node.Kind.TheVariants.{Master}
use Rattle.mur_config.specs.Nodes.{count_of_kind}
use Rattle.cluster_core.specs.World.{master_among}
use Rattle.cluster_core.proofs.layout.master_of.Given as goal

abbrev pub invariant-loop-node : goal.invariant-loop-node
invariant-loop-node l =
    (master_among (drop l.node-index l.nodes) ≡ master_among l.nodes) × (1 ≤ count_of_kind Master (drop l.node-index l.nodes))
