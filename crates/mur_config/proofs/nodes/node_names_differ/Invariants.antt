use Rattle.std.proofs.Common.{◌≡◌, length}
use Rattle.mur_config.specs.Nodes.{node_names_differ}
use Rattle.mur_config.proofs.nodes.node_names_differ.Given as goal

abbrev pub invariant-loop-left : goal.invariant-loop-left
invariant-loop-left l = node_names_differ l.left ≡ node_names_differ l.nodes

abbrev pub decreases-loop-left : goal.decreases-loop-left
decreases-loop-left l = length l.left
