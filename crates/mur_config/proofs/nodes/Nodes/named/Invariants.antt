use Rattle.std.proofs.Common.{◌≡◌, drop}
use Rattle.mur_config.specs.Nodes.{node_named}
use Rattle.mur_config.proofs.nodes.Nodes.named.Given as goal

abbrev pub invariant-loop-node : goal.invariant-loop-node
invariant-loop-node l = node_named l.name (drop l.node-index l.node-items) ≡ node_named l.name l.self
