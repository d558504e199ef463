use Rattle.std.proofs.Common.{◌≡◌, ◌++◌, drop}
use Rattle.mur_config.specs.Nodes.{links_from}
use Rattle.mur_config.proofs.nodes.put_links.Given as goal

abbrev pub invariant-loop-to : goal.invariant-loop-to
invariant-loop-to l = l.links ++ links_from l.from (drop l.to-index l.nodes) ≡ l.initial.links ++ links_from l.from l.nodes
