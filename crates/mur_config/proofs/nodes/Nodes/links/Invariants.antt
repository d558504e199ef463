use Rattle.std.proofs.Common.{◌≡◌, ◌++◌, drop}
use Rattle.mur_config.specs.Nodes.{links_between, links_of}
use Rattle.mur_config.proofs.nodes.Nodes.links.Given as goal

abbrev pub invariant-loop-from : goal.invariant-loop-from
invariant-loop-from l = l.links ++ links_between (drop l.from-index l.from-items) l.self ≡ links_of l.self
