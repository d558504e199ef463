use Rattle.mur_config.proofs.NodesLaw.{nodes_kept}
use Rattle.mur_config.proofs.nodes.Nodes.as_slice.Goals as goal

pub returns-clause-kept : goal.returns-clause-kept
returns-clause-kept c = rw (← c.self.view_is) (nodes_kept _ c.self.invariant)
