use Rattle.drill_gen.proofs.ClusterLaw.{taken, taken_as}
use Rattle.drill_gen.proofs.cluster.taken_nodes.Goals as goal

pub unwrap-requires : goal.unwrap-requires
unwrap-requires c = taken _ _ c.in_ok-list.ensures c.new.ensures

pub returns : goal.returns
returns c = taken_as _ _ _ c.in_ok-list.ensures c.new.ensures c.unwrap.ensures
