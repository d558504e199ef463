use Rattle.drill_gen.proofs.ClusterLaw.{no_users_fault}
use Rattle.drill_gen.proofs.cluster.taken_users.Goals as goal

pub from_checked-requires : goal.from_checked-requires
from_checked-requires c = rw c.in_ok-list.ensures no_users_fault
