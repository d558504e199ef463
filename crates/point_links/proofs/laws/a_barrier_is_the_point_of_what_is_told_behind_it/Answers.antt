use Rattle.point_links.proofs.BarrierLaw.{each_barrier, missing_is_a_point, reserved_is_a_point}
use Rattle.point_links.proofs.laws.a_barrier_is_the_point_of_what_is_told_behind_it.Goals as goal

pub returns-clause-missing : goal.returns-clause-missing
returns-clause-missing c = missing_is_a_point

pub returns-clause-reserved : goal.returns-clause-reserved
returns-clause-reserved c = reserved_is_a_point

pub returns-clause-each : goal.returns-clause-each
returns-clause-each c = each_barrier
