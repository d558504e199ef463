use Rattle.point_links.proofs.CreateLaw.{activate_creates, activate_of_full, reserve_of_one_reserved, reserve_of_one_there}
use Rattle.point_links.proofs.laws.a_create_is_carried_out_where_the_master_takes_its_line.Goals as goal

pub returns-clause-creates : goal.returns-clause-creates
returns-clause-creates c = activate_creates

pub returns-clause-full : goal.returns-clause-full
returns-clause-full c = activate_of_full

pub returns-clause-there : goal.returns-clause-there
returns-clause-there c = reserve_of_one_there

pub returns-clause-reserved : goal.returns-clause-reserved
returns-clause-reserved c = reserve_of_one_reserved
