use Rattle.point_links.proofs.DeleteLaw.{deactivate_closes, delete_deletes}
use Rattle.point_links.proofs.laws.a_delete_is_carried_out_where_the_master_takes_its_line.Goals as goal

pub returns-clause-deletes : goal.returns-clause-deletes
returns-clause-deletes c = delete_deletes

pub returns-clause-closes : goal.returns-clause-closes
returns-clause-closes c = deactivate_closes
