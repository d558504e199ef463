use Rattle.point_links.proofs.ListLaw.{list_is_a_point}
use Rattle.point_links.proofs.laws.a_list_is_told_of_all_mailboxes.Goals as goal

pub returns : goal.returns
returns c = list_is_a_point
