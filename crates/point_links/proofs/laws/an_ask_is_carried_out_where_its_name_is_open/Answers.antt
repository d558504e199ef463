use Rattle.point_links.proofs.HomeLaw.{closed_sends_on, open_serves}
use Rattle.point_links.proofs.laws.an_ask_is_carried_out_where_its_name_is_open.Goals as goal

pub returns-clause-open : goal.returns-clause-open
returns-clause-open c = open_serves

pub returns-clause-closed : goal.returns-clause-closed
returns-clause-closed c = closed_sends_on
