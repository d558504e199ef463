use Rattle.home_law.proofs.LinkSays.{serving_mine, active_is_there, reserved_is_there, none_refused, none_stays_reserved, none_waits}
use Rattle.home_law.proofs.laws.a_link_says_where_a_name_is.Goals as goal

pub returns-clause-serving : goal.returns-clause-serving
returns-clause-serving c = serving_mine

pub returns-clause-active : goal.returns-clause-active
returns-clause-active c = active_is_there

pub returns-clause-reserved : goal.returns-clause-reserved
returns-clause-reserved c = reserved_is_there

pub returns-clause-none_refused : goal.returns-clause-none_refused
returns-clause-none_refused c = none_refused

pub returns-clause-not_reserved : goal.returns-clause-not_reserved
returns-clause-not_reserved c = none_stays_reserved

pub returns-clause-none_waits : goal.returns-clause-none_waits
returns-clause-none_waits c = none_waits
