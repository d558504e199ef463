use Rattle.ask_routes.proofs.WayLaw.{each_about, each_first, each_answered, each_behind}
use Rattle.ask_routes.proofs.laws.nothing_is_told_before_the_ok.Goals as goal

pub returns-clause-about : goal.returns-clause-about
returns-clause-about c = each_about

pub returns-clause-first : goal.returns-clause-first
returns-clause-first c = each_first

pub returns-clause-answered : goal.returns-clause-answered
returns-clause-answered c = each_answered

pub returns-clause-behind : goal.returns-clause-behind
returns-clause-behind c = each_behind
