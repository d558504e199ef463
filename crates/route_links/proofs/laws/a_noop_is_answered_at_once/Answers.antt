use Rattle.route_links.proofs.AnsweredLaw.{noop_is_answered}
use Rattle.route_links.proofs.Tags.{is_noop, ok_is_read, ok_is_no_news}
use Rattle.route_links.proofs.laws.a_noop_is_answered_at_once.Goals as goal

pub returns-clause-noop : goal.returns-clause-noop
returns-clause-noop c = is_noop

pub returns-clause-answered : goal.returns-clause-answered
returns-clause-answered c = noop_is_answered

pub returns-clause-read : goal.returns-clause-read
returns-clause-read c = ok_is_read

pub returns-clause-quiet : goal.returns-clause-quiet
returns-clause-quiet c = ok_is_no_news
