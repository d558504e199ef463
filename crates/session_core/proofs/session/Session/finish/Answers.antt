use Rattle.session_core.proofs.NeedLaw.{finish_fits}
use Rattle.session_core.proofs.NumbersLaw.{finish_knows}
use Rattle.session_core.proofs.NoExpungeLaw.{finish_tells_none}
use Rattle.session_core.proofs.session.Session.finish.Goals as goal

pub returns-clause-fits : goal.returns-clause-fits
returns-clause-fits c = finish_fits c.self.inside.state c.finished_by.new.sess c.in_ok-turn.turn c.finished_by.result c.finished_by.ensures

pub returns-clause-numbers : goal.returns-clause-numbers
returns-clause-numbers c = rw (← c.self.view_is)
    (finish_knows c.self.inside.state c.finished_by.new.sess c.args.awaited.now c.args.op_result c.in_ok-turn.turn c.finished_by.result c.in_ok-turn.ensures
    c.finished_by.ensures)

pub returns-clause-expunges : goal.returns-clause-expunges
returns-clause-expunges c =
    finish_tells_none c.self.inside.state c.finished_by.new.sess c.args.awaited.now c.args.op_result c.in_ok-turn.turn c.finished_by.result
    c.in_ok-turn.ensures c.finished_by.ensures
