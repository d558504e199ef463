use Rattle.session_core.proofs.NeedLaw.{begin_fits}
use Rattle.session_core.proofs.NumbersLaw.{begin_knows}
use Rattle.session_core.proofs.session.Session.begin.Goals as goal

pub returns-clause-fits : goal.returns-clause-fits
returns-clause-fits c =
    begin_fits c.args.with.now c.self.inside.state c.takes.new.sess c.args.command c.in_ok-begun.begun c.takes.result c.in_ok-begun.ensures c.takes.ensures

pub returns-clause-numbers : goal.returns-clause-numbers
returns-clause-numbers c = rw (← c.self.view_is)
    (begin_knows c.args.with.now c.self.inside.state c.takes.new.sess c.args.command c.in_ok-begun.begun c.takes.result c.in_ok-begun.ensures
    c.takes.ensures)
