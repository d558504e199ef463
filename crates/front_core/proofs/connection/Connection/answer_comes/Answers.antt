use Rattle.std.proofs.Common.{◌≡◌, IfOk, subst}
use Rattle.front_core.specs.Taken.{Turned, ways_by}
use Rattle.front_core.proofs.WentLaws.{answer_done, answered_fit, then_fits}
use Rattle.front_core.proofs.connection.Connection.answer_comes.Goals as goal

pub does-requires-clause-fits : goal.does-requires-clause-fits
does-requires-clause-fits c =
    then_fits c.args.self.now.session c.answered.new.session c.in-Waits.it c.answered.new.self c.in_ok-then-in-Waits.then _ c.in_ok-then-in-Waits.ensures
    (answered_fit _ _ c.args.self.now.session c.in-Waits.it c.args.answer.body)

pub returns-in_ok-then-in-Waits : goal.returns-in_ok-then-in-Waits
returns-in_ok-then-in-Waits c =
    subst (λ (t : Turned). IfOk c.does.result (λ outs. record { connection = c.does.new.self; outs = outs } ≡ t))
    (answer_done c.args.desk.setting.now (ways_by c.args.desk.replica.now.records c.args.desk.master.now c.args.desk.first.now c.args.desk.ups.now) c.args.desk.conn
    c.args.self.now c.in-Waits.field-0 c.in-Waits.it c.answered.new.self c.answered.new.session c.in_ok-then-in-Waits.then
    c.routes-routes.result.id c.in-Waits.is c.routes-routes.ensures.id c.args.answer c.routes-routes.result.master.now c.if-answer-self.true
    c.routes-routes.ensures.master c.in_ok-then-in-Waits.ensures)
    c.does.ensures
