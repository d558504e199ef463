use Rattle.std.proofs.Common.{◌≡◌, IfOk, subst}
use Rattle.front_core.specs.Taken.{Turned, ways_by}
use Rattle.front_core.proofs.ListedLaw.{listed_done}
use Rattle.front_core.proofs.WentLaws.{cleared_fit, ok_done, then_fits}
use Rattle.front_core.proofs.connection.Connection.ok_comes.Goals as goal

pub does-requires-clause-fits : goal.does-requires-clause-fits
does-requires-clause-fits c =
    then_fits c.args.self.now.session c.cleared.new.session c.in-Waits.it c.cleared.new.self c.in_ok-then-in-Waits.then _ c.in_ok-then-in-Waits.ensures
    (cleared_fit _ _ _ _ c.args.self.now.session c.in-Waits.it c.in-Some.why)

pub returns-in_ok-then-in-Waits : goal.returns-in_ok-then-in-Waits
returns-in_ok-then-in-Waits c =
    subst (λ (t : Turned). IfOk c.does.result (λ outs. record { connection = c.does.new.self; outs = outs } ≡ t))
    (ok_done c.args.desk.setting.now (ways_by c.args.desk.replica.now.records c.args.desk.master.now c.args.desk.first.now c.args.desk.ups.now) c.args.desk.conn
    c.args.self.now c.in-Waits.field-0 c.in-Waits.it c.cleared.new.self c.cleared.new.session c.in_ok-then-in-Waits.then
    c.routes-routes.result.id c.in-Waits.is c.routes-routes.ensures.id c.args.id c.in-Some.why c.routes-routes.result.replica.now.records
    c.routes-routes.result.master.now c.routes-routes.result.first.now c.if-id-self.true c.in-Some.ensures
    c.routes-routes.ensures.records c.routes-routes.ensures.master c.routes-routes.ensures.first c.in_ok-then-in-Waits.ensures)
    c.does.ensures

pub returns-in-Lists : goal.returns-in-Lists
returns-in-Lists c =
    listed_done c.args.desk.setting.now (ways_by c.args.desk.replica.now.records c.args.desk.master.now c.args.desk.first.now c.args.desk.ups.now) c.args.desk.conn
    c.args.self.now c.listed.new.self c.args.id c.listed.result c.in-Lists.field-0 c.in-Lists.field-1 c.in-Lists.is c.if-id-self-2.true c.listed.ensures
