use Rattle.std.proofs.Common.{sym, ◌∙◌, arith}
use Rattle.front_core.specs.Taken.{ways_by}
use Rattle.front_core.proofs.WaitingLaws.{waiting_on, waiting_over, waiting_dropped, waiting_stays, taken_counts, taken_shortens}
use Rattle.front_core.proofs.connection.Connection.waiting_come.Goals as goal

pub returns-in_default : goal.returns-in_default
returns-in_default c =
    waiting_over c.args.desk.setting.now (ways_by c.args.desk.replica.now.records c.args.desk.master.now c.args.desk.first.now c.args.desk.ups.now) c.args.desk.conn c.loop-self.outs c.loop-self.self c.pop.new.self
    c.in_default.ensures.empty.0 c.in_default.ensures.empty.1
    ∙ c.loop-self.invariant.turned

pub returns-then-has_ended : goal.returns-then-has_ended
returns-then-has_ended c =
    waiting_dropped c.args.desk.setting.now (ways_by c.args.desk.replica.now.records c.args.desk.master.now c.args.desk.first.now c.args.desk.ups.now) c.args.desk.conn c.loop-self.outs c.loop-self.self c.clear.new.self
    (sym c.if-has_ended.ensures) c.clear.ensures
    ∙ c.loop-self.invariant.turned

pub returns-else-has_ended : goal.returns-else-has_ended
returns-else-has_ended c =
    waiting_stays c.args.desk.setting.now (ways_by c.args.desk.replica.now.records c.args.desk.master.now c.args.desk.first.now c.args.desk.ups.now) c.args.desk.conn c.loop-self.outs c.loop-self.self
    (sym c.loop-self-test.ensures) (sym c.if-has_ended.ensures)
    ∙ c.loop-self.invariant.turned

pub loop-self-smaller : goal.loop-self-smaller
loop-self-smaller c =
    omega (
      arith,
      taken_shortens c.args.desk.setting.now (ways_by c.args.desk.replica.now.records c.args.desk.master.now c.args.desk.first.now c.args.desk.ups.now) c.args.desk.conn c.loop-self.outs c.input_in.new.outs c.loop-self.self c.input_in.new.self
          c.in-Some.input c.pop.new.self c.in-Some.ensures.first c.in_ok-input_in.ensures,
    )

pub loop-self-preserved : goal.loop-self-preserved
loop-self-preserved c = record {
  turned =
      waiting_on c.args.desk.setting.now (ways_by c.args.desk.replica.now.records c.args.desk.master.now c.args.desk.first.now c.args.desk.ups.now) c.args.desk.conn c.loop-self.outs c.input_in.new.outs c.loop-self.self c.input_in.new.self
      c.in-Some.input c.pop.new.self (sym c.loop-self-test.ensures) c.in-Some.ensures.first c.in_ok-input_in.ensures
      ∙ c.loop-self.invariant.turned;
  commands =
      omega (
        arith,
        taken_counts c.args.desk.setting.now (ways_by c.args.desk.replica.now.records c.args.desk.master.now c.args.desk.first.now c.args.desk.ups.now) c.args.desk.conn c.loop-self.outs c.input_in.new.outs c.loop-self.self c.input_in.new.self
            c.in-Some.input c.pop.new.self c.in-Some.ensures.first c.in_ok-input_in.ensures,
        c.loop-self.invariant.commands,
      );
}
