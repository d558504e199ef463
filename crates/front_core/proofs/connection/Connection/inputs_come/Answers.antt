use Rattle.std.proofs.Common.{sym, ◌∙◌, ap, arith}
use Rattle.front_core.specs.Ended.{with_released}
use Rattle.front_core.specs.Taken.{ways_by}
use Rattle.front_core.proofs.PieceLaws.{rest_on, rest_some, still_read, piece_over, reader_over, ended_over, next_counts}
use Rattle.front_core.proofs.connection.Connection.inputs_come.Goals as goal

pub returns-else-not-has_ended : goal.returns-else-not-has_ended
returns-else-not-has_ended c =
    ended_over c.args.desk.setting.now (ways_by c.args.desk.replica.now.records c.args.desk.master.now c.args.desk.first.now c.args.desk.ups.now) c.args.desk.conn c.loop-taken.outs c.loop-taken.self _ (sym c.if-not-has_ended.ensures)
    ∙ ap with_released c.loop-taken.invariant.turned

pub returns-else-not-ended : goal.returns-else-not-ended
returns-else-not-ended c =
    ap with_released
    (reader_over c.args.desk.setting.now (ways_by c.args.desk.replica.now.records c.args.desk.master.now c.args.desk.first.now c.args.desk.ups.now) c.args.desk.conn c.loop-taken.outs c.loop-taken.self _ (sym c.if-not-ended.ensures)
    ∙ c.loop-taken.invariant.turned)

pub returns-after-loop-taken : goal.returns-after-loop-taken
returns-after-loop-taken c =
    ap with_released
    (piece_over c.args.desk.setting.now (ways_by c.args.desk.replica.now.records c.args.desk.master.now c.args.desk.first.now c.args.desk.ups.now) c.args.desk.conn c.loop-taken.outs c.loop-taken.self c.args.piece.now
    c.loop-taken.taken c.loop-taken-test.false
    ∙ c.loop-taken.invariant.turned)

pub loop-taken-preserved : goal.loop-taken-preserved
loop-taken-preserved c =
    let some =
    c.in_ok-input.ensures.some (still_read c.loop-taken.self.reader.held c.if-not-ended.ensures)
    (rest_some c.args.piece.now c.loop-taken.taken c.loop-taken-test.true) in
    record {
      within = omega (arith, c.in_ok-input.ensures.within);
      turned =
          rest_on c.args.desk.setting.now (ways_by c.args.desk.replica.now.records c.args.desk.master.now c.args.desk.first.now c.args.desk.ups.now) c.args.desk.conn c.loop-taken.outs c.next_comes.new.outs c.loop-taken.self c.next_comes.new.self _
          c.args.piece.now c.loop-taken.taken c.in_ok-input.more c.in_ok-input.input
          c.in_ok-input.ensures.inputs c.in_ok-input.ensures.rest c.in_ok-next_comes.ensures
          ∙ c.loop-taken.invariant.turned;
      commands =
          omega (
            arith,
            some,
            next_counts c.args.desk.setting.now (ways_by c.args.desk.replica.now.records c.args.desk.master.now c.args.desk.first.now c.args.desk.ups.now) c.args.desk.conn c.loop-taken.outs c.next_comes.new.outs _ c.next_comes.new.self c.in_ok-input.input
                c.in_ok-next_comes.ensures,
            c.loop-taken.invariant.commands,
          );
    }
