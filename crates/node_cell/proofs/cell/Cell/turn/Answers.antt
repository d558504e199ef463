use Rattle.node_cell.proofs.LogLaws.{limited_on, log_on, not_stopped_full, replays_on, stamps_on}
use Rattle.node_cell.proofs.cell.Cell.turn.Goals as goal

pub returns-in-Some-clause-full : goal.returns-in-Some-clause-full
returns-in-Some-clause-full g c is = absurd (not_stopped_full _ c.args.self.now.fault c.in-Some.fault c.args.self.now.stopped c.in-Some.is is)

pub invariant_of-self-in-Ok-push : goal.invariant_of-self-in-Ok-push
invariant_of-self-in-Ok-push g c =
    let log = log_on c.args.self.now.log c.push.new.self c.args.self.now.stamp c.args.stamp c.in-Some-behind.next c.args.input c.in-Ok.taken
    c.in-Ok-push.ensures.ok c.in-Some-behind.ensures.room.next c.in-Ok.ensures in
    record {
      replays = λ is. replays_on c.args.self.now.begun.value c.args.self.now.node c.act.new.node c.args.self.now.log c.push.new.self c.args.self.now.stamp
          c.args.stamp c.args.input (c.args.self.now.replays is) c.in-Ok-act.ensures.node log;
      stamps = stamps_on c.args.self.now.log c.push.new.self c.args.self.now.stamp c.args.stamp c.in-Some-behind.next c.args.input c.args.self.now.stamps
          c.in-Some-behind.ensures.room.next log;
      limited = limited_on c.args.self.now.name c.args.self.now.log c.push.new.self c.args.self.now.stamp c.args.stamp c.in-Some-behind.next
          c.in-Some-behind.room c.args.input c.in-Some-behind.ensures.room log;
      stopped = c.args.self.now.stopped;
      writes = λ is. c.in-Ok-act.ensures.writes;
    }
