use Rattle.std.proofs.Common.{ℕ, List, subst}
use Rattle.node_step.specs.declared.input.NodeInput.{NodeInput}
use Rattle.node_cell.specs.Batch.{AreNext, steps_behind}
use Rattle.node_cell.proofs.LogLaws.{all_limited_on, all_replays_on, all_stamps_on, log_all_on, not_stopped_full}
use Rattle.node_cell.proofs.cell.Cell.turns.Goals as goal

pub returns-in-Some-clause-full : goal.returns-in-Some-clause-full
returns-in-Some-clause-full g c is = absurd (not_stopped_full _ c.args.self.now.fault c.in-Some.fault c.args.self.now.stopped c.in-Some.is is)

pub invariant_of-self : goal.invariant_of-self
invariant_of-self g c =
    let steps = steps_behind c.args.self.now.stamp c.args.inputs.items in
    let log = log_all_on c.args.self.now.log c.put_behind.new.log c.in-Ok.batch.steps steps c.in-Ok-put_behind.ensures.ok c.in-Ok.ensures.steps in
    let next = subst (λ (these : List (ℕ × NodeInput)). AreNext c.args.self.now.name c.args.self.now.log c.args.self.now.stamp these
    c.in-Some-behind_these.last c.in-Some-behind_these.room) c.as_slice.ensures.value c.in-Some-behind_these.ensures.room in
    record {
      replays = λ is. all_replays_on c.args.self.now.begun.value c.args.self.now.node c.act_all.new.node c.args.self.now.log c.put_behind.new.log steps
          (c.args.self.now.replays is) c.in-Ok.ensures.node log;
      stamps = all_stamps_on c.args.self.now.log c.put_behind.new.log c.args.self.now.stamp c.in-Some-behind_these.last c.args.inputs.items
          c.args.self.now.stamps next.next log;
      limited = all_limited_on c.args.self.now.name c.args.self.now.log c.put_behind.new.log c.args.self.now.stamp c.in-Some-behind_these.last
          c.in-Some-behind_these.room c.args.inputs.items next log;
      stopped = c.args.self.now.stopped;
      writes = λ is. c.in-Ok.ensures.writes;
    }
