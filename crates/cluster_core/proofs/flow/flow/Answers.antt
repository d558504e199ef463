use Rattle.std.proofs.Common.{arith, ◌-◌}
use Rattle.cluster_core.proofs.Runs.FlowMade.{flow_over, flow_over_now, flow_ends}
use Rattle.cluster_core.proofs.flow.flow.Goals as goal

pub returns-then-left-before : goal.returns-then-left-before
returns-then-left-before c =
    flow_over_now c.args.count c.loop-round._round c.args.layout.now.pairs _ _ _ _ _ _ (omega arith) c.as_slice-pairs.ensures
    c.in_ok-round.ensures.world c.in_ok-round.ensures.left c.if-left-before.true c.loop-round.invariant.flows

pub loop-round-preserved : goal.loop-round-preserved
loop-round-preserved c = record {
  flows = flow_over c.args.count c.loop-round._round c.args.layout.now.pairs _ _ _ _ _ _ (omega arith) c.as_slice-pairs.ensures
      c.in_ok-round.ensures.world c.in_ok-round.ensures.left c.if-left-before.false c.loop-round.invariant.flows;
  room = c.in_ok-round.ensures.room;
}

pub returns : goal.returns
returns c = flow_ends (c.args.count - c.loop-round._round) c.args.layout.now.pairs _ _ _ (omega arith) c.loop-round.invariant.flows
