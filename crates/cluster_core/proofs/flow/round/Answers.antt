use Rattle.std.proofs.Common.{arith}
use Rattle.cluster_core.proofs.Runs.FlowMade.{round_goes_on, item_at}
use Rattle.cluster_core.proofs.flow.round.Goals as goal

pub loop-link-preserved : goal.loop-link-preserved
loop-link-preserved c = record {
  alike = round_goes_on _ _ c.link-item.result _ _ _ _ _ (item_at c.args.links.now c.loop-link.link-index c.link-item.result (omega arith) c.link-item.is)
      c.in_ok-turn.ensures.world c.in_ok-turn.ensures.left c.loop-link.invariant.alike;
  room = c.in_ok-turn.ensures.room;
}
