use Rattle.std.proofs.Common.{arith}
use Rattle.cluster_core.proofs.Runs.FlowMade.{item_at}
use Rattle.cluster_core.proofs.Runs.HealMade.{heal_goes_on, heal_room}
use Rattle.cluster_core.proofs.heal.heal_links.Goals as goal

pub loop-link-preserved : goal.loop-link-preserved
loop-link-preserved c = record {
  healed = heal_goes_on _ _ c.link-item.result _ _ _ (item_at c.args.links.now c.loop-link.link-index c.link-item.result (omega arith) c.link-item.is)
      c.in_ok-heal_link.ensures.world c.loop-link.invariant.healed;
  room = heal_room _ _ c.link-item.result _ _ (item_at c.args.links.now c.loop-link.link-index c.link-item.result (omega arith) c.link-item.is)
      c.in_ok-heal_link.ensures.steps c.loop-link.invariant.room;
}
