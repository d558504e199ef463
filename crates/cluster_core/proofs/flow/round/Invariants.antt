use Rattle.std.proofs.Common.{drop}
use Rattle.schedule_text.specs.declared.event.Event.TheVariants.{Flow}
use Rattle.cluster_core.specs.Flow.{round}
use Rattle.cluster_core.specs.Room.{HasRoom}
use Rattle.cluster_core.proofs.Runs.FlowMade.{AreAlike, begun}
use Rattle.cluster_core.proofs.flow.round.Given as goal

abbrev pub invariant-loop-link : goal.invariant-loop-link
invariant-loop-link l = record {
  alike : AreAlike (round (begun l.world l.left) (drop l.link-index l.links)) (round (begun l.initial.world l.initial.left) l.links);
  room : HasRoom l.world (Flow l.left);
}
