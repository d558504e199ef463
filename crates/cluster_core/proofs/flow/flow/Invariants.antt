use Rattle.std.proofs.Common.{◌≡◌, ◌-◌}
use Rattle.schedule_text.specs.declared.event.Event.TheVariants.{Flow}
use Rattle.cluster_core.specs.Flow.{flow, rounds}
use Rattle.cluster_core.specs.Room.{HasRoom}
use Rattle.cluster_core.proofs.Runs.FlowMade.{begun}
use Rattle.cluster_core.proofs.flow.flow.Given as goal

abbrev pub invariant-loop-round : goal.invariant-loop-round
invariant-loop-round l = record {
  flows : (rounds (l.count - l._round) l.layout.pairs (begun l.world l.left)).world ≡ (flow l.layout l.fn.world l.fn.count).world;
  room : HasRoom l.world (Flow l.left);
}
