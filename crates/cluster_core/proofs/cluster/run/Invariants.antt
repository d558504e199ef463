use Rattle.std.proofs.Common.{◌≡◌, length}
use Rattle.std.specs.Vec.Iter.{into_iter_items, into_iter_len}
use Rattle.cluster_core.proofs.Runs.RunRoom.{IsOnTheWay}
use Rattle.cluster_core.proofs.cluster.run.Given as goal

abbrev pub invariant-loop-event : goal.invariant-loop-event
invariant-loop-event l = record {
  can_next : (goal.iterator-loop-event).can_next l.event-iterator;
  is_finite : (goal.iterator-loop-event).is_finite l.event-iterator;
  count : into_iter_len l.event-iterator ≡ length (into_iter_items l.event-iterator);
  way : IsOnTheWay l.config l.fn.events l.cluster (into_iter_items l.event-iterator);
}
