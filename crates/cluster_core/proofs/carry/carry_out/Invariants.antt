use Rattle.std.proofs.Common.{◌≡◌, length}
use Rattle.std.specs.Vec.Iter.{into_iter_items, into_iter_len}
use Rattle.cluster_core.proofs.Runs.CarryOn.{carries}
use Rattle.cluster_core.proofs.carry.carry_out.Given as goal

abbrev pub invariant-loop-out : goal.invariant-loop-out
invariant-loop-out l = record {
  can_next : (goal.iterator-loop-out).can_next l.out-iterator;
  is_finite : (goal.iterator-loop-out).is_finite l.out-iterator;
  count : into_iter_len l.out-iterator ≡ length (into_iter_items l.out-iterator);
  carried : carries l.node l.world (into_iter_items l.out-iterator) ≡ carries l.node l.initial.world l.fn.outs;
}
