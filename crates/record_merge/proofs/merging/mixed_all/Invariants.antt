use Rattle.std.proofs.Common.{◌≡◌, ◌+◌, ◌≤◌, [], length}
use Rattle.std.specs.Vec.Iter.{into_iter_items}
use Rattle.record_merge.specs.Mix.{merged_from}
use Rattle.record_merge.proofs.merging.mixed_all.Given as goal

abbrev pub invariant-loop-log : goal.invariant-loop-log
invariant-loop-log g l = record {
  steps : merged_from l.place l.steps (into_iter_items l.log-iterator) ≡ merged_from 0 [] l.fn.logs;
  few : l.place + length (into_iter_items l.log-iterator) ≤ l.count;
}
