use Rattle.std.proofs.Common.{◌≡◌, ◌++◌}
use Rattle.std.specs.Vec.Iter.{into_iter_items}
use Rattle.record_merge.specs.Mix.{placed}
use Rattle.record_merge.proofs.merging.placed.Given as goal

abbrev pub invariant-loop-entry : goal.invariant-loop-entry
invariant-loop-entry g l = l.steps ++ placed l.node (into_iter_items l.entry-iterator) ≡ placed l.node l.fn.log
