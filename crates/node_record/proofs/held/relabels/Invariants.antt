use Rattle.std.proofs.Common.{◌≡◌, ◌++◌}
use Rattle.std.specs.Vec.Iter.{into_iter_items}
use Rattle.node_record.specs.Held.{relabels}
use Rattle.node_record.proofs.held.relabels.Given as goal

abbrev pub invariant-loop-row : goal.invariant-loop-row
invariant-loop-row l = l.changes ++ relabels (into_iter_items l.row-iterator) ≡ relabels l.fn.rows
