use Rattle.std.proofs.Common.{length}
use Rattle.node_cell.proofs.BatchLaws.{IsMeasured}
use Rattle.node_cell.proofs.measure_all.behind_all.Given as goal

abbrev pub invariant-loop-first : goal.invariant-loop-first
invariant-loop-first l = IsMeasured l.name l.last l.left l.inputs l.stamp l.room l.rest

abbrev pub decreases-loop-first : goal.decreases-loop-first
decreases-loop-first l = length l.rest
