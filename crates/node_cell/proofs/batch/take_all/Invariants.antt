use Rattle.std.specs.Vec.Iter.{into_iter_items}
use Rattle.node_cell.proofs.BatchLaws.{IsOnTheWay}
use Rattle.node_cell.proofs.batch.take_all.Given as goal

abbrev pub invariant-loop-it : goal.invariant-loop-it
invariant-loop-it l = IsOnTheWay l.fn.node l.stamp l.fn.inputs.items l.node l.last l.batch.steps l.batch.entries l.batch.turns
    (into_iter_items l.it-iterator)
