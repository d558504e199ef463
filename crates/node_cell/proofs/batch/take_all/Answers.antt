use Rattle.std.proofs.Common.{arith, ◌<◌, ◌^◌}
use Rattle.std.specs.Vec.Iter.{into_iter_items}
use Rattle.node_cell.specs.Stamps.{next_stamp}
use Rattle.node_cell.proofs.BatchLaws.{stamp_fits}
use Rattle.node_cell.proofs.batch.take_all.Goals as goal

pub overflow_add-last : goal.overflow_add-last
overflow_add-last c =
    let fits : next_stamp c.loop-it.last c.in-Some.it.0 < 2 ^ 64 =
    stamp_fits c.loop-it.last _ (into_iter_items c.loop-it.it-iterator) (into_iter_items c.next.new.self) c.in-Some.it c.in-Some.ensures.steps.0
    c.loop-it.invariant.stamp c.requires.fits in
    omega (arith, fits, c.max-last.ensures)
