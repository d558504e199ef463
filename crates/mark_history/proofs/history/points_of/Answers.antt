use Rattle.std.proofs.Common.{◌∙◌, ap, arith}
use Rattle.mur_base.specs.Map.{with_entry}
use Rattle.mark_history.proofs.NextMarks.{ask_cmp, walked, walked_none}
use Rattle.mark_history.proofs.history.points_of.Goals as goal

pub loop-left-init : goal.loop-left-init
loop-left-init c =
    let none = walked_none c.args.marks.now c.new-next.result c.new-points.result.items c.new-next.ensures c.new-points.ensures.items in
    record { within = omega arith; next = none.0; points = none.1 }

pub loop-left-preserved : goal.loop-left-preserved
loop-left-preserved c =
    let back =
    walked c.args.marks.now c.loop-left.left c.index-marks-left.result _ c.loop-left.next c.insert.new.self c.loop-left.points.items c.put_point.new.points.items
    c.copied.result c.index-marks-left.is c.loop-left-test.true c.loop-left.invariant.within c.loop-left.invariant.next c.loop-left.invariant.points
    (c.copied.ensures ∙ c.get.ensures) (c.in_ok-insert.ensures.entries ∙ ap (with_entry ask_cmp c.loop-left.next _) c.later_of.ensures)
    c.in_ok-put_point.ensures in
    record { within = omega (arith, c.loop-left.invariant.within); next = back.0; points = back.1 }
