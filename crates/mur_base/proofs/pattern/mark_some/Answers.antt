use Rattle.std.proofs.Common.{◌≡◌, ◌+◌, ◌-◌, ◌&&◌, false, get_or, arith, sym, ◌∙◌}
use Rattle.mur_base.specs.Patterns.{covers}
use Rattle.mur_base.proofs.PatternMarks.{some_end, some_reached, some_unreached, some_begin}
use Rattle.mur_base.proofs.pattern.mark_some.Goals.{else-covers-via-then-covers+else-marks-i, else-covers-via-else-covers}
use Rattle.mur_base.proofs.pattern.mark_some.Goals as goal

pub loop-i-init : goal.loop-i-init
loop-i-init c = λ test are. some_end c.args.wildcard test _ _ are

pub loop-i-preserved-then-marks-i : goal.loop-i-preserved-then-marks-i
loop-i-preserved-then-marks-i c = λ test are.
    some_reached c.args.wildcard test _ _ _ _ (omega arith) (omega arith) (omega arith) (sym c.covers.ensures ∙ c.if-covers.true) c.if-marks-i.true
    (c.loop-i.invariant test are)

pub loop-i-preserved : goal.loop-i-preserved
loop-i-preserved c =
    let at = c.loop-i.i - 1 in
    let none : covers c.args.wildcard (get_or c.args.text.now at 0) && get_or c.loop-i.marks (at + 1) false ≡ false =
    elim c.else-covers.branch [
      | else-covers-via-then-covers+else-marks-i w ↦ grind (arith, c.covers.ensures, w.if-covers.true, w.if-marks-i.false)
      | else-covers-via-else-covers w ↦ grind (arith, c.covers.ensures, w.if-covers.false)
    ] in
    λ test are. some_unreached c.args.wildcard test _ _ _ _ (omega arith) (omega arith) none (c.loop-i.invariant test are)

pub returns : goal.returns
returns c = λ test are. some_begin c.args.wildcard test _ _ _ (omega arith) (c.loop-i.invariant test are)
