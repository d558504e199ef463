use Rattle.std.proofs.Common.{◌≡◌, ◌+◌, ◌&&◌, false, nat_eq, get_or, arith}
use Rattle.std.proofs.lemmas.Bool.Decides.{nat_tests}
use Rattle.mur_base.proofs.PatternMarks.{one_begin, one_more, one_end}
use Rattle.mur_base.proofs.pattern.mark_one.Goals.{then-text-i, else-text-i}
use Rattle.mur_base.proofs.pattern.mark_one.Goals as goal

pub loop-i-init : goal.loop-i-init
loop-i-init c = λ test are. one_begin c.args.byte test _ _ are

pub loop-i-preserved : goal.loop-i-preserved
loop-i-preserved c =
    let at = c.loop-i in let text = c.args.text.now in
    let marked : c.if-text-i.marks ≡ nat_eq (get_or text at.i 0) c.args.byte && get_or at.marks (at.i + 1) false =
    elim c.if-text-i.branch [
      | then-text-i w ↦ grind (arith, nat_tests, w.marks-is, w.if-text-i.true)
      | else-text-i w ↦ grind (arith, nat_tests, w.marks-is, w.if-text-i.false)
    ] in
    λ test are. one_more c.args.byte test _ _ _ _ (omega arith) (omega arith) marked (at.invariant test are)

pub returns : goal.returns
returns c = λ test are. one_end c.args.byte test _ _ _ (omega arith) (omega arith) (omega arith) (c.loop-i.invariant test are)
