use Rattle.std.proofs.Common.{rules, arith}
use Rattle.std.proofs.lemmas.Result.{err_from_is_err_and}
use Rattle.mupdate_codec.proofs.StringSteps.{chars_end, chars_none, chars_stop}
use Rattle.mupdate_codec.proofs.strings.chars_of.Goals as goal
use Rattle.mupdate_codec.proofs.strings.chars_of.Goals.{then-loop-left-test+else-goes_on, else-loop-left-test}

pub returns-in_err-next : goal.returns-in_err-next
returns-in_err-next c =
    let p = err_from_is_err_and c.from_residual.result c.from_residual.ensures.1 in
    rw (p.1, p.2) (λ stop e. chars_stop c.args.most c.loop-left.left c.loop-left.text c.args.bytes.now c.loop-left.rest.now c.loop-left.invariant
    (omega arith) (search rules) _ (c.in_err-next.ensures.stops stop e))

pub returns : goal.returns
returns c = elim c.loop-left-test.branch [
  | then-loop-left-test+else-goes_on w ↦
      chars_none c.args.most c.loop-left.left c.loop-left.text c.args.bytes.now c.loop-left.rest.now c.loop-left.invariant (search rules)
  | else-loop-left-test w ↦
      chars_end c.args.most c.loop-left.left c.loop-left.text c.args.bytes.now c.loop-left.rest.now c.loop-left.invariant
      (omega (arith, w.loop-left-test.false))
]
