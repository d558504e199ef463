use Rattle.std.proofs.Common.{rules, arith}
use Rattle.std.proofs.lemmas.Result.{err_from_is_err_and}
use Rattle.grammar.proofs.TakenSteps.{repeat_ends, repeat_none, repeat_stops}
use Rattle.grammar.proofs.turn.repeated_of.Goals as goal
use Rattle.grammar.proofs.turn.repeated_of.Goals.{then-loop-left-test+else-begins_turn, else-loop-left-test}

pub returns-in_err-next : goal.returns-in_err-next
returns-in_err-next g c =
    let p = err_from_is_err_and c.from_residual.result c.from_residual.ensures.1 in
    rw (p.1, p.2) (λ stop e. repeat_stops _ _ c.args.state c.loop-left.state c.args.bytes.now c.loop-left.rest.now c.loop-left.left c.loop-left.invariant
    (omega arith) (search rules) _ (c.in_err-next.ensures.stops stop e))

pub returns : goal.returns
returns g c = elim c.loop-left-test.branch [
  | then-loop-left-test+else-begins_turn w ↦
      repeat_none _ _ c.args.state c.loop-left.state c.args.bytes.now c.loop-left.rest.now c.loop-left.left c.loop-left.invariant (search rules)
  | else-loop-left-test w ↦
      repeat_ends _ _ c.args.state c.loop-left.state c.args.bytes.now c.loop-left.rest.now c.loop-left.left c.loop-left.invariant
      (omega (arith, w.loop-left-test.false))
]
