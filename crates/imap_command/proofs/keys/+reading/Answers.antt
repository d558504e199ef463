use Rattle.std.proofs.Common.{rules, arith}
use Rattle.std.proofs.lemmas.Result.{err_from_is_err_and}
use Rattle.grammar.proofs.TurnSteps.{repeat_ends, repeat_none, repeat_stops, repeat_more}
use Rattle.imap_command.proofs.keys.+reading.Goals as goal

pub more_keys_of-returns-then-not-begins : goal.more_keys_of-returns-then-not-begins
more_keys_of-returns-then-not-begins t c =
    repeat_none _ _ c.args.list c.loop.list c.args.bytes.now c.loop.rest.now c.loop.counter c.loop.invariant (search rules)

pub more_keys_of-returns-in_err-list : goal.more_keys_of-returns-in_err-list
more_keys_of-returns-in_err-list t c =
    let p = err_from_is_err_and c.from_residual.result c.from_residual.ensures.1 in
    rw (p.1, p.2) (λ stop e. repeat_stops _ _ c.args.list c.loop.list c.args.bytes.now c.loop.rest.now c.loop.counter c.loop.invariant (omega arith)
    (search rules) _ (c.in_err-list.ensures stop e))

pub more_keys_of-loop-preserved : goal.more_keys_of-loop-preserved
more_keys_of-loop-preserved t c =
    repeat_more _ _ c.args.list c.loop.list c.args.bytes.now c.loop.rest.now c.loop.counter c.loop.invariant (omega arith)
    (search rules) _ _ c.in_ok-list.ensures

pub more_keys_of-returns : goal.more_keys_of-returns
more_keys_of-returns t c =
    repeat_ends _ _ c.args.list c.loop.list c.args.bytes.now c.loop.rest.now c.loop.counter c.loop.invariant (omega arith)
