use Rattle.std.proofs.Common.{◌≡◌, ◌+◌, ◌<◌, [], length, drop, arith}
use Rattle.std.proofs.lemmas.List.{map-append}
use Rattle.std.proofs.lemmas.Result.{err_from_is_err_and}
use Rattle.std.proofs.lemmas.Grind.{common_steps}
use Rattle.schedule_text.proofs.SplitLaws.{goes_on, stops, ends, ends_early}
use Rattle.schedule_text.proofs.schedule.words.arguments_in.Goals as goal

pub loop-kind-preserved : goal.loop-kind-preserved
loop-kind-preserved c = record {
  read =
      rw (c.push.ensures.items, map-append)
      (goes_on _ _ _ _ _ _ _ (grind (arith, common_steps)) c.in_ok-cut.ensures c.loop-kind.invariant.read);
  count = grind (arith, common_steps);
}

pub returns-in_err-cut-clause-read : goal.returns-in_err-cut-clause-read
returns-in_err-cut-clause-read c =
    let p = err_from_is_err_and c.from_residual.result c.from_residual.ensures.1 in
    rw (p.1, p.2)
    (stops _ _ (drop (c.loop-kind.kind-index + 1) c.args.kinds.now) _ _ _ _ (grind (arith, common_steps)) c.in_err-cut.ensures c.loop-kind.invariant.read)

pub returns-then-is_empty-clause-read : goal.returns-then-is_empty-clause-read
returns-then-is_empty-clause-read c =
    let all : drop c.loop-kind.kind-index c.args.kinds.now ≡ [] = grind (arith, common_steps) in
    let none : length c.loop-kind.left.now ≡ 0 = grind (arith, common_steps) in
    ends _ _ _ _ all none c.loop-kind.invariant.read

pub returns-else-is_empty-clause-read : goal.returns-else-is_empty-clause-read
returns-else-is_empty-clause-read c =
    let all : drop c.loop-kind.kind-index c.args.kinds.now ≡ [] = grind (arith, common_steps) in
    let some : 0 < length c.loop-kind.left.now = grind (arith, common_steps) in
    ends_early _ _ _ _ all some c.loop-kind.invariant.read
