use Rattle.std.proofs.Common.{rules, arith}
use Rattle.std.proofs.lemmas.List.{drop_all}
use Rattle.top_call.proofs.WritingLaws.{goes_on, breaks, fails, ends, items_at}
use Rattle.top_call.proofs.output.write_each.Goals as goal

pub loop-line-preserved : goal.loop-line-preserved
loop-line-preserved g c = record {
  way = goes_on _ _ _ _ _ _ _ _ _ _ _ (items_at c.args.lines.now c.loop-line.line-index c.line-item.result (omega arith) c.line-item.is)
      c.loop-line.invariant.way c.in_ok-write_line.ensures.did;
  faultless = search rules;
}

pub returns-in_err-write_line-clause-did : goal.returns-in_err-write_line-clause-did
returns-in_err-write_line-clause-did g c =
    fails _ _ _ _ _ _ c.from_residual.ensures.0
    (breaks _ _ _ _ _ _ _ _ _ _ (items_at c.args.lines.now c.loop-line.line-index c.line-item.result (omega arith) c.line-item.is)
    c.loop-line.invariant.way c.in_err-write_line.ensures.did)

pub returns-clause-did : goal.returns-clause-did
returns-clause-did g c = ends _ _ _ _ _ _ _ (drop_all c.loop-line.line-index c.args.lines.now (omega arith)) c.loop-line.invariant.way
