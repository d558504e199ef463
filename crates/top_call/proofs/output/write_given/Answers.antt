use Rattle.std.proofs.Common.{rules}
use Rattle.top_call.specs.Output.{given_lines}
use Rattle.top_call.proofs.WritingLaws.{goes_on, breaks, fails, ends}
use Rattle.top_call.proofs.output.write_given.Goals as goal

pub loop-piece-preserved : goal.loop-piece-preserved
loop-piece-preserved g c = record {
  way = goes_on _ _ _ _ _ _ _ _ _ _ _ c.in-Some.ensures.steps c.loop-piece.invariant.way c.in_ok-write_line.ensures.did;
  faultless = search rules;
}

pub returns-in_err-write_line-clause-did : goal.returns-in_err-write_line-clause-did
unfolding given_lines
returns-in_err-write_line-clause-did g c =
    fails _ _ _ _ _ _ c.from_residual.ensures.0 (breaks _ _ _ _ _ _ _ _ _ _ c.in-Some.ensures.steps c.loop-piece.invariant.way c.in_err-write_line.ensures.did)

pub returns-clause-did : goal.returns-clause-did
unfolding given_lines
returns-clause-did g c = ends _ _ _ _ _ _ _ c.in-None.ensures.steps.0 c.loop-piece.invariant.way
