use Rattle.std.proofs.Common.{List, ℕ, rules}
use Rattle.node_record.specs.declared.table.Record.{Record}
use Rattle.top_call.specs.Output.{record_line}
use Rattle.top_call.proofs.WritingLaws.{goes_on, breaks, fails, ends}
use Rattle.top_call.proofs.output.write_records.Goals as goal

pub loop-name-preserved : goal.loop-name-preserved
loop-name-preserved g c =
    let entry : List ℕ × Record = (c.in-Some.name.now, c.in-Some.it.now) in
    record {
      way = goes_on record_line _ _ _ _ _ _ _ _ entry _ c.in-Some.ensures.steps c.loop-name.invariant.way c.in_ok-write_line.ensures.did;
      faultless = search rules;
    }

pub returns-in_err-write_line-clause-did : goal.returns-in_err-write_line-clause-did
returns-in_err-write_line-clause-did g c =
    let entry : List ℕ × Record = (c.in-Some.name.now, c.in-Some.it.now) in
    fails _ _ _ _ _ _ c.from_residual.ensures.0
    (breaks record_line _ _ _ _ _ _ _ entry _ c.in-Some.ensures.steps c.loop-name.invariant.way c.in_err-write_line.ensures.did)

pub returns-clause-did : goal.returns-clause-did
returns-clause-did g c = ends _ _ _ _ _ _ _ c.in-None.ensures.steps.0 c.loop-name.invariant.way
