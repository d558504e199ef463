use Rattle.std.proofs.Common.{ℕ, Ok, inl, ap₂, subst}
use Rattle.mupdate_codec.specs.declared.command.MResponse.{MResponse}
use Rattle.mupdate_codec.specs.declared.tag.Tag.{Tag}
use Rattle.mupdate_codec.specs.Responses.{response_line}
use Rattle.mupdate_codec.specs.Told.{IsTold}
use Rattle.mupdate_codec.proofs.FaultSteps.{more_is, bad_is, waits_is}
use Rattle.mupdate_codec.proofs.LinesLaw.{law_response_line}
use Rattle.mupdate_codec.proofs.ReadsLaw.{ok_line, ok_size, ok_only, ok_not_begun, err_no_line, err_begun, err_waits, err_not_begun, err_size, err_told}
use Rattle.mupdate_codec.proofs.ToldLines.{told_response_line}
use Rattle.mupdate_codec.proofs.reader.read_response.Goals as goal

pub overflow_sub-used : goal.overflow_sub-used
overflow_sub-used c =
    ok_size response_line law_response_line told_response_line c.args.bytes.now c.in-Ok.tagged c.in-Ok.rest.now c.in-Ok.ensures

pub returns-in-Ok-clause-line : goal.returns-in-Ok-clause-line
returns-in-Ok-clause-line c =
    ok_line response_line law_response_line told_response_line c.args.bytes.now c.in-Ok.tagged c.in-Ok.rest.now c.in-Ok.ensures

pub returns-in-Ok-clause-only : goal.returns-in-Ok-clause-only
returns-in-Ok-clause-only c = λ line rest it parts whole.
    let one = ok_only response_line law_response_line told_response_line c.args.bytes.now c.in-Ok.tagged it c.in-Ok.rest.now line rest c.in-Ok.ensures
    parts whole in
    inl (ap₂ (λ (x : Tag × MResponse) (n : ℕ). Ok (x.0, x.1, n)) one.0 one.1)

pub returns-in-Ok-clause-waits : goal.returns-in-Ok-clause-waits
returns-in-Ok-clause-waits c = λ begun.
    absurd (ok_not_begun response_line law_response_line told_response_line c.args.bytes.now c.in-Ok.tagged c.in-Ok.rest.now c.in-Ok.ensures begun)

pub fault_of-requires : goal.fault_of-requires
fault_of-requires c =
    err_size response_line law_response_line told_response_line c.args.bytes.now c.in-Err-Stopped.stop.left (c.in-Err-Stopped.ensures c.in-Err-Stopped.stop (cc))

pub returns-in-Err-Stopped-clause-only : goal.returns-in-Err-Stopped-clause-only
returns-in-Err-Stopped-clause-only c = λ line rest it parts whole.
    absurd (err_no_line response_line law_response_line told_response_line c.args.bytes.now c.in-Err-Stopped.stop.left
    (c.in-Err-Stopped.ensures c.in-Err-Stopped.stop (cc)) (record { line = line; rest = rest; value = it; parts = parts; whole = whole }))

pub returns-in-Err-Stopped-clause-more : goal.returns-in-Err-Stopped-clause-more
returns-in-Err-Stopped-clause-more c = λ e.
    err_begun response_line law_response_line told_response_line c.args.bytes.now c.in-Err-Stopped.stop.left
    (c.in-Err-Stopped.ensures c.in-Err-Stopped.stop (cc)) (more_is _ _ c.fault_of.result c.fault_of.ensures e)

pub returns-in-Err-Stopped-clause-waits : goal.returns-in-Err-Stopped-clause-waits
returns-in-Err-Stopped-clause-waits c = λ begun.
    inl (waits_is _ _ c.fault_of.result c.fault_of.ensures
    (err_waits response_line law_response_line told_response_line c.args.bytes.now c.in-Err-Stopped.stop.left
    (c.in-Err-Stopped.ensures c.in-Err-Stopped.stop (cc)) begun))

pub returns-in-Err-Stopped-clause-bad : goal.returns-in-Err-Stopped-clause-bad
returns-in-Err-Stopped-clause-bad c = λ at e.
    let stop = c.in-Err-Stopped.ensures c.in-Err-Stopped.stop (cc) in
    let bad = bad_is _ _ c.fault_of.result c.fault_of.ensures at e in
    record {
      no_line = err_no_line response_line law_response_line told_response_line c.args.bytes.now c.in-Err-Stopped.stop.left stop;
      none_begun = err_not_begun response_line law_response_line told_response_line c.args.bytes.now c.in-Err-Stopped.stop.left stop bad.0;
    }

pub returns-in-Err-Stopped-clause-place : goal.returns-in-Err-Stopped-clause-place
returns-in-Err-Stopped-clause-place c = λ at e.
    let bad = bad_is _ _ c.fault_of.result c.fault_of.ensures at e in
    subst (IsTold response_line c.args.bytes.now) bad.1
    (err_told response_line law_response_line told_response_line c.args.bytes.now c.in-Err-Stopped.stop.left (c.in-Err-Stopped.ensures c.in-Err-Stopped.stop (cc)))
