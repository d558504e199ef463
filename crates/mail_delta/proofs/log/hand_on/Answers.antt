use Rattle.std.proofs.Common.{refl, sym, ap, arith}
use Rattle.std.proofs.lemmas.Grind.{common_steps}
use Rattle.mail_delta.specs.declared.span.Span.{Span}
use Rattle.mail_delta.proofs.HandingLaws.{handed-some, handed-past, marks-set}
use Rattle.mail_delta.proofs.log.hand_on.Goals as goal

pub returns-in-Some-clause-spans : goal.returns-in-Some-clause-spans
returns-in-Some-clause-spans c =
    let within = c.in-Some.ensures.variant.0 refl in
    handed-some c.put_later.result c.args.notes.now c.put_later.new.notes c.args.spans.now.items c.args.place c.in-Some.span.now (omega (arith, within))
    c.in-Some.ensures.value c.put_later.ensures

pub returns-in-Some-clause-marks : goal.returns-in-Some-clause-marks
returns-in-Some-clause-marks c =
    let within = c.in-Some.ensures.variant.0 refl in
    let at = c.in-Some.ensures.value in
    marks-set c.args.spans.now.items c.args.place c.in-Some.span.now
    (record c.in-Some.span.now { before = c.put_later.new.notes }) (omega (arith, within)) (ap (λ (span : Span). span.mark) at)

pub returns-in-None-clause-spans : goal.returns-in-None-clause-spans
returns-in-None-clause-spans c =
    let past = c.in-None.ensures.variant.1 in
    sym (handed-past c.args.notes.now c.args.spans.now.items c.args.place (first_of (omega (arith, past), grind (arith, past, common_steps))))
