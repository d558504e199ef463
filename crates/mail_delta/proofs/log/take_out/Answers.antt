use Rattle.std.proofs.Common.{refl, sym, arith}
use Rattle.std.proofs.lemmas.Grind.{common_steps}
use Rattle.mail_delta.proofs.HandingLaws.{taken-some, taken-past}
use Rattle.mail_delta.proofs.log.take_out.Goals as goal

pub returns-in-Some-clause-spans : goal.returns-in-Some-clause-spans
returns-in-Some-clause-spans c =
    let within = c.in-Some.ensures.variant.0 refl in
    taken-some c.hand_on.result c.args.spans.now.items c.hand_on.new.spans.items c.args.place c.in-Some.span (omega (arith, within)) c.in-Some.ensures.value
    (rw (← c.in-Some.ensures.items) c.hand_on.ensures.spans)

pub returns-in-None-clause-spans : goal.returns-in-None-clause-spans
returns-in-None-clause-spans c =
    let past = c.in-None.ensures.variant.1 in
    let same = c.in-None.ensures.unchanged in
    rw same (sym (taken-past c.args.spans.now.items c.args.place (first_of (omega (arith, past), grind (arith, past, common_steps)))))
