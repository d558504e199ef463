use Rattle.std.proofs.Common.{true, false, sym, ◌∙◌, arith}
use Rattle.std.proofs.lemmas.Bool.Decides.{nat_tests}
use Rattle.mail_delta.proofs.LoopLaws.{since-step}
use Rattle.mail_delta.proofs.log.ChangeLog.notes_since.Goals.{in-Some+in_ok-put_earlier+else-span-mark, in_default}
use Rattle.mail_delta.proofs.log.ChangeLog.notes_since.Goals as goal

pub returns-then-span-mark : goal.returns-then-span-mark
returns-then-span-mark c = λ uid now.
    let same = c.if-span-mark.true in
    sym (since-step c.args.mark.0 c.args.self.now.spans c.loop-place.place c.in-Some.span.now c.loop-place.notes c.put_earlier.new.notes true (rw (← c.self.view_is) (omega arith))
    (rw (← c.self.view_is) c.in-Some.ensures.lookup) (grind (arith, nat_tests, same)) c.in_ok-put_earlier.ensures.notes
    c.in_ok-put_earlier.ensures.ordered uid now)
    ∙ c.loop-place.invariant uid now

pub loop-place-preserved : goal.loop-place-preserved
loop-place-preserved c =
    elim c.match-get.branch [
      | in-Some+in_ok-put_earlier+else-span-mark w ↦ λ uid now.
          let apart = w.if-span-mark.false in
          sym (since-step c.args.mark.0 c.args.self.now.spans c.loop-place.place w.in-Some.span.now c.loop-place.notes c.match-get.notes false (rw (← c.self.view_is) (omega arith))
          (rw (← c.self.view_is) w.in-Some.ensures.lookup) (grind (arith, nat_tests, apart))
          (w.notes-is ∙ w.in_ok-put_earlier.ensures.notes) w.in_ok-put_earlier.ensures.ordered uid now)
          ∙ c.loop-place.invariant uid now
      | in_default w ↦ let never = w.in_default.ensures.variant.1 (omega arith) in cc
    ]
