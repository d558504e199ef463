use Rattle.std.proofs.Common.{◌≡◌, List, [], drop, sym, subst, arith}
use Rattle.std.proofs.lemmas.Grind.{common_steps}
use Rattle.schedule_text.specs.declared.event.Event.{Event}
use Rattle.schedule_text.specs.Meaning.{IsSchedule}
use Rattle.schedule_text.specs.Printed.{schedule_text, AllReadBack}
use Rattle.schedule_text.proofs.PrintedLaws.{is_printed_schedule}
use Rattle.schedule_text.proofs.print.print_schedule.Goals as goal

pub returns-clause-read_back : goal.returns-clause-read_back
unfolding schedule_text AllReadBack
returns-clause-read_back c can =
    let done : drop c.loop-event.event-index c.args.events.now ≡ [] = grind (arith, common_steps) in
    let text : c.loop-event.out ≡ schedule_text c.args.events.now = grind (arith, common_steps) in
    let back : AllReadBack (drop c.loop-event.event-index c.args.events.now) = subst (λ (rest : List Event). AllReadBack rest) (sym done) tt in
    subst (λ t. IsSchedule c.args.config.now t c.args.events.now) (sym text)
    (is_printed_schedule c.args.config.now c.args.events.now (c.loop-event.invariant.read_back back) can)
