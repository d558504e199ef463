use Rattle.std.proofs.Common.{rules, ◌≡◌, ℕ, List, Ok, length, ap, subst, arith}
use Rattle.schedule_text.specs.Meaning.{IsSchedule}
use Rattle.schedule_text.specs.Schedule.{schedule_of}
use Rattle.top_call.proofs.replay.schedule.Goals as goal

pub returns-in-Ok-read_schedule-clause-did : goal.returns-in-Ok-read_schedule-clause-did
returns-in-Ok-read_schedule-clause-did g c =
    let events = c.in-Ok-read_schedule.events in
    let right : schedule_of c.args.config.now c.in-Ok.text ≡ Ok events = search rules in
    record {
      text = c.in-Ok.text;
      reads = search rules;
      whole = omega (arith, c.in-Ok-read_schedule.ensures.short, ap length c.as_slice.ensures);
      right = right;
      means = subst (λ (text : List ℕ). IsSchedule c.args.config.now text events) c.as_slice.ensures c.in-Ok-read_schedule.ensures.spelled;
    }
