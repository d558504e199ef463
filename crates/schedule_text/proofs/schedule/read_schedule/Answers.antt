use Rattle.std.proofs.Common.{◌≡◌, Ok, arith, rules}
use Rattle.std.proofs.lemmas.Grind.{common_steps}
use Rattle.schedule_text.specs.Schedule.{schedule_of, events_from}
use Rattle.schedule_text.specs.ScheduleRules.{IsReadAsSchedule}
use Rattle.schedule_text.proofs.CutLaws.{length-cuts}
use Rattle.schedule_text.proofs.ScheduleLaws.{schedule_fits}
use Rattle.schedule_text.proofs.MeaningLaws.{is_schedule, has_cause, taken_as}
use Rattle.schedule_text.proofs.schedule.read_schedule.Goals as goal

pub overflow_add-number : goal.overflow_add-number
overflow_add-number c = omega (arith, length-cuts c.args.bytes.now, c.loop-piece.invariant.count)

pub returns-clause-spelled : goal.returns-clause-spelled
unfolding schedule_of events_from
returns-clause-spelled c =
    let read : schedule_of c.args.config.now c.args.bytes.now ≡ Ok c.loop-piece.so_far.events = grind (arith, common_steps) in
    is_schedule _ _ _ read

pub returns-in_err-take_schedule_line-clause-refused : goal.returns-in_err-take_schedule_line-clause-refused
unfolding schedule_of events_from
returns-in_err-take_schedule_line-clause-refused c =
    let read : IsReadAsSchedule (schedule_of c.args.config.now c.args.bytes.now) c.from_residual.result =
    first_of (search rules, grind (arith, common_steps)) in
    has_cause _ _ _ read

pub returns-in_err-take_schedule_line-clause-taken : goal.returns-in_err-take_schedule_line-clause-taken
unfolding schedule_of events_from
returns-in_err-take_schedule_line-clause-taken c =
    let read : IsReadAsSchedule (schedule_of c.args.config.now c.args.bytes.now) c.from_residual.result =
    first_of (search rules, grind (arith, common_steps)) in
    taken_as _ _ _ read

pub returns-clause-taken : goal.returns-clause-taken
unfolding schedule_of events_from
returns-clause-taken c =
    let read : schedule_of c.args.config.now c.args.bytes.now ≡ Ok c.loop-piece.so_far.events = grind (arith, common_steps) in
    taken_as _ _ (Ok c.loop-piece.so_far.events) read

pub returns-clause-fit : goal.returns-clause-fit
unfolding schedule_of events_from
returns-clause-fit c =
    let read : schedule_of c.args.config.now c.args.bytes.now ≡ Ok c.loop-piece.so_far.events = grind (arith, common_steps) in
    schedule_fits _ _ _ read

pub returns-clause-room : goal.returns-clause-room
unfolding schedule_of events_from
returns-clause-room c =
    let read : schedule_of c.args.config.now c.args.bytes.now ≡ Ok c.loop-piece.so_far.events = grind (arith, common_steps) in
    let fit = schedule_fits c.args.config.now c.args.bytes.now c.loop-piece.so_far.events read in
    record { steps = omega (arith, fit.steps); bytes = omega (arith, fit.bytes); conns = fit.conns }
