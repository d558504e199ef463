use Rattle.std.proofs.Common.{◌≡◌, ◌+◌, length, []}
use Rattle.schedule_text.specs.Cuts.{cuts_of, cuts_left}
use Rattle.schedule_text.specs.Schedule.{events_from}
use Rattle.schedule_text.specs.ScheduleOpened.{KnowsOpened}
use Rattle.schedule_text.proofs.schedule.read_schedule.Given as goal

abbrev pub invariant-loop-piece : goal.invariant-loop-piece
invariant-loop-piece l = record {
  opened : KnowsOpened l.so_far;
  count : l.number + length (cuts_left l.piece-iterator) ≡ length (cuts_of l.bytes);
  read : events_from l.config (l.number + 1) l.so_far.events (cuts_left l.piece-iterator) ≡ events_from l.config 1 [] (cuts_of l.bytes);
}
