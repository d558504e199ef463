use Rattle.std.proofs.Common.{◌≡◌, ◌++◌, drop}
use Rattle.schedule_text.specs.Printed.{schedule_text, AllReadBack}
use Rattle.schedule_text.proofs.print.print_schedule.Given as goal

abbrev pub invariant-loop-event : goal.invariant-loop-event
invariant-loop-event l = record {
  written : l.out ++ schedule_text (drop l.event-index l.events) ≡ schedule_text l.events;
  read_back : AllReadBack (drop l.event-index l.events) → AllReadBack l.events;
}
