use Rattle.std.proofs.Common.{◌≡◌, length, map, drop}
use Rattle.schedule_text.specs.ScheduleWords.{arguments_in, with_arguments}
use Rattle.schedule_text.proofs.schedule.words.arguments_in.Given as goal

abbrev pub invariant-loop-kind : goal.invariant-loop-kind
invariant-loop-kind l = record {
  read :
      with_arguments (map (λ argument. argument.now) l.arguments.items) (arguments_in (drop l.kind-index l.kinds) l.left)
      ≡ arguments_in l.kinds l.rest;
  count : length l.arguments.items ≡ l.kind-index;
}
