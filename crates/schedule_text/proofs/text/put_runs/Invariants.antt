use Rattle.std.proofs.Common.{◌≡◌, ◌≤◌, ◌++◌, take, slice_range}
use Rattle.schedule_text.specs.Text.{text_of}
use Rattle.schedule_text.proofs.text.put_runs.Given as goal

abbrev pub invariant-loop-at : goal.invariant-loop-at
invariant-loop-at l = record {
  behind : l.from ≤ l.at;
  put : l.out ++ slice_range l.bytes l.from l.at ≡ l.initial.out ++ text_of (take l.at l.bytes);
}
