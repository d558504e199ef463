use Rattle.std.proofs.Common.{◌≡◌, ◌++◌, drop}
use Rattle.schedule_text.specs.Text.{name_text_of}
use Rattle.schedule_text.proofs.text.put_name_text.Given as goal

abbrev pub invariant-loop-byte : goal.invariant-loop-byte
invariant-loop-byte l = l.out ++ name_text_of (drop l.byte-index l.name) ≡ l.initial.out ++ name_text_of l.name
