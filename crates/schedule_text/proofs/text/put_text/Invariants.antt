use Rattle.std.proofs.Common.{◌≡◌, ◌++◌, length}
use Rattle.schedule_text.specs.Text.{text_of}
use Rattle.schedule_text.proofs.text.put_text.Given as goal

abbrev pub invariant-loop-rest : goal.invariant-loop-rest
invariant-loop-rest l = l.out ++ text_of l.rest ≡ l.initial.out ++ text_of l.bytes

abbrev pub decreases-loop-rest : goal.decreases-loop-rest
decreases-loop-rest l = length l.rest
