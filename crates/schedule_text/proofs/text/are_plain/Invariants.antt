use Rattle.std.proofs.Common.{◌≡◌, take}
use Rattle.std.specs.Prelude.{IsTrue}
use Rattle.schedule_text.specs.Text.{text_of}
use Rattle.schedule_text.proofs.text.are_plain.Given as goal

abbrev pub invariant-loop-byte : goal.invariant-loop-byte
invariant-loop-byte l = IsTrue l.all → text_of (take l.byte-index l.bytes) ≡ take l.byte-index l.bytes
