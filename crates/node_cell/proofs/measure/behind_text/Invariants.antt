use Rattle.std.proofs.Common.{◌≡◌, ◌+◌, length, drop}
use Rattle.schedule_text.specs.Text.{text_of}
use Rattle.node_cell.proofs.measure.behind_text.Given as goal

abbrev pub invariant-loop-byte : goal.invariant-loop-byte
invariant-loop-byte l = l.rest + length (text_of l.bytes) ≡ l.room + length (text_of (drop l.byte-index l.bytes))
