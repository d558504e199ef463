use Rattle.std.proofs.Common.{◌≡◌, length}
use Rattle.schedule_text.specs.Text.{bytes_of, bytes_spelled_from, bytes_onto, IsSpelling}
use Rattle.schedule_text.proofs.text.read_text.Given as goal

abbrev pub invariant-loop-rest : goal.invariant-loop-rest
invariant-loop-rest l = record {
  place : IsSpelling l.place;
  spelled : bytes_onto l.bytes (bytes_spelled_from l.rest l.place) ≡ bytes_of l.text;
}

abbrev pub decreases-loop-rest : goal.decreases-loop-rest
decreases-loop-rest l = length l.rest
