use Rattle.std.proofs.Common.{◌≡◌, ℕ, List, ◌++◌, drop}
use Rattle.schedule_text.specs.Text.{bytes_spelled_from, bytes_onto, IsSpelling}
use Rattle.schedule_text.proofs.text.read_characters.Given as goal

abbrev pub invariant-loop-character : goal.invariant-loop-character
invariant-loop-character l = record {
  place : IsSpelling l.place;
  spelled : (more : List ℕ)
      → bytes_onto l.bytes (bytes_spelled_from (drop l.character-index l.text ++ more) l.place)
      ≡ bytes_onto l.initial.bytes (bytes_spelled_from (l.text ++ more) l.initial.place);
}
