-- What is printed of bytes, and of a name, is read back as these bytes.
use Rattle.std.proofs.Common.{◌≡◌, ℕ, suc, ◌^◌, ◌<◌, Bool, true, false, nat_eq, List, [], ◌∷◌, ◌++◌, get_or, Some, refl}
use Rattle.std.proofs.Common.{sym, ap, ◌∙◌, arith}
use Rattle.std.specs.List.{flat_map}
use Rattle.std.proofs.lemmas.Bool.{eqb-true}
use Rattle.schedule_text.specs.declared.text.Spelling.TheVariants.{Between}
use Rattle.schedule_text.specs.Text.{bytes_of, bytes_spelled_from, with_byte, character_at, text_of, name_text_of, spelling_of, name_spelling_of, is_printed}
use Rattle.schedule_text.specs.Text.{hex_value, between_spellings, behind_escape, first_digit, second_digit}
use Rattle.schedule_text.proofs.TextLaws.{spelling_behind}

-- in front of any text a spelling is read as its byte
abbrev ReadsAs : List ℕ → ℕ → Type 0
ReadsAs spelling b = (rest : List ℕ) → bytes_spelled_from (spelling ++ rest) Between ≡ with_byte b (bytes_spelled_from rest Between)

spelling_read : (b : ℕ) → b < 256 → ReadsAs (spelling_of b) b
spelling_read b h rest = spelling_behind b rest h

name_spelling_by : (b : ℕ) (rest : List ℕ) → b < 256 → (space : Bool) → nat_eq b 32 ≡ space
    → bytes_spelled_from (name_spelling_of b ++ rest) Between ≡ with_byte b (bytes_spelled_from rest Between)
unfolding bytes_spelled_from character_at between_spellings behind_escape first_digit second_digit name_spelling_of hex_value is_printed
name_spelling_by b rest h true e = rw e (ap (λ (x : ℕ). with_byte x (bytes_spelled_from rest Between)) (sym (eqb-true b 32 e)))
name_spelling_by b rest h false e = rw e (spelling_read b h rest)

name_spelling_read : (b : ℕ) → b < 256 → ReadsAs (name_spelling_of b) b
name_spelling_read b h rest = name_spelling_by b rest h (nat_eq b 32) refl

all_read : (spelling : ℕ → List ℕ) → ((b : ℕ) → b < 256 → ReadsAs (spelling b) b) → (bytes : List ℕ) → ((k : ℕ) → get_or bytes k 0 < 2 ^ 8)
    → bytes_of (flat_map spelling bytes) ≡ Some bytes
unfolding bytes_spelled_from with_byte
all_read spelling reads [] small = refl
all_read spelling reads (b ∷ bytes) small =
    reads b (omega (arith, small 0)) (flat_map spelling bytes) ∙ ap (with_byte b) (all_read spelling reads bytes (λ k. small (suc k)))

pub text_read : (bytes : List ℕ) → ((k : ℕ) → get_or bytes k 0 < 2 ^ 8) → bytes_of (text_of bytes) ≡ Some bytes
unfolding text_of
text_read bytes small = all_read spelling_of spelling_read bytes small

pub name_text_read : (bytes : List ℕ) → ((k : ℕ) → get_or bytes k 0 < 2 ^ 8) → bytes_of (name_text_of bytes) ≡ Some bytes
unfolding name_text_of
name_text_read bytes small = all_read name_spelling_of name_spelling_read bytes small
