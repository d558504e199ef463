-- The canonical text of bytes is read back as those bytes.
use Rattle.std.proofs.Common.{◌≡◌, ℕ, suc, ◌+◌, ◌*◌, ◌/◌, ◌%◌, ◌<◌, Bool, true, false, nat_eq, List, [], ◌∷◌, ◌++◌, get_or, Fits, w8, Option, None, Some, refl}
use Rattle.std.proofs.Common.{sym, ap, ◌∙◌, append_assoc, arith}
use Rattle.std.proofs.lemmas.Bool.{eqb-true}
use Rattle.std.proofs.lemmas.Bool.Decides.{nat_tests}
use Rattle.schedule_text.specs.declared.text.Spelling.TheVariants.{Between}
use Rattle.schedule_text.specs.Text.{bytes_of, bytes_spelled_from, bytes_onto, with_byte, character_at, text_of, spelling_of, is_printed, hex_digit}
use Rattle.schedule_text.specs.Text.{hex_value, between_spellings, behind_escape, first_digit, second_digit}

pub bytes_onto_none : (bytes : Option (List ℕ)) → bytes_onto [] bytes ≡ bytes
unfolding bytes_onto
bytes_onto_none None = refl
bytes_onto_none (Some bytes) = refl

pub bytes_onto_byte : (before : List ℕ) (b : ℕ) (bytes : Option (List ℕ)) → bytes_onto before (with_byte b bytes) ≡ bytes_onto (before ++ b ∷ []) bytes
unfolding bytes_onto with_byte
bytes_onto_byte before b None = refl
bytes_onto_byte before b (Some bytes) = ap Some (sym (append_assoc before (b ∷ []) bytes))

with_bytes : (b : ℕ) (bytes : List ℕ) (more : Option (List ℕ)) → with_byte b (bytes_onto bytes more) ≡ bytes_onto (b ∷ bytes) more
unfolding bytes_onto with_byte
with_bytes b bytes None = refl
with_bytes b bytes (Some more) = refl

-- bytes onto bytes
pub bytes_onto_bytes : (before bytes : List ℕ) (more : Option (List ℕ)) → bytes_onto before (bytes_onto bytes more) ≡ bytes_onto (before ++ bytes) more
unfolding bytes_onto
bytes_onto_bytes before bytes None = refl
bytes_onto_bytes before bytes (Some more) = ap Some (sym (append_assoc before bytes more))

hex_value-digit : (d : ℕ) → d < 16 → hex_value (hex_digit d) ≡ Some d
unfolding hex_value hex_digit
hex_value-digit d h = grind (arith, nat_tests)

hex_behind : (b : ℕ) (rest : List ℕ) → b < 256
    → bytes_spelled_from (92 ∷ 120 ∷ hex_digit (b / 16) ∷ hex_digit (b % 16) ∷ rest) Between ≡ with_byte b (bytes_spelled_from rest Between)
unfolding bytes_spelled_from character_at between_spellings behind_escape first_digit second_digit
hex_behind b rest h =
    let high = hex_value-digit (b / 16) (omega arith) in
    let low = hex_value-digit (b % 16) (omega arith) in
    let whole : 16 * (b / 16) + b % 16 ≡ b = omega arith in
    rw (high, low, whole) refl

-- the tests of a spelling, in order
spelling_by : (b : ℕ) (rest : List ℕ) → b < 256 → (escape printed return feed : Bool) → nat_eq b 92 ≡ escape → is_printed b ≡ printed
    → nat_eq b 13 ≡ return → nat_eq b 10 ≡ feed
    → bytes_spelled_from (spelling_of b ++ rest) Between ≡ with_byte b (bytes_spelled_from rest Between)
unfolding bytes_spelled_from character_at between_spellings behind_escape spelling_of
spelling_by b rest h true printed return feed e p r f = rw (e) (ap (λ (x : ℕ). with_byte x (bytes_spelled_from rest Between)) (sym (eqb-true b 92 e)))
spelling_by b rest h false true return feed e p r f = rw (e, p, e, p) refl
spelling_by b rest h false false true feed e p r f = rw (e, p, r) (ap (λ (x : ℕ). with_byte x (bytes_spelled_from rest Between)) (sym (eqb-true b 13 r)))
spelling_by b rest h false false false true e p r f = rw (e, p, r, f) (ap (λ (x : ℕ). with_byte x (bytes_spelled_from rest Between)) (sym (eqb-true b 10 f)))
spelling_by b rest h false false false false e p r f = rw (e, p, r, f) (hex_behind b rest h)

pub spelling_behind : (b : ℕ) (rest : List ℕ) → b < 256 → bytes_spelled_from (spelling_of b ++ rest) Between ≡ with_byte b (bytes_spelled_from rest Between)
spelling_behind b rest h = spelling_by b rest h (nat_eq b 92) (is_printed b) (nat_eq b 13) (nat_eq b 10) refl refl refl refl

pub bytes_of_text : (bytes : List ℕ) → ((k : ℕ) → Fits w8 (get_or bytes k 0)) → bytes_of (text_of bytes) ≡ Some bytes
unfolding text_of bytes_spelled_from with_byte
bytes_of_text [] small = refl
bytes_of_text (b ∷ bytes) small =
    spelling_behind b (text_of bytes) (omega (arith, small 0)) ∙ ap (with_byte b) (bytes_of_text bytes (λ k. small (suc k)))

-- what stands behind the canonical text of bytes is read as if it stood alone, behind these bytes
pub bytes_behind_text : (bytes more : List ℕ) → ((k : ℕ) → Fits w8 (get_or bytes k 0))
    → bytes_spelled_from (text_of bytes ++ more) Between ≡ bytes_onto bytes (bytes_spelled_from more Between)
unfolding text_of bytes_onto
bytes_behind_text [] more small = sym (bytes_onto_none (bytes_spelled_from more Between))
bytes_behind_text (b ∷ bytes) more small =
    rw (append_assoc (spelling_of b) (text_of bytes) more)
    (spelling_behind b (text_of bytes ++ more) (omega (arith, small 0)) ∙ ap (with_byte b) (bytes_behind_text bytes more (λ k. small (suc k)))
    ∙ with_bytes b bytes (bytes_spelled_from more Between))

-- a text in which each character stands for itself is read as itself
pub plain_read : (before text more : List ℕ) → ((k : ℕ) → Fits w8 (get_or text k 0)) → text_of text ≡ text
    → bytes_onto (before ++ text) (bytes_spelled_from more Between) ≡ bytes_onto before (bytes_spelled_from (text ++ more) Between)
plain_read before text more small plain =
    sym (ap (λ it. bytes_onto before (bytes_spelled_from (it ++ more) Between)) (sym plain)
    ∙ ap (bytes_onto before) (bytes_behind_text text more small)
    ∙ bytes_onto_bytes before text (bytes_spelled_from more Between))

pub ruleset by_reading = (bytes_onto_none, bytes_onto_byte)
