-- What the code of numbers and texts rests on.
use Rattle.std.proofs.Common.{◌≡◌, ℕ, zero, suc, ◌+◌, ◌-◌, ◌%◌, ◌^◌, ◌<◌, ◌≤◌, List, [], ◌∷◌, ◌++◌, length, take, drop, get_or, Bool, true, Ok, Err, refl, sym, ap, ◌∙◌, arith, length-append}
use Rattle.std.proofs.Common.{Fits, w8, take-append-drop, length-drop}
use Rattle.std.proofs.lemmas.Bool.Decides.{nat_tests}
use Rattle.std.specs.Int.{w32, from_be_bytes, to_be_bytes}
use Rattle.std.specs.List.{list_all}
use Rattle.mur_base.specs.declared.home.Location.{Location}
use Rattle.grammar.specs.Part.{◌>>=◌, exactly}
use Rattle.grammar.proofs.Conditions.{and_both}
use Rattle.grammar.proofs.ExactlyLaw.{exactly_found, exactly_stops}
use Rattle.grammar.proofs.RunLaw.{all_front}
use Rattle.text_parts.specs.Locations.{location_text}
use Rattle.node_record.specs.Parts.{is_byte, number, number_text}

bytes_pass : (bytes : List ℕ) → ((k : ℕ) → Fits w8 (get_or bytes k 0)) → list_all is_byte bytes ≡ true
bytes_pass [] small = refl
bytes_pass (c ∷ bytes) small =
    let first : c < 256 = omega (arith, small 0) in
    and_both (is_byte c) (list_all is_byte bytes) (grind (arith, nat_tests, first)) (bytes_pass bytes (λ k. small (suc k)))

front_pass : (n : ℕ) (bytes : List ℕ) → list_all is_byte bytes ≡ true → list_all is_byte (take n bytes) ≡ true
front_pass n bytes h = all_front is_byte (take n bytes) (drop n bytes) (ap (list_all is_byte) (take-append-drop n bytes) ∙ h)

pub number_found : (bytes : List ℕ) → ((k : ℕ) → Fits w8 (get_or bytes k 0)) → 4 ≤ length bytes
    → number.part.at bytes ≡ Ok (from_be_bytes w32 (take 4 bytes), drop 4 bytes)
number_found bytes small there =
    ap (λ r. r >>= (λ (s rest : List ℕ). Ok (from_be_bytes w32 s, rest))) (exactly_found is_byte 4 bytes there (front_pass 4 bytes (bytes_pass bytes small)))

pub number_stops : (bytes : List ℕ) → ((k : ℕ) → Fits w8 (get_or bytes k 0)) → length bytes < 4 → number.part.at bytes ≡ Err 0
number_stops bytes small short =
    let none : length bytes - length bytes ≡ 0 = omega arith in
    ap (λ r. r >>= (λ (s rest : List ℕ). Ok (from_be_bytes w32 s, rest)))
    (exactly_stops is_byte 4 (length bytes) bytes short (omega arith) (front_pass (length bytes) bytes (bytes_pass bytes small)) (λ less. absurd (omega (arith, less)))
    ∙ ap (λ (n : ℕ). Err n) none)

-- the text of a number below 2 ^ 32 is its bytes
pub number_bytes : (n : ℕ) → n < 2 ^ 32 → number_text n ≡ to_be_bytes w32 n
unfolding number_text
number_bytes n small = let same : n % 2 ^ 32 ≡ n = omega (arith, small) in ap (to_be_bytes w32) same

pub number_rest : (n : ℕ) → number_text (n % 2 ^ 32) ≡ number_text n
unfolding number_text
number_rest n = let same : (n % 2 ^ 32) % 2 ^ 32 ≡ n % 2 ^ 32 = omega arith in ap (to_be_bytes w32) same

pub place_length : (it : Location) → length it.server + length it.partition + 1 ≡ length (location_text it)
place_length it = omega (arith, length-append it.server (33 ∷ it.partition))

four : (bytes : List ℕ) → 4 ≤ length bytes → take 4 bytes ≡ get_or bytes 0 0 ∷ get_or bytes 1 0 ∷ get_or bytes 2 0 ∷ get_or bytes 3 0 ∷ []
four [] there = absurd (omega arith)
four (a ∷ []) there = absurd (omega arith)
four (a ∷ b ∷ []) there = absurd (omega arith)
four (a ∷ b ∷ c ∷ []) there = absurd (omega arith)
four (a ∷ b ∷ c ∷ d ∷ rest) there = refl

-- the number that the first four bytes are
number_gives : (bytes : List ℕ) → ((k : ℕ) → Fits w8 (get_or bytes k 0)) → (n : ℕ) → 4 ≤ length bytes
    → n ≡ from_be_bytes w32 (get_or bytes 0 0 ∷ get_or bytes 1 0 ∷ get_or bytes 2 0 ∷ get_or bytes 3 0 ∷ []) → number.part.at bytes ≡ Ok (n, drop 4 bytes)
number_gives bytes small n there is =
    number_found bytes small there ∙ ap (λ (m : ℕ). Ok (m, drop 4 bytes)) (ap (from_be_bytes w32) (four bytes there) ∙ sym is)

whole : (n : ℕ) (l : List ℕ) → length l ≡ n → take n l ≡ l
whole zero [] e = refl
whole zero (c ∷ l) e = absurd (omega (arith, e))
whole (suc n) [] e = absurd (omega (arith, e))
whole (suc n) (c ∷ l) e = ap (λ (t : List ℕ). c ∷ t) (whole n l (omega (arith, e)))

pub number_read : (bytes : List ℕ) → ((k : ℕ) → Fits w8 (get_or bytes k 0)) → (n : ℕ) → 4 ≤ length bytes
    → n ≡ from_be_bytes w32 (get_or bytes 0 0 ∷ get_or bytes 1 0 ∷ get_or bytes 2 0 ∷ get_or bytes 3 0 ∷ [])
    → number.part.at bytes ≡ Ok (n, take (length bytes - 4) (drop 4 bytes))
number_read bytes small n there is =
    number_gives bytes small n there is ∙ ap (λ (rest : List ℕ). Ok (n, rest)) (sym (whole (length bytes - 4) (drop 4 bytes) (length-drop 4 bytes)))
