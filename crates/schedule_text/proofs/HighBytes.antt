-- Texts whose bytes are none of the low ones: no space ends them, and no line.
use Rattle.std.proofs.Common.{◌≡◌, ℕ, ◌<◌, ◌≤◌, Bool, true, false, nat_eq, nat_le, List, [], ◌∷◌, ◌++◌, length, Option, None, Some, refl, ◌∙◌, arith}
use Rattle.std.specs.List.{list_all}
use Rattle.std.proofs.lemmas.Bool.{and_parts, and_from, or_from, leb-true, le-leb, ne_eqb}
use Rattle.std.proofs.lemmas.List.Folds.{list_all-append}
use Rattle.mur_base.specs.Ascii.{ends_with_cr}
use Rattle.mur_base.specs.Number.{number_of, is_numeral, is_digit}
use Rattle.schedule_text.specs.Spelled.{Lacks, IsWord}

-- no byte is below this one
abbrev pub AreFrom : ℕ → List ℕ → Type 0
AreFrom low text = list_all (nat_le low) text ≡ true

pub from_both : (low : ℕ) (one more : List ℕ) → AreFrom low one → AreFrom low more → AreFrom low (one ++ more)
from_both low one more h k = list_all-append (nat_le low) one more ∙ and_from (list_all (nat_le low) one) (list_all (nat_le low) more) h k

pub from_test : (low : ℕ) (test : ℕ → Bool) → ((b : ℕ) → test b ≡ true → low ≤ b) → (text : List ℕ) → list_all test text ≡ true → AreFrom low text
from_test low test above [] h = refl
from_test low test above (b ∷ text) h =
    let parts = and_parts (test b) (list_all test text) h in
    and_from (nat_le low b) (list_all (nat_le low) text) (le-leb low b (above b parts.0)) (from_test low test above text parts.1)

pub lacks_below : (low c : ℕ) → c < low → (text : List ℕ) → AreFrom low text → Lacks c text
lacks_below low c below [] h = refl
lacks_below low c below (b ∷ text) h =
    let parts = and_parts (nat_le low b) (list_all (nat_le low) text) h in
    or_from (nat_eq b c) _ (ne_eqb b c (λ same. omega (arith, leb-true low b parts.0, same, below))) (lacks_below low c below text parts.1)

pub no_cr : (text : List ℕ) → AreFrom 32 text → ends_with_cr text ≡ false
unfolding ends_with_cr
no_cr [] h = refl
no_cr (b ∷ []) h =
    let parts = and_parts (nat_le 32 b) true h in
    ne_eqb b 13 (λ same. omega (arith, leb-true 32 b parts.0, same))
no_cr (b ∷ next ∷ text) h = no_cr (next ∷ text) (and_parts (nat_le 32 b) (list_all (nat_le 32) (next ∷ text)) h).1

pub from_lower : (text : List ℕ) → AreFrom 33 text → AreFrom 32 text
from_lower text h = from_test 32 (nat_le 33) (λ b above. omega (arith, leb-true 33 b above)) text h

-- one or more bytes above a space
pub record IsHigh (text : List ℕ) : Type 0 where
  pub some : 0 < length text
  pub from : AreFrom 33 text

pub high_word : (text : List ℕ) → IsHigh text → IsWord text
high_word text h = record { some = h.some; whole = lacks_below 33 32 (omega arith) text h.from }

digit_from : (b : ℕ) → is_digit b ≡ true → 33 ≤ b
unfolding is_digit
digit_from b h = omega (arith, leb-true 48 b (and_parts (nat_le 48 b) (nat_le b 57) h).0)

numeral_high : (text : List ℕ) → is_numeral text ≡ true → IsHigh text
unfolding is_numeral
numeral_high [] h = cc
numeral_high (b ∷ text) h = record { some = omega arith; from = from_test 33 is_digit digit_from (b ∷ text) h }

number_by : (text : List ℕ) (n : ℕ) (numeral : Bool) → is_numeral text ≡ numeral → number_of text ≡ Some n → IsHigh text
unfolding number_of
number_by text n true e h = numeral_high text e
number_by text n false e h =
    let nothing : Option ℕ = None in
    let none : nothing ≡ Some n = rw e at h in cc

pub number_high : (text : List ℕ) (n : ℕ) → number_of text ≡ Some n → IsHigh text
number_high text n h = number_by text n _ refl h
