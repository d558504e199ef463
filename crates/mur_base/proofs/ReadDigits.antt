-- Reading digits one by one within 64 bits gives the number of the whole text.
use Rattle.std.proofs.Common.{◌≡◌, ℕ, ◌+◌, ◌-◌, ◌*◌, ◌^◌, ◌<◌, ◌≤◌, Bool, true, false, cond, nat_lt, List, [], ◌∷◌}
use Rattle.std.proofs.Common.{length, Option, None, Some, refl, sym, ◌∙◌, arith}
use Rattle.std.specs.List.{list_all}
use Rattle.std.proofs.lemmas.Bool.Decides.{nat_tests}
use Rattle.mur_base.specs.Number.{is_digit, digits_behind, is_numeral, number_of, with_digit}

-- the digits that are left, behind what was read
unfoldable pub read_behind : Option ℕ → List ℕ → Option ℕ
read_behind None text = None
read_behind (Some n) [] = Some n
read_behind (Some n) (b ∷ text) = read_behind (with_digit n b) text

-- the number of digits behind a number, within 64 bits
number_behind : ℕ → List ℕ → Option ℕ
number_behind n text = cond (list_all is_digit text) (cond (nat_lt (digits_behind n text) (2 ^ 64)) (Some (digits_behind n text)) None) None

-- digits only add
digits_behind-grows : (text : List ℕ) (n : ℕ) → n ≤ digits_behind n text
unfolding digits_behind
digits_behind-grows [] n = omega arith
digits_behind-grows (b ∷ text) n = omega (arith, digits_behind-grows text (10 * n + (b - 48)))

too_great : (text : List ℕ) (n : ℕ) → 2 ^ 64 ≤ n → number_behind n text ≡ None
unfolding number_behind
too_great text n h = let g = digits_behind-grows text n in grind (arith, nat_tests)

pub read_behind-none : (text : List ℕ) → read_behind None text ≡ None
unfolding read_behind
read_behind-none [] = refl
read_behind-none (b ∷ text) = refl

read_by : (b : ℕ) (text : List ℕ) (n : ℕ) → ((m : ℕ) → m < 2 ^ 64 → read_behind (Some m) text ≡ number_behind m text)
    → (digit fits : Bool) → is_digit b ≡ digit → nat_lt (10 * n + (b - 48)) (2 ^ 64) ≡ fits
    → read_behind (with_digit n b) text ≡ number_behind n (b ∷ text)
unfolding number_behind with_digit digits_behind
read_by b text n ih false fits d f = rw d (read_behind-none text)
read_by b text n ih true true d f = rw (d, f) (ih (10 * n + (b - 48)) (grind (arith, nat_tests)))
read_by b text n ih true false d f = rw (d, f) (read_behind-none text ∙ sym (too_great text (10 * n + (b - 48)) (grind (arith, nat_tests))))

read_behind-is : (text : List ℕ) (n : ℕ) → n < 2 ^ 64 → read_behind (Some n) text ≡ number_behind n text
unfolding read_behind number_behind digits_behind
read_behind-is [] n h = grind (arith, nat_tests)
read_behind-is (b ∷ text) n h = read_by b text n (read_behind-is text) (is_digit b) (nat_lt (10 * n + (b - 48)) (2 ^ 64)) refl refl

pub number_of-read : (text : List ℕ) → 0 < length text → number_of text ≡ read_behind (Some 0) text
unfolding number_of is_numeral number_behind
number_of-read [] h = absurd (omega arith)
number_of-read (b ∷ text) h = sym (read_behind-is (b ∷ text) 0 (omega arith))

pub number_of-empty : (text : List ℕ) → length text ≡ 0 → number_of text ≡ None
unfolding number_of is_numeral
number_of-empty [] h = refl
number_of-empty (b ∷ text) h = absurd (omega arith)

pub ruleset by_reading = (number_of-read, number_of-empty, read_behind-none)
