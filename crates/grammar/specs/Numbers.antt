-- Numbers in decimal digits.
use Rattle.std.specs.Prelude.{ℕ, zero, suc, ◌+◌, ◌-◌, ◌*◌, ◌/◌, ◌%◌, Bool, true, ◌&&◌, ◌||◌, not, ◌==◌, nat_le, nat_lt, if◌then◌else◌}
use Rattle.std.specs.Prelude.{List, [], ◌∷◌, ◌++◌}
use Rattle.std.specs.List.{list_all}
use Rattle.mur_base.specs.Ascii.{digit_zero}
use Rattle.mur_base.specs.Number.{is_digit, digits_behind}
use Rattle.grammar.specs.Part.{Part, map}
use Rattle.grammar.specs.Words.{Words, word}
use Rattle.grammar.specs.Runs.{some}

-- the number that digits (DIGIT of RFC 5234, B.1) stand for
abbrev pub value_of : List ℕ → ℕ
value_of = digits_behind 0

-- no zero stands first
abbrev pub no_zero_first : List ℕ → Bool
no_zero_first [] = true
no_zero_first (c ∷ text) = not (c == digit_zero)

-- numerals of at most `most`; a zero stands first only where `zeros` is true
abbrev pub numerals : Bool → ℕ → Words
numerals zeros most = record {
  begins = λ s. list_all is_digit s && nat_le (value_of s) most && (zeros || no_zero_first s);
  whole = λ s. list_all is_digit s && nat_le (value_of s) most && (zeros || no_zero_first s) && some s;
}

-- a number of at most `most`
abbrev pub number : Bool → ℕ → Part ℕ
number zeros most = map value_of (word (numerals zeros most))

-- the digits of a number that is at most `most`, without a zero first
unfoldable pub digits_within : ℕ → ℕ → List ℕ
digits_within zero n = (digit_zero + n % 10) ∷ []
digits_within (suc most) n = if nat_lt n 10 then (digit_zero + n) ∷ [] else digits_within most (n / 10) ++ (digit_zero + n % 10) ∷ []

-- a number in decimal digits
unfoldable pub decimal_text : ℕ → List ℕ
decimal_text n = digits_within n n

-- behind digits that stand for n, the byte is a digit that keeps the number at `most` and is no zero that may not stand first
abbrev pub is_next_digit : Bool → ℕ → ℕ → Bool → ℕ → Bool
is_next_digit zeros most n first c = (is_digit c && nat_le (10 * n + (c - digit_zero)) most) && (zeros || not (first && (c == digit_zero)))
