-- Numbers as decimal text (RFC 9051, 9).
use Rattle.std.specs.Prelude.{ℕ, ◌+◌, ◌-◌, ◌*◌, ◌^◌, Bool, false, ◌&&◌, nat_lt, nat_le, if◌then◌else◌, List, [], ◌∷◌, Option}
use Rattle.std.specs.Prelude.{None, Some}
use Rattle.std.specs.List.{list_all}
use Rattle.mur_base.specs.Ascii.{digit_zero, digit_nine}

unfoldable pub is_digit : ℕ → Bool
is_digit b = nat_le digit_zero b && nat_le b digit_nine

-- the digits are written behind a number
unfoldable pub digits_behind : ℕ → List ℕ → ℕ
digits_behind n [] = n
digits_behind n (b ∷ text) = digits_behind (10 * n + (b - digit_zero)) text

-- one or more digits
unfoldable pub is_numeral : List ℕ → Bool
is_numeral [] = false
is_numeral (b ∷ text) = list_all is_digit (b ∷ text)

-- the number that a numeral of at most 64 bits writes; leading zeros are taken
unfoldable pub number_of : List ℕ → Option ℕ
number_of text =
    if is_numeral text then (if nat_lt (digits_behind 0 text) (2 ^ 64) then Some (digits_behind 0 text) else None) else None

-- a digit behind a number, where that is a digit and the number stays within 64 bits
unfoldable pub with_digit : ℕ → ℕ → Option ℕ
with_digit n b = if is_digit b && nat_lt (10 * n + (b - digit_zero)) (2 ^ 64) then Some (10 * n + (b - digit_zero)) else None
