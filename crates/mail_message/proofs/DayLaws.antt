-- The numbers that the day of a date text has.
use Rattle.std.proofs.Common.{◌≡◌, ◌≤◌, ◌<◌, ℕ, suc, ◌+◌, Bool, true, false, not, ◌||◌, cond, ltb, List, [], ◌∷◌, length, Some, None, arith}
use Rattle.std.specs.List.{list_any, position_or_len}
use Rattle.std.proofs.lemmas.Bool.{false≢true, lt-ltb}
use Rattle.std.proofs.lemmas.Bool.Decides.{nat_tests}
use Rattle.mur_base.specs.Ascii.{digit_nine}
use Rattle.mail_message.specs.Word.{is_word}
use Rattle.mail_message.specs.Date.{is_day, is_below, is_month, months}
use Rattle.mail_message.specs.Days.{two_digits, number_behind, month_number}

pub day-tens : (tens ones : ℕ) → is_day tens ones ≡ true → tens ≤ digit_nine
unfolding is_day is_below
day-tens tens ones h = grind (arith, nat_tests, h)

pub day-ones : (tens ones : ℕ) → is_day tens ones ≡ true → ones ≤ digit_nine
unfolding is_day is_below
day-ones tens ones h = grind (arith, nat_tests, h)

pub day-least : (tens ones : ℕ) → is_day tens ones ≡ true → 1 ≤ two_digits tens ones
unfolding is_day is_below two_digits
day-least tens ones h = grind (arith, nat_tests, h)

pub day-greatest : (tens ones : ℕ) → is_day tens ones ≡ true → two_digits tens ones ≤ 31
unfolding is_day is_below two_digits
day-greatest tens ones h = grind (arith, nat_tests, h)

found_by : (n m : ℕ) (first rest : Bool) → (first || rest) ≡ true → (rest ≡ true → n < m) → cond (not first) (1 + n) 0 < suc m
found_by n m true rest h ih = omega arith
found_by n m false rest h ih = let below = ih h in omega (arith, below)

-- what a test finds stands at a place of the list
found : {X : Type 0} (p : X → Bool) (xs : List X) → list_any p xs ≡ true → position_or_len p xs < length xs
found p [] h = absurd (false≢true h)
found p (x ∷ xs) h = found_by (position_or_len p xs) (length xs) (p x) (list_any p xs) h (found p xs)

within : (n m : ℕ) → n < m → (1 ≤ number_behind (cond (ltb n m) (Some n) None)) × (number_behind (cond (ltb n m) (Some n) None) ≤ m)
within n m below = rw (lt-ltb n m below) (omega arith, omega (arith, below))

pub month-within : (text : List ℕ) → is_month text ≡ true → (1 ≤ month_number text) × (month_number text ≤ 12)
unfolding is_month month_number
month-within text h = within (position_or_len (λ month. is_word text month) months) 12 (found (λ month. is_word text month) months h)
