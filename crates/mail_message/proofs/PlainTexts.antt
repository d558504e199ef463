-- Texts in which no line ends: numbers, keywords, dates.
use Rattle.std.proofs.Common.{◌≡◌, ℕ, zero, suc, ◌-◌, ◌≤◌, ◌/◌, ◌%◌, ◌==◌, Bool, true, false, not, cond, arith}
use Rattle.std.proofs.Common.{List, [], ◌∷◌, ◌++◌, length, take, drop, map, Some, None, refl, sym, ap, ◌∙◌, subst}
use Rattle.std.specs.Prelude.{nat_lt, slice_index, slice_range}
use Rattle.std.specs.Char.{to_ascii_lowercase, is_ascii_digit}
use Rattle.std.specs.Fmt.{digits, digits_onto, digit_glyph, decimal}
use Rattle.std.specs.List.{list_all, list_any, AllByRecursion}
use Rattle.std.proofs.lemmas.Bool.{and_parts, or_cases, eqb-true}
use Rattle.std.proofs.lemmas.Bool.Decides.{nat_tests}
use Rattle.std.proofs.lemmas.List.{take-append-drop, drop_all, drop-drop, length-take}
use Rattle.std.proofs.lemmas.List.Folds.{list_all-append}
use Rattle.std.proofs.lemmas.Slice.Eq.{bytes_eq-Decides}
use Rattle.std.proofs.Math.Logic.{⊎_elim}
use Rattle.mur_base.specs.Number.{is_digit}
use Rattle.mur_base.specs.declared.limits.TheConstants.{KEYWORD_LIMIT}
use Rattle.mur_base.specs.declared.name.NameFault.TheVariants.{Empty, TooLong, BadByte}
use Rattle.mail_message.specs.Date.{is_date, is_calendar, is_clock, is_zone, is_day, is_month, is_below, months}
use Rattle.mail_message.specs.Keywords.{keyword_fault, has_atom_bytes, is_atom_byte}
use Rattle.mail_message.specs.Literals.{is_within, IsPlain}
use Rattle.mail_message.specs.Word.{is_word}

pub all_append : (p : ℕ → Bool) (s t : List ℕ) → list_all p s ≡ true → list_all p t ≡ true → list_all p (s ++ t) ≡ true
all_append p s t one other = rw (list_all-append p s t, one, other) refl

pub all_weaker : (p q : ℕ → Bool) → ((c : ℕ) → p c ≡ true → q c ≡ true) → (text : List ℕ) → list_all p text ≡ true → list_all q text ≡ true
all_weaker p q weaker [] all = refl
all_weaker p q weaker (c ∷ text) all =
    let both = and_parts (p c) (list_all p text) all in
    rw (weaker c both.0, all_weaker p q weaker text both.1) refl

pub one_of : (p : ℕ → Bool) (b : Bool) (s t : List ℕ) → list_all p s ≡ true → list_all p t ≡ true → list_all p (cond b s t) ≡ true
one_of p true s t one other = one
one_of p false s t one other = other

-- ---- numbers

digit_is : (n : ℕ) → is_digit (digit_glyph false (n % 10)) ≡ true
unfolding is_digit
digit_is n = grind (arith, nat_tests)

digits_onto_all : (k n : ℕ) (behind : List ℕ) → list_all is_digit behind ≡ true → list_all is_digit (digits_onto k 10 false n behind) ≡ true
digits_onto_all zero n behind all = all
digits_onto_all (suc k) n behind all =
    let digit = digit_glyph false (n % 10) in
    let more : list_all is_digit (digit ∷ behind) ≡ true = rw (digit_is n, all) refl in
    one_of is_digit (n / 10 == 0) (digit ∷ behind) (digits_onto k 10 false (n / 10) (digit ∷ behind)) more
    (digits_onto_all k (n / 10) (digit ∷ behind) more)

pub decimal_digits : (n : ℕ) → list_all is_digit (decimal n) ≡ true
unfolding digits
decimal_digits n = digits_onto_all 64 n [] refl

digit_within : (c : ℕ) → is_digit c ≡ true → is_within c ≡ true
unfolding is_digit
digit_within c h = grind (arith, nat_tests, h)

pub digits_plain : (text : List ℕ) → list_all is_digit text ≡ true → IsPlain text
digits_plain text all = all_weaker is_digit is_within digit_within text all

pub decimal_plain : (n : ℕ) → IsPlain (decimal n)
decimal_plain n = digits_plain (decimal n) (decimal_digits n)

-- ---- keywords

atom_byte_within : (c : ℕ) → is_atom_byte c ≡ true → is_within c ≡ true
unfolding is_atom_byte
atom_byte_within c h = grind (arith, nat_tests, h)

last_rule : (x y z : Bool) → cond x (Some Empty) (cond y (Some TooLong) (cond (not z) (Some BadByte) None)) ≡ None → z ≡ true
last_rule x y true h = refl
last_rule true y false h = cc
last_rule false true false h = cc
last_rule false false false h = cc

pub keyword_plain : (keyword : List ℕ) → keyword_fault keyword ≡ None → IsPlain keyword
unfolding keyword_fault has_atom_bytes
keyword_plain keyword h =
    all_weaker is_atom_byte is_within atom_byte_within keyword
    (last_rule (length keyword == 0) (nat_lt KEYWORD_LIMIT (length keyword)) (list_all is_atom_byte keyword) h)

-- ---- dates

lower_within : (c : ℕ) → is_within (to_ascii_lowercase c) ≡ true → is_within c ≡ true
lower_within c h = grind (arith, nat_tests, h)

lower_plain : (text : List ℕ) → IsPlain (map to_ascii_lowercase text) → IsPlain text
lower_plain [] plain = refl
lower_plain (c ∷ text) plain =
    let both = and_parts (is_within (to_ascii_lowercase c)) (list_all is_within (map to_ascii_lowercase text)) plain in
    rw (lower_within c both.0, lower_plain text both.1) refl

-- a text that is one of some words in any case
word_plain : (text : List ℕ) (words : List (List ℕ)) → AllByRecursion (λ word. IsPlain (map to_ascii_lowercase word)) words
    → list_any (λ word. is_word text word) words ≡ true → IsPlain text
word_plain text [] all any = cc
word_plain text (word ∷ words) all any =
    ⊎_elim
    (λ is. lower_plain text (subst IsPlain (sym ((bytes_eq-Decides (map to_ascii_lowercase text) (map to_ascii_lowercase word)).0 is)) all.0))
    (λ rest. word_plain text words all.1 rest) (or_cases (is_word text word) (list_any (λ word. is_word text word) words) any)

month_plain : (text : List ℕ) → is_month text ≡ true → IsPlain text
unfolding is_month
month_plain text h = word_plain text months (refl, (refl, (refl, (refl, (refl, (refl, (refl, (refl, (refl, (refl, (refl, (refl, tt)))))))))))) h

numeral_within : (c : ℕ) → is_ascii_digit c ≡ true → is_within c ≡ true
numeral_within c h = grind (arith, nat_tests, h)

numerals_plain : (text : List ℕ) → list_all is_ascii_digit text ≡ true → IsPlain text
numerals_plain text all = all_weaker is_ascii_digit is_within numeral_within text all

-- a byte of a text, and what stands behind it
byte_plain : (i : ℕ) (text : List ℕ) → is_within (slice_index text i) ≡ true → IsPlain (drop (suc i) text) → IsPlain (drop i text)
byte_plain zero [] h rest = refl
byte_plain zero (c ∷ text) h rest = rw h rest
byte_plain (suc i) [] h rest = refl
byte_plain (suc i) (c ∷ text) h rest = byte_plain i text h rest

-- some bytes of a text, and what stands behind them
bytes_plain : (from to : ℕ) (text : List ℕ) → IsPlain (slice_range text from to) → IsPlain (drop to text) → from ≤ to → IsPlain (drop from text)
bytes_plain from to text some rest le =
    let joined : drop (to - from) (drop from text) ≡ drop to text = drop-drop (to - from) from text ∙ ap (λ n. drop n text) (omega (arith, le)) in
    subst IsPlain (take-append-drop (to - from) (drop from text))
    (all_append is_within (take (to - from) (drop from text)) (drop (to - from) (drop from text)) some (subst IsPlain (sym joined) rest))

end_plain : (n : ℕ) (text : List ℕ) → length text ≤ n → IsPlain (drop n text)
end_plain n text short = subst IsPlain (sym (drop_all n text short)) refl

range_short : (from n : ℕ) (text : List ℕ) → length (take n (drop from text)) ≤ n
range_short from n text = let long = length-take n (drop from text) in omega (arith, long)

day_within : (tens ones : ℕ) → is_day tens ones ≡ true → (is_within tens ≡ true) × (is_within ones ≡ true)
unfolding is_day is_below
day_within tens ones h = (grind (arith, nat_tests, h), grind (arith, nat_tests, h))

below_within : (limit tens ones : ℕ) → is_below limit tens ones ≡ true → (is_within tens ≡ true) × (is_within ones ≡ true)
unfolding is_below
below_within limit tens ones h = (grind (arith, nat_tests, h), grind (arith, nat_tests, h))

sign_within : (c sign : ℕ) → is_within sign ≡ true → (c == sign) ≡ true → is_within c ≡ true
sign_within c sign h is = subst (λ x. is_within x ≡ true) (sym (eqb-true c sign is)) h

calendar_plain : (text : List ℕ) → length text ≤ 11 → is_calendar text ≡ true → IsPlain text
unfolding is_calendar
calendar_plain text short h =
    let day : is_day (slice_index text 0) (slice_index text 1) ≡ true = grind (arith, nat_tests, h) in
    let month : is_month (slice_range text 3 6) ≡ true = grind (arith, nat_tests, h) in
    let year : list_all is_ascii_digit (slice_range text 7 11) ≡ true = grind (arith, nat_tests, h) in
    let first : (slice_index text 2 == 45) ≡ true = grind (arith, nat_tests, h) in
    let second : (slice_index text 6 == 45) ≡ true = grind (arith, nat_tests, h) in
    byte_plain 0 text (day_within _ _ day).0 (byte_plain 1 text (day_within _ _ day).1 (byte_plain 2 text (sign_within _ 45 refl first)
    (bytes_plain 3 6 text (month_plain _ month)
    (byte_plain 6 text (sign_within _ 45 refl second)
    (bytes_plain 7 11 text (numerals_plain (slice_range text 7 11) year) (end_plain 11 text short) (omega arith)))
    (omega arith))))

clock_plain : (text : List ℕ) → length text ≤ 8 → is_clock text ≡ true → IsPlain text
unfolding is_clock
clock_plain text short h =
    let hour : is_below 24 (slice_index text 0) (slice_index text 1) ≡ true = grind (arith, nat_tests, h) in
    let minute : is_below 60 (slice_index text 3) (slice_index text 4) ≡ true = grind (arith, nat_tests, h) in
    let second : is_below 60 (slice_index text 6) (slice_index text 7) ≡ true = grind (arith, nat_tests, h) in
    let one : (slice_index text 2 == 58) ≡ true = grind (arith, nat_tests, h) in
    let other : (slice_index text 5 == 58) ≡ true = grind (arith, nat_tests, h) in
    byte_plain 0 text (below_within 24 _ _ hour).0 (byte_plain 1 text (below_within 24 _ _ hour).1 (byte_plain 2 text (sign_within _ 58 refl one)
    (byte_plain 3 text (below_within 60 _ _ minute).0 (byte_plain 4 text (below_within 60 _ _ minute).1 (byte_plain 5 text (sign_within _ 58 refl other)
    (byte_plain 6 text (below_within 60 _ _ second).0 (byte_plain 7 text (below_within 60 _ _ second).1 (end_plain 8 text short))))))))

zone_plain : (text : List ℕ) → length text ≤ 5 → is_zone text ≡ true → IsPlain text
unfolding is_zone
zone_plain text short h =
    let sign : is_within (slice_index text 0) ≡ true = grind (arith, nat_tests, h) in
    let hours : list_all is_ascii_digit (slice_range text 1 5) ≡ true = grind (arith, nat_tests, h) in
    byte_plain 0 text sign (bytes_plain 1 5 text (numerals_plain (slice_range text 1 5) hours) (end_plain 5 text short) (omega arith))

pub date_plain : (text : List ℕ) → is_date text ≡ true → IsPlain text
unfolding is_date
date_plain text h =
    let long : (length text == 26) ≡ true = grind (arith, nat_tests, h) in
    let calendar : is_calendar (slice_range text 0 11) ≡ true = grind (arith, nat_tests, h) in
    let clock : is_clock (slice_range text 12 20) ≡ true = grind (arith, nat_tests, h) in
    let zone : is_zone (slice_range text 21 26) ≡ true = grind (arith, nat_tests, h) in
    let one : (slice_index text 11 == 32) ≡ true = grind (arith, nat_tests, h) in
    let other : (slice_index text 20 == 32) ≡ true = grind (arith, nat_tests, h) in
    let is_long = eqb-true (length text) 26 long in
    bytes_plain 0 11 text (calendar_plain _ (range_short 0 11 text) calendar)
    (byte_plain 11 text (sign_within _ 32 refl one)
    (bytes_plain 12 20 text (clock_plain _ (range_short 12 8 text) clock)
    (byte_plain 20 text (sign_within _ 32 refl other)
    (bytes_plain 21 26 text (zone_plain _ (range_short 21 5 text) zone) (end_plain 26 text (omega (arith, is_long))) (omega arith)))
    (omega arith)))
    (omega arith)
