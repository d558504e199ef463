-- Dates are words: a text that begins one goes on to one with the rest of a sample, and so does each front of a date.
use Rattle.std.proofs.Common.{◌≡◌, ℕ, zero, suc, ◌<◌, ◌≤◌, List, [], ◌∷◌, ◌++◌, Bool, true, false, ◌&&◌, ◌||◌, ◌==◌, length, drop, slice_set}
use Rattle.std.proofs.Common.{codes, refl, sym, ap, ◌∙◌, subst, arith, eqb-true, eq-eqb, ne_eqb, append-nil, append_assoc, length-append}
use Rattle.std.specs.Char.{is_ascii_digit, to_ascii_lowercase}
use Rattle.std.specs.List.{list_all, list_any}
use Rattle.std.proofs.lemmas.Bool.{false≢true}
use Rattle.std.proofs.lemmas.Bool.Decides.{nat_tests}
use Rattle.grammar.specs.Exact.{any}
use Rattle.grammar.specs.Forms.{Law, as_it_stands}
use Rattle.grammar.specs.Words.{Lawful, Apart, word}
use Rattle.grammar.proofs.Conditions.{and_both, and_left, and_right, and_false, or_left, any_some, any_none}
use Rattle.grammar.proofs.FormLaw.{law_closed}
use Rattle.grammar.proofs.RepetitionLaw.{begins_any}
use Rattle.grammar.proofs.WordLaw.{good_word}
use Rattle.mail_message.specs.Date.{is_date, is_calendar, is_clock, is_zone, is_day, is_month, is_below, months}
use Rattle.mail_message.specs.Word.{is_word}
use Rattle.text_parts.specs.Dates.{samples, is_date_so_far, begins_date, dates, date_time}

-- a byte of a text, or of the sample behind the text's front
abbrev at : ℕ → ℕ → ℕ → ℕ
at zero a x = x
at (suc n) a x = a

-- so many bytes of the front are left behind one more, and behind k more
abbrev less : ℕ → ℕ
less zero = zero
less (suc n) = n

abbrev past : ℕ → ℕ → ℕ
past zero n = n
past (suc k) n = past k (less n)

-- the first bytes of a text, and the rest of a sample
abbrev mixed : ℕ → List ℕ → List ℕ → List ℕ
mixed n [] e = e
mixed n (a ∷ u) [] = []
mixed n (a ∷ u) (x ∷ e) = at n a x ∷ mixed (less n) u e

same_length : (m n : ℕ) → suc m ≡ suc n → m ≡ n
same_length m n h = omega (arith, h)

mixed_none : (u e : List ℕ) → length u ≡ length e → mixed zero u e ≡ e
mixed_none [] e h = refl
mixed_none (a ∷ u) [] h = refl
mixed_none (a ∷ u) (x ∷ e) h = ap (λ l. x ∷ l) (mixed_none u e (same_length (length u) (length e) h))

mixed_is : (s t e : List ℕ) → length (s ++ t) ≡ length e → mixed (length s) (s ++ t) e ≡ s ++ drop (length s) e
mixed_is [] t e h = mixed_none t e h
mixed_is (a ∷ s) t [] h = absurd (omega (arith, h))
mixed_is (a ∷ s) t (x ∷ e) h = ap (λ l. a ∷ l) (mixed_is s t e (same_length (length (s ++ t)) (length e) h))

byte_mixed : (n a x : ℕ) → (a == x) ≡ true → (at n a x == x) ≡ true
byte_mixed zero a x h = eq-eqb x x refl
byte_mixed (suc n) a x h = h

letter_mixed : (n a x : ℕ) → (to_ascii_lowercase a == to_ascii_lowercase x) ≡ true → (to_ascii_lowercase (at n a x) == to_ascii_lowercase x) ≡ true
letter_mixed zero a x h = eq-eqb (to_ascii_lowercase x) (to_ascii_lowercase x) refl
letter_mixed (suc n) a x h = h

digit_mixed : (n a : ℕ) → is_ascii_digit a ≡ true → is_ascii_digit (at n a 48) ≡ true
digit_mixed zero a h = refl
digit_mixed (suc n) a h = h

digits_mixed : (n a b c d : ℕ) → list_all is_ascii_digit (a ∷ b ∷ c ∷ d ∷ []) ≡ true
    → list_all is_ascii_digit (at n a 48 ∷ at (less n) b 48 ∷ at (less (less n)) c 48 ∷ at (less (less (less n))) d 48 ∷ []) ≡ true
digits_mixed n a b c d h =
    let k = and_right (is_ascii_digit a) _ h in
    let l = and_right (is_ascii_digit b) _ k in
    let m = and_right (is_ascii_digit c) _ l in
    and_both _ _ (digit_mixed n a (and_left _ _ h))
    (and_both _ _ (digit_mixed (less n) b (and_left _ _ k))
    (and_both _ _ (digit_mixed (less (less n)) c (and_left _ _ l)) (and_both _ _ (digit_mixed (less (less (less n))) d (and_left _ _ m)) refl)))

sign_mixed : (n a : ℕ) → (a == 43 || a == 45) ≡ true → (at n a 43 == 43 || at n a 43 == 45) ≡ true
sign_mixed zero a h = refl
sign_mixed (suc n) a h = h

day_mixed : (n a b : ℕ) → is_day a b ≡ true → is_day (at n a 48) (at (less n) b 49) ≡ true
unfolding is_day is_below
day_mixed zero a b h = refl
day_mixed (suc zero) a b h = grind (arith, nat_tests, h)
day_mixed (suc (suc n)) a b h = h

hour_mixed : (n a b : ℕ) → is_below 24 a b ≡ true → is_below 24 (at n a 48) (at (less n) b 48) ≡ true
unfolding is_below
hour_mixed zero a b h = refl
hour_mixed (suc zero) a b h = grind (arith, nat_tests, h)
hour_mixed (suc (suc n)) a b h = h

minute_mixed : (n a b : ℕ) → is_below 60 a b ≡ true → is_below 60 (at n a 48) (at (less n) b 48) ≡ true
unfolding is_below
minute_mixed zero a b h = refl
minute_mixed (suc zero) a b h = grind (arith, nat_tests, h)
minute_mixed (suc (suc n)) a b h = h

month_mixed : (n a b c x y z : ℕ) → is_word (a ∷ b ∷ c ∷ []) (x ∷ y ∷ z ∷ []) ≡ true
    → is_word (at n a x ∷ at (less n) b y ∷ at (less (less n)) c z ∷ []) (x ∷ y ∷ z ∷ []) ≡ true
month_mixed n a b c x y z h =
    let k = and_right (to_ascii_lowercase a == to_ascii_lowercase x) _ h in
    let l = and_right (to_ascii_lowercase b == to_ascii_lowercase y) _ k in
    and_both _ _ (letter_mixed n a x (and_left _ _ h))
    (and_both _ _ (letter_mixed (less n) b y (and_left _ _ k)) (and_both _ _ (letter_mixed (less (less n)) c z (and_left _ _ l)) refl))

abbrev sample : List ℕ → List ℕ
sample month = codes "01-" ++ (month ++ codes "-0000 00:00:00 +0000")

-- the front of a date begins one
abbrev Goes : ℕ → List ℕ → Type 0
Goes n u = list_any (λ e. is_date (mixed n u e)) samples ≡ true

calendar_mixed : (n a b c d e f g h i j k x y z : ℕ) → is_calendar (a ∷ b ∷ c ∷ d ∷ e ∷ f ∷ g ∷ h ∷ i ∷ j ∷ k ∷ []) ≡ true
    → is_word (d ∷ e ∷ f ∷ []) (x ∷ y ∷ z ∷ []) ≡ true
    → ((q : List ℕ → Bool) → q (x ∷ y ∷ z ∷ []) ≡ true → list_any q months ≡ true)
    → is_calendar (mixed n (a ∷ b ∷ c ∷ d ∷ e ∷ f ∷ g ∷ h ∷ i ∷ j ∷ k ∷ []) (codes "01-" ++ (x ∷ y ∷ z ∷ codes "-0000"))) ≡ true
unfolding is_calendar is_month
calendar_mixed n a b c d e f g h i j k x y z is word promote =
    let to_dash = and_left _ _ is in
    let to_month = and_left _ _ to_dash in
    let to_first = and_left _ _ to_month in
    and_both _ _
    (and_both _ _
    (and_both _ _
    (and_both _ _ (day_mixed n a b (and_left _ _ to_first)) (byte_mixed (past 2 n) c 45 (and_right (is_day a b) _ to_first)))
    (promote (λ month. is_word (at (past 3 n) d x ∷ at (past 4 n) e y ∷ at (past 5 n) f z ∷ []) month) (month_mixed (past 3 n) d e f x y z word)))
    (byte_mixed (past 6 n) g 45 (and_right _ _ to_dash)))
    (digits_mixed (past 7 n) h i j k (and_right _ _ is))

clock_mixed : (n a b c d e f g h : ℕ) → is_clock (a ∷ b ∷ c ∷ d ∷ e ∷ f ∷ g ∷ h ∷ []) ≡ true
    → is_clock (mixed n (a ∷ b ∷ c ∷ d ∷ e ∷ f ∷ g ∷ h ∷ []) (codes "00:00:00")) ≡ true
unfolding is_clock
clock_mixed n a b c d e f g h is =
    let to_colon = and_left _ _ is in
    let to_minute = and_left _ _ to_colon in
    let to_first = and_left _ _ to_minute in
    and_both _ _
    (and_both _ _
    (and_both _ _
    (and_both _ _ (hour_mixed n a b (and_left _ _ to_first)) (byte_mixed (past 2 n) c 58 (and_right (is_below 24 a b) _ to_first)))
    (minute_mixed (past 3 n) d e (and_right _ _ to_minute)))
    (byte_mixed (past 5 n) f 58 (and_right _ _ to_colon)))
    (minute_mixed (past 6 n) g h (and_right _ _ is))

zone_mixed : (n a b c d e : ℕ) → is_zone (a ∷ b ∷ c ∷ d ∷ e ∷ []) ≡ true → is_zone (mixed n (a ∷ b ∷ c ∷ d ∷ e ∷ []) (codes "+0000")) ≡ true
unfolding is_zone
zone_mixed n a b c d e is = and_both _ _ (sign_mixed n a (and_left _ _ is)) (digits_mixed (past 1 n) b c d e (and_right _ _ is))

-- all of the bytes: the calendar, the clock and the zone, with a space between any two
whole_mixed : (n a0 a1 a2 a3 a4 a5 a6 a7 a8 a9 a10 a11 a12 a13 a14 a15 a16 a17 a18 a19 a20 a21 a22 a23 a24 a25 x y z : ℕ)
    → is_calendar (a0 ∷ a1 ∷ a2 ∷ a3 ∷ a4 ∷ a5 ∷ a6 ∷ a7 ∷ a8 ∷ a9 ∷ a10 ∷ []) ≡ true → (a11 == 32) ≡ true
    → is_clock (a12 ∷ a13 ∷ a14 ∷ a15 ∷ a16 ∷ a17 ∷ a18 ∷ a19 ∷ []) ≡ true
    → (a20 == 32) ≡ true → is_zone (a21 ∷ a22 ∷ a23 ∷ a24 ∷ a25 ∷ []) ≡ true → is_word (a3 ∷ a4 ∷ a5 ∷ []) (x ∷ y ∷ z ∷ []) ≡ true
    → ((q : List ℕ → Bool) → q (x ∷ y ∷ z ∷ []) ≡ true → list_any q months ≡ true)
    → Goes n
    (a0 ∷ a1 ∷ a2 ∷ a3 ∷ a4 ∷ a5 ∷ a6 ∷ a7 ∷ a8 ∷ a9 ∷ a10 ∷ a11 ∷ a12 ∷ a13 ∷ a14 ∷ a15 ∷ a16 ∷ a17 ∷ a18 ∷ a19 ∷
    a20 ∷ a21 ∷ a22 ∷ a23 ∷ a24 ∷ a25 ∷ [])
unfolding is_date
whole_mixed n a0 a1 a2 a3 a4 a5 a6 a7 a8 a9 a10 a11 a12 a13 a14 a15 a16 a17 a18 a19 a20 a21 a22 a23 a24 a25 x y z
    calendar space clock gap zone word promote =
    promote (λ month. is_date
    (mixed n
    (a0 ∷ a1 ∷ a2 ∷ a3 ∷ a4 ∷ a5 ∷ a6 ∷ a7 ∷ a8 ∷ a9 ∷ a10 ∷ a11 ∷ a12 ∷ a13 ∷ a14 ∷ a15 ∷ a16 ∷ a17 ∷ a18 ∷ a19 ∷
    a20 ∷ a21 ∷ a22 ∷ a23 ∷ a24 ∷ a25 ∷ []) (sample month)))
    (and_both _ _
    (and_both _ _
    (and_both _ _
    (and_both _ _ (calendar_mixed n a0 a1 a2 a3 a4 a5 a6 a7 a8 a9 a10 x y z calendar word promote) (byte_mixed (past 11 n) a11 32 space))
    (clock_mixed (past 12 n) a12 a13 a14 a15 a16 a17 a18 a19 clock))
    (byte_mixed (past 20 n) a20 32 gap))
    (zone_mixed (past 21 n) a21 a22 a23 a24 a25 zone))

month_there : (a0 a1 a2 a3 a4 a5 a6 a7 a8 a9 a10 : ℕ) → is_calendar (a0 ∷ a1 ∷ a2 ∷ a3 ∷ a4 ∷ a5 ∷ a6 ∷ a7 ∷ a8 ∷ a9 ∷ a10 ∷ []) ≡ true
    → list_any (λ month. is_word (a3 ∷ a4 ∷ a5 ∷ []) month) months ≡ true
unfolding is_calendar is_month
month_there a0 a1 a2 a3 a4 a5 a6 a7 a8 a9 a10 is = and_right (is_day a0 a1 && (a2 == 45)) _ (and_left _ _ (and_left _ _ is))

-- a word for three letters has three
three_letters : (a b c : ℕ) (m : List ℕ) → is_word (a ∷ b ∷ c ∷ []) m ≡ true → (x : ℕ) × (y : ℕ) × (z : ℕ) × (m ≡ x ∷ y ∷ z ∷ [])
three_letters a b c [] h = absurd (false≢true h)
three_letters a b c (x ∷ []) h = absurd (false≢true (and_right (to_ascii_lowercase a == to_ascii_lowercase x) false h))
three_letters a b c (x ∷ y ∷ []) h =
    absurd (false≢true (and_right (to_ascii_lowercase b == to_ascii_lowercase y) false (and_right (to_ascii_lowercase a == to_ascii_lowercase x) _ h)))
three_letters a b c (x ∷ y ∷ z ∷ []) h = (x, y, z, refl)
three_letters a b c (x ∷ y ∷ z ∷ more ∷ m) h =
    absurd (false≢true
    (and_right (to_ascii_lowercase c == to_ascii_lowercase z) false
    (and_right (to_ascii_lowercase b == to_ascii_lowercase y) _ (and_right (to_ascii_lowercase a == to_ascii_lowercase x) _ h))))

date_mixed : (n a0 a1 a2 a3 a4 a5 a6 a7 a8 a9 a10 a11 a12 a13 a14 a15 a16 a17 a18 a19 a20 a21 a22 a23 a24 a25 : ℕ)
    → is_date
    (a0 ∷ a1 ∷ a2 ∷ a3 ∷ a4 ∷ a5 ∷ a6 ∷ a7 ∷ a8 ∷ a9 ∷ a10 ∷ a11 ∷ a12 ∷ a13 ∷ a14 ∷ a15 ∷ a16 ∷ a17 ∷ a18 ∷ a19 ∷
    a20 ∷ a21 ∷ a22 ∷ a23 ∷ a24 ∷ a25 ∷ []) ≡ true
    → Goes n
    (a0 ∷ a1 ∷ a2 ∷ a3 ∷ a4 ∷ a5 ∷ a6 ∷ a7 ∷ a8 ∷ a9 ∷ a10 ∷ a11 ∷ a12 ∷ a13 ∷ a14 ∷ a15 ∷ a16 ∷ a17 ∷ a18 ∷ a19 ∷
    a20 ∷ a21 ∷ a22 ∷ a23 ∷ a24 ∷ a25 ∷ [])
unfolding is_date
date_mixed n a0 a1 a2 a3 a4 a5 a6 a7 a8 a9 a10 a11 a12 a13 a14 a15 a16 a17 a18 a19 a20 a21 a22 a23 a24 a25 is =
    let to_gap = and_left _ _ is in
    let to_clock = and_left _ _ to_gap in
    let to_space = and_left _ _ to_clock in
    let calendar : is_calendar (a0 ∷ a1 ∷ a2 ∷ a3 ∷ a4 ∷ a5 ∷ a6 ∷ a7 ∷ a8 ∷ a9 ∷ a10 ∷ []) ≡ true = and_left _ _ to_space in
    let month = any_some (λ month. is_word (a3 ∷ a4 ∷ a5 ∷ []) month) months (month_there a0 a1 a2 a3 a4 a5 a6 a7 a8 a9 a10 calendar) in
    let letters = three_letters a3 a4 a5 month.0 month.1 in
    whole_mixed n a0 a1 a2 a3 a4 a5 a6 a7 a8 a9 a10 a11 a12 a13 a14 a15 a16 a17 a18 a19 a20 a21 a22 a23 a24 a25 letters.0 letters.1 letters.2
    calendar (and_right _ _ to_space) (and_right _ _ to_clock) (and_right _ _ to_gap) (and_right _ _ is)
    (subst (λ m. is_word (a3 ∷ a4 ∷ a5 ∷ []) m ≡ true) letters.3 month.1) (λ q h. month.2 q (subst (λ m. q m ≡ true) (sym letters.3) h))

-- what holds of all texts of n bytes
abbrev Each : ℕ → (List ℕ → Type 0) → Type 0
Each zero P = P []
Each (suc n) P = (a : ℕ) → Each n (λ u. P (a ∷ u))

each_of : (n : ℕ) (P : List ℕ → Type 0) → Each n P → (u : List ℕ) → length u ≡ n → P u
each_of zero P all [] h = all
each_of zero P all (a ∷ u) h = absurd (omega (arith, h))
each_of (suc n) P all [] h = absurd (omega (arith, h))
each_of (suc n) P all (a ∷ u) h = each_of n (λ u. P (a ∷ u)) (all a) u (same_length (length u) n h)

pub is_long : (u : List ℕ) → is_date u ≡ true → length u ≡ 26
unfolding is_date
is_long u is = eqb-true (length u) 26 (and_left _ _ (and_left _ _ (and_left _ _ (and_left _ _ (and_left _ _ is)))))

no_date : (u : List ℕ) → 26 < length u → is_date u ≡ false
unfolding is_date
no_date u more =
    and_false _ _
    (and_false _ _ (and_false _ _ (and_false _ _ (and_false _ _ (ne_eqb (length u) 26 (λ e. absurd (omega (arith, more, e))))))))

mixed_goes : (n : ℕ) (u : List ℕ) → is_date u ≡ true → Goes n u
mixed_goes n u is = each_of 26 (λ u. is_date u ≡ true → Goes n u) (date_mixed n) u (is_long u is) is

-- tests that agree at samples
any_alike : (p q : List ℕ → Bool) (xs : List (List ℕ)) → list_all (λ x. length x == 26) xs ≡ true → ((x : List ℕ) → length x ≡ 26 → p x ≡ q x)
    → list_any p xs ≡ list_any q xs
any_alike p q [] long same = refl
any_alike p q (x ∷ xs) long same =
    ap (λ b. b || list_any p xs) (same x (eqb-true (length x) 26 (and_left _ _ long)))
    ∙ ap (λ b. q x || b) (any_alike p q xs (and_right (length x == 26) _ long) same)

pub begins_so : (s : List ℕ) → begins_date s ≡ is_date_so_far s
unfolding is_date_so_far is_date is_calendar is_clock is_zone is_day is_month is_below
begins_so [] = refl
begins_so (c ∷ s) = refl

front_so : (s t : List ℕ) → is_date_so_far (s ++ t) ≡ true → is_date_so_far s ≡ true
unfolding is_date_so_far
front_so s t h =
    let some = any_some (λ x. is_date ((s ++ t) ++ drop (length (s ++ t)) x)) samples h in
    let more = t ++ drop (length (s ++ t)) some.0 in
    let date : is_date (s ++ more) ≡ true = sym (ap is_date (append_assoc s t (drop (length (s ++ t)) some.0))) ∙ some.1 in
    sym (any_alike (λ x. is_date (mixed (length s) (s ++ more) x)) (λ x. is_date (s ++ drop (length s) x)) samples refl
    (λ x long. ap is_date (mixed_is s more x (is_long (s ++ more) date ∙ sym long)))) ∙ mixed_goes (length s) (s ++ more) date

whole_so : (s : List ℕ) → is_date s ≡ true → is_date_so_far s ≡ true
unfolding is_date_so_far
whole_so s is =
    let january = sample (codes "Jan") in
    or_left (is_date (s ++ drop (length s) january)) _
    (ap (λ n. is_date (s ++ drop n january)) (is_long s is) ∙ ap is_date (append-nil s) ∙ is)

on_so : (s : List ℕ) → is_date_so_far s ≡ true → (t : List ℕ) × (is_date (s ++ t) ≡ true)
unfolding is_date_so_far
on_so s h = let some = any_some (λ x. is_date (s ++ drop (length s) x)) samples h in (drop (length s) some.0, some.1)

pub lawful_dates : Lawful dates
lawful_dates = record {
  empty_begins = refl;
  front = λ s t h. begins_so s ∙ front_so s t (sym (begins_so (s ++ t)) ∙ h);
  whole = λ s h. begins_so s ∙ whole_so s h;
  goes_on = λ s h. on_so s (sym (begins_so s) ∙ h);
}

apart_so : (s : List ℕ) (c : ℕ) → is_date s ≡ true → is_date_so_far (s ++ c ∷ []) ≡ false
unfolding is_date_so_far
apart_so s c is =
    any_none (λ x. true) (λ x. is_date ((s ++ c ∷ []) ++ drop (length (s ++ c ∷ [])) x))
    (λ x e. no_date ((s ++ c ∷ []) ++ drop (length (s ++ c ∷ [])) x)
    (omega (arith, is_long s is, length-append s (c ∷ []), length-append (s ++ c ∷ []) (drop (length (s ++ c ∷ [])) x)))) samples refl

pub apart_dates : Apart dates any
apart_dates s is c h = begins_so (s ++ c ∷ []) ∙ apart_so s c is

pub law_dates : Law any any (as_it_stands dates)
law_dates = record {
  good = λ V. good_word dates lawful_dates any apart_dates;
  begins = begins_any any (word dates);
  prints = λ bytes text l. (refl, l.1);
}

pub law_date_time : (after : ℕ → Bool) → Law (λ c. c == 34) after date_time
law_date_time after = law_closed after 34 (as_it_stands dates) 34 refl law_dates

-- the byte behind a front, set in what stands there
set_next : (front e : List ℕ) (byte : ℕ) → length front < length e
    → slice_set (front ++ drop (length front) e) (length front) byte ≡ (front ++ byte ∷ []) ++ drop (length (front ++ byte ∷ [])) e
set_next [] [] byte h = absurd (omega (arith, h))
set_next [] (x ∷ e) byte h = refl
set_next (a ∷ front) [] byte h = absurd (omega (arith, h))
set_next (a ∷ front) (x ∷ e) byte h = ap (λ l. a ∷ l) (set_next front e byte (omega (arith, h)))

pub with_byte : (front e now : List ℕ) (byte : ℕ) (b : Bool) → length front < 26 → length e ≡ 26 → now ≡ front
    → b ≡ is_date (slice_set (now ++ drop (length front) e) (length front) byte)
    → b ≡ is_date ((front ++ byte ∷ []) ++ drop (length (front ++ byte ∷ [])) e)
with_byte front e now byte b short long same is =
    is ∙ ap (λ l. is_date (slice_set (l ++ drop (length front) e) (length front) byte)) same
    ∙ ap is_date (set_next front e byte (omega (arith, short, long)))

pub too_long : (front e : List ℕ) (byte : ℕ) → 26 ≤ length front → false ≡ is_date ((front ++ byte ∷ []) ++ drop (length (front ++ byte ∷ [])) e)
too_long front e byte h =
    sym (no_date ((front ++ byte ∷ []) ++ drop (length (front ++ byte ∷ [])) e)
    (omega (arith, h, length-append front (byte ∷ []), length-append (front ++ byte ∷ []) (drop (length (front ++ byte ∷ [])) e))))
