-- Dates: the law of their form.
use Rattle.std.proofs.Common.{◌≡◌, ℕ, ◌+◌, ◌-◌, ◌*◌, ◌/◌, ◌%◌, ◌<◌, ◌≤◌, List, [], ◌∷◌, ◌++◌, Bool, true, false, not, ◌&&◌, ◌||◌, ◌==◌, inr, refl, sym}
use Rattle.std.proofs.Common.{ap, ◌∙◌, subst, arith, leb, leb-true, le-leb, eqb-true}
use Rattle.std.specs.List.{list_all}
use Rattle.mur_base.specs.Number.{is_digit, digits_behind}
use Rattle.grammar.specs.Exact.{any, among}
use Rattle.grammar.specs.Forms.{Form, Law, ◌and◌, preceded, begins_row, closed, numeral}
use Rattle.grammar.specs.Numbers.{value_of, numerals, decimal_text}
use Rattle.grammar.specs.Part.{give, byte, one_of}
use Rattle.grammar.proofs.ChoiceLaw.{good_one_of}
use Rattle.grammar.proofs.Conditions.{and_both, and_left, and_right}
use Rattle.grammar.proofs.FormLaw.{one_byte, apart_byte, law_and, law_behind, law_choice, law_closed, law_made, law_weaker}
use Rattle.grammar.proofs.NamesLaw.{law_table}
use Rattle.grammar.proofs.NestedLaw.{law_made_of}
use Rattle.grammar.proofs.NumeralLaw.{law_numeral}
use Rattle.grammar.proofs.SequenceLaw.{good_map}
use Rattle.grammar.proofs.Spelling.{spell_map}
use Rattle.grammar.proofs.StartLaw.{starts_then, starts_byte, starts_one_of, begins_from}
use Rattle.imap_command.specs.Dates.{date_day, month_rows, month_text, name_in, date_month, digit, year_of, year_text, date_year, day_at, date_text_of}
use Rattle.imap_command.specs.Dates.{date_text, date}

abbrev is_dash : ℕ → Bool
is_dash c = c == 45

dash_ends : (c : ℕ) → is_dash c ≡ true → is_digit c ≡ false
unfolding is_digit
dash_ends c h = ap is_digit (eqb-true c 45 h)

-- a digit that is no zero
abbrev is_first : ℕ → Bool
is_first c = is_digit c && not (c == 48)

first_is : (most c : ℕ) (tail : List ℕ) → (numerals false most).whole (c ∷ tail) ≡ true → is_first c ≡ true
first_is most c tail h =
    let begins = and_left _ _ h in
    and_both (is_digit c) _ (and_left _ _ (and_left _ _ (and_left _ _ begins)))
    (and_right (list_all is_digit (c ∷ tail) && leb (value_of (c ∷ tail)) most) _ begins)

-- a number without a zero first begins with another digit
law_number : (most : ℕ) → (numerals false most).whole (49 ∷ []) ≡ true → Law is_first is_dash (numeral false most)
law_number most one =
    let g = law_numeral false most 49 one is_dash dash_ends in
    record {
      good = g.good;
      begins = record {
        full = λ c tail n j. full c tail j.front j.back j.between j.parts j.begins.0 j.begins.1 j.goes_on.0;
        empty = λ n j c h. none j.front j.between j.begins.0 j.begins.1 (begin_empty j.front j.back j.parts);
      };
      prints = g.prints;
    }
  where
    begin_empty : (front back : List ℕ) → [] ≡ front ++ back → front ≡ []
    begin_empty [] back e = refl
    begin_empty (d ∷ front) back e = cc

    none : {A : Type 0} (front text : List ℕ) → front ≡ text → (numerals false most).whole text ≡ true → front ≡ [] → A
    none front [] e w z = let no : false ≡ true = and_right ((numerals false most).begins []) false w in cc
    none front (c ∷ text) e w z = cc

    full : (c : ℕ) (tail front back text : List ℕ) → (let s : List ℕ = c ∷ tail in s ≡ front ++ back) → front ≡ text
        → (numerals false most).whole text ≡ true → back ≡ [] → is_first c ≡ true
    full c tail front back [] e same w z = none front [] same w same
    full c tail [] back (d ∷ text) e same w z = cc
    full c tail (b ∷ front) back (d ∷ text) e same w z =
        let one : c ≡ b = cc in
        let two : b ≡ d = cc in
        ap is_first (one ∙ two) ∙ first_is most d text w

-- a number of one digit is a number of a day
small_day : (bytes : List ℕ) (n : ℕ) → (numeral false 9).part.lang bytes n → (numeral false 31).part.lang bytes n
small_day bytes n j = record {
  front = j.front;
  back = j.back;
  between = j.between;
  parts = j.parts;
  begins = (j.begins.0, wider j.between j.begins.1);
  goes_on = j.goes_on;
}
  where
    wider : (text : List ℕ) → (numerals false 9).whole text ≡ true → (numerals false 31).whole text ≡ true
    wider text h =
        let begins = and_left _ _ h in
        let small : value_of text ≤ 9 = leb-true _ _ (and_right (list_all is_digit text) _ (and_left _ _ begins)) in
        and_both _ _ (and_both _ _ (and_both _ _ (and_left _ _ (and_left _ _ begins)) (le-leb (value_of text) 31 (omega arith)))
        (and_right (list_all is_digit text && leb (value_of text) 9) _ begins)) (and_right ((numerals false 9).begins text) _ h)

law_day : Law (λ c. (c == 48) || is_first c) is_dash date_day
unfolding is_digit digits_behind
law_day =
    let small = law_number 9 refl in
    let g = law_number 31 refl in
    law_choice (λ c. c == 48) decimal_text (preceded 48 (numeral false 9)) (numeral false 31) (starts_then (byte 48) _ (starts_byte 48))
    (apart_byte 48 is_first refl) (law_behind 48 (numeral false 9) small) g
    (λ bytes n j. inr (g.prints j.back n (small_day j.back n j.goes_on))) (λ bytes n l. inr (g.prints bytes n l))

law_month : Law (begins_row month_rows) is_dash date_month
unfolding name_in
law_month =
    law_weaker (begins_row month_rows) is_dash date_month (λ c h. h) (one_byte 45 (among (45 ∷ [])) refl)
    (law_table 1 month_rows month_text refl refl (45 ∷ []) refl refl)

spelled_digit : (bytes : List ℕ) (d : ℕ) → digit.part.lang bytes d → (c : ℕ) × (is_digit c ≡ true) × (d ≡ c - 48)
spelled_digit bytes d j = (j.between, j.begins.1, j.goes_on.1)

small_digit : (bytes : List ℕ) (d : ℕ) → digit.part.lang bytes d → d < 10
unfolding is_digit
small_digit bytes d l =
    let s = spelled_digit bytes d l in
    let most : s.0 ≤ 57 = leb-true s.0 57 (and_right (leb 48 s.0) _ s.1) in
    omega (arith, s.2)

law_digit : (after : ℕ → Bool) → Law is_digit after digit
unfolding is_digit
law_digit after = record {
  good = λ V. good_map (λ c. c - 48) (one_of is_digit) (good_one_of is_digit after 48 refl);
  begins = begins_from after digit.part (starts_then (one_of is_digit) (λ c. give (c - 48)) (starts_one_of is_digit));
  prints = λ bytes d l.
      let s = spelled_digit bytes d l in
      let least : 48 ≤ s.0 = leb-true 48 s.0 (and_left _ _ s.1) in
      let same : s.0 ≡ 48 + d = omega (arith, s.2) in
      subst (λ c. digit.part.lang (c ∷ []) d) same
      (subst (λ d. digit.part.lang (s.0 ∷ []) d) (sym s.2) (spell_map (λ c. c - 48) (one_of is_digit) (s.0 ∷ []) s.0 (refl, s.1)));
}

-- what holds of the values of two forms
both_of : {A B : Type 0} (p : Form A) (q : Form B) (P : A → Type 0) (Q : B → Type 0) → ((bytes : List ℕ) (a : A) → p.part.lang bytes a → P a)
    → ((bytes : List ℕ) (b : B) → q.part.lang bytes b → Q b) → (bytes : List ℕ) (x : A × B) → (p and q).part.lang bytes x → P x.0 × Q x.1
both_of p q P Q h k bytes x j =
    subst (λ x. P x.0 × Q x.1) (sym j.goes_on.goes_on.1) (h j.front j.between j.begins, k j.goes_on.front j.goes_on.between j.goes_on.begins)

abbrev Small : ℕ → Type 0
Small d = d < 10

four : (a b c d : ℕ) → Small a → Small b → Small c → Small d
    → year_text (1000 * a + 100 * b + 10 * c + d) ≡ (48 + a) ∷ (48 + b) ∷ (48 + c) ∷ (48 + d) ∷ []
unfolding year_text
four a b c d ha hb hc hd =
    let year = 1000 * a + 100 * b + 10 * c + d in
    let one : year / 1000 % 10 ≡ a = omega arith in
    let two : year / 100 % 10 ≡ b = omega arith in
    let three : year / 10 % 10 ≡ c = omega arith in
    let last : year % 10 ≡ d = omega arith in
    rw (one, two, three, last) refl

law_year : (after : ℕ → Bool) → Law is_digit after date_year
law_year after =
    law_made_of year_of year_text (digit and (digit and (digit and digit)))
    (λ bytes x l.
    let s = both_of digit (digit and (digit and digit)) Small (λ y. Small y.0 × (Small y.1.0 × Small y.1.1)) small_digit
    (both_of digit (digit and digit) Small (λ y. Small y.0 × Small y.1) small_digit (both_of digit digit Small Small small_digit small_digit))
    bytes x l in
    four x.0 x.1.0 x.1.1.0 x.1.1.1 s.0 s.1.0 s.1.1.0 s.1.1.1)
    (law_and digit (digit and (digit and digit)) (law_digit is_digit)
    (law_and digit (digit and digit) (law_digit is_digit) (law_and digit digit (law_digit is_digit) (law_digit after))))

abbrev starts_day : ℕ → Bool
starts_day c = (c == 48) || is_first c

law_date_text : (after : ℕ → Bool) → Law starts_day after date_text
law_date_text after =
    law_made day_at date_text_of (date_day and preceded 45 (date_month and preceded 45 date_year)) (λ x. refl)
    (law_and date_day (preceded 45 (date_month and preceded 45 date_year)) law_day
    (law_behind 45 (date_month and preceded 45 date_year)
    (law_and date_month (preceded 45 date_year) law_month (law_behind 45 date_year (law_year after)))))

abbrev pub starts_date : ℕ → Bool
starts_date c = (c == 34) || starts_day c

pub law_date : (after : ℕ → Bool) → Law starts_date after date
unfolding is_digit
law_date after =
    let g = law_date_text after in
    law_choice (λ c. c == 34) date_text_of (closed 34 date_text 34) date_text (starts_then (byte 34) _ (starts_byte 34)) (apart_byte 34 starts_day refl)
    (law_closed after 34 date_text 34 refl (law_date_text any)) g
    (λ bytes day j.
    let k = j.goes_on in
    inr (g.prints k.front day (subst (λ d. date_text.part.lang k.front d) (sym k.goes_on.goes_on.1) k.begins)))
    (λ bytes day l. inr (g.prints bytes day l))
