-- Numbers in decimal digits: the law of their form.
use Rattle.std.proofs.Common.{◌≡◌, ℕ, ◌+◌, ◌-◌, ◌*◌, ◌/◌, ◌%◌, ◌<◌, ◌≤◌, List, [], ◌∷◌, ◌++◌, Bool, true, false, not, ◌==◌, ◌&&◌, ◌||◌}
use Rattle.std.proofs.Common.{refl, sym, ap, ◌∙◌, subst, arith, leb, leb-true, le-leb, ne_eqb, cond, nat_lt, zero, suc}
use Rattle.std.proofs.lemmas.Bool.Decides.{nat_tests}
use Rattle.std.specs.List.{list_all}
use Rattle.mur_base.specs.Number.{is_digit, digits_behind}
use Rattle.grammar.specs.Part.{give}
use Rattle.grammar.specs.Words.{word, Lawful}
use Rattle.grammar.specs.Numbers.{value_of, no_zero_first, numerals, digits_within, decimal_text}
use Rattle.grammar.specs.Runs.{some}
use Rattle.grammar.specs.Forms.{Law, numeral}
use Rattle.grammar.proofs.Conditions.{and_both, and_left, and_right, and_false_right}
use Rattle.grammar.proofs.SequenceLaw.{good_map}
use Rattle.grammar.proofs.Spelling.{spell_map}
use Rattle.grammar.proofs.StartLaw.{starts_then, starts_word, begins_from}
use Rattle.grammar.proofs.RunLaw.{all_push, some_push}
use Rattle.grammar.proofs.NumberLaw.{value_of-push, digits_behind-grows, lawful_numerals, apart_numerals}
use Rattle.grammar.proofs.WordLaw.{good_word}

-- digits that write a number
pub record Writes (n : ℕ) (text : List ℕ) : Type 0 where
  pub digits : list_all is_digit text ≡ true
  pub there : some text ≡ true
  pub value : value_of text ≡ n
  pub no_zero : 0 < n → no_zero_first text ≡ true

digit_is : (d : ℕ) → d < 10 → is_digit (48 + d) ≡ true
unfolding is_digit
digit_is d h = grind (arith, nat_tests)

one_digit : (n : ℕ) → n < 10 → Writes n ((48 + n) ∷ [])
unfolding digits_behind
one_digit n h = record {
  digits = and_both _ _ (digit_is n h) refl;
  there = refl;
  value = omega arith;
  no_zero = λ above. ap not (ne_eqb (48 + n) 48 (λ e. absurd (omega arith)));
}

first_stays : (text : List ℕ) (c : ℕ) → some text ≡ true → no_zero_first text ≡ true → no_zero_first (text ++ c ∷ []) ≡ true
first_stays [] c h k = cc
first_stays (d ∷ text) c h k = k

one_digit_more : (n : ℕ) (text : List ℕ) → 10 ≤ n → Writes (n / 10) text → Writes n (text ++ (48 + n % 10) ∷ [])
one_digit_more n text h w = record {
  digits = all_push is_digit text (48 + n % 10) w.digits ∙ digit_is (n % 10) (omega arith);
  there = some_push is_digit text (48 + n % 10);
  value = value_of-push text (48 + n % 10) ∙ (rw w.value (omega arith));
  no_zero = λ above. first_stays text (48 + n % 10) w.there (w.no_zero (omega arith));
}

none_above : (n : ℕ) → n ≤ 0 → Writes n ((48 + n % 10) ∷ [])
none_above zero h = one_digit 0 (omega arith)
none_above (suc n) h = absurd (omega arith)

writes_within : (most n : ℕ) → n ≤ most → Writes n (digits_within most n)
unfolding digits_within
writes_within zero n h = none_above n h
writes_within (suc most) n h = by_test (nat_lt n 10) refl (λ k. writes_within most (n / 10) k)
  where
    by_test : (b : Bool) → nat_lt n 10 ≡ b → (n / 10 ≤ most → Writes (n / 10) (digits_within most (n / 10)))
        → Writes n (cond b ((48 + n) ∷ []) (digits_within most (n / 10) ++ (48 + n % 10) ∷ []))
    by_test true e again = one_digit n (grind (arith, nat_tests))
    by_test false e again =
        let high : 10 ≤ n = grind (arith, nat_tests) in
        one_digit_more n (digits_within most (n / 10)) high (again (omega arith))

-- what is printed of a number writes it
pub decimal_writes : (n : ℕ) → Writes n (decimal_text n)
unfolding decimal_text
decimal_writes n = writes_within n n (omega arith)

-- a number is no less than its first digit
above_first : (c : ℕ) (text : List ℕ) → is_digit c ≡ true → not (c == 48) ≡ true → 0 < value_of (c ∷ text)
unfolding is_digit digits_behind
above_first c text d h =
    let least : 10 * 0 + (c - 48) ≤ digits_behind (10 * 0 + (c - 48)) text = digits_behind-grows (10 * 0 + (c - 48)) text in
    let above : 48 ≤ c = leb-true 48 c (and_left _ _ d) in
    let other : ¬ (c ≡ 48) = λ e. let no : not (48 == 48) ≡ true = subst (λ c. not (c == 48) ≡ true) e h in cc in
    grind (arith)

-- a numeral without a zero first writes a number above zero
above_zero : (most : ℕ) (text : List ℕ) → (numerals false most).whole text ≡ true → 0 < value_of text
above_zero most [] h = let no : false ≡ true = and_right ((numerals false most).begins []) false h in cc
above_zero most (c ∷ text) h =
    let begins = and_left _ _ h in
    above_first c text (and_left _ _ (and_left _ _ (and_left _ _ begins))) (and_right (list_all is_digit (c ∷ text) && leb (value_of (c ∷ text)) most) _ begins)

-- no zero first, where none may stand
zero_or_not : (zeros : Bool) (most : ℕ) (text : List ℕ) → (numerals zeros most).whole text ≡ true → Writes (value_of text) (decimal_text (value_of text))
    → zeros || no_zero_first (decimal_text (value_of text)) ≡ true
zero_or_not true most text h w = refl
zero_or_not false most text h w = w.no_zero (above_zero most text h)

small_enough : (zeros : Bool) (most : ℕ) (text : List ℕ) → (numerals zeros most).whole text ≡ true → value_of text ≤ most
small_enough zeros most text h = leb-true (value_of text) most (and_right (list_all is_digit text) _ (and_left _ _ (and_left _ _ h)))

-- what is printed of a numeral's number is a numeral of it
printed_whole : (zeros : Bool) (most : ℕ) (text : List ℕ) → (numerals zeros most).whole text ≡ true
    → ((numerals zeros most).whole (decimal_text (value_of text)) ≡ true) × (value_of (decimal_text (value_of text)) ≡ value_of text)
printed_whole zeros most text h =
    let small = small_enough zeros most text h in
    let w = decimal_writes (value_of text) in
    let bound : leb (value_of (decimal_text (value_of text))) most ≡ true = le-leb _ _ (subst (λ n. n ≤ most) (sym w.value) small) in
    (and_both _ _ (and_both _ _ (and_both _ _ w.digits bound) (zero_or_not zeros most text h w)) w.there, w.value)

-- numbers, of which one has one digit
pub law_numeral : (zeros : Bool) (most d : ℕ) → (numerals zeros most).whole (d ∷ []) ≡ true → (after : ℕ → Bool)
    → ((c : ℕ) → after c ≡ true → is_digit c ≡ false) → Law is_digit after (numeral zeros most)
law_numeral zeros most d one after ends = record {
  good = λ V. good_map value_of (word (numerals zeros most)) (good_word (numerals zeros most) lawful after (apart_numerals zeros most after ends));
  begins = begins_from after (numeral zeros most).part
      (starts_then (word (numerals zeros most)) (λ text. give (value_of text))
      (starts_word (numerals zeros most) is_digit lawful (and_false_right _ _ refl)
      (λ c h. and_left _ _ (and_left _ _ (and_left _ _ h)))));
  prints = λ bytes n j.
      let text = j.between in
      let p = printed_whole zeros most text j.begins.1 in
      subst (λ n. (numeral zeros most).part.lang (decimal_text n) n) (sym j.goes_on.1)
      (subst (λ n. (numeral zeros most).part.lang (decimal_text (value_of text)) n) p.1
      (spell_map value_of (word (numerals zeros most)) (decimal_text (value_of text)) (decimal_text (value_of text)) (refl, p.0)));
}
  where
    lawful : Lawful (numerals zeros most)
    lawful = lawful_numerals zeros most d one
