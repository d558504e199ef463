-- Numerals are lawful words, and end before a byte that is no digit.
use Rattle.std.proofs.Common.{◌≡◌, ℕ, ◌+◌, ◌-◌, ◌*◌, ◌≤◌, List, [], ◌∷◌, ◌++◌, Bool, true, false, ◌&&◌, ◌||◌, leb}
use Rattle.std.proofs.Common.{refl, ap, ◌∙◌, subst, append-nil, le_trans, le_refl, arith, leb-true, le-leb}
use Rattle.std.specs.List.{list_all}
use Rattle.grammar.specs.Words.{Lawful, Apart}
use Rattle.mur_base.specs.Number.{is_digit, digits_behind}
use Rattle.grammar.specs.Numbers.{value_of, no_zero_first, numerals}
use Rattle.grammar.proofs.Conditions.{and_both, and_left, and_right, and_false}
use Rattle.grammar.proofs.RunLaw.{all_front, all_push}

-- digits behind digits
pub digits_behind-append : (n : ℕ) (s t : List ℕ) → digits_behind n (s ++ t) ≡ digits_behind (digits_behind n s) t
unfolding digits_behind
digits_behind-append n [] t = refl
digits_behind-append n (c ∷ s) t = digits_behind-append (10 * n + (c - 48)) s t

-- a digit behind digits
pub value_of-push : (s : List ℕ) (c : ℕ) → value_of (s ++ c ∷ []) ≡ 10 * value_of s + (c - 48)
unfolding digits_behind
value_of-push s c = digits_behind-append 0 s (c ∷ [])

-- digits make no number smaller
pub digits_behind-grows : (n : ℕ) (s : List ℕ) → n ≤ digits_behind n s
unfolding digits_behind
digits_behind-grows n [] = le_refl n
digits_behind-grows n (c ∷ s) = le_trans (omega arith) (digits_behind-grows (10 * n + (c - 48)) s)

no_zero_front : (s t : List ℕ) → no_zero_first (s ++ t) ≡ true → no_zero_first s ≡ true
no_zero_front [] t h = refl
no_zero_front (c ∷ s) t h = h

module _ (zeros : Bool) (most : ℕ) where
  numeral_front : (s t : List ℕ) → (numerals zeros most).begins (s ++ t) ≡ true → (numerals zeros most).begins s ≡ true
  numeral_front s t h =
      let digits = and_left _ _ (and_left _ _ h) in
      let small = leb-true _ _ (and_right (list_all is_digit (s ++ t)) _ (and_left _ _ h)) in
      let first = and_right (list_all is_digit (s ++ t) && leb (value_of (s ++ t)) most) _ h in
      and_both _ _ (and_both _ _ (all_front is_digit s t digits)
      (le-leb _ _ (le_trans (digits_behind-grows (value_of s) t) (subst (λ n. n ≤ most) (digits_behind-append 0 s t) small)))) (by_zeros zeros first)
    where
      by_zeros : (b : Bool) → b || no_zero_first (s ++ t) ≡ true → b || no_zero_first s ≡ true
      by_zeros true h = h
      by_zeros false h = no_zero_front s t h

  pub numeral_small : (s : List ℕ) → (numerals zeros most).begins s ≡ true → value_of s ≤ most
  numeral_small s h = leb-true (value_of s) most (and_right (list_all is_digit s) _ (and_left _ _ h))

  numeral_goes_on : (d : ℕ) → (numerals zeros most).whole (d ∷ []) ≡ true → (s : List ℕ) → (numerals zeros most).begins s ≡ true
      → (t : List ℕ) × ((numerals zeros most).whole (s ++ t) ≡ true)
  numeral_goes_on d one [] h = (d ∷ [], one)
  numeral_goes_on d one (c ∷ s) h = ([], ap (numerals zeros most).whole (append-nil (c ∷ s)) ∙ and_both _ _ h refl)

  -- numerals of which one has one digit
  pub lawful_numerals : (d : ℕ) → (numerals zeros most).whole (d ∷ []) ≡ true → Lawful (numerals zeros most)
  lawful_numerals d one = record {
    empty_begins = numeral_front [] (d ∷ []) (and_left _ _ one);
    front = numeral_front;
    whole = λ s h. and_left _ _ h;
    goes_on = numeral_goes_on d one;
  }

  pub apart_numerals : (after : ℕ → Bool) → ((c : ℕ) → after c ≡ true → is_digit c ≡ false) → Apart (numerals zeros most) after
  apart_numerals after other s h c k =
      and_false _ _ (and_false _ _ (all_push is_digit s c (and_left _ _ (and_left _ _ (and_left _ _ h))) ∙ other c k))
