-- Numbers between two bounds are lawful words.
use Rattle.std.proofs.Common.{◌≡◌, ℕ, ◌+◌, ◌-◌, ◌*◌, ◌<◌, ◌≤◌, List, [], ◌∷◌, ◌++◌, Bool, true, false, nat_le, nat_eq}
use Rattle.std.proofs.Common.{refl, sym, ap, ◌∙◌, subst, append-nil, le_trans, arith, leb-true, le-leb}
use Rattle.std.proofs.lemmas.Bool.Decides.{nat_tests}
use Rattle.std.specs.List.{list_all}
use Rattle.mur_base.specs.Number.{is_digit}
use Rattle.grammar.specs.Numbers.{value_of}
use Rattle.grammar.specs.Runs.{some}
use Rattle.grammar.specs.Words.{Lawful, Apart}
use Rattle.grammar.proofs.Conditions.{and_both, and_left, and_right, and_false}
use Rattle.grammar.proofs.NumberLaw.{digits_behind-append, digits_behind-grows, value_of-push}
use Rattle.grammar.proofs.RunLaw.{all_front, all_push, some_push}
use Rattle.mupdate_codec.specs.Sizes.{sizes}

digit_is : (d : ℕ) → d < 10 → is_digit (48 + d) ≡ true
unfolding is_digit
digit_is d h = grind (arith, nat_tests)

module _ (least most : ℕ) where
  sizes_front : (s t : List ℕ) → (sizes least most).begins (s ++ t) ≡ true → (sizes least most).begins s ≡ true
  sizes_front s t h =
      and_both _ _ (all_front is_digit s t (and_left _ _ h))
      (le-leb _ _ (le_trans (digits_behind-grows (value_of s) t) (subst (λ n. n ≤ most) (digits_behind-append 0 s t)
      (leb-true _ _ (and_right (list_all is_digit (s ++ t)) _ h)))))

  -- a digit more makes it such a number
  pushed : (s : List ℕ) (d : ℕ) → d < 10 → (sizes least most).begins s ≡ true → least ≤ 10 * value_of s + d → 10 * value_of s + d ≤ most
      → (sizes least most).whole (s ++ (48 + d) ∷ []) ≡ true
  pushed s d small h low high =
      let pushed : value_of (s ++ (48 + d) ∷ []) ≡ 10 * value_of s + ((48 + d) - 48) = value_of-push s (48 + d) in
      let last : (48 + d) - 48 ≡ d = omega arith in
      let value : value_of (s ++ (48 + d) ∷ []) ≡ 10 * value_of s + d = pushed ∙ ap (λ e. 10 * value_of s + e) last in
      and_both _ _
      (and_both _ _ (all_push is_digit s (48 + d) (and_left _ _ h) ∙ digit_is d small) (le-leb _ _ (subst (λ n. n ≤ most) (sym value) high)))
      (and_both _ _ (some_push is_digit s (48 + d)) (le-leb _ _ (subst (λ n. least ≤ n) (sym value) low)))

  module _ (small : least < 10) (room : 10 * least ≤ most) where
    -- digits whose number is too small
    too_small : (s : List ℕ) → (sizes least most).begins s ≡ true → (value_of s ≡ 0) → (t : List ℕ) × (sizes least most).whole (s ++ t) ≡ true
    too_small s h none = ((48 + least) ∷ [], pushed s least small h (omega (arith, none)) (omega (arith, none)))

    by_value : (s : List ℕ) (c : ℕ) (tail : List ℕ) → s ≡ c ∷ tail → (sizes least most).begins s ≡ true → (b d : Bool) → nat_le least (value_of s) ≡ b
        → nat_eq (value_of s) 0 ≡ d → (t : List ℕ) × (sizes least most).whole (s ++ t) ≡ true
    by_value s c tail is h true d e f =
        ([], ap (sizes least most).whole (append-nil s) ∙ and_both _ _ h (and_both _ _ (ap some is) e))
    by_value s c tail is h false true e f = too_small s h (grind (arith, nat_tests))
    by_value s c tail is h false false e f = (48 ∷ [], pushed s 0 (omega arith) h (grind (arith, nat_tests)) (grind (arith, nat_tests)))

    sizes_goes_on : (s : List ℕ) → (sizes least most).begins s ≡ true → (t : List ℕ) × (sizes least most).whole (s ++ t) ≡ true
    unfolding Rattle.mur_base.specs.Number.digits_behind
    sizes_goes_on [] h = too_small [] h refl
    sizes_goes_on (c ∷ s) h = by_value (c ∷ s) c s refl h (nat_le least (value_of (c ∷ s))) (nat_eq (value_of (c ∷ s)) 0) refl refl

    pub lawful_sizes : Lawful (sizes least most)
    unfolding Rattle.mur_base.specs.Number.digits_behind
    lawful_sizes = record {
      empty_begins = and_both true _ refl (le-leb 0 most (omega arith));
      front = sizes_front;
      whole = λ s h. and_left _ _ h;
      goes_on = sizes_goes_on;
    }

  -- no digit stands behind
  pub apart_sizes : (after : ℕ → Bool) → ((c : ℕ) → after c ≡ true → is_digit c ≡ false) → Apart (sizes least most) after
  apart_sizes after other s h c k = and_false _ _ (all_push is_digit s c (and_left _ _ (and_left _ _ h)) ∙ other c k)
