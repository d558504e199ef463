-- Runs of bytes between two bounds are lawful words.
use Rattle.std.proofs.Common.{◌≡◌, ℕ, zero, suc, ◌+◌, ◌-◌, ◌≤◌, List, [], ◌∷◌, ◌++◌, length, Bool, true, false, ◌&&◌, nat_le}
use Rattle.std.proofs.Common.{refl, sym, ap, ◌∙◌, append-nil, append_assoc, arith, leb-true, le-leb, length-append}
use Rattle.std.specs.List.{list_all}
use Rattle.grammar.specs.Words.{Lawful, Apart}
use Rattle.grammar.proofs.Conditions.{and_both, and_left, and_right, and_false}
use Rattle.grammar.proofs.RunLaw.{all_front, all_push}
use Rattle.text_parts.specs.Locations.{run_within}

module _ (least most : ℕ) (test : ℕ → Bool) where
  within_front : (s t : List ℕ) → (run_within least most test).begins (s ++ t) ≡ true → (run_within least most test).begins s ≡ true
  within_front s t h =
      let short = leb-true _ _ (and_right (list_all test (s ++ t)) _ h) in
      and_both _ _ (all_front test s t (and_left _ _ h)) (le-leb _ _ (omega (arith, length-append s t)))

  module _ (example : ℕ) (passes : test example ≡ true) where
    filled : (k : ℕ) (s : List ℕ) → (run_within least most test).begins s ≡ true → least ≤ length s + k → length s + k ≤ most
        → (t : List ℕ) × (run_within least most test).whole (s ++ t) ≡ true
    filled zero s h low high =
        ([], ap (run_within least most test).whole (append-nil s) ∙ and_both _ _ h (le-leb _ _ (omega arith)))
    filled (suc k) s h low high =
        let longer : length (s ++ example ∷ []) ≡ length s + 1 = length-append s (example ∷ []) in
        let on = filled k (s ++ example ∷ [])
        (and_both _ _ (all_push test s example (and_left _ _ h) ∙ passes) (le-leb _ _ (omega (arith, longer)))) (omega (arith, longer)) (omega (arith, longer)) in
        (example ∷ on.0, ap (run_within least most test).whole (sym (append_assoc s (example ∷ []) on.0)) ∙ on.1)

    pub lawful_within : least ≤ most → Lawful (run_within least most test)
    lawful_within room = record {
      empty_begins = and_both true _ refl (le-leb 0 most (omega arith));
      front = within_front;
      whole = λ s h. and_left _ _ h;
      goes_on = λ s h.
          let short : length s ≤ most = leb-true _ _ (and_right (list_all test s) _ h) in
          filled (least - length s) s h (omega arith) (omega arith);
    }

  pub apart_within : (after : ℕ → Bool) → ((c : ℕ) → after c ≡ true → test c ≡ false) → Apart (run_within least most test) after
  apart_within after other s h c k = and_false _ _ (all_push test s c (and_left _ _ (and_left _ _ h)) ∙ other c k)
