-- Runs of bytes are lawful words, and end before a byte that doesn't pass.
use Rattle.std.proofs.Common.{◌≡◌, ℕ, zero, suc, ◌<◌, ◌≤◌, List, [], ◌∷◌, ◌++◌, length, take, drop, get_or, Bool, true, false, ◌&&◌}
use Rattle.std.proofs.Common.{refl, sym, ap, ◌∙◌, append-nil, append_assoc}
use Rattle.std.proofs.Common.{length-append, arith, leb, leb-true, le-leb}
use Rattle.std.specs.List.{list_all}
use Rattle.grammar.specs.Words.{Lawful, Apart, scan, halt}
use Rattle.grammar.specs.Runs.{run_of, run_upto, some}
use Rattle.grammar.proofs.Conditions.{and_both, and_left, and_right, and_false}

module _ (test : ℕ → Bool) where
  -- a text passes where both halves do
  pub all_join : (s t : List ℕ) → list_all test s ≡ true → list_all test t ≡ true → list_all test (s ++ t) ≡ true
  all_join [] t h k = k
  all_join (c ∷ s) t h k = and_both (test c) _ (and_left _ _ h) (all_join s t (and_right _ _ h) k)

  pub all_front : (s t : List ℕ) → list_all test (s ++ t) ≡ true → list_all test s ≡ true
  all_front [] t h = refl
  all_front (c ∷ s) t h = and_both (test c) _ (and_left _ _ h) (all_front s t (and_right _ _ h))

  -- one byte more is what the text adds to the test
  pub all_push : (s : List ℕ) (c : ℕ) → list_all test s ≡ true → list_all test (s ++ c ∷ []) ≡ test c
  all_push [] c h = by_case (test c)
    where
      by_case : (b : Bool) → b && true ≡ b
      by_case true = refl
      by_case false = refl
  all_push (d ∷ s) c h = ap (λ b. b && list_all test (s ++ c ∷ [])) (and_left _ _ h) ∙ all_push s c (and_right _ _ h)

  -- a scan halts behind the bytes that pass
  run_halts_behind : (front bytes : List ℕ) (n : ℕ) → list_all test front ≡ true → n ≤ length bytes → list_all test (take n bytes) ≡ true
      → (n < length bytes → test (get_or bytes n 0) ≡ false)
      → scan (run_of test) front bytes ≡ halt ((run_of test).whole (front ++ take n bytes)) (front ++ take n bytes) (drop n bytes)
  run_halts_behind front [] zero all within passing ends = ap (λ s. halt ((run_of test).whole s) s []) (sym (append-nil front))
  run_halts_behind front [] (suc n) all within passing ends = absurd (omega arith)
  run_halts_behind front (c ∷ bytes) zero all within passing ends =
      rw (all_push front c all, ends (omega arith), append-nil front) refl
  run_halts_behind front (c ∷ bytes) (suc n) all within passing ends =
      let first : test c ≡ true = and_left _ _ passing in
      rw (all_push front c all, first)
      (run_halts_behind (front ++ c ∷ []) bytes n (all_push front c all ∙ first) (omega arith) (and_right _ _ passing) (λ h. ends (omega arith))
      ∙ ap (λ s. halt ((run_of test).whole s) s (drop n bytes)) (append_assoc front (c ∷ []) (take n bytes)))

  pub run_halts : (bytes : List ℕ) (n : ℕ) → n ≤ length bytes → list_all test (take n bytes) ≡ true
      → (n < length bytes → test (get_or bytes n 0) ≡ false)
      → scan (run_of test) [] bytes ≡ halt ((run_of test).whole (take n bytes)) (take n bytes) (drop n bytes)
  run_halts bytes n within passing ends = run_halts_behind [] bytes n refl within passing ends

  pub some_push : (s : List ℕ) (c : ℕ) → some (s ++ c ∷ []) ≡ true
  some_push [] c = refl
  some_push (d ∷ s) c = refl

  pub lawful_run : (example : ℕ) → test example ≡ true → Lawful (run_of test)
  lawful_run example passes = record {
    empty_begins = refl;
    front = all_front;
    whole = λ s h. and_left _ _ h;
    goes_on = λ s h. (example ∷ [], and_both _ _ (all_push s example h ∙ passes) (some_push s example));
  }

  pub apart_run : (after : ℕ → Bool) → ((c : ℕ) → after c ≡ true → test c ≡ false) → Apart (run_of test) after
  apart_run after other s h c k = all_push s c (and_left _ _ h) ∙ other c k

  module _ (most : ℕ) where
    upto_front : (s t : List ℕ) → list_all test (s ++ t) && leb (length (s ++ t)) most ≡ true → list_all test s && leb (length s) most ≡ true
    upto_front s t h =
        let short = leb-true _ _ (and_right (list_all test (s ++ t)) _ h) in
        and_both _ _ (all_front s t (and_left _ _ h)) (le-leb _ _ (omega (arith, length-append s t)))

    -- a text that begins a run of at most `most` bytes goes on to one
    upto_goes_on : (example : ℕ) → test example ≡ true → 0 < most → (s : List ℕ) → list_all test s && leb (length s) most ≡ true
        → (t : List ℕ) × (run_upto most test).whole (s ++ t) ≡ true
    upto_goes_on example passes room [] h = (example ∷ [], and_both _ _ (and_both _ _ (and_both _ _ passes refl) (le-leb _ _ room)) refl)
    upto_goes_on example passes room (c ∷ s) h =
        ([], ap (λ t. list_all test t && leb (length t) most && some t) (append-nil (c ∷ s)) ∙ and_both _ _ h refl)

    pub lawful_run_upto : (example : ℕ) → test example ≡ true → 0 < most → Lawful (run_upto most test)
    lawful_run_upto example passes room = record {
      empty_begins = and_both true _ refl (le-leb _ _ (omega arith));
      front = upto_front;
      whole = λ s h. and_left _ _ h;
      goes_on = upto_goes_on example passes room;
    }

    pub apart_run_upto : (after : ℕ → Bool) → ((c : ℕ) → after c ≡ true → test c ≡ false) → Apart (run_upto most test) after
    apart_run_upto after other s h c k = and_false _ _ (all_push s c (and_left _ _ (and_left _ _ h)) ∙ other c k)
