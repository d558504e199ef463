-- One digit more in the scan of a numeral.
use Rattle.std.proofs.Common.{◌≡◌, ℕ, suc, ◌+◌, ◌-◌, ◌*◌, ◌<◌, List, [], ◌∷◌, ◌++◌, length, take, drop, get_or, Bool, true}
use Rattle.std.proofs.Common.{false, ◌&&◌, ◌||◌, not, ◌==◌, nat_eq, leb, refl, sym, ap, ap₂, ◌∙◌, arith, add-one, take-suc, length-take-le}
use Rattle.std.proofs.Common.{ne_eqb, le_of_lt}
use Rattle.std.specs.List.{list_all}
use Rattle.grammar.specs.Words.{scan, halt}
use Rattle.mur_base.specs.Number.{is_digit}
use Rattle.grammar.specs.Numbers.{value_of, no_zero_first, numerals, is_next_digit}
use Rattle.grammar.proofs.Conditions.{and_left, and_right, not_then_false}
use Rattle.grammar.proofs.RunLaw.{all_push}
use Rattle.grammar.proofs.ScanSteps.{scan_more, scan_halts}
use Rattle.grammar.proofs.NumberLaw.{value_of-push}

-- no zero stands first of a text with one byte more
zeros_push : (zeros : Bool) (front : List ℕ) (c : ℕ) → zeros || no_zero_first front ≡ true →
    zeros || no_zero_first (front ++ c ∷ []) ≡ zeros || not (nat_eq (length front) 0 && (c == 48))
zeros_push true front c h = refl
zeros_push false [] c h = refl
zeros_push false (d ∷ front) c h =
    let longer : nat_eq (suc (length front)) 0 ≡ false = ne_eqb _ _ (λ e. absurd (omega arith)) in
    h ∙ sym (ap (λ b. not (b && (c == 48))) longer)

module _ (zeros : Bool) (most : ℕ) where
  -- a byte behind a text that begins a numeral
  pub numeral_push : (front : List ℕ) (c : ℕ) → (numerals zeros most).begins front ≡ true →
      (numerals zeros most).begins (front ++ c ∷ []) ≡ is_next_digit zeros most (value_of front) (nat_eq (length front) 0) c
  numeral_push front c h =
      ap₂ (λ a b. a && b)
      (ap₂ (λ a b. a && b) (all_push is_digit front c (and_left _ _ (and_left _ _ h))) (ap (λ n. leb n most) (value_of-push front c)))
      (zeros_push zeros front c (and_right (list_all is_digit front && leb (value_of front) most) _ h))

  -- the scan at a place
  module _ (bytes : List ℕ) (i number : ℕ) (within : i < length bytes) (value : number ≡ value_of (take i bytes))
      (begins : (numerals zeros most).begins (take i bytes) ≡ true)
      (scanned : scan (numerals zeros most) (take i bytes) (drop i bytes) ≡ scan (numerals zeros most) [] bytes) where
    push_is : (numerals zeros most).begins (take i bytes ++ get_or bytes i 0 ∷ []) ≡ is_next_digit zeros most number (nat_eq i 0) (get_or bytes i 0)
    push_is = numeral_push (take i bytes) (get_or bytes i 0) begins
        ∙ ap₂ (λ n len. is_next_digit zeros most n (nat_eq len 0) (get_or bytes i 0)) (sym value) (length-take-le i bytes (le_of_lt within))

    place_is : (numerals zeros most).begins (take (i + 1) bytes) ≡ is_next_digit zeros most number (nat_eq i 0) (get_or bytes i 0)
    place_is = ap (numerals zeros most).begins (ap (λ n. take n bytes) (add-one i) ∙ take-suc bytes i 0 within) ∙ push_is

    -- a byte that is no next digit ends it
    pub numeral_halts : ¬ (is_next_digit zeros most number (nat_eq i 0) (get_or bytes i 0) ≡ true) →
        scan (numerals zeros most) [] bytes ≡ halt ((numerals zeros most).whole (take i bytes)) (take i bytes) (drop i bytes)
    numeral_halts ends = scan_halts (numerals zeros most) bytes i within scanned (place_is ∙ not_then_false _ ends)

    -- a next digit is taken
    pub numeral_more : (next : ℕ) → is_next_digit zeros most number (nat_eq i 0) (get_or bytes i 0) ≡ true →
        next ≡ 10 * number + (get_or bytes i 0 - 48) →
        record {
          value : next ≡ value_of (take (i + 1) bytes);
          begins : (numerals zeros most).begins (take (i + 1) bytes) ≡ true;
          scanned : scan (numerals zeros most) (take (i + 1) bytes) (drop (i + 1) bytes) ≡ scan (numerals zeros most) [] bytes;
        }
    numeral_more next more same = record {
      value = same ∙ ap (λ n. 10 * n + (get_or bytes i 0 - 48)) value ∙ sym (value_of-push (take i bytes) (get_or bytes i 0))
          ∙ ap value_of (sym (ap (λ n. take n bytes) (add-one i) ∙ take-suc bytes i 0 within));
      begins = place_is ∙ more;
      scanned = scan_more (numerals zeros most) bytes i within scanned (place_is ∙ more);
    }

-- one digit more
pub value_of-take : (digits : List ℕ) (i : ℕ) → i < length digits
    → value_of (take (i + 1) digits) ≡ 10 * value_of (take i digits) + (get_or digits i 0 - 48)
value_of-take digits i h = ap value_of (ap (λ n. take n digits) (add-one i) ∙ take-suc digits i 0 h) ∙ value_of-push (take i digits) (get_or digits i 0)
