-- A letter and a digit are a name.
use Rattle.std.proofs.Common.{◌≡◌, ◌<◌, ◌+◌, ℕ, zero, suc, true, List, [], ◌∷◌, None, refl, arith}
use Rattle.std.specs.Prelude.{decimal}
use Rattle.std.proofs.lemmas.Fmt.{decimal_by_steps}
use Rattle.mur_base.specs.Names.{short_name_fault, has_short_name_bytes, is_short_name_byte}

pub one_digit : (n : ℕ) → n < 10 → decimal n ≡ (48 + n) ∷ []
one_digit n small =
    decimal_by_steps (λ (k : ℕ) (text : List ℕ). k < 10 → text ≡ (48 + k) ∷ []) (λ k few below. refl) (λ k text many rest below. absurd (omega arith)) n (omega arith) small

digit_fits : (n : ℕ) → n < 10 → is_short_name_byte (48 + n) ≡ true
unfolding is_short_name_byte
digit_fits zero small = refl
digit_fits (suc zero) small = refl
digit_fits (suc (suc zero)) small = refl
digit_fits (suc (suc (suc zero))) small = refl
digit_fits (suc (suc (suc (suc zero)))) small = refl
digit_fits (suc (suc (suc (suc (suc zero))))) small = refl
digit_fits (suc (suc (suc (suc (suc (suc zero)))))) small = refl
digit_fits (suc (suc (suc (suc (suc (suc (suc zero))))))) small = refl
digit_fits (suc (suc (suc (suc (suc (suc (suc (suc zero)))))))) small = refl
digit_fits (suc (suc (suc (suc (suc (suc (suc (suc (suc zero))))))))) small = refl
digit_fits (suc (suc (suc (suc (suc (suc (suc (suc (suc (suc n)))))))))) small = absurd (omega arith)

pub letter_and_digit : (letter n : ℕ) → is_short_name_byte letter ≡ true → n < 10 → short_name_fault (letter ∷ decimal n) ≡ None
unfolding short_name_fault has_short_name_bytes
letter_and_digit letter n fits small = rw (one_digit n small, fits, digit_fits n small) refl
