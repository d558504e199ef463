-- std's decimal text of a number of 64 bits is that of the grammar.
use Rattle.std.proofs.Common.{◌≡◌, ℕ, zero, suc, ◌+◌, ◌/◌, ◌%◌, ◌^◌, ◌<◌, ◌≤◌, [], ◌∷◌, ◌++◌, Bool, true, false, cond, nat_lt, refl, sym, ap, ◌∙◌}
use Rattle.std.proofs.Common.{arith, decimal}
use Rattle.std.proofs.lemmas.Fmt.{decimal_by_steps}
use Rattle.std.proofs.lemmas.Bool.Decides.{nat_tests}
use Rattle.grammar.specs.Numbers.{digits_within, decimal_text}

-- the digits are the same within each bound
pub low_digit : (most n : ℕ) → n < 10 → n ≤ most → digits_within most n ≡ (48 + n) ∷ []
unfolding digits_within
low_digit zero zero h k = refl
low_digit zero (suc n) h k = absurd (omega arith)
low_digit (suc most) n h k =
    let low : nat_lt n 10 ≡ true = grind (arith, nat_tests) in
    ap (λ b. cond b ((48 + n) ∷ []) (digits_within most (n / 10) ++ (48 + n % 10) ∷ [])) low

more_digits : (most n : ℕ) → 10 ≤ n → digits_within (suc most) n ≡ digits_within most (n / 10) ++ (48 + n % 10) ∷ []
unfolding digits_within
more_digits most n h =
    let high : nat_lt n 10 ≡ false = grind (arith, nat_tests) in
    ap (λ b. cond b ((48 + n) ∷ []) (digits_within most (n / 10) ++ (48 + n % 10) ∷ [])) high

same_within : (most other n : ℕ) → n ≤ most → n ≤ other → digits_within most n ≡ digits_within other n
same_within zero other n h k = low_digit zero n (omega arith) h ∙ sym (low_digit other n (omega arith) k)
same_within (suc most) zero n h k = low_digit (suc most) n (omega arith) h ∙ sym (low_digit zero n (omega arith) k)
same_within (suc most) (suc other) n h k = by_test (nat_lt n 10) refl (λ a b. same_within most other (n / 10) a b)
  where
    by_test : (b : Bool) → nat_lt n 10 ≡ b → (n / 10 ≤ most → n / 10 ≤ other → digits_within most (n / 10) ≡ digits_within other (n / 10))
        → digits_within (suc most) n ≡ digits_within (suc other) n
    by_test true e again = let low : n < 10 = grind (arith, nat_tests) in low_digit (suc most) n low h ∙ sym (low_digit (suc other) n low k)
    by_test false e again =
        let high : 10 ≤ n = grind (arith, nat_tests) in
        more_digits most n high ∙ ap (λ s. s ++ (48 + n % 10) ∷ []) (again (omega arith) (omega arith)) ∙ sym (more_digits other n high)

pub decimal_step_text : (n : ℕ) → 10 ≤ n → decimal_text n ≡ decimal_text (n / 10) ++ (48 + n % 10) ∷ []
unfolding decimal_text
decimal_step_text zero h = absurd (omega arith)
decimal_step_text (suc n) h =
    more_digits n (suc n) h ∙ ap (λ s. s ++ (48 + suc n % 10) ∷ []) (same_within n (suc n / 10) (suc n / 10) (omega arith) (omega arith))

pub decimal_is_text : (n : ℕ) → n < 2 ^ 64 → decimal n ≡ decimal_text n
unfolding decimal_text
decimal_is_text n h =
    decimal_by_steps (λ n digits. digits ≡ decimal_text n) (λ n low. sym (low_digit n n low (omega arith)))
    (λ n digits high e. ap (λ s. s ++ (48 + n % 10) ∷ []) e ∙ sym (decimal_step_text n high)) n h
