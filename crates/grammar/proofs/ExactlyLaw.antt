-- What so many bytes of a set are read as, from how many of the first bytes pass.
use Rattle.std.proofs.Common.{◌≡◌, ℕ, zero, suc, ◌+◌, ◌-◌, ◌<◌, ◌≤◌, List, [], ◌∷◌, length, take, drop, get_or, Ok, Err, Bool}
use Rattle.std.proofs.Common.{true, false, refl, ap, ◌∙◌, min, ⊎_elim, arith}
use Rattle.std.proofs.lemmas.Bool.{cases_lt}
use Rattle.std.specs.List.{list_all}
use Rattle.grammar.specs.Part.{◌>>=◌, exactly, map, taken}
use Rattle.grammar.proofs.Conditions.{and_left, and_right}

module _ (test : ℕ → Bool) where
  exactly_step : (n c : ℕ) (bytes : List ℕ) (b : Bool) → test c ≡ b → (exactly test (suc n)).at (c ∷ bytes) ≡ taken b c bytes >>=
      (λ c rest. (map (λ s. c ∷ s) (exactly test n)).at rest)
  unfolding exactly
  exactly_step n c bytes b e = ap (λ b. taken b c bytes >>= (λ c rest. (map (λ s. c ∷ s) (exactly test n)).at rest)) e

  -- they are there
  pub exactly_found : (n : ℕ) (bytes : List ℕ) → n ≤ length bytes → list_all test (take n bytes) ≡ true
      → (exactly test n).at bytes ≡ Ok (take n bytes, drop n bytes)
  unfolding exactly
  exactly_found zero bytes h k = refl
  exactly_found (suc n) [] h k = absurd (omega arith)
  exactly_found (suc n) (c ∷ bytes) h k =
      exactly_step n c bytes true (and_left _ _ k)
      ∙ ap (λ r. r >>= (λ s rest. Ok (c ∷ s, rest))) (exactly_found n bytes (omega arith) (and_right (test c) _ k))

  -- fewer pass, or there are fewer
  pub exactly_stops : (n i : ℕ) (bytes : List ℕ) → i < n → i ≤ length bytes → list_all test (take i bytes) ≡ true
      → (i < length bytes → test (get_or bytes i 0) ≡ false) →
      (exactly test n).at bytes ≡ Err (length bytes - i)
  unfolding exactly
  exactly_stops zero i bytes l h k e = absurd (omega arith)
  exactly_stops (suc n) zero [] l h k e = refl
  exactly_stops (suc n) zero (c ∷ bytes) l h k e =
      exactly_step n c bytes false (e (omega arith)) ∙ ap (λ n. Err n) (let same : suc (length bytes) ≡ length (c ∷ bytes) - 0 = omega arith in same)
  exactly_stops (suc n) (suc i) [] l h k e = absurd (omega arith)
  exactly_stops (suc n) (suc i) (c ∷ bytes) l h k e =
      exactly_step n c bytes true (and_left _ _ k)
      ∙ ap (λ r. r >>= (λ s rest. Ok (c ∷ s, rest)))
      (exactly_stops n i bytes (omega arith) (omega arith) (and_right (test c) _ k) (λ m. e (omega arith)))
      ∙ ap (λ n. Err n) (let same : length bytes - i ≡ length (c ∷ bytes) - suc i = omega arith in same)

  -- more bytes than there are stop where one more than there are does
  pub exactly_beyond : (n m : ℕ) (bytes : List ℕ) → length bytes < n → length bytes < m → (exactly test n).at bytes ≡ (exactly test m).at bytes
  unfolding exactly
  exactly_beyond zero m bytes h k = absurd (omega arith)
  exactly_beyond (suc n) zero bytes h k = absurd (omega arith)
  exactly_beyond (suc n) (suc m) [] h k = refl
  exactly_beyond (suc n) (suc m) (c ∷ bytes) h k =
      by_case (test c) (ap (λ r. r >>= (λ s rest. Ok (c ∷ s, rest))) (exactly_beyond n m bytes (omega arith) (omega arith)))
    where
      by_case : (b : Bool) → (map (λ s. c ∷ s) (exactly test n)).at bytes ≡ (map (λ s. c ∷ s) (exactly test m)).at bytes →
          taken b c bytes >>= (λ c rest. (map (λ s. c ∷ s) (exactly test n)).at rest) ≡ taken b c bytes >>=
          (λ c rest. (map (λ s. c ∷ s) (exactly test m)).at rest)
      by_case true e = e
      by_case false e = refl

  -- a count may be cut to one more than there are
  pub exactly_upto : (n : ℕ) (bytes : List ℕ) → (exactly test (min n (length bytes + 1))).at bytes ≡ (exactly test n).at bytes
  exactly_upto n bytes = ⊎_elim
      (λ h. ap (λ m. (exactly test m).at bytes) (let same : min n (length bytes + 1) ≡ n = omega arith in same))
      (λ h. exactly_beyond (min n (length bytes + 1)) n bytes (omega arith) (omega arith))
      (cases_lt n (length bytes + 1))
