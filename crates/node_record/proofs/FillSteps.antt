-- A text with a byte behind it as often as it takes for 64 bytes.
use Rattle.std.proofs.Common.{◌≡◌, ℕ, zero, suc, ◌+◌, ◌-◌, ◌<◌, ◌≤◌, List, [], ◌∷◌, ◌++◌, length, take, drop, replicate, set, Bool, true, false, refl, sym, ap, ◌∙◌, subst, arith, length-append, append_assoc, append-nil}
use Rattle.std.proofs.lemmas.List.{length-replicate, drop-replicate, set-append_right}
use Rattle.std.proofs.Math.Seq.{take-append-add}
use Rattle.node_record.specs.Flags.{is_next, goes_on, tildes_to, last_byte}
use Rattle.node_record.proofs.KeywordsLaw.{next_is}

take_many : (n k : ℕ) (y : ℕ) → take n (replicate (n + k) y) ≡ replicate n y
take_many zero k y = refl
take_many (suc n) k y =
    let more : suc n + k ≡ suc (n + k) = omega arith in
    ap (λ (m : ℕ). take (suc n) (replicate m y)) more ∙ ap (λ (l : List ℕ). y ∷ l) (take_many n k y)

set_last : (n k : ℕ) (y z : ℕ) → take (suc n) (set (replicate (suc n + k) y) n z) ≡ replicate n y ++ z ∷ []
set_last zero k y z =
    let more : 1 + k ≡ suc k = omega arith in
    ap (λ (m : ℕ). take 1 (set (replicate m y) 0 z)) more
set_last (suc n) k y z =
    let more : suc (suc n) + k ≡ suc (suc n + k) = omega arith in
    ap (λ (m : ℕ). take (suc (suc n)) (set (replicate m y) (suc n) z)) more ∙ ap (λ (l : List ℕ). y ∷ l) (set_last n k y z)

module _ (front : List ℕ) (size : ℕ) (y : ℕ) (short : size ≤ 64) where
  -- as much of it as a size says
  pub filled_front : length front ≤ size → take size (front ++ replicate (64 - length front) y) ≡ front ++ replicate (size - length front) y
  filled_front fits =
      let here : length front + (size - length front) ≡ size = omega (arith, fits) in
      let rest : (size - length front) + (64 - size) ≡ 64 - length front = omega (arith, fits, short) in
      ap (λ (n : ℕ). take n (front ++ replicate (64 - length front) y)) (sym here)
      ∙ take-append-add front (replicate (64 - length front) y) (size - length front)
      ∙ ap (λ (n : ℕ). front ++ take (size - length front) (replicate n y)) (sym rest)
      ∙ ap (λ (l : List ℕ). front ++ l) (take_many (size - length front) (64 - size) y)

pub filled_more : (front : List ℕ) (y : ℕ) → length front < 64 → take (length front + 1) (front ++ replicate (64 - length front) y) ≡ front ++ y ∷ []
filled_more front y fits =
    let one : length front + 1 - length front ≡ 1 = omega arith in
    filled_front front (length front + 1) y (omega (arith, fits)) (omega arith) ∙ ap (λ (n : ℕ). front ++ replicate n y) one

pub filled_whole : (front : List ℕ) (size last : ℕ) → size ≤ 64 → length front ≡ size
    → take size (front ++ replicate (64 - length front) 126) ≡ front ++ tildes_to last (size - length front)
unfolding tildes_to
filled_whole front size last short whole =
    let none : size - length front ≡ 0 = omega (arith, whole) in
    filled_front front size 126 short (omega (arith, whole))
    ∙ ap (λ (n : ℕ). front ++ replicate n 126) none
    ∙ sym (ap (λ (n : ℕ). front ++ tildes_to last n) none)

pub filled_to : (front : List ℕ) (size last : ℕ) → size ≤ 64 → length front < size
    → take size (set (front ++ replicate (64 - length front) 126) (size - 1) last) ≡ front ++ tildes_to last (size - length front)
unfolding tildes_to
filled_to front size last short more = by_rest (size - length front - 1) (omega (arith, more))
  where
    by_rest : (n : ℕ) → size ≡ length front + suc n → take size (set (front ++ replicate (64 - length front) 126) (size - 1) last) ≡ front ++ tildes_to last (size - length front)
    by_rest n e =
        let at : size - 1 - length front ≡ n = omega (arith, e) in
        let rest : suc n + (64 - size) ≡ 64 - length front = omega (arith, e, short) in
        let many : size - length front ≡ suc n = omega (arith, e) in
        ap (take size) (set-append_right front (replicate (64 - length front) 126) (length front) (size - 1) last refl (omega (arith, e)))
        ∙ ap (λ (k : ℕ). take k (front ++ set (replicate (64 - length front) 126) (size - 1 - length front) last)) e
        ∙ take-append-add front (set (replicate (64 - length front) 126) (size - 1 - length front) last) (suc n)
        ∙ ap (λ (k : ℕ). front ++ take (suc n) (set (replicate (64 - length front) 126) k last)) at
        ∙ ap (λ (k : ℕ). front ++ take (suc n) (set (replicate k 126) n last)) (sym rest)
        ∙ ap (λ (l : List ℕ). front ++ l) (set_last n (64 - size) 126 last)
        ∙ sym (ap (λ (k : ℕ). front ++ tildes_to last k) many)

-- a text that is too long is none, and goes on to none

pub too_long : (before : List ℕ) (above size last : ℕ) (front : List ℕ) → size < length front
    → is_next before above size (front ++ tildes_to last (size - length front)) ≡ false
too_long before above size last front more = by_case (is_next before above size (front ++ tildes_to last (size - length front))) refl
  where
    by_case : (b : Bool) → is_next before above size (front ++ tildes_to last (size - length front)) ≡ b → b ≡ false
    by_case true e = absurd (omega (arith, more, (next_is before above size (front ++ tildes_to last (size - length front)) e).long, length-append front (tildes_to last (size - length front))))
    by_case false e = refl

pub stays_long : (before : List ℕ) (above size : ℕ) (front : List ℕ) (byte : ℕ) → size ≤ length front → goes_on before above size (front ++ byte ∷ []) ≡ false
unfolding goes_on
stays_long before above size front byte more =
    let longer : size < length (front ++ byte ∷ []) = omega (arith, more, length-append front (byte ∷ [])) in
    rw (too_long before above size 126 (front ++ byte ∷ []) longer, too_long before above size (last_byte above) (front ++ byte ∷ []) longer) refl

-- the code's text

pub filled_is : (front new : List ℕ) (y : ℕ) → new ≡ front → new ++ drop (length front) (replicate 64 y) ≡ front ++ replicate (64 - length front) y
filled_is front new y same =
    ap (λ (l : List ℕ). l ++ drop (length front) (replicate 64 y)) same ∙ ap (λ (l : List ℕ). front ++ l) (drop-replicate (length front) 64 y)

pub filled_length : (front : List ℕ) (y : ℕ) → length front ≤ 64 → length (front ++ replicate (64 - length front) y) ≡ 64
filled_length front y short = omega (arith, short, length-append front (replicate (64 - length front) y), length-replicate {A = ℕ} (64 - length front) y)
