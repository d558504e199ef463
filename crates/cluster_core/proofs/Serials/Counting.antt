-- A list has no more items than another one that has each of them at least as often.
use Rattle.std.proofs.Common.{◌≡◌, ◌≢◌, ℕ, ◌+◌, ◌≤◌, Bool, true, false, cond, nat_eq, List, [], ◌∷◌, ◌++◌, length, refl, ap, arith}
use Rattle.std.proofs.lemmas.Bool.Decides.{nat_tests}

-- how often a number stands in a list
unfoldable pub times : ℕ → List ℕ → ℕ
times n [] = 0
times n (m ∷ ms) = cond (nat_eq m n) 1 0 + times n ms

pub times_first : (n : ℕ) (ms : List ℕ) → times n (n ∷ ms) ≡ 1 + times n ms
unfolding times
times_first n ms = let same : nat_eq n n ≡ true = grind (arith, nat_tests) in rw same refl

pub times_else : (n other : ℕ) (ms : List ℕ) → n ≢ other → times n (other ∷ ms) ≡ times n ms
unfolding times
times_else n other ms ne = let apart : nat_eq other n ≡ false = grind (arith, nat_tests) in rw apart (omega arith)

pub times_joined : (n : ℕ) (one other : List ℕ) → times n (one ++ other) ≡ times n one + times n other
unfolding times
times_joined n [] other = omega arith
times_joined n (m ∷ one) other = omega (arith, times_joined n one other)

-- the list without the first of these
without_one : ℕ → List ℕ → List ℕ
without_one n [] = []
without_one n (m ∷ ms) = cond (nat_eq m n) ms (m ∷ without_one n ms)

one_less : (n : ℕ) (ms : List ℕ) → 1 ≤ times n ms → length ms ≡ 1 + length (without_one n ms)
unfolding times without_one
one_less n [] some = omega (arith, some)
one_less n (m ∷ ms) some = by (nat_eq m n) (λ more. one_less n ms more) some
  where
    by : (same : Bool) → (1 ≤ times n ms → length ms ≡ 1 + length (without_one n ms)) → 1 ≤ cond same 1 0 + times n ms
        → length (m ∷ ms) ≡ 1 + length (cond same ms (m ∷ without_one n ms))
    by true rest more = omega arith
    by false rest more = omega (arith, rest (omega (arith, more)))

times_left : (n k : ℕ) (ms : List ℕ) → 1 ≤ times n ms → times k ms ≡ cond (nat_eq n k) 1 0 + times k (without_one n ms)
unfolding times without_one
times_left n k [] some = omega (arith, some)
times_left n k (m ∷ ms) some = by (nat_eq m n) refl (λ more. times_left n k ms more) some
  where
    by : (same : Bool) → nat_eq m n ≡ same → (1 ≤ times n ms → times k ms ≡ cond (nat_eq n k) 1 0 + times k (without_one n ms))
        → 1 ≤ cond same 1 0 + times n ms
        → cond (nat_eq m k) 1 0 + times k ms ≡ cond (nat_eq n k) 1 0 + times k (cond same ms (m ∷ without_one n ms))
    by true e rest more = (let is : m ≡ n = grind (arith, nat_tests) in ap (λ (x : ℕ). cond (nat_eq x k) 1 0 + times k ms) is)
    by false e rest more = omega (arith, rest (omega (arith, more)))

-- THE LIST IS NO LONGER
pub no_longer : (ns ms : List ℕ) → ((n : ℕ) → times n ns ≤ times n ms) → length ns ≤ length ms
unfolding times
no_longer [] ms each = omega arith
no_longer (n ∷ ns) ms each =
    let some : 1 ≤ times n ms = omega (arith, each n, times_first n ns) in
    let rest : length ns ≤ length (without_one n ms) = no_longer ns (without_one n ms) (λ k. omega (arith, each k, times_left n k ms some)) in
    omega (arith, rest, one_less n ms some)
