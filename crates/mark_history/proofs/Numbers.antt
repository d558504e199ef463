-- How many are such, and whether a mark's command is one that its client was told of.
use Rattle.std.proofs.Common.{◌≡◌, ℕ, ◌+◌, ◌≤◌, ◌<◌, Bool, true, false, cond, nat_le, List, [], ◌∷◌, ◌∙◌, ap, arith}
use Rattle.std.specs.Prelude.{All, count_by}
use Rattle.std.proofs.lemmas.Bool.Decides.{nat_tests}
use Rattle.std.proofs.lemmas.List.Elements.{All-cons, All-nil}
use Rattle.std.proofs.lemmas.List.Sums.{sum_by-append}
use Rattle.mark_history.specs.declared.mark.Mark.{Mark}
use Rattle.mark_history.proofs.Tally.{command_of, conn_of}

-- ---- lists

pub count_cons : {T : Type 0} (p : T → Bool) (x : T) (xs : List T) → count_by p (x ∷ xs) ≡ cond (p x) 1 0 + count_by p xs
count_cons p x xs = sum_by-append (λ y. cond (p y) 1 0) (x ∷ []) xs ∙ ap (λ n. n + count_by p xs) (omega arith)

cond_true : (b : Bool) → b ≡ true → ◌≡◌ {A = ℕ} (cond b 1 0) 1
cond_true b e = ap {B = ℕ} (λ c. cond c 1 0) e

-- where there are none, each is none
pub none_are : {T : Type 0} (p : T → Bool) (xs : List T) → count_by p xs ≡ 0 → All (λ x. p x ≡ true → ⊥) xs
none_are p [] none = All-nil (λ x. p x ≡ true → ⊥)
none_are p (x ∷ xs) none =
    All-cons (λ y. p y ≡ true → ⊥) x xs (λ is. omega (arith, none, count_cons p x xs, cond_true (p x) is))
    (none_are p xs (omega (arith, none, count_cons p x xs)))

-- ---- numbers

-- a mark's command is among those that its client was told of, or isn't
pub within : (told : ℕ → ℕ) (mark : Mark) (b : Bool) → nat_le (command_of mark) (told (conn_of mark)) ≡ b → b ≡ true → command_of mark ≤ told (conn_of mark)
within told mark b h t = let both : nat_le (command_of mark) (told (conn_of mark)) ≡ true = h ∙ t in grind (arith, nat_tests)

pub beyond : (told : ℕ → ℕ) (mark : Mark) (b : Bool) → nat_le (command_of mark) (told (conn_of mark)) ≡ b → b ≡ false → told (conn_of mark) < command_of mark
beyond told mark b h t = let both : nat_le (command_of mark) (told (conn_of mark)) ≡ false = h ∙ t in grind (arith, nat_tests)
