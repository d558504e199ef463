-- Tests joined by "and" and "or".
use Rattle.std.proofs.Common.{◌≡◌, ℕ, List, [], ◌∷◌, Bool, true, false, ◌&&◌, ◌||◌, not, ◌==◌, refl, ap, ◌∙◌, eqb-true}
use Rattle.std.specs.List.{list_all, list_any}
use Rattle.std.proofs.lemmas.Bool.{and_parts}
pub use Rattle.std.proofs.lemmas.Bool.{and_from as and_both, and_left as and_false, and_right as and_false_right}
pub use Rattle.std.proofs.lemmas.Bool.{or_left, or_right, or_from as or_none, false_from_ne_true as not_then_false}
use Rattle.grammar.specs.Exact.{among}

-- each of both
pub and_left : (a b : Bool) → a && b ≡ true → a ≡ true
and_left a b h = (and_parts a b h).0

pub and_right : (a b : Bool) → a && b ≡ true → b ≡ true
and_right a b h = (and_parts a b h).1

pub not_true : (a : Bool) → not a ≡ true → a ≡ false
not_true true h = cc
not_true false h = refl

-- a test that holds of some member holds of it by a weaker test
pub any_weaker : {X : Type 0} (p q : X → Bool) → ((x : X) → p x ≡ true → q x ≡ true) → (xs : List X) → list_any p xs ≡ true
    → list_any q xs ≡ true
any_weaker p q to [] h = h
any_weaker p q to (x ∷ xs) h = by_case (p x) refl h (any_weaker p q to xs)
  where
    by_case : (b : Bool) → p x ≡ b → b || list_any p xs ≡ true → (list_any p xs ≡ true → list_any q xs ≡ true)
        → list_any q (x ∷ xs) ≡ true
    by_case true e h again = or_left (q x) _ (to x e)
    by_case false e h again = or_right (q x) _ (again h)

-- a member of which a test holds
pub any_some : {X : Type 0} (p : X → Bool) (xs : List X) → list_any p xs ≡ true
    → (x : X) × (p x ≡ true) × ((q : X → Bool) → q x ≡ true → list_any q xs ≡ true)
any_some p [] h = cc
any_some p (x ∷ xs) h = by_case (p x) refl h (any_some p xs)
  where
    by_case : (b : Bool) → p x ≡ b → b || list_any p xs ≡ true →
        (list_any p xs ≡ true → (y : _) × (p y ≡ true) × ((q : _ → Bool) → q y ≡ true → list_any q xs ≡ true)) →
        (y : _) × (p y ≡ true) × ((q : _ → Bool) → q y ≡ true → list_any q (x ∷ xs) ≡ true)
    by_case true e h again = (x, e, λ q k. or_left (q x) _ k)
    by_case false e h again = let some = again h in (some.0, some.1, λ q k. or_right (q x) _ (some.2 q k))

-- a test that fails for each
pub any_none : {X : Type 0} (p q : X → Bool) → ((x : X) → p x ≡ true → q x ≡ false) → (xs : List X) → list_all p xs ≡ true
    → list_any q xs ≡ false
any_none p q to [] h = refl
any_none p q to (x ∷ xs) h = or_none _ _ (to x (and_left _ _ h)) (any_none p q to xs (and_right _ _ h))

-- what holds of each byte of a set holds of a byte among them
pub among_all : (p : ℕ → Bool) (set : List ℕ) → list_all p set ≡ true → (c : ℕ) → among set c ≡ true → p c ≡ true
among_all p [] h c k = cc
among_all p (x ∷ set) h c k = by_case (c == x) refl k (among_all p set (and_right _ _ h) c)
  where
    by_case : (b : Bool) → (c == x) ≡ b → b || among set c ≡ true → (among set c ≡ true → p c ≡ true) → p c ≡ true
    by_case true e k again = ap p (eqb-true c x e) ∙ and_left _ _ h
    by_case false e k again = again k
