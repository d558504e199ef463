-- What one byte more and the lengths say of a name and a text.
use Rattle.std.proofs.Common.{◌≡◌, ℕ, suc, ◌+◌, ◌<◌, ◌≤◌, List, [], ◌∷◌, ◌++◌, length, drop, get_or, Bool, true, false}
use Rattle.std.proofs.Common.{◌&&◌, refl, ap, ap₂, ◌∙◌, arith, add-one, drop-cons, drop_of_length-le}
use Rattle.grammar.specs.Tables.{starts_by, is_by}
use Rattle.grammar.proofs.Conditions.{and_false_right}

and_assoc : (a b c : Bool) → a && (b && c) ≡ (a && b) && c
and_assoc true b c = refl
and_assoc false b c = refl

and_true : (b : Bool) → b && true ≡ b
and_true true = refl
and_true false = refl

module _ (same : ℕ → ℕ → Bool) where
  -- each name begins with nothing
  starts_empty : (name : List ℕ) → starts_by same name [] ≡ true
  starts_empty [] = refl
  starts_empty (n ∷ name) = refl

  -- one byte more is compared with the next letter
  pub starts_push : (name text : List ℕ) (c : ℕ) → length text < length name →
      starts_by same name (text ++ c ∷ []) ≡ starts_by same name text && same (get_or name (length text) 0) c
  starts_push [] text c h = absurd (omega arith)
  starts_push (n ∷ name) [] c h = ap (λ b. same n c && b) (starts_empty name) ∙ and_true (same n c)
  starts_push (n ∷ name) (d ∷ text) c h =
      ap (λ b. same n d && b) (starts_push name text c (omega arith)) ∙ and_assoc (same n d) (starts_by same name text) _

  -- a text as long as the name doesn't go on
  pub starts_full : (name text : List ℕ) (c : ℕ) → length name ≤ length text → starts_by same name (text ++ c ∷ []) ≡ false
  starts_full [] [] c h = refl
  starts_full [] (d ∷ text) c h = refl
  starts_full (n ∷ name) [] c h = absurd (omega arith)
  starts_full (n ∷ name) (d ∷ text) c h = and_false_right (same n d) _ (starts_full name text c (omega arith))

  -- a text of the name's length is the name where the name begins with it
  pub names_same : (name text : List ℕ) → length name ≡ length text → is_by same name text ≡ starts_by same name text
  names_same [] [] h = refl
  names_same [] (d ∷ text) h = absurd (omega arith)
  names_same (n ∷ name) [] h = absurd (omega arith)
  names_same (n ∷ name) (d ∷ text) h = ap (λ b. same n d && b) (names_same name text (omega arith))

  pub names_other : (name text : List ℕ) → ¬ (length name ≡ length text) → is_by same name text ≡ false
  names_other [] [] h = absurd (h refl)
  names_other [] (d ∷ text) h = refl
  names_other (n ∷ name) [] h = refl
  names_other (n ∷ name) (d ∷ text) h = and_false_right (same n d) _ (names_other name text (λ e. h (ap suc e)))

  -- the letters at one place, and those behind
  pub starts_step : (name text : List ℕ) (i : ℕ) → i < length text → i < length name →
      starts_by same (drop i name) (drop i text) ≡ same (get_or name i 0) (get_or text i 0) && starts_by same (drop (i + 1) name) (drop (i + 1) text)
  starts_step name text i h k = rw (add-one i) (ap₂ (starts_by same) (drop-cons name i 0 k) (drop-cons text i 0 h))

  -- a text that is longer than the name
  pub starts_past : (name text : List ℕ) (i : ℕ) → i < length text → length name ≤ i → starts_by same (drop i name) (drop i text) ≡ false
  starts_past name text i h k = ap₂ (starts_by same) (drop_of_length-le name k) (drop-cons text i 0 h)

  -- a text that is compared to its end
  pub starts_all : (name text : List ℕ) (i : ℕ) → length text ≤ i → starts_by same (drop i name) (drop i text) ≡ true
  starts_all name text i h = ap (starts_by same (drop i name)) (drop_of_length-le text h) ∙ starts_empty (drop i name)

pub ruleset name_steps = (starts_push, starts_full, names_same, names_other, starts_step, starts_past, starts_all)
