-- The names of a table are lawful words, and end before a byte that no name has.
use Rattle.std.proofs.Common.{◌≡◌, ℕ, List, [], ◌∷◌, ◌++◌, true, false, not, refl, ◌∙◌, eq-eqb}
use Rattle.std.specs.List.{list_all, list_any}
use Rattle.std.specs.Char.{eq_ignore_ascii_case, to_ascii_lowercase}
use Rattle.grammar.specs.Exact.{among}
use Rattle.grammar.specs.Words.{Lawful, Apart}
use Rattle.grammar.specs.Tables.{any_case, begins_some, starts_name, is_name, lacks}
use Rattle.grammar.proofs.Conditions.{and_both, and_left, and_right, and_false, and_false_right, not_true, any_weaker, any_some, any_none, among_all}

-- a byte is itself in any case
letter_same : (c : ℕ) → eq_ignore_ascii_case c c ≡ true
letter_same c = eq-eqb (to_ascii_lowercase c) (to_ascii_lowercase c) refl

-- each name begins with nothing
pub starts_empty : (name : List ℕ) → starts_name name [] ≡ true
starts_empty [] = refl
starts_empty (n ∷ name) = refl

starts_front : (name s t : List ℕ) → starts_name name (s ++ t) ≡ true → starts_name name s ≡ true
starts_front name [] t h = starts_empty name
starts_front [] (c ∷ s) t h = h
starts_front (n ∷ name) (c ∷ s) t h = and_both _ _ (and_left _ _ h) (starts_front name s t (and_right _ _ h))

starts_whole : (name s : List ℕ) → is_name name s ≡ true → starts_name name s ≡ true
starts_whole [] [] h = refl
starts_whole [] (c ∷ s) h = h
starts_whole (n ∷ name) [] h = refl
starts_whole (n ∷ name) (c ∷ s) h = and_both _ _ (and_left _ _ h) (starts_whole name s (and_right _ _ h))

pub name_same : (name : List ℕ) → is_name name name ≡ true
name_same [] = refl
name_same (n ∷ name) = and_both _ _ (letter_same n) (name_same name)

-- what begins a name goes on to it
starts_goes_on : (name s : List ℕ) → starts_name name s ≡ true → (t : List ℕ) × (is_name name (s ++ t) ≡ true)
starts_goes_on name [] h = (name, name_same name)
starts_goes_on [] (c ∷ s) h = cc
starts_goes_on (n ∷ name) (c ∷ s) h = let on = starts_goes_on name s (and_right _ _ h) in (on.0, and_both _ _ (and_left _ _ h) on.1)

-- a byte that no letter of the name is in any case ends it
lacks_ends : (name s : List ℕ) (c : ℕ) → lacks c name ≡ true → starts_name name (s ++ c ∷ []) ≡ false
lacks_ends [] [] c h = refl
lacks_ends [] (d ∷ s) c h = refl
lacks_ends (n ∷ name) [] c h = and_false (eq_ignore_ascii_case n c) true (not_true _ (and_left (not (eq_ignore_ascii_case n c)) (lacks c name) h))
lacks_ends (n ∷ name) (d ∷ s) c h = and_false_right _ _ (lacks_ends name s c (and_right _ _ h))

-- a text and one byte more begin some name where a name begins with them
pub some_push : (names : List (List ℕ)) (text : List ℕ) (c : ℕ)
    → begins_some names (text ++ c ∷ []) ≡ list_any (λ name. starts_name name (text ++ c ∷ [])) names
some_push names [] c = refl
some_push names (d ∷ text) c = refl

module _ (names : List (List ℕ)) where
  to_some : (s : List ℕ) → list_any (λ name. starts_name name s) names ≡ true → begins_some names s ≡ true
  to_some [] h = refl
  to_some (c ∷ s) h = h

  from_some : list_any (λ name. starts_name name []) names ≡ true → (s : List ℕ) → begins_some names s ≡ true
      → list_any (λ name. starts_name name s) names ≡ true
  from_some first [] h = first
  from_some first (c ∷ s) h = h

  -- a table with a name
  pub lawful_any_case : list_any (λ name. starts_name name []) names ≡ true → Lawful (any_case names)
  lawful_any_case first = record {
    empty_begins = refl;
    front = λ s t h. to_some s (any_weaker _ _ (λ name k. starts_front name s t k) names (from_some first (s ++ t) h));
    whole = λ s h. to_some s (any_weaker _ _ (λ name k. starts_whole name s k) names h);
    goes_on = λ s h.
        let name = any_some (λ name. starts_name name s) names (from_some first s h) in
        let on = starts_goes_on name.0 s name.1 in
        (on.0, name.2 (λ name. is_name name (s ++ on.0)) on.1);
  }

  -- bytes that no name has
  pub apart_any_case : (set : List ℕ) → list_all (λ c. list_all (lacks c) names) set ≡ true → Apart (any_case names) (among set)
  apart_any_case set none s h c k = some_push names s c
      ∙ any_none (lacks c) (λ name. starts_name name (s ++ c ∷ [])) (λ name l. lacks_ends name s c l) names
      (among_all (λ c. list_all (lacks c) names) set none c k)
