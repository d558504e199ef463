-- The words that are one of some texts are lawful, and end before a byte that none may have.
use Rattle.std.proofs.Common.{◌≡◌, ℕ, List, [], ◌∷◌, ◌++◌, Bool, true, false, ◌&&◌, ◌||◌, ◌==◌, refl, ap, ◌∙◌, subst, eq-eqb, eqb-true}
use Rattle.std.specs.List.{list_all, list_any}
use Rattle.grammar.specs.Members.{begins_with, begins_some_of, is_same, members}
use Rattle.grammar.specs.Runs.{some}
use Rattle.grammar.specs.Words.{Lawful, Apart}
use Rattle.grammar.proofs.Conditions.{and_both, and_left, and_right, and_false, or_left, or_right, any_weaker}
use Rattle.grammar.proofs.RunLaw.{all_front, all_push}

pub same_self : (text : List ℕ) → is_same text text ≡ true
same_self [] = refl
same_self (c ∷ text) = and_both _ _ (eq-eqb c c refl) (same_self text)

pub same_is : (text other : List ℕ) → is_same text other ≡ true → text ≡ other
same_is [] [] h = refl
same_is [] (c ∷ other) h = cc
same_is (d ∷ text) [] h = cc
same_is (d ∷ text) (c ∷ other) h =
    ap (λ x. x ∷ text) (eqb-true d c (and_left _ _ h)) ∙ ap (λ s. c ∷ s) (same_is text other (and_right (d == c) _ h))

begins_empty : (text : List ℕ) → begins_with text [] ≡ true
begins_empty [] = refl
begins_empty (d ∷ text) = refl

begins_front : (text s t : List ℕ) → begins_with text (s ++ t) ≡ true → begins_with text s ≡ true
begins_front text [] t h = begins_empty text
begins_front [] (c ∷ s) t h = h
begins_front (d ∷ text) (c ∷ s) t h = and_both (d == c) _ (and_left _ _ h) (begins_front text s t (and_right (d == c) _ h))

begins_same : (text s : List ℕ) → is_same text s ≡ true → begins_with text s ≡ true
begins_same [] [] h = refl
begins_same [] (c ∷ s) h = h
begins_same (d ∷ text) [] h = refl
begins_same (d ∷ text) (c ∷ s) h = and_both (d == c) _ (and_left _ _ h) (begins_same text s (and_right (d == c) _ h))

-- what a text begins with goes on to it
begins_on : (text s : List ℕ) → begins_with text s ≡ true → (t : List ℕ) × (text ≡ s ++ t)
begins_on text [] h = (text, refl)
begins_on [] (c ∷ s) h = cc
begins_on (d ∷ text) (c ∷ s) h =
    let on = begins_on text s (and_right (d == c) _ h) in
    (on.0, ap (λ x. x ∷ text) (eqb-true d c (and_left _ _ h)) ∙ ap (λ s. c ∷ s) on.1)

-- a member of which one test holds, where another holds of all
pub record Found {X : Type 0} (p q : X → Bool) (xs : List X) : Type 0 where
  pub it : X
  pub all : p it ≡ true
  pub this : q it ≡ true
  pub any : (r : X → Bool) → r it ≡ true → list_any r xs ≡ true

pub found_in : {X : Type 0} (p q : X → Bool) (xs : List X) → list_all p xs ≡ true → list_any q xs ≡ true → Found p q xs
found_in p q [] h k = cc
found_in p q (x ∷ xs) h k = by_case (q x) refl k (found_in p q xs (and_right (p x) _ h))
  where
    by_case : (b : Bool) → q x ≡ b → b || list_any q xs ≡ true → (list_any q xs ≡ true → Found p q xs) → Found p q (x ∷ xs)
    by_case true e k again = record { it = x; all = and_left _ _ h; this = e; any = λ r l. or_left (r x) _ l }
    by_case false e k again =
        let f = again k in record { it = f.it; all = f.all; this = f.this; any = λ r l. or_right (r x) _ (f.any r l) }

-- a text and one byte more
pub some_of_push : (texts : List (List ℕ)) (front : List ℕ) (c : ℕ)
    → begins_some_of texts (front ++ c ∷ []) ≡ list_any (λ text. begins_with text (front ++ c ∷ [])) texts
some_of_push texts [] c = refl
some_of_push texts (d ∷ front) c = refl

to_some_of : (texts : List (List ℕ)) (s : List ℕ) → list_any (λ text. begins_with text s) texts ≡ true → begins_some_of texts s ≡ true
to_some_of texts [] h = refl
to_some_of texts (c ∷ s) h = h

from_some_of : (texts : List (List ℕ)) → list_any (λ text. begins_with text []) texts ≡ true → (s : List ℕ) → begins_some_of texts s ≡ true
    → list_any (λ text. begins_with text s) texts ≡ true
from_some_of texts there [] h = there
from_some_of texts there (c ∷ s) h = h

module _ (test : ℕ → Bool) (texts : List (List ℕ)) (there : list_any (λ text. begins_with text []) texts ≡ true)
    (valid : list_all (λ text. list_all test text && some text) texts ≡ true) where
  goes_on : (s : List ℕ) → (members test texts).begins s ≡ true → (t : List ℕ) × ((members test texts).whole (s ++ t) ≡ true)
  goes_on s h =
      let f = found_in (λ text. list_all test text && some text) (λ text. begins_with text s) texts valid
      (from_some_of texts there s (and_right (list_all test s) _ h)) in
      let on = begins_on f.it s f.this in (
        on.0,
        subst (λ text. (members test texts).whole text ≡ true) on.1
            (and_both (list_all test f.it) _ (and_left _ _ f.all)
            (and_both (some f.it) _ (and_right (list_all test f.it) _ f.all) (f.any (λ text. is_same text f.it) (same_self f.it)))),
      )

  pub lawful_members : Lawful (members test texts)
  lawful_members = record {
    empty_begins = refl;
    front = λ s t h. and_both (list_all test s) _ (all_front test s t (and_left _ _ h))
        (to_some_of texts s (any_weaker (λ text. begins_with text (s ++ t)) (λ text. begins_with text s) (λ text k. begins_front text s t k) texts
        (from_some_of texts there (s ++ t) (and_right (list_all test (s ++ t)) _ h))));
    whole = λ s h. and_both (list_all test s) _ (and_left _ _ h)
        (to_some_of texts s (any_weaker (λ text. is_same text s) (λ text. begins_with text s) (λ text k. begins_same text s k) texts
        (and_right (some s) _ (and_right (list_all test s) _ h))));
    goes_on = goes_on;
  }

pub apart_members : (test : ℕ → Bool) (texts : List (List ℕ)) (after : ℕ → Bool) → ((c : ℕ) → after c ≡ true → test c ≡ false)
    → Apart (members test texts) after
apart_members test texts after other s h c k = and_false _ _ (all_push test s c (and_left _ _ h) ∙ other c k)
