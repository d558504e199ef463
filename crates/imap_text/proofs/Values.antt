-- What holds of each value that a part spells, from its parts.
use Rattle.std.proofs.Common.{◌≡◌, ℕ, zero, suc, List, ◌∷◌, Bool, true, inl, inr, refl, sym, subst}
use Rattle.std.specs.List.{list_all}
use Rattle.grammar.specs.Part.{Part, give, ◌then◌, map, byte, choose, exactly, turns, repeat}
use Rattle.grammar.proofs.Conditions.{and_both}

-- each value that the part spells has the property
abbrev pub Only : {A : Type 0} → Part A → (A → Type 0) → Type 0
Only p P = (bytes : List ℕ) (value : _) → p.lang bytes value → P value

module _ {A B : Type 0} where
  pub only_then : (p : Part A) (f : A → Part B) (P : A → Type 0) (Q : B → Type 0) → Only p P → ((a : A) → P a → Only (f a) Q) → Only (p then f) Q
  only_then p f P Q h k bytes value j = k j.between (h j.front j.between j.begins) j.back value j.goes_on

  pub only_map : (f : A → B) (p : Part A) (Q : B → Type 0) → Only p (λ a. Q (f a)) → Only (map f p) Q
  only_map f p Q h = only_then p (λ a. give (f a)) (λ a. Q (f a)) Q h (λ a q bytes value g. subst Q (sym g.1) q)

module _ {A : Type 0} (P : A → Type 0) where
  pub only_behind : (c : ℕ) (q : Part A) → Only q P → Only (byte c then λ _. q) P
  only_behind c q h bytes value j = h j.back value j.goes_on

  pub only_choose : (test : ℕ → Bool) (p q : Part A) → Only p P → Only q P → Only (choose test p q) P
  only_choose test p q h k bytes value (inl l) = h bytes value l
  only_choose test p q h k bytes value (inr l) = k bytes value l

-- bytes that pass a test
pub only_exactly : (test : ℕ → Bool) (n : ℕ) → Only (exactly test n) (λ s. list_all test s ≡ true)
unfolding exactly
only_exactly test zero bytes value l = subst (λ s. list_all test s ≡ true) (sym l.1) refl
only_exactly test (suc n) bytes value j =
    only_map (λ rest. j.between ∷ rest) (exactly test n) (λ s. list_all test s ≡ true)
    (λ rest s l. and_both _ _ j.begins.1 (only_exactly test n rest s l)) j.back value j.goes_on

-- turns that keep the property
module _ {S : Type 0} (P : S → Type 0) (test : ℕ → Bool) (turn : S → Part S) (keeps : (s : S) → P s → Only (turn s) P) where
  only_turns : (n : ℕ) (s : S) → P s → Only (turns test turn n s) P
  unfolding turns
  only_turns zero s p bytes value l = subst P (sym l.1) p
  only_turns (suc n) s p bytes value (inl j) = only_turns n j.between (keeps s p j.front j.between j.begins) j.back value j.goes_on
  only_turns (suc n) s p bytes value (inr l) = subst P (sym l.1) p

  pub only_repeat : (s : S) → P s → Only (repeat test turn s) P
  unfolding repeat
  only_repeat s p bytes value l = only_turns l.0 s p bytes value l.1
