-- Spellings of parts make spellings of what is made of them.
use Rattle.std.proofs.Common.{◌≡◌, ℕ, List, [], ◌∷◌, ◌++◌, length, Bool, true, refl, sym, append-nil, eq-eqb}
use Rattle.std.specs.List.{list_all}
use Rattle.grammar.specs.Part.{Part, ◌then◌, ◌sp◌, map, byte, exactly}
use Rattle.grammar.proofs.Conditions.{and_left, and_right}

module _ {A B : Type 0} where
  pub spell_then : (p : Part A) (f : A → Part B) (s t : List ℕ) (a : A) (b : B) → p.lang s a → (f a).lang t b → (p then f).lang (s ++ t) b
  spell_then p f s t a b l m = record { front = s; back = t; between = a; parts = refl; begins = l; goes_on = m }

  pub spell_map : (f : A → B) (p : Part A) (s : List ℕ) (a : A) → p.lang s a → (map f p).lang s (f a)
  spell_map f p s a l = record { front = s; back = []; between = a; parts = sym (append-nil s); begins = l; goes_on = (refl, refl) }

  pub spell_sp : (p : Part A) (f : A → Part B) (s t : List ℕ) (a : A) (b : B) → p.lang s a → (f a).lang t b → (p sp f).lang (s ++ 32 ∷ t) b
  spell_sp p f s t a b l m = record {
    front = s;
    back = 32 ∷ t;
    between = a;
    parts = refl;
    begins = l;
    goes_on = record { front = 32 ∷ []; back = t; between = 32; parts = refl; begins = (refl, refl); goes_on = m };
  }

-- a byte and a part behind it
pub spell_byte : {B : Type 0} (c : ℕ) (q : Part B) (s : List ℕ) (b : B) → q.lang s b → (byte c then λ _. q).lang (c ∷ s) b
spell_byte c q s b l = record { front = c ∷ []; back = s; between = c; parts = refl; begins = (refl, eq-eqb c c refl); goes_on = l }

-- a byte alone
pub spell_one : (c : ℕ) → (byte c).lang (c ∷ []) c
spell_one c = (refl, eq-eqb c c refl)

-- as many bytes as there are
pub spell_exactly : (test : ℕ → Bool) (s : List ℕ) → list_all test s ≡ true → (exactly test (length s)).lang s s
unfolding exactly
spell_exactly test [] h = (refl, refl)
spell_exactly test (c ∷ s) h =
    record {
      front = c ∷ [];
      back = s;
      between = c;
      parts = refl;
      begins = (refl, and_left (test c) _ h);
      goes_on = spell_map (λ rest. c ∷ rest) (exactly test (length s)) s s (spell_exactly test s (and_right (test c) _ h));
    }
