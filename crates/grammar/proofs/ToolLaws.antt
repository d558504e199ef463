-- The small parts that productions are made of are exact too.
use Rattle.std.proofs.Common.{◌≡◌, ℕ, List, [], ◌∷◌, ◌++◌, Bool, true, false, ◌==◌, refl, sym, ap, ⊎_elim, subst, ◌∙◌, eq-eqb}
use Rattle.std.proofs.Common.{eqb-true}
use Rattle.grammar.specs.Part.{Part, ◌then◌, ◌sp◌, give, map, byte, optional}
use Rattle.grammar.specs.Exact.{Begins, Good, any}
use Rattle.grammar.proofs.Reading.{empty_halves}
use Rattle.grammar.proofs.SequenceLaw.{good_give, good_map, good_then}
use Rattle.grammar.proofs.ChoiceLaw.{good_choose, good_one_of}
use Rattle.grammar.proofs.RepetitionLaw.{no_byte}
use Rattle.grammar.proofs.StartLaw.{starts_one_of, starts_then, begins_from, starts_weaker}

module _ {V : Type 0} where
  -- fewer bytes follow
  pub good_weaker : {A : Type 0} {wide : ℕ → Bool} (after : ℕ → Bool) (p : Part A) → ((c : ℕ) → after c ≡ true → wide c ≡ true)
      → Good V wide p → Good V after p
  good_weaker after p to g = record { sound = g.sound; exact = λ next v f. g.exact next v (λ a c tail w e. to c (f a c tail w e)) }

  pub good_byte : (after : ℕ → Bool) (c : ℕ) → Good V after (byte c)
  good_byte after c = good_one_of (λ b. b == c) after c (eq-eqb c c refl)

  -- a byte and a part behind it
  pub good_behind : {B : Type 0} {after : ℕ → Bool} (c : ℕ) (q : Part B) → Good V after q → Good V after (byte c then λ _. q)
  good_behind {B} {after} c q h = good_then (byte c) (λ _. q) (good_byte any c) (λ _. h) (λ _. record { full = λ _ _ _ _. refl; empty = λ _ _ _ _. refl })

  -- one part, a byte that may follow it, and another part
  pub good_between : {A B : Type 0} {starts after : ℕ → Bool} (c : ℕ) (p : Part A) (f : A → Part B) → starts c ≡ true → Good V starts p
      → ((a : A) → Good V after (f a)) →
      Good V after (p then λ a. byte c then λ _. f a)
  good_between {A} {B} {starts} {after} c p f is g h =
      good_then p (λ a. byte c then λ _. f a) g
      (λ a. good_behind c (f a) (h a))
      (λ a. begins_from after (byte c then λ _. f a)
      (starts_weaker (byte c then λ _. f a) (λ d e. ap starts (eqb-true d c e) ∙ is) (starts_then (byte c) (λ _. f a) (starts_one_of (λ b. b == c)))))

  -- one part, a space and another part
  pub good_sp : {A B : Type 0} {starts after : ℕ → Bool} (p : Part A) (f : A → Part B) → starts 32 ≡ true → Good V starts p
      → ((a : A) → Good V after (f a))
      → Good V after (p sp f)
  good_sp p f is g h = good_between 32 p f is g h

  -- a byte that may be left out, where it doesn't follow
  pub good_optional : (after : ℕ → Bool) (c : ℕ) → ((d : ℕ) → after d ≡ true → (d == c) ≡ false) → Good V after (optional c)
  unfolding optional
  good_optional after c apart =
      good_choose (λ b. b == c) (map (λ _. true) (byte c)) (give false) (good_map (λ _. true) (byte c) (good_byte after c)) (good_give after false)
      (starts_then (byte c) (λ _. give true) (starts_one_of (λ b. b == c)))
      (record { full = λ d tail a l. absurd (no_byte l.0); empty = λ a l. apart })

-- a byte that may be left out begins with it, or as what follows
pub begins_optional : {starts : ℕ → Bool} (after : ℕ → Bool) (c : ℕ) → starts c ≡ true → ((d : ℕ) → after d ≡ true → starts d ≡ true)
    → Begins starts after (optional c)
unfolding optional
begins_optional {starts} after c is to = record {
  full = λ d tail a l.
      ⊎_elim (λ j. ap starts (eqb-true d c ((starts_then (byte c) (λ _. give true) (starts_one_of (λ b. b == c))).full d tail a j)) ∙ is)
      (λ e. absurd (no_byte e.0)) l;
  empty = λ a l. to;
}

-- a part begins as its first part does, or as its second where the first is empty
pub begins_then : {A B : Type 0} {starts middle after : ℕ → Bool} (p : Part A) (f : A → Part B) → Begins starts middle p
    → ((a : A) → Begins middle after (f a)) → Begins starts after (p then f)
begins_then {A} {B} {starts} {middle} {after} p f b c = record {
  full = λ d tail w j. full d tail w j.front j.back j.between j.parts j.begins j.goes_on;
  empty = λ w j d h. let none = empty_halves j.front j.back j.parts in
      b.empty j.between (subst (λ s. p.lang s j.between) none.0 j.begins) d
      ((c j.between).empty w (subst (λ s. (f j.between).lang s w) none.1 j.goes_on) d h);
}
  where
    full : (d : ℕ) (tail : List ℕ) (w : B) (front back : List ℕ) (a : A) → (let s : List ℕ = d ∷ tail in s ≡ front ++ back) → p.lang front a
        → (f a).lang back w → starts d ≡ true
    full d tail w [] back a e l m = b.empty a l d ((c a).full d tail w (subst (λ s. (f a).lang s w) (sym e) m))
    full d tail w (x ∷ front) back a e l m = let same : d ≡ x = cc in ap starts same ∙ b.full x front a l
