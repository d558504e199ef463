-- What the spellings of parts begin with.
use Rattle.std.proofs.Common.{◌≡◌, ℕ, suc, ◌==◌, List, [], ◌∷◌, ◌++◌, Bool, true, false, ⊎_elim, sym, ap, ◌∙◌}
use Rattle.grammar.specs.Part.{Part, ◌then◌, one_of, byte, choose, exactly, map}
use Rattle.grammar.specs.Exact.{Begins, StartsWith, StartsWithout}
use Rattle.grammar.specs.Words.{Words, Lawful, word}

module _ {A : Type 0} {test : ℕ → Bool} where
  -- a wider test
  pub starts_weaker : {wide : ℕ → Bool} (p : Part A) → ((c : ℕ) → test c ≡ true → wide c ≡ true) → StartsWith test p → StartsWith wide p
  starts_weaker p to s = record { full = λ c tail a l. to c (s.full c tail a l); empty = s.empty }

  -- the first of two parts decides
  pub starts_then : {B : Type 0} (p : Part A) (f : A → Part B) → StartsWith test p → StartsWith test (p then f)
  starts_then {B} p f s = record {
    full = λ c tail b j. full c tail j.front j.back j.between j.parts j.begins;
    empty = λ b j. empty j.front j.back j.between j.parts j.begins;
  }
    where
      full : (c : ℕ) (tail front back : List ℕ) (a : A) → (let s : List ℕ = c ∷ tail in s ≡ front ++ back) → p.lang front a → test c ≡ true
      full c tail [] back a e l = absurd (s.empty a l)
      full c tail (d ∷ front) back a e l = let same : c ≡ d = cc in ap test same ∙ s.full d front a l

      empty : (front back : List ℕ) (a : A) → [] ≡ front ++ back → p.lang front a → ⊥
      empty [] back a e l = s.empty a l
      empty (d ∷ front) back a e l = cc

  pub starts_choose : (by : ℕ → Bool) (p q : Part A) → StartsWith test p → StartsWith test q → StartsWith test (choose by p q)
  starts_choose by p q s t = record {
    full = λ c tail a l. ⊎_elim (s.full c tail a) (t.full c tail a) l;
    empty = λ a l. ⊎_elim (s.empty a) (t.empty a) l;
  }

  -- a part that is never empty begins with its bytes, whatever follows
  pub begins_from : (after : ℕ → Bool) (p : Part A) → StartsWith test p → Begins test after p
  begins_from after p s = record { full = s.full; empty = λ a l. absurd (s.empty a l) }

  -- and with no other
  pub without_from : (other after : ℕ → Bool) (p : Part A) → ((c : ℕ) → test c ≡ true → other c ≡ false) → StartsWith test p
      → StartsWithout other after p
  without_from other after p to s = record { full = λ c tail a l. to c (s.full c tail a l); empty = λ a l. absurd (s.empty a l) }

-- a single byte
pub starts_one_of : (test : ℕ → Bool) → StartsWith test (one_of test)
starts_one_of test = record { full = λ c tail a l. full c tail a l.0 l.1; empty = λ a l. empty a l.0 }
  where
    full : (c : ℕ) (tail : List ℕ) (a : ℕ) → (let s : List ℕ = c ∷ tail in s ≡ a ∷ []) → test a ≡ true → test c ≡ true
    full c tail a e t = let same : c ≡ a = cc in ap test same ∙ t

    empty : (a : ℕ) → [] ≡ a ∷ [] → ⊥
    empty a e = cc

-- a word, where the empty text is none and the first byte of what begins one passes
pub starts_word : (w : Words) (test : ℕ → Bool) → Lawful w → w.whole [] ≡ false → ((c : ℕ) → w.begins (c ∷ []) ≡ true → test c ≡ true)
    → StartsWith test (word w)
starts_word w test lawful none first = record { full = λ c tail a l. full c tail a l.0 l.1; empty = λ a l. empty a l.0 l.1 }
  where
    full : (c : ℕ) (tail a : List ℕ) → (let s : List ℕ = c ∷ tail in s ≡ a) → w.whole a ≡ true → test c ≡ true
    full c tail a e t = first c (lawful.front (c ∷ []) tail (ap w.begins e ∙ lawful.whole a t))

    empty : (a : List ℕ) → [] ≡ a → w.whole a ≡ true → ⊥
    empty a e t = let both : false ≡ true = sym none ∙ ap w.whole e ∙ t in cc

-- some bytes of a set
pub starts_exactly : (test : ℕ → Bool) (n : ℕ) → StartsWith test (exactly test (suc n))
unfolding exactly
starts_exactly test n = starts_then (one_of test) (λ c. map (λ rest. c ∷ rest) (exactly test n)) (starts_one_of test)

-- this byte
pub starts_byte : (c : ℕ) → StartsWith (λ b. b == c) (byte c)
starts_byte c = starts_one_of (λ b. b == c)
