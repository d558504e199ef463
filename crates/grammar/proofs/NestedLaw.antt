-- Forms whose values nest, and parts that a word tells or that say nothing: the law of each.
use Rattle.std.proofs.Common.{◌≡◌, ℕ, zero, suc, ◌-◌, List, [], ◌++◌, Bool, true, false, ◌||◌, inl, inr, ⊎_elim, refl, sym, ap, ◌∙◌}
use Rattle.std.proofs.Common.{subst, arith}
use Rattle.grammar.specs.Part.{Part, ◌then◌, ◌sp◌, give, map, byte, choose}
use Rattle.grammar.specs.Exact.{Good, Begins, StartsWith}
use Rattle.grammar.specs.Forms.{Form, Law, made}
use Rattle.grammar.specs.Nested.{nested_part, nested, told, after_maybe}
use Rattle.grammar.proofs.ChoiceLaw.{good_choose}
use Rattle.grammar.proofs.Conditions.{or_left, or_right}
use Rattle.grammar.proofs.FormLaw.{begins_give, begins_map, law_choice}
use Rattle.grammar.proofs.SequenceLaw.{good_give, good_map, good_then}
use Rattle.grammar.proofs.Spelling.{spell_then, spell_map}
use Rattle.grammar.proofs.StartLaw.{starts_then, without_from}
use Rattle.grammar.proofs.ToolLaws.{good_sp, begins_then}

-- the part of a form with this text
abbrev pub with_text : {A : Type 0} → (A → List ℕ) → Part A → Form A
with_text text p = record { part = p; text = text }

module _ {A : Type 0} (text : A → List ℕ) (flat : Part A) (deep : Form A → Part A) where
  -- by induction on the depth
  pub law_nested : {starts after : ℕ → Bool} → Law starts after (with_text text flat)
      → ((p : Part A) → Law starts after (with_text text p) → Law starts after (with_text text (deep (with_text text p))))
      → (depth : ℕ) → Law starts after (nested text flat deep depth)
  unfolding nested_part
  law_nested g h zero = g
  law_nested g h (suc depth) = h (nested_part text flat deep depth) (law_nested g h depth)

  -- the two cases as code tells them apart
  pub nested_flat : (depth : ℕ) (bytes : List ℕ) → depth ≡ 0 → (nested_part text flat deep depth).at bytes ≡ flat.at bytes
  unfolding nested_part
  nested_flat zero bytes e = refl
  nested_flat (suc depth) bytes e = absurd (omega arith)

  pub nested_deep : (depth : ℕ) (bytes : List ℕ) → ¬ (depth ≡ 0)
      → (nested_part text flat deep depth).at bytes ≡ (deep (nested text flat deep (depth - 1))).at bytes
  unfolding nested_part
  nested_deep zero bytes e = absurd (e refl)
  nested_deep (suc depth) bytes e = ap (λ d. (deep (nested text flat deep d)).at bytes) (let same : depth ≡ suc depth - 1 = omega arith in same)

-- what stands behind a form that told it: its text stands behind that of the form
pub record Told {A : Type 0} (starts after : ℕ → Bool) (text : A → List ℕ) (front : List ℕ) (p : Part A) : Type 1 where
  pub good : (V : Type 0) → Good V after p
  pub begins : Begins starts after p
  pub prints : (bytes : List ℕ) (a : A) → p.lang bytes a → (s : List ℕ) × p.lang s a × (text a ≡ front ++ s)

-- a value behind which nothing stands
pub told_give : {A : Type 0} (after : ℕ → Bool) (text : A → List ℕ) (front : List ℕ) (a : A) → text a ≡ front ++ []
    → Told after after text front (give a)
told_give after text front a same = record {
  good = λ V. good_give after a;
  begins = begins_give after a;
  prints = λ bytes b l. ([], (refl, l.1), subst (λ b. text b ≡ front ++ []) (sym l.1) same);
}

-- values made of a form's
pub told_made : {X A : Type 0} {starts after : ℕ → Bool} (text : A → List ℕ) (front : List ℕ) (make : X → A) (p : Form X) → Law starts after p
    → ((x : X) → text (make x) ≡ front ++ p.text x) → Told starts after text front (map make p.part)
told_made text front make p g same = record {
  good = λ V. good_map make p.part (g.good V);
  begins = begins_map make p.part g.begins;
  prints = λ bytes a j.
      let x = j.between in (
        p.text x,
        subst (λ a. (map make p.part).lang (p.text x) a) (sym j.goes_on.1) (spell_map make p.part (p.text x) x (g.prints j.front x j.begins)),
        subst (λ a. text a ≡ front ++ p.text x) (sym j.goes_on.1) (same x),
      );
}

pub law_told : {K A : Type 0} {starts middle after : ℕ → Bool} (p : Form K) (next : K → Part A) (text : A → List ℕ) → Law starts middle p
    → ((k : K) → Told middle after text (p.text k) (next k)) → Law starts after (told p next text)
law_told p next text g each = record {
  good = λ V. good_then p.part next (g.good V) (λ k. (each k).good V) (λ k. (each k).begins);
  begins = begins_then p.part next g.begins (λ k. (each k).begins);
  prints = λ bytes a j.
      let k = j.between in
      let s = (each k).prints j.back a j.goes_on in
      subst (λ t. (told p next text).part.lang t a) (sym s.2)
      (spell_then p.part next (p.text k) s.0 k a (g.prints j.front k j.begins) s.1);
}

-- a part that may not be empty before this byte is never empty
pub starts_from : {A : Type 0} {starts after : ℕ → Bool} (p : Part A) (c : ℕ) → after c ≡ true → starts c ≡ false → Begins starts after p
    → StartsWith starts p
starts_from p c is none b = record { full = b.full; empty = λ a l. let both : true ≡ false = sym (b.empty a l c is) ∙ none in cc }

-- the one or the other, with one text
pub law_apart : {A : Type 0} {starts other after : ℕ → Bool} (test : ℕ → Bool) (text : A → List ℕ) (p q : Part A) → StartsWith test p
    → ((c : ℕ) → other c ≡ true → test c ≡ false) → Law starts after (with_text text p) → Law other after (with_text text q)
    → Law (λ c. starts c || other c) after (with_text text (choose test p q))
law_apart test text p q one apart g h =
    law_choice test text (with_text text p) (with_text text q) one apart g h (λ bytes a l. inl (g.prints bytes a l)) (λ bytes a l. inr (h.prints bytes a l))

-- values made of a form's, where each that is spelled has its text
pub law_made_of : {A B : Type 0} {starts after : ℕ → Bool} (make : A → B) (text : B → List ℕ) (p : Form A)
    → ((bytes : List ℕ) (a : A) → p.part.lang bytes a → text (make a) ≡ p.text a) → Law starts after p → Law starts after (made make text p)
law_made_of make text p same g = record {
  good = λ V. good_map make p.part (g.good V);
  begins = begins_map make p.part g.begins;
  prints = λ bytes b j.
      subst (λ b. (map make p.part).lang (text b) b) (sym j.goes_on.1)
      (subst (λ s. (map make p.part).lang s (make j.between)) (sym (same j.front j.between j.begins))
      (spell_map make p.part (p.text j.between) j.between (g.prints j.front j.between j.begins)));
}

-- a part and a space that may stand before a form
pub law_after_maybe : {K A : Type 0} {starts wide after : ℕ → Bool} (test : ℕ → Bool) (p : Part K) (q : Form A) → ((V : Type 0) → Good V wide p)
    → wide 32 ≡ true → StartsWith test p → ((c : ℕ) → starts c ≡ true → test c ≡ false) → StartsWith starts q.part → Law starts after q
    → Law (λ c. test c || starts c) after (after_maybe test p q)
law_after_maybe {K} {A} {starts} {wide} {after} test p q good is one apart other g = record {
  good = λ V. good_choose test first q.part (good_sp p (λ _. q.part) is (good V) (λ _. g.good V)) (g.good V) starts_first
      (without_from test after q.part apart other);
  begins = record {
    full = λ c tail a l.
        ⊎_elim (λ l. or_left (test c) (starts c) (starts_first.full c tail a l)) (λ l. or_right (test c) (starts c) (g.begins.full c tail a l)) l;
    empty = λ a l. absurd (⊎_elim (λ l. starts_first.empty a l) (λ l. other.empty a l) l);
  };
  prints = λ bytes a l. inr (⊎_elim (λ j. g.prints j.goes_on.back a j.goes_on.goes_on) (λ l. g.prints bytes a l) l);
}
  where
    first : Part A
    first = p sp λ _. q.part

    starts_first : StartsWith test first
    starts_first = starts_then p (λ _. byte 32 then λ _. q.part) one
