-- The law of each combinator of forms.
use Rattle.std.proofs.Common.{◌≡◌, ℕ, List, [], ◌∷◌, ◌++◌, Bool, true, false, ◌||◌, ◌==◌, inl, inr, ⊎_elim, refl, sym, ap, ◌∙◌, subst}
use Rattle.std.proofs.Common.{eqb-true, None, Some}
use Rattle.grammar.specs.Part.{Part, ◌then◌, give, map, byte, choose}
use Rattle.grammar.specs.Exact.{Begins, StartsWith}
use Rattle.grammar.specs.Forms.{Form, Law, nothing, ◌and◌, preceded, followed, ◌spaced◌, made, choice, constant, maybe, maybe_text, given_text, closed, dispatch}
use Rattle.grammar.proofs.SequenceLaw.{good_give, good_map, good_then}
use Rattle.grammar.proofs.ChoiceLaw.{good_choose}
use Rattle.grammar.proofs.RepetitionLaw.{no_byte}
use Rattle.grammar.proofs.StartLaw.{starts_then, starts_byte, begins_from}
use Rattle.grammar.proofs.Conditions.{or_left, or_right}
use Rattle.grammar.proofs.Spelling.{spell_then, spell_map, spell_byte, spell_one}
use Rattle.grammar.proofs.ToolLaws.{good_weaker, good_byte, good_behind, begins_then}

-- the one set of bytes is in the other
abbrev pub Within : (ℕ → Bool) → (ℕ → Bool) → Type 0
Within few many = (c : ℕ) → few c ≡ true → many c ≡ true

pub begins_give : {A : Type 0} (after : ℕ → Bool) (a : A) → Begins after after (give a)
begins_give after a = record { full = λ c tail b e. absurd (no_byte e.0); empty = λ _ _ _ h. h }

pub begins_map : {A B : Type 0} {starts after : ℕ → Bool} (f : A → B) (p : Part A) → Begins starts after p → Begins starts after (map f p)
begins_map {after} f p b = begins_then p (λ a. give (f a)) b (λ a. begins_give after (f a))

pub law_nothing : (after : ℕ → Bool) → Law after after nothing
law_nothing after = record {
  good = λ V. good_give after tt;
  begins = begins_give after tt;
  prints = λ bytes a l. (refl, refl);
}

-- fewer bytes follow, or more bytes may begin it
pub law_weaker : {A : Type 0} {few wide : ℕ → Bool} (starts after : ℕ → Bool) (p : Form A) → Within few starts → Within after wide → Law few wide p
    → Law starts after p
law_weaker starts after p first next g = record {
  good = λ V. good_weaker after p.part next (g.good V);
  begins = record { full = λ c tail a l. first c (g.begins.full c tail a l); empty = λ a l c h. first c (g.begins.empty a l c (next c h)) };
  prints = g.prints;
}

pub law_and : {A B : Type 0} {starts middle after : ℕ → Bool} (p : Form A) (q : Form B) → Law starts middle p → Law middle after q
    → Law starts after (p and q)
law_and p q g h = record {
  good = λ V. good_then p.part (λ a. map (λ b. (a, b)) q.part) (g.good V) (λ a. good_map (λ b. (a, b)) q.part (h.good V))
      (λ a. begins_map (λ b. (a, b)) q.part h.begins);
  begins = begins_then p.part (λ a. map (λ b. (a, b)) q.part) g.begins (λ a. begins_map (λ b. (a, b)) q.part h.begins);
  prints = λ bytes x j.
      let a = j.between in
      let b = j.goes_on.between in
      subst (λ x. (p and q).part.lang (p.text x.0 ++ q.text x.1) x) (sym j.goes_on.goes_on.1)
      (spell_then p.part (λ a. map (λ b. (a, b)) q.part) (p.text a) (q.text b) a (a, b) (g.prints j.front a j.begins)
      (spell_map (λ b. (a, b)) q.part (q.text b) b (h.prints j.goes_on.front b j.goes_on.begins)));
}

pub law_behind : {A : Type 0} {middle after : ℕ → Bool} (c : ℕ) (p : Form A) → Law middle after p → Law (λ b. b == c) after (preceded c p)
law_behind {after} c p g = record {
  good = λ V. good_behind c p.part (g.good V);
  begins = begins_from after (byte c then λ _. p.part) (starts_then (byte c) (λ _. p.part) (starts_byte c));
  prints = λ bytes a j. spell_byte c p.part (p.text a) a (g.prints j.back a j.goes_on);
}

-- a form that begins with this byte may stand where the byte may
pub one_byte : (c : ℕ) (wide : ℕ → Bool) → wide c ≡ true → Within (λ b. b == c) wide
one_byte c wide is d h = ap wide (eqb-true d c h) ∙ is

pub law_spaced : {A B : Type 0} {starts wide middle after : ℕ → Bool} (p : Form A) (q : Form B) → wide 32 ≡ true → Law starts wide p
    → Law middle after q → Law starts after (p spaced q)
law_spaced {A} {B} {starts} {wide} p q is g h =
    law_and p (preceded 32 q) (law_weaker starts (λ b. b == 32) p (λ c e. e) (one_byte 32 wide is) g) (law_behind 32 q h)

pub law_followed : {A : Type 0} {starts wide : ℕ → Bool} (after : ℕ → Bool) (c : ℕ) (p : Form A) → wide c ≡ true → Law starts wide p
    → Law starts after (followed p c)
law_followed {A} {starts} {wide} after c p is g = record {
  good = λ V. good_then p.part last (g.good V) (λ a. good_map (λ _. a) (byte c) (good_byte after c)) begins_last;
  begins = begins_then p.part last g.begins begins_last;
  prints = λ bytes x j.
      let a = j.between in
      subst (λ x. (followed p c).part.lang (p.text x ++ c ∷ []) x) (sym j.goes_on.goes_on.1)
      (spell_then p.part last (p.text a) (c ∷ []) a a (g.prints j.front a j.begins) (spell_map (λ _. a) (byte c) (c ∷ []) c (spell_one c)));
}
  where
    last : A → Part A
    last a = map (λ _. a) (byte c)

    begins_last : (a : A) → Begins wide after (last a)
    begins_last a = record {
      full = λ d tail b l. one_byte c wide is d ((starts_then (byte c) (λ _. give a) (starts_byte c)).full d tail b l);
      empty = λ b l. absurd ((starts_then (byte c) (λ _. give a) (starts_byte c)).empty b l);
    }

pub law_made : {A B : Type 0} {starts after : ℕ → Bool} (make : A → B) (text : B → List ℕ) (p : Form A) → ((a : A) → text (make a) ≡ p.text a)
    → Law starts after p → Law starts after (made make text p)
law_made make text p same g = record {
  good = λ V. good_map make p.part (g.good V);
  begins = begins_map make p.part g.begins;
  prints = λ bytes b j.
      subst (λ b. (map make p.part).lang (text b) b) (sym j.goes_on.1)
      (subst (λ s. (map make p.part).lang s (make j.between)) (sym (same j.between))
      (spell_map make p.part (p.text j.between) j.between (g.prints j.front j.between j.begins)));
}

-- the one or the other: each value of both is spelled as the choice prints it
pub law_choice : {A : Type 0} {starts other after : ℕ → Bool} (test : ℕ → Bool) (text : A → List ℕ) (p q : Form A)
    → StartsWith test p.part → ((c : ℕ) → other c ≡ true → test c ≡ false) → Law starts after p → Law other after q
    → ((bytes : List ℕ) (a : A) → p.part.lang bytes a → (choose test p.part q.part).lang (text a) a)
    → ((bytes : List ℕ) (a : A) → q.part.lang bytes a → (choose test p.part q.part).lang (text a) a)
    → Law (λ c. starts c || other c) after (choice test text p q)
law_choice {A} {starts} {other} {after} test text p q one apart g h left right = record {
  good = λ V. good_choose test p.part q.part (g.good V) (h.good V) one
      (record { full = λ c tail a l. apart c (h.begins.full c tail a l); empty = λ a l c k. apart c (h.begins.empty a l c k) });
  begins = record {
    full = λ c tail a l.
        ⊎_elim (λ l. or_left (starts c) (other c) (g.begins.full c tail a l)) (λ l. or_right (starts c) (other c) (h.begins.full c tail a l)) l;
    empty = λ a l c k. ⊎_elim (λ l. or_left (starts c) (other c) (g.begins.empty a l c k)) (λ l. or_right (starts c) (other c) (h.begins.empty a l c k)) l;
  };
  prints = λ bytes a l. ⊎_elim (left bytes a) (right bytes a) l;
}

-- a byte that doesn't begin the other form tells the one that begins with it
pub apart_byte : (c : ℕ) (other : ℕ → Bool) → other c ≡ false → (d : ℕ) → other d ≡ true → (d == c) ≡ false
apart_byte c other not_there d h = by_case (d == c) refl
  where
    by_case : (b : Bool) → (d == c) ≡ b → b ≡ false
    by_case true e = let both : true ≡ false = sym h ∙ ap other (eqb-true d c e) ∙ not_there in both
    by_case false e = refl

-- the one begins with a byte; each is printed as the choice prints it
pub law_either : {A : Type 0} {middle other after : ℕ → Bool} (c : ℕ) (text : A → List ℕ) (p q : Form A) → other c ≡ false
    → ((bytes : List ℕ) (a : A) → p.part.lang bytes a → text a ≡ c ∷ p.text a) → ((bytes : List ℕ) (a : A) → q.part.lang bytes a → text a ≡ q.text a)
    → Law middle after p → Law other after q → Law (λ b. (b == c) || other b) after (choice (λ b. b == c) text (preceded c p) q)
law_either {A} {middle} {other} c text p q not_there left right g h =
    law_choice (λ b. b == c) text (preceded c p) q (starts_then (byte c) (λ _. p.part) (starts_byte c)) (apart_byte c other not_there)
    (law_behind c p g) h
    (λ bytes a j. inl (subst (λ s. (preceded c p).part.lang s a) (sym (left j.back a j.goes_on))
    (spell_byte c p.part (p.text a) a (g.prints j.back a j.goes_on))))
    (λ bytes a l. inr (subst (λ s. q.part.lang s a) (sym (right bytes a l)) (h.prints bytes a l)))

-- the text of a value that was made
pub made_text : {A B : Type 0} (make : A → B) (text : B → List ℕ) (p : Form A) (one other : B → List ℕ) → ((a : A) → one (make a) ≡ other (make a))
    → (bytes : List ℕ) (b : B) → (made make text p).part.lang bytes b → one b ≡ other b
made_text make text p one other same bytes b j = subst (λ b. one b ≡ other b) (sym j.goes_on.1) (same j.between)

pub law_constant : {A : Type 0} (after : ℕ → Bool) (a : A) (text : A → List ℕ) → text a ≡ [] → Law after after (constant a text)
law_constant after a text empty = law_made (λ _. a) text nothing (λ _. empty) (law_nothing after)

pub law_maybe : {A : Type 0} {middle : ℕ → Bool} (after : ℕ → Bool) (c : ℕ) (p : Form A) → after c ≡ false → Law middle after p
    → Law (λ b. (b == c) || after b) after (maybe c p)
law_maybe after c p not_there g =
    law_either c (maybe_text c p.text) (made Some (given_text p.text) p) (constant None (maybe_text c p.text)) not_there
    (made_text Some (given_text p.text) p (maybe_text c p.text) (λ a. c ∷ given_text p.text a) (λ a. refl))
    (λ bytes a l. refl) (law_made Some (given_text p.text) p (λ a. refl) g) (law_constant after None (maybe_text c p.text) refl)

pub law_closed : {A : Type 0} {starts wide : ℕ → Bool} (after : ℕ → Bool) (open_byte : ℕ) (p : Form A) (close_byte : ℕ) → wide close_byte ≡ true
    → Law starts wide p → Law (λ b. b == open_byte) after (closed open_byte p close_byte)
law_closed after open_byte p close_byte is g = law_behind open_byte (followed p close_byte) (law_followed after close_byte p is g)

-- a form behind one that told it, whose values all have this key
pub record Branch {A K : Type 0} (starts after : ℕ → Bool) (key : A → K) (k : K) (f : Form A) : Type 1 where
  pub law : Law starts after f
  pub keyed : (bytes : List ℕ) (a : A) → f.part.lang bytes a → key a ≡ k

-- values made of a form's
pub branch : {X A K : Type 0} {starts after : ℕ → Bool} (key : A → K) (k : K) (make : X → A) (text : A → List ℕ) (p : Form X) → Law starts after p
    → ((x : X) → (key (make x) ≡ k) × (text (make x) ≡ p.text x)) → Branch starts after key k (made make text p)
branch key k make text p g each = record {
  law = law_made make text p (λ x. (each x).1) g;
  keyed = λ bytes a j. ap key j.goes_on.1 ∙ (each j.between).0;
}

pub law_dispatch : {K A : Type 0} {starts middle after : ℕ → Bool} (p : Form K) (key : A → K) (next : K → Form A) → Law starts middle p
    → ((k : K) → Branch middle after key k (next k)) → Law starts after (dispatch p key next)
law_dispatch {K} {A} p key next g each = record {
  good = λ V. good_then p.part (λ k. (next k).part) (g.good V) (λ k. (each k).law.good V) (λ k. (each k).law.begins);
  begins = begins_then p.part (λ k. (next k).part) g.begins (λ k. (each k).law.begins);
  prints = λ bytes a j.
      let k = j.between in
      subst (λ k. (dispatch p key next).part.lang (p.text k ++ (next k).text a) a) (sym ((each k).keyed j.back a j.goes_on))
      (spell_then p.part (λ k. (next k).part) (p.text k) ((next k).text a) k a (g.prints j.front k j.begins)
      ((each k).law.prints j.back a j.goes_on));
}

-- a spelling between two bytes
pub spell_closed : {A : Type 0} (open_byte : ℕ) (p : Form A) (close_byte : ℕ) (s : List ℕ) (a : A) → p.part.lang s a
    → (closed open_byte p close_byte).part.lang (open_byte ∷ (s ++ close_byte ∷ [])) a
spell_closed open_byte p close_byte s a l =
    spell_byte open_byte (followed p close_byte).part (s ++ close_byte ∷ []) a
    (spell_then p.part (λ a. map (λ _. a) (byte close_byte)) s (close_byte ∷ []) a a l
    (spell_map (λ _. a) (byte close_byte) (close_byte ∷ []) close_byte (spell_one close_byte)))
