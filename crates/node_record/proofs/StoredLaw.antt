-- Forms whose values each have one text: what holds of parts holds of what is made of them.
use Rattle.std.proofs.Common.{◌≡◌, ℕ, zero, suc, ◌+◌, ◌<◌, ◌≤◌, List, [], ◌∷◌, ◌++◌, length, Bool, true, refl, sym, ap, ◌∙◌, subst, append-nil, append_assoc, arith}
use Rattle.grammar.specs.Part.{Part, give, ◌then◌, map, byte, one_of}
use Rattle.grammar.specs.Exact.{Good, any}
use Rattle.grammar.specs.Forms.{Form, ◌and◌, made, dispatch}
use Rattle.grammar.proofs.SequenceLaw.{good_give, good_then, good_map}
use Rattle.grammar.proofs.RepetitionLaw.{begins_any}
use Rattle.grammar.proofs.Spelling.{spell_then, spell_map}

-- a form is exact, each of its values is spelled by its text alone, and each value of these is spelled
pub record Stored {A : Type 0} (Is : A → Type 0) (f : Form A) : Type 1 where
  pub good : (V : Type 0) → Good V any f.part
  pub one : (bytes : List ℕ) (a : A) → f.part.lang bytes a → (bytes ≡ f.text a) × Is a
  pub all : (a : A) → Is a → f.part.lang (f.text a) a

-- what a changed value was made of
pub unmap : {A B : Type 0} (f : A → B) (p : Part A) (bytes : List ℕ) (b : B) → (map f p).lang bytes b → (a : A) × (p.lang bytes a) × (b ≡ f a)
unmap f p bytes b j =
    let same : bytes ≡ j.front = j.parts ∙ ap (λ (x : List ℕ). j.front ++ x) j.goes_on.0 ∙ append-nil j.front in
    (j.between, subst (λ (x : List ℕ). p.lang x j.between) (sym same) j.begins, j.goes_on.1)

-- one part behind another, good before any byte
pub good_joined : {V A B : Type 0} (p : Part A) (f : A → Part B) → Good V any p → ((a : A) → Good V any (f a)) → Good V any (p then f)
good_joined p f g h = good_then p f g h (λ a. begins_any any (f a))

pub stored_and : {A B : Type 0} {IsA : A → Type 0} {IsB : B → Type 0} (p : Form A) (q : Form B) → Stored IsA p → Stored IsB q
    → Stored (λ x. IsA x.0 × IsB x.1) (p and q)
stored_and {A} {B} {IsA} {IsB} p q g h = record {
  good = λ V. good_joined p.part (λ a. map (λ b. (a, b)) q.part) (g.good V) (λ a. good_map (λ b. (a, b)) q.part (h.good V));
  one = λ bytes x j.
      let first = g.one j.front j.between j.begins in
      let second = unmap (λ (b : B). (j.between, b)) q.part j.back x j.goes_on in
      let last = h.one j.back second.0 second.1 in
      let text : bytes ≡ p.text j.between ++ q.text second.0 = j.parts ∙ ap (λ (s : List ℕ). s ++ j.back) first.0 ∙ ap (λ (s : List ℕ). p.text j.between ++ s) last.0 in
      subst (λ (x : A × B). (bytes ≡ p.text x.0 ++ q.text x.1) × (IsA x.0 × IsB x.1)) (sym second.2) (text, (first.1, last.1));
  all = λ x is.
      spell_then p.part (λ a. map (λ b. (a, b)) q.part) (p.text x.0) (q.text x.1) x.0 x (g.all x.0 is.0)
      (spell_map (λ b. (x.0, b)) q.part (q.text x.1) x.1 (h.all x.1 is.1));
}

-- values made of a form's, which may be only some of their type
pub record Branch {A : Type 0} (Is : A → Type 0) (f : Form A) : Type 1 where
  pub good : (V : Type 0) → Good V any f.part
  pub one : (bytes : List ℕ) (a : A) → f.part.lang bytes a → (bytes ≡ f.text a) × Is a

pub branch : {A B : Type 0} {IsA : A → Type 0} (IsB : B → Type 0) (make : A → B) (text : B → List ℕ) (p : Form A) → Stored IsA p
    → ((a : A) → IsA a → (text (make a) ≡ p.text a) × IsB (make a)) → Branch IsB (made make text p)
branch {A} {B} {IsA} IsB make text p g to = record {
  good = λ V. good_map make p.part (g.good V);
  one = λ bytes b j.
      let was = unmap make p.part bytes b j in
      let first = g.one bytes was.0 was.1 in
      let is = to was.0 first.1 in
      subst (λ (b : B). (bytes ≡ text b) × IsB b) (sym was.2) (first.0 ∙ sym is.0, is.1);
}

pub spell_made : {A B : Type 0} {IsA : A → Type 0} (make : A → B) (text : B → List ℕ) (p : Form A) → Stored IsA p → (a : A) → IsA a → text (make a) ≡ p.text a
    → (made make text p).part.lang (text (make a)) (make a)
spell_made make text p g a is same =
    subst (λ (s : List ℕ). (map make p.part).lang s (make a)) (sym same) (spell_map make p.part (p.text a) a (g.all a is))

pub stored_made : {A B : Type 0} {IsA : A → Type 0} (IsB : B → Type 0) (make : A → B) (text : B → List ℕ) (p : Form A) → Stored IsA p
    → ((a : A) → IsA a → (text (make a) ≡ p.text a) × IsB (make a)) → ((b : B) → IsB b → (made make text p).part.lang (text b) b)
    → Stored IsB (made make text p)
stored_made IsB make text p g to all = let b = branch IsB make text p g to in record { good = b.good; one = b.one; all = all }

-- a form behind the kind that tells it
pub stored_dispatch : {K A : Type 0} (Is : A → Type 0) (p : Form K) (key : A → K) (next : K → Form A) → Stored (λ _. Unit {0}) p
    → ((k : K) → Branch (λ a. Is a × (key a ≡ k)) (next k)) → ((a : A) → Is a → (next (key a)).part.lang ((next (key a)).text a) a) → Stored Is (dispatch p key next)
stored_dispatch {K} {A} Is p key next g each all = record {
  good = λ V. good_joined p.part (λ k. (next k).part) (g.good V) (λ k. (each k).good V);
  one = λ bytes a j.
      let k = j.between in
      let first = g.one j.front k j.begins in
      let behind = (each k).one j.back a j.goes_on in
      let text : bytes ≡ p.text k ++ (next k).text a = j.parts ∙ ap (λ (x : List ℕ). x ++ j.back) first.0 ∙ ap (λ (x : List ℕ). p.text k ++ x) behind.0 in
      (text ∙ ap (λ (k : K). p.text k ++ (next k).text a) (sym behind.1.1), behind.1.0);
  all = λ a is. spell_then p.part (λ k. (next k).part) (p.text (key a)) ((next (key a)).text a) (key a) a (g.all (key a) tt) (all a is);
}
