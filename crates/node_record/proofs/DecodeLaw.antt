-- What a reader of whole entries says of the entries.
use Rattle.std.proofs.Common.{◌≡◌, ◌⊎◌, inl, inr, ℕ, zero, suc, ◌+◌, ◌-◌, ◌<◌, ◌≤◌, List, [], ◌∷◌, ◌++◌, length, take, drop, Result, Ok, Err, refl, sym, ap, ◌∙◌, subst, append_assoc, arith, length-append}
use Rattle.grammar.specs.Exact.{Exact, Good, Stops, any, whole_at}
use Rattle.grammar.specs.Forms.{Form}
use Rattle.grammar.specs.Gives.{ReadsAs}
use Rattle.grammar.specs.declared.error.Stop.{Stop}
use Rattle.grammar.specs.declared.error.ReadError.{ReadError}
use Rattle.grammar.specs.declared.error.ReadError.TheVariants.{Stopped}
use Rattle.grammar.proofs.SequenceLaw.{exact_whole}
use Rattle.node_record.specs.declared.fault.RecordFault.{RecordFault}
use Rattle.node_record.specs.declared.fault.RecordFault.TheVariants.{Bad}
use Rattle.node_record.specs.Stored.{IsStored, IsFirstBad}
use Rattle.node_record.proofs.StoredLaw.{Stored}

take_front : (front rest : List ℕ) → take (length front) (front ++ rest) ≡ front
take_front [] rest = refl
take_front (c ∷ front) rest = ap (λ (s : List ℕ). c ∷ s) (take_front front rest)

-- more bytes than the front are the front and more
take_more : (front rest : List ℕ) (n : ℕ) → length front < n → n ≤ length (front ++ rest)
    → (c : ℕ) × (tail : List ℕ) × (more : List ℕ) × (rest ≡ c ∷ tail) × (take n (front ++ rest) ≡ front ++ (c ∷ more))
take_more [] [] n less within = absurd (omega arith)
take_more [] (c ∷ rest) zero less within = absurd (omega arith)
take_more [] (c ∷ rest) (suc n) less within = (c, rest, take n rest, refl, refl)
take_more (d ∷ front) rest zero less within = absurd (omega arith)
take_more (d ∷ front) rest (suc n) less within =
    let on = take_more front rest n (omega arith) (omega arith) in
    (on.0, on.1, on.2, on.3, ap (λ (s : List ℕ). d ∷ s) on.4)

module _ {A : Type 0} (Is : A → Type 0) (form : Form A) (law : Stored Is form) where
  pub exact_form : Exact form.part.lang (whole_at form.part)
  exact_form = exact_whole form.part (law.good A)

  pub is_spelled : (bytes : List ℕ) (a : A) → IsStored Is form bytes a → form.part.lang bytes a
  is_spelled bytes a is = subst (λ (s : List ℕ). form.part.lang s a) (sym is.0) (law.all a is.1)

  pub is_stored : (bytes : List ℕ) (a : A) → form.part.lang bytes a → IsStored Is form bytes a
  is_stored bytes a l = law.one bytes a l

  -- bytes are one entry
  pub one_value : (bytes : List ℕ) (a b : A) → IsStored Is form bytes a → IsStored Is form bytes b → a ≡ b
  one_value bytes a b one other = cc (exact_form.only bytes a (is_spelled bytes a one), exact_form.only bytes b (is_spelled bytes b other))

  module _ (bytes : List ℕ) where
    pub left_within : (left : ℕ) → Stops form.part.lang bytes left → left ≤ length bytes
    left_within left s = omega (arith, ap length s.parts, length-append s.front s.rest, s.left_is)

    pub first_bad : (left : ℕ) → Stops form.part.lang bytes left → IsFirstBad Is form bytes (length bytes - left)
    first_bad left s =
        let size : length bytes ≡ length s.front + length s.rest = ap length s.parts ∙ length-append s.front s.rest in
        let at : length bytes - left ≡ length s.front = omega (arith, size, s.left_is) in
        let front : take (length bytes - left) bytes ≡ s.front =
        ap (λ (n : ℕ). take n bytes) at ∙ ap (take (length s.front)) s.parts ∙ take_front s.front s.rest in
        record {
          within = omega arith;
          more = s.more;
          value = s.value;
          begins = subst (λ (f : List ℕ). IsStored Is form (f ++ s.more) s.value) (sym front) (law.one (s.front ++ s.more) s.value s.begins);
          longest = λ n more a less within is.
              let t = take_more s.front s.rest n (omega (arith, less, at)) (subst (λ (b : List ℕ). n ≤ length b) s.parts within) in
              let same : take n bytes ++ more ≡ s.front ++ (t.0 ∷ (t.2 ++ more)) =
              ap (λ (b : List ℕ). take n b ++ more) s.parts ∙ ap (λ (f : List ℕ). f ++ more) t.4 ∙ append_assoc s.front (t.0 ∷ t.2) more in
              s.ends t.0 t.1 (t.2 ++ more) a t.3 (subst (λ (b : List ℕ). form.part.lang b a) same (is_spelled (take n bytes ++ more) a is));
        }

-- the place that a fault names
pub same_place : {A : Type 0} {at found : ℕ} → (let r : Result A RecordFault = Err (Bad found) in r ≡ Err (Bad at)) → found ≡ at
same_place e = cc
