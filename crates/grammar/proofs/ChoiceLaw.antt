-- The one or the other by the first byte, and single bytes.
use Rattle.std.proofs.Common.{◌≡◌, ℕ, suc, List, [], ◌∷◌, ◌++◌, length, Result, Ok, Err, Bool, true, false, cond, ◌⊎◌, inl, inr}
use Rattle.std.proofs.Common.{⊎_elim, refl, sym, ap, ◌∙◌}
use Rattle.grammar.specs.Part.{Part, ◌>>=◌, Joins, choose, starts, one_of, one_at, taken}
use Rattle.grammar.specs.Exact.{Stops, Taken, IsViable, FirstIsIn, Good, StartsWith, StartsWithout}
use Rattle.grammar.proofs.Reading.{ok_parts, viable, takes_some, good_from}

-- texts that begin alike up to one byte begin with the same byte
pub same_start : (test : ℕ → Bool) (front : List ℕ) (c : ℕ) (tail more : List ℕ)
    → starts test (front ++ (c ∷ tail)) ≡ starts test (front ++ (c ∷ more))
same_start test [] c tail more = refl
same_start test (d ∷ front) c tail more = refl

module _ {V A : Type 0} {after : ℕ → Bool} (test : ℕ → Bool) (p q : Part A) (g : Good V after p) (h : Good V after q)
    (one : StartsWith test p) (other : StartsWithout test after q) where
  choice_sound : (b : Bool) (bytes rest : List ℕ) (a : A) → cond b (p.at bytes) (q.at bytes) ≡ Ok (a, rest) →
      (front : List ℕ) × (bytes ≡ front ++ rest) × (p.lang front a ⊎ q.lang front a)
  choice_sound true bytes rest a e = let s = g.sound bytes rest a e in (s.0, s.1, inl s.2)
  choice_sound false bytes rest a e = let s = h.sound bytes rest a e in (s.0, s.1, inr s.2)

  module _ (next : A → List ℕ → Result V ℕ) (v : (a : A) → IsViable (next a)) (f : (a : A) → FirstIsIn after (next a)) where
    abbrev Spelled : List ℕ → V → Type 0
    Spelled = Joins (λ s a. p.lang s a ⊎ q.lang s a) (λ a. Taken (next a))

    left_one : (bytes : List ℕ) (w : V) → p.at bytes >>= next ≡ Ok w → Spelled bytes w
    left_one bytes w e = let j = (g.exact next v f).found bytes w e in
        record { front = j.front; back = j.back; between = j.between; parts = j.parts; begins = inl j.begins; goes_on = j.goes_on }

    right_one : (bytes : List ℕ) (w : V) → q.at bytes >>= next ≡ Ok w → Spelled bytes w
    right_one bytes w e = let j = (h.exact next v f).found bytes w e in
        record { front = j.front; back = j.back; between = j.between; parts = j.parts; begins = inr j.begins; goes_on = j.goes_on }

    -- what the choice reads, once the first byte is known
    at_start : (bytes : List ℕ) (b : Bool) → starts test bytes ≡ b → (choose test p q).at bytes >>= next ≡ cond b (p.at bytes) (q.at bytes) >>= next
    at_start bytes b e = ap (λ x. cond x (p.at bytes) (q.at bytes) >>= next) e

    start_one : (front back : List ℕ) (a : A) → p.lang front a → starts test (front ++ back) ≡ true
    start_one [] back a l = absurd (one.empty a l)
    start_one (c ∷ front) back a l = one.full c front a l

    start_other : (front back : List ℕ) (a : A) (w : V) → q.lang front a → next a back ≡ Ok w → starts test (front ++ back) ≡ false
    start_other [] [] a w l n = refl
    start_other [] (c ∷ back) a w l n = other.empty a l c (f a c back w n)
    start_other (c ∷ front) back a w l n = other.full c front a l

    choice_only : (bytes : List ℕ) (w : V) → Spelled bytes w → (choose test p q).at bytes >>= next ≡ Ok w
    choice_only bytes w j =
        ⊎_elim
        (λ l. at_start bytes true (ap (starts test) j.parts ∙ start_one j.front j.back j.between l)
        ∙ (g.exact next v f).only bytes w (record { front = j.front; back = j.back; between = j.between; parts = j.parts; begins = l; goes_on = j.goes_on }))
        (λ l. at_start bytes false (ap (starts test) j.parts ∙ start_other j.front j.back j.between w l j.goes_on)
        ∙ (h.exact next v f).only bytes w (record { front = j.front; back = j.back; between = j.between; parts = j.parts; begins = l; goes_on = j.goes_on }))
        j.begins

    choice_stops : (bytes : List ℕ) (left : ℕ) (b : Bool) → starts test bytes ≡ b → cond b (p.at bytes) (q.at bytes) >>= next ≡ Err left →
        Stops (Taken (λ s. (choose test p q).at s >>= next)) bytes left
    choice_stops bytes left true first e =
        let s = viable (g.exact next v f) bytes left e in
        record {
          front = s.front;
          rest = s.rest;
          parts = s.parts;
          left_is = s.left_is;
          more = s.more;
          value = s.value;
          begins = choice_only _ _ (left_one _ _ s.begins);
          ends = λ c tail more w same taken. s.ends c tail more w same
              (sym (at_start _ true (same_start test s.front c more tail ∙ sym (ap (λ t. starts test (s.front ++ t)) same) ∙ sym (ap (starts test) s.parts)
              ∙ first)) ∙ taken);
        }
    choice_stops bytes left false first e =
        let s = viable (h.exact next v f) bytes left e in
        record {
          front = s.front;
          rest = s.rest;
          parts = s.parts;
          left_is = s.left_is;
          more = s.more;
          value = s.value;
          begins = choice_only _ _ (right_one _ _ s.begins);
          ends = λ c tail more w same taken. s.ends c tail more w same
              (sym (at_start _ false (same_start test s.front c more tail ∙ sym (ap (λ t. starts test (s.front ++ t)) same)
              ∙ sym (ap (starts test) s.parts) ∙ first)) ∙ taken);
        }

  -- one of two by the first byte
  pub good_choose : Good V after (choose test p q)
  good_choose = good_from (choose test p q) (λ bytes rest a e. choice_sound (starts test bytes) bytes rest a e) choice_only
      (λ next v f bytes left e. choice_stops next v f bytes left (starts test bytes) refl e)

module _ (test : ℕ → Bool) where
  one_reads : (c : ℕ) (rest : List ℕ) (b : Bool) → test c ≡ b → one_at test (c ∷ rest) ≡ taken b c rest
  one_reads c rest b e = ap (λ b. taken b c rest) e

  one_sound : (bytes rest : List ℕ) (a : ℕ) → one_at test bytes ≡ Ok (a, rest)
      → (front : List ℕ) × (bytes ≡ front ++ rest) × (front ≡ a ∷ []) × (test a ≡ true)
  one_sound [] rest a e = cc
  one_sound (c ∷ bytes) rest a e = by_test (test c) refl e
    where
      by_test : (b : Bool) → test c ≡ b → taken b c bytes ≡ Ok (a, rest) →
          (front : List ℕ) × ((let s : List ℕ = c ∷ bytes in s) ≡ front ++ rest) × (front ≡ a ∷ []) × (test a ≡ true)
      by_test true is e = let same = ok_parts e in (c ∷ [], ap (λ t. c ∷ t) same.1, ap (λ x. x ∷ []) same.0, ap test (sym same.0) ∙ is)
      by_test false is e = cc

  -- one byte, where one passes
  pub good_one_of : {V : Type 0} (after : ℕ → Bool) (example : ℕ) → test example ≡ true → Good V after (one_of test)
  good_one_of {V} after example passes = good_from (one_of test) sound (λ next v f. only next) (λ next v f. stops next v)
    where
      sound : (bytes rest : List ℕ) (a : ℕ) → one_at test bytes ≡ Ok (a, rest)
          → (front : List ℕ) × (bytes ≡ front ++ rest) × (one_of test).lang front a
      sound bytes rest a e = let s = one_sound bytes rest a e in (s.0, s.1, (s.2, s.3))

      only : (next : ℕ → List ℕ → Result V ℕ) (bytes : List ℕ) (w : V) → Joins (one_of test).lang (λ a. Taken (next a)) bytes w
          → one_at test bytes >>= next ≡ Ok w
      only next bytes w j =
          ap (λ s. one_at test s >>= next) (j.parts ∙ ap (λ s. s ++ j.back) j.begins.0)
          ∙ ap (λ r. r >>= next) (one_reads j.between j.back true j.begins.1) ∙ j.goes_on

      empty_stop : (next : ℕ → List ℕ → Result V ℕ) (left : ℕ) → 0 ≡ left → (more : List ℕ) (value : V) → next example more ≡ Ok value
          → Stops (Taken (λ s. one_at test s >>= next)) [] left
      empty_stop next left e more value t = record {
        front = [];
        rest = [];
        parts = refl;
        left_is = e;
        more = example ∷ more;
        value = value;
        begins = ap (λ r. r >>= next) (one_reads example more true passes) ∙ t;
        ends = λ c tail more w same taken. cc;
      }

      by_test : (next : ℕ → List ℕ → Result V ℕ) → ((a : ℕ) → IsViable (next a)) → (c : ℕ) (rest : List ℕ) (left : ℕ) (b : Bool)
          → test c ≡ b
          → taken b c rest >>= next ≡ Err left →
          Stops (Taken (λ s. one_at test s >>= next)) (c ∷ rest) left
      by_test next v c rest left true is e =
          let s = v c rest left e in
          record {
            front = c ∷ s.front;
            rest = s.rest;
            parts = ap (λ t. c ∷ t) s.parts;
            left_is = s.left_is;
            more = s.more;
            value = s.value;
            begins = ap (λ r. r >>= next) (one_reads c (s.front ++ s.more) true is) ∙ s.begins;
            ends = λ d tail more w same taken.
                s.ends d tail more w same (sym (ap (λ r. r >>= next) (one_reads c (s.front ++ (d ∷ more)) true is)) ∙ taken);
          }
      by_test next v c rest left false is e =
          let some = takes_some (next example) (v example) in
          record {
            front = [];
            rest = c ∷ rest;
            parts = refl;
            left_is = cc;
            more = example ∷ some.0;
            value = some.1;
            begins = ap (λ r. r >>= next) (one_reads example some.0 true passes) ∙ some.2;
            ends = λ d tail more w same taken.
                let first : c ≡ d = cc in
                let stop : Err (suc (length more)) ≡ Ok w = sym (ap (λ r. r >>= next) (one_reads d more false (ap test (sym first) ∙ is))) ∙ taken in
                cc;
          }

      stops : (next : ℕ → List ℕ → Result V ℕ) → ((a : ℕ) → IsViable (next a)) → IsViable (λ bytes. one_at test bytes >>= next)
      stops next v [] left e = let some = takes_some (next example) (v example) in empty_stop next left (cc) some.0 some.1 some.2
      stops next v (c ∷ rest) left e = by_test next v c rest left (test c) refl e
