-- Parts that take all bytes are exact, where nothing follows.
use Rattle.std.proofs.Common.{◌≡◌, ℕ, ◌-◌, ◌≤◌, List, [], ◌∷◌, ◌++◌, length, take, drop, Result, Ok, Err, Bool, true, false, cond, inl, inr}
use Rattle.std.proofs.Common.{⊎_elim, nat_le, leb-true, leb-false, refl, sym, ap, subst, ◌∙◌, append-nil, append_assoc, length-append, arith}
use Rattle.std.specs.Str.{bytes_eq}
use Rattle.std.proofs.lemmas.List.{take-append-drop}
use Rattle.std.proofs.lemmas.Slice.Eq.{bytes_eq-Decides}
use Rattle.std.proofs.Math.Seq.{take-append_seam, drop-append_seam}
use Rattle.grammar.specs.Part.{Part, ◌>>=◌, Joins}
use Rattle.grammar.specs.Exact.{Stops, Exact, Taken, IsViable, FirstIsIn, Good, none, at_end, whole_at}
use Rattle.grammar.specs.Ends.{cut_by, cut_before, all_before, either_end, beside}
use Rattle.grammar.proofs.Reading.{Went, went, good_from, takes_some, ok_parts}
use Rattle.grammar.proofs.RepetitionLaw.{no_byte}

-- a reading to the end
end_is : {A : Type 0} (a b : A) (rest : List ℕ) → at_end a rest ≡ Ok b → (rest ≡ []) × (a ≡ b)
end_is a b [] e = (refl, cc)
end_is a b (c ∷ rest) e = cc

-- a part that reads to the end of the bytes is good where nothing follows
module _ {A : Type 0} (p : Part A) (last : (bytes rest : List ℕ) (a : A) → p.at bytes ≡ Ok (a, rest) → rest ≡ []) (exact : Exact p.lang (whole_at p)) where
  read_lang : (bytes rest : List ℕ) (a : A) → p.at bytes ≡ Ok (a, rest) → p.lang bytes a
  read_lang bytes rest a e = exact.found bytes a (ap (λ r. r >>= at_end) e ∙ ap (at_end a) (last bytes rest a e))

  lang_read : (bytes : List ℕ) (a : A) → p.lang bytes a → p.at bytes ≡ Ok (a, [])
  lang_read bytes a l = by_went (went (p.at bytes) at_end a (exact.only bytes a l))
    where
      by_went : Went (p.at bytes) at_end a → p.at bytes ≡ Ok (a, [])
      by_went s = let end = end_is s.value a s.rest s.gave in s.was ∙ ap (λ rest. Ok (s.value, rest)) end.0 ∙ ap (λ a. Ok (a, [])) end.1

  module _ {V : Type 0} (next : A → List ℕ → Result V ℕ) (v : (a : A) → IsViable (next a)) (f : (a : A) → FirstIsIn none (next a)) where
    -- what goes on takes the end of the bytes
    takes_end : (a : A) → (w : V) × (next a [] ≡ Ok w)
    takes_end a = go (takes_some (next a) (v a))
      where
        go : (bytes : List ℕ) × (w : V) × (next a bytes ≡ Ok w) → (w : V) × (next a [] ≡ Ok w)
        go ([], w, e) = (w, e)
        go (c ∷ tail, w, e) = let never : false ≡ true = f a c tail w e in cc

    goes_on : (bytes : List ℕ) (a : A) (w : V) → p.lang bytes a → next a [] ≡ Ok w → p.at bytes >>= next ≡ Ok w
    goes_on bytes a w l e = ap (λ r. r >>= next) (lang_read bytes a l) ∙ e

    end_only : (bytes : List ℕ) (w : V) → Joins p.lang (λ a. Taken (next a)) bytes w → p.at bytes >>= next ≡ Ok w
    end_only bytes w j = by_back j.front j.back j.between j.parts j.begins j.goes_on
      where
        by_back : (front back : List ℕ) (a : A) → bytes ≡ front ++ back → p.lang front a → next a back ≡ Ok w → p.at bytes >>= next ≡ Ok w
        by_back front [] a e l n = goes_on bytes a w (subst (λ s. p.lang s a) (sym (append-nil front) ∙ sym e) l) n
        by_back front (c ∷ back) a e l n = let never : false ≡ true = f a c back w n in cc

    at_stop : (bytes : List ℕ) (left : ℕ) → Stops p.lang bytes left → Stops (Taken (λ bytes. p.at bytes >>= next)) bytes left
    at_stop bytes left s = let w = takes_end s.value in record {
      front = s.front;
      rest = s.rest;
      parts = s.parts;
      left_is = s.left_is;
      more = s.more;
      value = w.0;
      begins = goes_on (s.front ++ s.more) s.value w.0 s.begins w.1;
      ends = λ c tail more x e taken.
          let read = went (p.at (s.front ++ c ∷ more)) next x taken in
          s.ends c tail more read.value e (read_lang (s.front ++ c ∷ more) read.rest read.value read.was);
    }

    end_stops : (bytes : List ℕ) (left : ℕ) → p.at bytes >>= next ≡ Err left → Stops (Taken (λ bytes. p.at bytes >>= next)) bytes left
    end_stops bytes left e = by_read (p.at bytes) refl e
      where
        by_read : (r : Result (A × List ℕ) ℕ) → p.at bytes ≡ r → r >>= next ≡ Err left
            → Stops (Taken (λ bytes. p.at bytes >>= next)) bytes left
        by_read (Ok (a, rest)) is e =
            let taken = takes_end a in
            let both : Ok taken.0 ≡ Err left = sym taken.1 ∙ ap (next a) (sym (last bytes rest a is)) ∙ e in cc
        by_read (Err less) is e =
            let same : less ≡ left = cc in
            at_stop bytes left (exact.stops bytes left (ap (λ r. r >>= at_end) is ∙ ap Err same))

  pub good_end : {V : Type 0} → Good V none p
  good_end =
      good_from p (λ bytes rest a e. (bytes, sym (append-nil bytes) ∙ ap (λ s. bytes ++ s) (sym (last bytes rest a e)), read_lang bytes rest a e)) end_only
      end_stops

-- what stands before an ending

cut_here : (ending v : List ℕ) → cut_before ending (length v) (v ++ ending) ≡ Ok (v, [])
cut_here ending v =
    ap (λ s. cut_by (bytes_eq s ending) (take (length v) (v ++ ending))) (drop-append_seam v ending)
    ∙ ap (λ b. cut_by b (take (length v) (v ++ ending))) ((bytes_eq-Decides ending ending).1 refl)
    ∙ ap (λ s. cut_by true s) (take-append_seam v ending)

module _ (ending : List ℕ) where
  cut_last : (n : ℕ) (bytes rest v : List ℕ) → cut_before ending n bytes ≡ Ok (v, rest) → rest ≡ []
  cut_last n bytes rest v e = by_test (bytes_eq (drop n bytes) ending) e
    where
      by_test : (b : Bool) → cut_by b (take n bytes) ≡ Ok (v, rest) → rest ≡ []
      by_test true e = sym (ok_parts e).1
      by_test false e = cc

  cut_found : (n : ℕ) (bytes v : List ℕ) → cut_before ending n bytes >>= at_end ≡ Ok v → bytes ≡ v ++ ending
  cut_found n bytes v e = by_test (bytes_eq (drop n bytes) ending) refl e
    where
      by_test : (b : Bool) → bytes_eq (drop n bytes) ending ≡ b → cut_by b (take n bytes) >>= at_end ≡ Ok v → bytes ≡ v ++ ending
      by_test true is e =
          let front : take n bytes ≡ v = cc in
          sym (take-append-drop n bytes) ∙ ap (λ s. s ++ drop n bytes) front ∙ ap (λ s. v ++ s) ((bytes_eq-Decides (drop n bytes) ending).0 is)
      by_test false is e = cc

  cut_stops : (n : ℕ) (bytes : List ℕ) (left : ℕ) → cut_before ending n bytes >>= at_end ≡ Err left → left ≡ 0
  cut_stops n bytes left e = by_test (bytes_eq (drop n bytes) ending) e
    where
      by_test : (b : Bool) → cut_by b (take n bytes) >>= at_end ≡ Err left → left ≡ 0
      by_test true e = cc
      by_test false e = cc

  exact_all_before : Exact (all_before ending).lang (whole_at (all_before ending))
  exact_all_before = record {
    found = λ bytes v e. cut_found (length bytes - length ending) bytes v e;
    only = λ bytes v e.
        let n : length bytes - length ending ≡ length v = omega (arith, ap length e, length-append v ending) in
        ap (λ n. cut_before ending n bytes >>= at_end) n ∙ ap (λ s. cut_before ending (length v) s >>= at_end) e
        ∙ ap (λ r. r >>= at_end) (cut_here ending v);
    stops = λ bytes left e. record {
      front = bytes;
      rest = [];
      parts = sym (append-nil bytes);
      left_is = sym (cut_stops (length bytes - length ending) bytes left e);
      more = ending;
      value = bytes;
      begins = refl;
      ends = λ c tail more v e l. absurd (no_byte (sym e));
    };
  }

  pub good_all_before : {V : Type 0} → Good V none (all_before ending)
  good_all_before = good_end (all_before ending) (λ bytes rest v e. cut_last (length bytes - length ending) bytes rest v e) exact_all_before

-- what goes further than a stop doesn't go on there
module _ {V : Type 0} (M : List ℕ → V → Type 0) (bytes : List ℕ) where
  -- of two texts that go on alike the longer has the other's rest behind some bytes
  longer : (a b c d : List ℕ) → a ++ b ≡ c ++ d → length b ≤ length d → (x : List ℕ) × (a ≡ c ++ x) × (d ≡ x ++ b)
  longer a b [] d e h = (a, refl, sym e)
  longer [] b (y ∷ c) d e h = absurd (omega (arith, ap length e, length-append c d))
  longer (x ∷ a) b (y ∷ c) d e h =
      let first : x ≡ y = cc in
      let rest : a ++ b ≡ c ++ d = cc in
      let on = longer a b c d rest h in
      (on.0, ap (λ z. z ∷ a) first ∙ ap (λ s. y ∷ s) on.1, on.2)

  pub no_further : (less : ℕ) → Stops M bytes less → (front rest : List ℕ) → bytes ≡ front ++ rest → length rest ≤ less → (c : ℕ) (tail more : List ℕ) (v : V)
      → rest ≡ c ∷ tail → ¬ M (front ++ (c ∷ more)) v
  no_further less s front rest e h c tail more v is m =
      let on = longer front rest s.front s.rest (sym e ∙ s.parts) (omega (arith, h, s.left_is)) in
      by_more on.0 on.1 on.2
    where
      by_more : (x : List ℕ) → front ≡ s.front ++ x → s.rest ≡ x ++ rest → ⊥
      by_more [] f r = s.ends c tail more v (r ∙ is) (subst (λ t. M (t ++ (c ∷ more)) v) (f ∙ append-nil s.front) m)
      by_more (d ∷ x) f r =
          s.ends d (x ++ rest) (x ++ (c ∷ more)) v r (subst (λ t. M t v) (ap (λ t. t ++ (c ∷ more)) f ∙ append_assoc s.front (d ∷ x) (c ∷ more)) m)

-- the one part or the other, where no bytes are spelled by both
module _ {A : Type 0} (p q : Part A) (one : Exact p.lang (whole_at p)) (other : Exact q.lang (whole_at q))
    (apart : (bytes : List ℕ) (a b : A) → p.lang bytes a → q.lang bytes b → ⊥) where
  abbrev Both : List ℕ → A → Type 0
  Both = (beside p q).lang

  either_last : (r t : Result A ℕ) (rest : List ℕ) (a : A) → either_end r t ≡ Ok (a, rest) → rest ≡ []
  either_last (Ok b) t rest a e = sym (ok_parts e).1
  either_last (Err left) (Ok b) rest a e = sym (ok_parts e).1
  either_last (Err left) (Err less) rest a e = cc

  either_found : (bytes : List ℕ) (v : A) (r t : Result A ℕ) → whole_at p bytes ≡ r → whole_at q bytes ≡ t → either_end r t >>= at_end ≡ Ok v → Both bytes v
  either_found bytes v (Ok a) t e f h = inl (one.found bytes v (let same : a ≡ v = cc in e ∙ ap Ok same))
  either_found bytes v (Err left) (Ok b) e f h = inr (other.found bytes v (let same : b ≡ v = cc in f ∙ ap Ok same))
  either_found bytes v (Err left) (Err less) e f h = cc

  other_only : (bytes : List ℕ) (v : A) (r : Result A ℕ) → whole_at p bytes ≡ r → q.lang bytes v → either_end r (Ok v) >>= at_end ≡ Ok v
  other_only bytes v (Ok a) e l = absurd (apart bytes a v (one.found bytes a e) l)
  other_only bytes v (Err left) e l = refl

  one_stops : (bytes : List ℕ) (left less : ℕ) → Stops p.lang bytes left → Stops q.lang bytes less → left ≤ less → Stops Both bytes left
  one_stops bytes left less s t h = record {
    front = s.front;
    rest = s.rest;
    parts = s.parts;
    left_is = s.left_is;
    more = s.more;
    value = s.value;
    begins = inl s.begins;
    ends = λ c tail more v e l.
        ⊎_elim (s.ends c tail more v e) (no_further q.lang bytes less t s.front s.rest s.parts (omega (arith, h, s.left_is)) c tail more v e) l;
  }

  other_stops : (bytes : List ℕ) (left less : ℕ) → Stops p.lang bytes left → Stops q.lang bytes less → less ≤ left → Stops Both bytes less
  other_stops bytes left less s t h = record {
    front = t.front;
    rest = t.rest;
    parts = t.parts;
    left_is = t.left_is;
    more = t.more;
    value = t.value;
    begins = inr t.begins;
    ends = λ c tail more v e l.
        ⊎_elim (no_further p.lang bytes left s t.front t.rest t.parts (omega (arith, h, t.left_is)) c tail more v e) (t.ends c tail more v e) l;
  }

  further_stops : (bytes : List ℕ) (left less : ℕ) (b : Bool) → nat_le left less ≡ b → Stops p.lang bytes left → Stops q.lang bytes less
      → Stops Both bytes (cond b left less)
  further_stops bytes left less true is s t = one_stops bytes left less s t (leb-true left less is)
  further_stops bytes left less false is s t = other_stops bytes left less s t (omega (arith, leb-false left less is))

  either_stops : (bytes : List ℕ) (left : ℕ) (r t : Result A ℕ) → whole_at p bytes ≡ r → whole_at q bytes ≡ t → either_end r t >>= at_end ≡ Err left
      → Stops Both bytes left
  either_stops bytes left (Ok a) t e f h = cc
  either_stops bytes left (Err l) (Ok b) e f h = cc
  either_stops bytes left (Err l) (Err m) e f h =
      let same : cond (nat_le l m) l m ≡ left = cc in
      subst (Stops Both bytes) same (further_stops bytes l m (nat_le l m) refl (one.stops bytes l e) (other.stops bytes m f))

  exact_beside : Exact Both (whole_at (beside p q))
  exact_beside = record {
    found = λ bytes v e. either_found bytes v (whole_at p bytes) (whole_at q bytes) refl refl e;
    only = λ bytes v l.
        ⊎_elim (λ l. ap (λ r. either_end r (whole_at q bytes) >>= at_end) (one.only bytes v l))
        (λ l. ap (λ t. either_end (whole_at p bytes) t >>= at_end) (other.only bytes v l) ∙ other_only bytes v (whole_at p bytes) refl l) l;
    stops = λ bytes left e. either_stops bytes left (whole_at p bytes) (whole_at q bytes) refl refl e;
  }

  pub good_beside : {V : Type 0} → Good V none (beside p q)
  good_beside = good_end (beside p q) (λ bytes rest a e. either_last (whole_at p bytes) (whole_at q bytes) rest a e) exact_beside
