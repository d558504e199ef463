-- Nothing, one part behind another, and the end of the bytes.
use Rattle.std.proofs.Common.{◌≡◌, ℕ, List, [], ◌∷◌, ◌++◌, Result, Ok, Bool, true, refl, sym, ap, subst, ◌∙◌, append_assoc, append-nil}
use Rattle.grammar.specs.Part.{Part, ◌>>=◌, Joins, give, ◌then◌, map}
use Rattle.grammar.specs.Exact.{Exact, Taken, IsViable, FirstIsIn, Good, Begins, at_end, whole_at}
use Rattle.grammar.proofs.Reading.{bind_assoc, Went, went, ok_parts, viable, Exact-map, Joins-map, exact_from}

module _ {V : Type 0} where
  -- what follows a part that begins with `starts` follows with `starts`
  pub follows_begins : {A : Type 0} {starts after : ℕ → Bool} (p : Part A) (next : A → List ℕ → Result V ℕ) →
      Begins starts after p → Good V after p →
      ((a : A) → IsViable (next a)) → ((a : A) → FirstIsIn after (next a)) → FirstIsIn starts (λ bytes. p.at bytes >>= next)
  follows_begins {A} {starts} {after} p next b g v f c tail w h = go ((g.exact next v f).found (c ∷ tail) w h)
    where
      by_front : (front back : List ℕ) (a : A) → (let s : List ℕ = c ∷ tail in s ≡ front ++ back) → p.lang front a → next a back ≡ Ok w
          → starts c ≡ true
      by_front [] back a e l n = b.empty a l c (f a c tail w (ap (next a) e ∙ n))
      by_front (d ∷ front) back a e l n = let same : c ≡ d = cc in ap starts same ∙ b.full d front a l

      go : Joins p.lang (λ a. Taken (next a)) (c ∷ tail) w → starts c ≡ true
      go j = by_front j.front j.back j.between j.parts j.begins j.goes_on

  pub good_give : {A : Type 0} (set : ℕ → Bool) (a : A) → Good V set (give a)
  good_give {A} set a = record {
    sound = λ bytes rest b e. let same = ok_parts e in ([], same.1, (refl, sym same.0));
    exact = λ next v f. exact_from (λ bytes w h. record { front = []; back = bytes; between = a; parts = refl; begins = (refl, refl); goes_on = h })
        (given next) (v a);
  }
    where
      given : (next : A → List ℕ → Result V ℕ) (bytes : List ℕ) (w : V) → Joins (give a).lang (λ b. Taken (next b)) bytes w
          → next a bytes ≡ Ok w
      given next bytes w j =
          let at : next j.between j.back ≡ Ok w = j.goes_on in
          let from : j.between ≡ a = j.begins.1 in
          let none : j.front ≡ [] = j.begins.0 in
          let e : bytes ≡ j.front ++ j.back = j.parts in
          rw (e, none, ← from) at

  -- a spelling by three parts, taken apart behind the second or behind the first
  module _ {A B : Type 0} (first : List ℕ → A → Type 0) (second : A → List ℕ → B → Type 0) (third : B → List ℕ → V → Type 0) where
    pub joins_left : (bytes : List ℕ) (v : V) → Joins first (λ a. Joins (second a) third) bytes v → Joins (Joins first second) third bytes v
    joins_left bytes v j = let k = j.goes_on in record {
      front = j.front ++ k.front;
      back = k.back;
      between = k.between;
      parts = j.parts ∙ ap (λ s. j.front ++ s) k.parts ∙ sym (append_assoc j.front k.front k.back);
      begins = record { front = j.front; back = k.front; between = j.between; parts = refl; begins = j.begins; goes_on = k.begins };
      goes_on = k.goes_on;
    }

    pub joins_right : (bytes : List ℕ) (v : V) → Joins (Joins first second) third bytes v → Joins first (λ a. Joins (second a) third) bytes v
    joins_right bytes v j = let k = j.begins in record {
      front = k.front;
      back = k.back ++ j.back;
      between = k.between;
      parts = j.parts ∙ ap (λ s. s ++ j.back) k.parts ∙ append_assoc k.front k.back j.back;
      begins = k.begins;
      goes_on = record { front = k.back; back = j.back; between = j.between; parts = refl; begins = k.goes_on; goes_on = j.goes_on };
    }

  -- one part behind another: what stands behind the first begins as the second does
  pub good_then : {A B : Type 0} {starts after : ℕ → Bool} (p : Part A) (f : A → Part B) → Good V starts p → ((a : A) → Good V after (f a)) →
      ((a : A) → Begins starts after (f a)) → Good V after (p then f)
  good_then {A} {B} {starts} {after} p f g h b = record {
    sound = λ bytes rest w e. sound bytes rest w (went (p.at bytes) _ _ e);
    exact = λ next v w.
        let inner : A → List ℕ → Result V ℕ = λ a bytes. (f a).at bytes >>= next in
        let exact_inner : (a : A) → Exact (Joins (f a).lang (λ c. Taken (next c))) (inner a) = λ a. (h a).exact next v w in
        let outer = g.exact inner (λ a. viable (exact_inner a)) (λ a. follows_begins (f a) next (b a) (h a) v w) in
        Exact-map (λ bytes. sym (bind_assoc (p.at bytes) (λ a. (f a).at) next))
        (λ bytes x j. joins_left p.lang (λ a. (f a).lang) (λ c. Taken (next c)) bytes x (Joins-map (λ a. (exact_inner a).found) j))
        (λ bytes x j. Joins-map (λ a. (exact_inner a).only) (joins_right p.lang (λ a. (f a).lang) (λ c. Taken (next c)) bytes x j))
        outer;
  }
    where
      sound : (bytes rest : List ℕ) (w : B) → Went (p.at bytes) (λ a. (f a).at) (w, rest)
          → (front : List ℕ) × (bytes ≡ front ++ rest) × (p then f).lang front w
      sound bytes rest w s =
          let one = g.sound bytes s.rest s.value s.was in
          let two = (h s.value).sound s.rest rest w s.gave in
          let parts : bytes ≡ (one.0 ++ two.0) ++ rest = one.1 ∙ ap (λ x. one.0 ++ x) two.1 ∙ sym (append_assoc one.0 two.0 rest) in
          (one.0 ++ two.0, parts, record { front = one.0; back = two.0; between = s.value; parts = refl; begins = one.2; goes_on = two.2 })

  -- a value changed
  pub good_map : {A B : Type 0} {set : ℕ → Bool} (f : A → B) (p : Part A) → Good V set p → Good V set (map f p)
  good_map {A} {B} {set} f p g =
      good_then p (λ a. give (f a)) g (λ a. good_give set (f a)) (λ a. record { full = λ c tail b e. absurd (apart c tail e.0); empty = λ _ _ _ h. h })
    where
      apart : (c : ℕ) (tail : List ℕ) → (let s : List ℕ = c ∷ tail in s ≡ []) → ⊥
      apart c tail e = cc

  -- the end is exact
  pub viable_end : (a : V) → IsViable (at_end a)
  viable_end a [] left e = cc
  viable_end a (c ∷ rest) left e = record {
    front = [];
    rest = c ∷ rest;
    parts = refl;
    left_is = cc;
    more = [];
    value = a;
    begins = refl;
    ends = λ d tail more v same taken. cc;
  }

  -- nothing follows but the end
  pub follows_end : (set : ℕ → Bool) (a : V) → FirstIsIn set (at_end a)
  follows_end set a c tail v h = cc

  -- a part with nothing behind it: what is read is spelled, what is spelled is read, and a stop is at the longest prefix
  pub exact_whole : {set : ℕ → Bool} (p : Part V) → Good V set p → Exact p.lang (whole_at p)
  exact_whole {set} p g = Exact-map (λ bytes. refl) to from (g.exact at_end viable_end (follows_end set))
    where
      at_last : (a v : V) (rest : List ℕ) → at_end a rest ≡ Ok v → (rest ≡ []) × (a ≡ v)
      at_last a v [] e = (refl, cc)
      at_last a v (c ∷ rest) e = cc

      to : (bytes : List ℕ) (v : V) → Joins p.lang (λ a. Taken (at_end a)) bytes v → p.lang bytes v
      to bytes v j =
          let last = at_last j.between v j.back j.goes_on in
          let same : bytes ≡ j.front = j.parts ∙ ap (λ s. j.front ++ s) last.0 ∙ append-nil j.front in
          subst (λ s. p.lang s v) (sym same) (subst (λ x. p.lang j.front x) last.1 j.begins)

      from : (bytes : List ℕ) (v : V) → p.lang bytes v → Joins p.lang (λ a. Taken (at_end a)) bytes v
      from bytes v l = record { front = bytes; back = []; between = v; parts = sym (append-nil bytes); begins = l; goes_on = refl }
