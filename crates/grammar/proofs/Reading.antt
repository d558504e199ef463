-- Small facts on readings that go on, on stops, and on exactness carried from one reader to another.
use Rattle.std.proofs.Common.{◌≡◌, ℕ, List, [], ◌∷◌, ◌++◌, length, Result, Ok, Err, Bool, refl, sym, ap, ◌∙◌, length-append, ap₂}
use Rattle.std.proofs.Common.{arith}
use Rattle.grammar.specs.Part.{Part, ◌>>=◌, Joins}
use Rattle.grammar.specs.Exact.{Stops, Exact, Taken, IsViable, FirstIsIn, Good}

-- going on twice is going on with what goes on
pub bind_assoc : {A B V : Type 0} (r : Result (A × List ℕ) ℕ) (f : A → List ℕ → Result (B × List ℕ) ℕ) (k : B → List ℕ → Result V ℕ) →
    (r >>= f) >>= k ≡ r >>= (λ a rest. f a rest >>= k)
bind_assoc (Ok x) f k = refl
bind_assoc (Err left) f k = refl

-- what a reading that went on to a value had read
pub record Went {A V : Type 0} (r : Result (A × List ℕ) ℕ) (f : A → List ℕ → Result V ℕ) (v : V) : Type 0 where
  pub value : A
  pub rest : List ℕ
  pub was : r ≡ Ok (value, rest)
  pub gave : f value rest ≡ Ok v

pub went : {A V : Type 0} (r : Result (A × List ℕ) ℕ) (f : A → List ℕ → Result V ℕ) (v : V) → r >>= f ≡ Ok v → Went r f v
went (Ok x) f v e = record { value = x.0; rest = x.1; was = refl; gave = e }
went (Err left) f v e = cc

-- a stop of one set of spellings is a stop of another with the same spellings
pub Stops-map : {V : Type 0} {L M : List ℕ → V → Type 0} {bytes : List ℕ} {left : ℕ} →
    ((s : List ℕ) (v : V) → L s v → M s v) → ((s : List ℕ) (v : V) → M s v → L s v) → Stops L bytes left → Stops M bytes left
Stops-map to from s = record {
  front = s.front;
  rest = s.rest;
  parts = s.parts;
  left_is = s.left_is;
  more = s.more;
  value = s.value;
  begins = to _ _ s.begins;
  ends = λ c tail more v e m. s.ends c tail more v e (from _ _ m);
}

-- an exact reader is viable
pub viable : {V : Type 0} {L : List ℕ → V → Type 0} {read : List ℕ → Result V ℕ} → Exact L read → IsViable read
viable e bytes left h = Stops-map e.only e.found (e.stops bytes left h)

-- the same reader, and the same spellings by another definition
pub Exact-map : {V : Type 0} {L M : List ℕ → V → Type 0} {read again : List ℕ → Result V ℕ} →
    ((s : List ℕ) → read s ≡ again s) →
    ((s : List ℕ) (v : V) → L s v → M s v) → ((s : List ℕ) (v : V) → M s v → L s v) → Exact L read → Exact M again
Exact-map same to from e = record {
  found = λ bytes v h. to _ _ (e.found bytes v (same bytes ∙ h));
  only = λ bytes v m. sym (same bytes) ∙ e.only bytes v (from _ _ m);
  stops = λ bytes left h. Stops-map to from (e.stops bytes left (same bytes ∙ h));
}

-- a viable reader takes something
pub takes_some : {V : Type 0} (read : List ℕ → Result V ℕ) → IsViable read → (bytes : List ℕ) × (v : V) × (read bytes ≡ Ok v)
takes_some {V} read v = go (read []) refl
  where
    go : (r : Result V ℕ) → read [] ≡ r → (bytes : List ℕ) × (v : V) × (read bytes ≡ Ok v)
    go (Ok x) e = ([], x, e)
    go (Err left) e = let s = v [] left e in (s.front ++ s.more, s.value, s.begins)

-- the halves of an empty text are empty
pub empty_halves : (a b : List ℕ) → [] ≡ a ++ b → (a ≡ []) × (b ≡ [])
empty_halves [] b e = (refl, sym e)
empty_halves (c ∷ a) b e = cc

-- the parts of a reading
pub ok_parts : {A : Type 0} {a b : A} {rest back : List ℕ} → (let left : Result (A × List ℕ) ℕ = Ok (a, rest) in left ≡ Ok (b, back))
    → (a ≡ b) × (rest ≡ back)
ok_parts {A} {a} {b} {rest} {back} e =
    let pair : (a, rest) ≡ (b, back) = cc in (ap (λ (x : A × List ℕ). x.0) pair, ap (λ (x : A × List ℕ). x.1) pair)

-- a viable reader is exact for what it takes
pub exact_self : {V : Type 0} {read : List ℕ → Result V ℕ} → IsViable read → Exact (Taken read) read
exact_self v = record { found = λ _ _ h. h; only = λ _ _ h. h; stops = v }

-- a reader that takes no more than is spelled and all of it, and is viable, is exact
pub exact_from : {V : Type 0} {L : List ℕ → V → Type 0} {read : List ℕ → Result V ℕ} →
    ((s : List ℕ) (v : V) → read s ≡ Ok v → L s v) → ((s : List ℕ) (v : V) → L s v → read s ≡ Ok v) → IsViable read → Exact L read
exact_from to from v = Exact-map (λ s. refl) to from (exact_self v)

-- another set of spellings behind the first part
pub Joins-map : {A V : Type 0} {first : List ℕ → A → Type 0} {rest other : A → List ℕ → V → Type 0} {bytes : List ℕ} {v : V} →
    ((a : A) (s : List ℕ) (w : V) → rest a s w → other a s w) → Joins first rest bytes v → Joins first other bytes v
Joins-map to j = record { front = j.front; back = j.back; between = j.between; parts = j.parts; begins = j.begins; goes_on = to _ _ _ j.goes_on }

-- a part is good where its reading is sound, takes each spelling that is followed, and is viable
pub good_from : {V A : Type 0} {set : ℕ → Bool} (p : Part A) →
    ((bytes rest : List ℕ) (a : A) → p.at bytes ≡ Ok (a, rest) → (front : List ℕ) × (bytes ≡ front ++ rest) × p.lang front a) →
    ((next : A → List ℕ → Result V ℕ) → ((a : A) → IsViable (next a)) → ((a : A) → FirstIsIn set (next a)) →
    (bytes : List ℕ) (w : V) → Joins p.lang (λ a. Taken (next a)) bytes w → p.at bytes >>= next ≡ Ok w) →
    ((next : A → List ℕ → Result V ℕ) → ((a : A) → IsViable (next a)) → ((a : A) → FirstIsIn set (next a)) →
    IsViable (λ bytes. p.at bytes >>= next)) →
    Good V set p
good_from {V} {A} p sound only stops = record {
  sound = sound;
  exact = λ next v f. exact_from (λ bytes w e. found next bytes w (went (p.at bytes) next w e)) (only next v f) (stops next v f);
}
  where
    found : (next : A → List ℕ → Result V ℕ) (bytes : List ℕ) (w : V) → Went (p.at bytes) next w → Joins p.lang (λ a. Taken (next a)) bytes w
    found next bytes w s = let front = sound bytes s.rest s.value s.was in
        record { front = front.0; back = s.rest; between = s.value; parts = front.1; begins = front.2; goes_on = s.gave }

-- a text is split in one way with so many bytes behind
pub same_split : (a b c d : List ℕ) → a ++ b ≡ c ++ d → length b ≡ length d → (a ≡ c) × (b ≡ d)
same_split [] b [] d e n = (refl, e)
same_split [] b (x ∷ c) d e n = absurd (omega (arith, ap length e, length-append c d))
same_split (y ∷ a) b [] d e n = absurd (omega (arith, ap length e, length-append a b))
same_split (y ∷ a) b (x ∷ c) d e n =
    let first : y ≡ x = cc in
    let rest : a ++ b ≡ c ++ d = cc in
    let s = same_split a b c d rest n in
    (ap₂ (λ x a. x ∷ a) first s.0, s.1)
