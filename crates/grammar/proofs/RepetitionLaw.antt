-- A number of bytes, and turns of a part that changes a state.
use Rattle.std.proofs.Common.{◌≡◌, ℕ, zero, suc, ◌+◌, ◌<◌, ◌≤◌, List, [], ◌∷◌, ◌++◌, length, Result, Ok, Err, Bool, true, false}
use Rattle.std.proofs.Common.{cond, inl, inr, ⊎_elim, refl, sym, ap, ◌∙◌, length-append, arith}
use Rattle.grammar.specs.Part.{Part, ◌>>=◌, Joins, give, map, one_of, ◌then◌, exactly, turns, repeat}
use Rattle.grammar.specs.Exact.{Begins, StartsWith, Taken, IsViable, FirstIsIn, Good, any}
use Rattle.grammar.proofs.Reading.{viable, good_from, same_split}
use Rattle.grammar.proofs.SequenceLaw.{good_give, good_map, good_then}
use Rattle.grammar.proofs.ChoiceLaw.{good_choose, good_one_of}

-- whatever begins a part, any byte does
pub begins_any : {A : Type 0} (after : ℕ → Bool) (p : Part A) → Begins any after p
begins_any after p = record { full = λ _ _ _ _. refl; empty = λ _ _ _ _. refl }

-- so many bytes
pub good_exactly : {V : Type 0} (test : ℕ → Bool) (after : ℕ → Bool) (example : ℕ) → test example ≡ true → (n : ℕ)
    → Good V after (exactly test n)
unfolding exactly
good_exactly test after example passes zero = good_give after []
good_exactly test after example passes (suc n) =
    good_then (one_of test) (λ c. map (λ rest. c ∷ rest) (exactly test n)) (good_one_of test any example passes)
    (λ c. good_map (λ rest. c ∷ rest) (exactly test n) (good_exactly test after example passes n)) (λ c. begins_any after _)

-- no text with a first byte is empty
pub no_byte : {c : ℕ} {tail : List ℕ} → (let s : List ℕ = c ∷ tail in s ≡ []) → ⊥
no_byte e = cc

module _ {S : Type 0} (test : ℕ → Bool) (turn : S → Part S) (one : (s : S) → StartsWith test (turn s)) where
  -- a turn and more of them begin as a turn does
  turn_full : {B : Type 0} (s : S) (f : S → Part B) (c : ℕ) (tail front back : List ℕ) (a : S) →
      (let s : List ℕ = c ∷ tail in s ≡ front ++ back) → (turn s).lang front a → test c ≡ true
  turn_full s f c tail [] back a e l = absurd ((one s).empty a l)
  turn_full s f c tail (d ∷ front) back a e l = let same : c ≡ d = cc in ap test same ∙ (one s).full d front a l

  turn_some : (s : S) (front back : List ℕ) (a : S) → (turn s).lang front a → length back < length (front ++ back)
  turn_some s [] back a l = absurd ((one s).empty a l)
  turn_some s (c ∷ front) back a l = omega (arith, length-append front back)

  turns_start : {B : Type 0} (s : S) (f : S → Part B) → StartsWith test (turn s then f)
  turns_start s f = record {
    full = λ c tail a j. turn_full s f c tail j.front j.back j.between j.parts j.begins;
    empty = λ a j. absurd (omega (arith, turn_some s j.front j.back j.between j.begins, ap length j.parts));
  }

  -- a text of n bytes takes n turns at most
  few_turns : (n : ℕ) (s : S) (bytes : List ℕ) (last : S) → (turns test turn n s).lang bytes last → (m : ℕ) → length bytes ≤ m
      → (turns test turn m s).lang bytes last
  unfolding turns
  few_turns zero s bytes last l zero h = l
  few_turns zero s bytes last l (suc m) h = inr l
  few_turns (suc n) s bytes last (inl j) zero h = absurd (omega (arith, turn_some s j.front j.back j.between j.begins, ap length j.parts))
  few_turns (suc n) s bytes last (inl j) (suc m) h =
      inl (record {
        front = j.front;
        back = j.back;
        between = j.between;
        parts = j.parts;
        begins = j.begins;
        goes_on = few_turns n j.between j.back last j.goes_on m (omega (arith, turn_some s j.front j.back j.between j.begins, ap length j.parts));
      })
  few_turns (suc n) s bytes last (inr l) zero h = l
  few_turns (suc n) s bytes last (inr l) (suc m) h = inr l

module _ {V S : Type 0} (test after between : ℕ → Bool) (turn : S → Part S) (g : (s : S) → Good V between (turn s))
    (one : (s : S) → StartsWith test (turn s)) (apart : (c : ℕ) → after c ≡ true → test c ≡ false) (turn_next : (c : ℕ) → test c ≡ true → between c ≡ true)
    (after_next : (c : ℕ) → after c ≡ true → between c ≡ true) where
  begins_turns : (n : ℕ) (s : S) → Begins between after (turns test turn n s)
  unfolding turns
  begins_turns zero s = record { full = λ c tail a l. absurd (no_byte l.0); empty = λ a l c h. after_next c h }
  begins_turns (suc n) s = record {
    full = λ c tail a l. ⊎_elim (λ j. turn_next c ((turns_start test turn one s (turns test turn n)).full c tail a j)) (λ e. absurd (no_byte e.0)) l;
    empty = λ a l c h. after_next c h;
  }

  -- any number of turns begin so
  pub begins_repeat : (s : S) → Begins between after (repeat test turn s)
  unfolding repeat
  begins_repeat s = record { full = λ c tail a l. (begins_turns l.0 s).full c tail a l.1; empty = λ a l c h. after_next c h }

  -- at most so many turns
  pub good_turns : (n : ℕ) (s : S) → Good V after (turns test turn n s)
  unfolding turns
  good_turns zero s = good_give after s
  good_turns (suc n) s =
      good_choose test (turn s then λ t. turns test turn n t) (give s)
      (good_then (turn s) (turns test turn n) (g s) (good_turns n) (begins_turns n)) (good_give after s)
      (turns_start test turn one s (turns test turn n))
      (record { full = λ c tail a l. absurd (no_byte l.0); empty = λ a l. apart })

  -- turns beyond the number of bytes change nothing
  pub enough_turns : (n m : ℕ) (s : S) (bytes : List ℕ) → length bytes ≤ n → length bytes ≤ m
      → (turns test turn n s).at bytes ≡ (turns test turn m s).at bytes
  unfolding turns
  enough_turns zero zero s bytes h k = refl
  enough_turns zero (suc m) s [] h k = refl
  enough_turns zero (suc m) s (c ∷ bytes) h k = absurd (omega arith)
  enough_turns (suc n) zero s [] h k = refl
  enough_turns (suc n) zero s (c ∷ bytes) h k = absurd (omega arith)
  enough_turns (suc n) (suc m) s [] h k = refl
  enough_turns (suc n) (suc m) s (c ∷ bytes) h k =
      ap (λ r. cond (test c) r (Ok (s, c ∷ bytes))) (by_turn ((turn s).at (c ∷ bytes)) refl (λ a rest p q. enough_turns n m a rest p q))
    where
      by_turn : (r : Result (S × List ℕ) ℕ) → (turn s).at (c ∷ bytes) ≡ r →
          ((a : S) (rest : List ℕ) → length rest ≤ n → length rest ≤ m → (turns test turn n a).at rest ≡ (turns test turn m a).at rest) →
          r >>= (λ t. (turns test turn n t).at) ≡ r >>= (λ t. (turns test turn m t).at)
      by_turn (Err left) e again = refl
      by_turn (Ok x) e again =
          let front = (g s).sound (c ∷ bytes) x.1 x.0 e in
          let less = turn_some test turn one s front.0 x.1 x.0 front.2 in
          let whole = ap length front.1 in
          again x.0 x.1 (omega arith) (omega arith)

  module _ (next : S → List ℕ → Result V ℕ) (v : (a : S) → IsViable (next a)) (f : (a : S) → FirstIsIn after (next a)) (s : S) where
    repeat_only : (bytes : List ℕ) (w : V) → Joins (repeat test turn s).lang (λ a. Taken (next a)) bytes w
        → (repeat test turn s).at bytes >>= next ≡ Ok w
    unfolding repeat
    repeat_only bytes w j =
        ((good_turns (length bytes) s).exact next v f).only bytes w (record {
          front = j.front;
          back = j.back;
          between = j.between;
          parts = j.parts;
          goes_on = j.goes_on;
          begins = few_turns test turn one j.begins.0 s j.front j.between j.begins.1 (length bytes)
              (omega (arith, length-append j.front j.back, ap length j.parts));
        })

    repeat_stops : IsViable (λ bytes. (repeat test turn s).at bytes >>= next)
    unfolding repeat
    repeat_stops bytes left e =
        let n = length bytes in
        let exact = (good_turns n s).exact next v f in
        let stop = viable exact bytes left e in
        record {
          front = stop.front;
          rest = stop.rest;
          parts = stop.parts;
          left_is = stop.left_is;
          more = stop.more;
          value = stop.value;
          begins = let j = exact.found _ _ stop.begins in
              repeat_only _ _ (record { front = j.front; back = j.back; between = j.between; parts = j.parts; begins = (n, j.begins); goes_on = j.goes_on });
          ends = λ c tail more u same taken.
              let longer = stop.front ++ (c ∷ more) in
              let m = length longer + n in
              let again = viable ((good_turns m s).exact next v f) bytes left
              (ap (λ r. r >>= next) (enough_turns m n s bytes (omega arith) (omega arith)) ∙ e) in
              let split = same_split again.front again.rest stop.front stop.rest (sym again.parts ∙ stop.parts) (again.left_is ∙ sym stop.left_is) in
              again.ends c tail more u (split.1 ∙ same)
              (ap (λ t. (turns test turn m s).at (t ++ (c ∷ more)) >>= next) split.0
              ∙ ap (λ r. r >>= next) (enough_turns m (length longer) s longer (omega arith) (omega arith)) ∙ taken);
        }

  -- any number of turns
  pub good_repeat : (s : S) → Good V after (repeat test turn s)
  unfolding repeat
  good_repeat s = good_from (repeat test turn s) sound (λ next v f. repeat_only next v f s) (λ next v f. repeat_stops next v f s)
    where
      sound : (bytes rest : List ℕ) (a : S) → (repeat test turn s).at bytes ≡ Ok (a, rest)
          → (front : List ℕ) × (bytes ≡ front ++ rest) × (repeat test turn s).lang front a
      sound bytes rest a e = let f = (good_turns (length bytes) s).sound bytes rest a e in (f.0, f.1, (length bytes, f.2))
