-- What a reader of lines answers: a line at the front of the bytes, bytes that begin one, or neither.
use Rattle.std.proofs.Common.{◌≡◌, ℕ, ◌<◌, ◌≤◌, List, [], ◌∷◌, ◌++◌, length, Result, Ok, Err, ◌⊎◌, inl, inr, ⊎_elim, refl, sym, ap, ◌∙◌, subst}
use Rattle.std.proofs.Common.{append-nil, append_assoc, length-append, arith}
use Rattle.grammar.specs.Part.{Part, ◌>>=◌, Joins}
use Rattle.grammar.specs.Exact.{Stops, Exact, Taken, IsViable, Good, any}
use Rattle.grammar.proofs.Reading.{ok_parts}
use Rattle.mupdate_codec.specs.Answers.{IsBegun, HasLine}

-- of two ways to cut a text one cut is no further than the other
cuts : (a b c d : List ℕ) → a ++ b ≡ c ++ d → ((x : List ℕ) × (c ≡ a ++ x)) ⊎ ((x : List ℕ) × (a ≡ c ++ x))
cuts [] b c d e = inl (c, refl)
cuts (y ∷ a) b [] d e = inr (y ∷ a, refl)
cuts (y ∷ a) b (z ∷ c) d e =
    let first : y ≡ z = cc in
    let rest : a ++ b ≡ c ++ d = cc in
    ⊎_elim (λ x. inl (x.0, ap (λ s. z ∷ s) x.1 ∙ ap (λ h. h ∷ (a ++ x.0)) (sym first)))
    (λ x. inr (x.0, ap (λ s. y ∷ s) x.1 ∙ ap (λ h. h ∷ (c ++ x.0)) first)) (cuts a b c d rest)

module _ {A : Type 0} (p : Part A) (good : (V : Type 0) → Good V any p) where
  -- reading goes on with all that is behind
  keep : A → List ℕ → Result (A × List ℕ) ℕ
  keep a rest = Ok (a, rest)

  viable_keep : (a : A) → IsViable (keep a)
  unfolding keep
  viable_keep a bytes left e = cc

  abbrev Front : List ℕ → A × List ℕ → Type 0
  Front = Joins p.lang (λ a. Taken (keep a))

  exact_front : Exact Front (λ bytes. p.at bytes >>= keep)
  exact_front = (good (A × List ℕ)).exact keep viable_keep (λ a c tail v e. refl)

  kept : (r : Result (A × List ℕ) ℕ) → r >>= keep ≡ r
  unfolding keep
  kept (Ok x) = refl
  kept (Err left) = refl

  front_of : (line rest : List ℕ) (a : A) → p.lang line a → Front (line ++ rest) (a, rest)
  unfolding keep
  front_of line rest a l = record { front = line; back = rest; between = a; parts = refl; begins = l; goes_on = refl }

  -- a line is read, whatever follows
  pub line_read : (line rest : List ℕ) (a : A) → p.lang line a → p.at (line ++ rest) ≡ Ok (a, rest)
  line_read line rest a l = sym (kept (p.at (line ++ rest))) ∙ exact_front.only (line ++ rest) (a, rest) (front_of line rest a l)

  pub whole_read : (line : List ℕ) (a : A) → p.lang line a → p.at line ≡ Ok (a, [])
  whole_read line a l = ap p.at (sym (append-nil line)) ∙ line_read line [] a l

  -- what is read is a line
  pub line_found : (bytes rest : List ℕ) (a : A) → p.at bytes ≡ Ok (a, rest) → (line : List ℕ) × (bytes ≡ line ++ rest) × p.lang line a
  line_found bytes rest a e = let s = (good ℕ).sound bytes rest a e in (s.0, s.1, s.2)

  stop_of : (bytes : List ℕ) (left : ℕ) → p.at bytes ≡ Err left → Stops Front bytes left
  stop_of bytes left e = exact_front.stops bytes left (kept (p.at bytes) ∙ e)

  pub stop_within : (bytes : List ℕ) (left : ℕ) → p.at bytes ≡ Err left → left ≤ length bytes
  stop_within bytes left e = let s = stop_of bytes left e in omega (arith, length-append s.front s.rest, ap length s.parts, s.left_is)

  no_stop : {bytes : List ℕ} (left : ℕ) (x : A × List ℕ) → p.at bytes ≡ Err left → p.at bytes ≡ Ok x → ⊥
  no_stop left x e f = apart left x (sym e ∙ f)
    where
      apart : (left : ℕ) (x : A × List ℕ) → (let r : Result (A × List ℕ) ℕ = Err left in r ≡ Ok x) → ⊥
      apart left x e = cc

  -- bytes at whose end the reading stops begin a line
  pub more_found : (bytes : List ℕ) → p.at bytes ≡ Err 0 → IsBegun p.lang bytes
  more_found bytes e = by_stop (stop_of bytes 0 e)
    where
      longer : (line : List ℕ) (a : A) (x : List ℕ) → p.lang line a → line ≡ bytes ++ x → IsBegun p.lang bytes
      longer line a [] l is =
          absurd (no_stop 0 (a, []) e (ap p.at (sym (is ∙ append-nil bytes)) ∙ whole_read line a l))
      longer line a (c ∷ x) l is = record { more = c ∷ x; value = a; some = omega arith; whole = subst (λ s. p.lang s a) is l }

      shorter : (line : List ℕ) (a : A) (x : List ℕ) → p.lang line a → bytes ≡ line ++ x → IsBegun p.lang bytes
      shorter line a x l is = absurd (no_stop 0 (a, x) e (ap p.at is ∙ line_read line x a l))

      none_left : (rest : List ℕ) → length rest ≡ 0 → rest ≡ []
      none_left [] h = refl
      none_left (c ∷ rest) h = absurd (omega arith)

      by_stop : Stops Front bytes 0 → IsBegun p.lang bytes
      by_stop s =
          let all : bytes ≡ s.front = s.parts ∙ ap (λ r. s.front ++ r) (none_left s.rest s.left_is) ∙ append-nil s.front in
          let j = s.begins in
          ⊎_elim (λ x. longer j.front j.between x.0 j.begins x.1) (λ x. shorter j.front j.between x.0 j.begins x.1)
          (cuts bytes s.more j.front j.back (ap (λ t. t ++ s.more) all ∙ j.parts))

  -- and only such
  pub more_only : (bytes : List ℕ) → IsBegun p.lang bytes → p.at bytes ≡ Err 0
  more_only bytes b = by_read (p.at bytes) refl
    where
      nothing_behind : (rest : List ℕ) → rest ++ b.more ≡ [] → ⊥
      nothing_behind rest e = absurd (omega (arith, ap length e, length-append rest b.more, b.some))

      by_rest : (left : ℕ) (s : Stops Front bytes left) (rest : List ℕ) → s.rest ≡ rest → left ≡ 0
      by_rest left s [] is = omega (arith, s.left_is, ap length is)
      by_rest left s (c ∷ tail) is =
          let line = front_of (bytes ++ b.more) [] b.value b.whole in
          let parts : (bytes ++ b.more) ++ [] ≡ s.front ++ (c ∷ (tail ++ b.more)) =
          append-nil (bytes ++ b.more) ∙ ap (λ t. t ++ b.more) (s.parts ∙ ap (λ r. s.front ++ r) is) ∙ append_assoc s.front (c ∷ tail) b.more in
          absurd (s.ends c tail (tail ++ b.more) (b.value, []) is (subst (λ t. Front t (b.value, [])) parts line))

      by_read : (r : Result (A × List ℕ) ℕ) → p.at bytes ≡ r → r ≡ Err 0
      by_read (Ok x) is =
          let found = line_found bytes x.1 x.0 is in
          let parts : bytes ++ b.more ≡ found.0 ++ (x.1 ++ b.more) = ap (λ t. t ++ b.more) found.1 ∙ append_assoc found.0 x.1 b.more in
          let one = ap p.at parts ∙ line_read found.0 (x.1 ++ b.more) x.0 found.2 in
          let other = whole_read (bytes ++ b.more) b.value b.whole in
          absurd (nothing_behind x.1 (ok_parts (sym one ∙ other)).1)
      by_read (Err left) is = ap Err (let s = stop_of bytes left is in by_rest left s s.rest refl)

  -- no line is a proper prefix of another
  pub none_begun : (line : List ℕ) (a : A) → p.lang line a → ¬ IsBegun p.lang line
  none_begun line a l b = no_stop 0 (a, []) (more_only line b) (whole_read line a l)

  -- a line has one value
  pub one_value : (line : List ℕ) (a b : A) → p.lang line a → p.lang line b → a ≡ b
  one_value line a b l m = (ok_parts (sym (whole_read line a l) ∙ whole_read line b m)).0

  -- a stop before the end: the bytes neither begin with a line nor begin one
  pub no_line : (bytes : List ℕ) (left : ℕ) → p.at bytes ≡ Err left → ¬ HasLine p.lang bytes
  no_line bytes left e h = no_stop left (h.value, h.rest) e (ap p.at h.parts ∙ line_read h.line h.rest h.value h.whole)

  pub not_begun : (bytes : List ℕ) (left : ℕ) → p.at bytes ≡ Err left → 0 < left → ¬ IsBegun p.lang bytes
  not_begun bytes left e some b = same left some (sym e ∙ more_only bytes b)
    where
      same : (left : ℕ) → 0 < left → (let r : Result (A × List ℕ) ℕ = Err left in r ≡ Err 0) → ⊥
      same left some e = let none : left ≡ 0 = cc in absurd (omega arith)
