-- Keywords in rising order are an exact part: where there is room for those to come, each text that goes on to one has a next byte.
use Rattle.std.proofs.Common.{◌≡◌, ℕ, zero, suc, ◌+◌, ◌-◌, ◌<◌, ◌≤◌, ◌⊎◌, inl, inr, ⊎_elim, List, [], ◌∷◌, ◌++◌, length, replicate, Bool, true, false, ◌&&◌, ◌||◌, cond, not, ◌==◌, nat_lt, nat_le, nat_eq}
use Rattle.std.proofs.Common.{None, Some, Ordering, Less, Equal, Greater, refl, sym, ap, ◌∙◌, subst, append-nil, append_assoc, arith, eqb-true, eq-eqb, leb-true, le-leb, length-append}
use Rattle.std.proofs.lemmas.Bool.{false≢true}
use Rattle.std.proofs.lemmas.Bool.Decides.{nat_tests}
use Rattle.std.proofs.lemmas.List.{length-replicate}
use Rattle.std.specs.List.{list_all, AllByRecursion}
use Rattle.mail_message.specs.Keywords.{is_atom_byte, has_atom_bytes, keyword_fault}
use Rattle.grammar.specs.Part.{Part, give, ◌then◌, map, byte, one_of}
use Rattle.grammar.specs.Exact.{Good, any}
use Rattle.grammar.specs.Words.{word, Lawful, Apart}
use Rattle.grammar.proofs.Conditions.{and_both, and_left, and_right, and_false, or_left, or_right}
use Rattle.grammar.proofs.SequenceLaw.{good_give}
use Rattle.grammar.proofs.WordLaw.{good_word}
use Rattle.node_record.specs.Parts.{small}
use Rattle.node_record.specs.Flags.{last_byte, leaves_room, is_before, is_next, tildes_to, goes_on, next_keywords, is_size, size_for, keyword, kept, rising}
use Rattle.node_record.proofs.StoredLaw.{good_joined}
use Rattle.node_record.proofs.PartsLaw.{good_small}
use Rattle.node_record.proofs.KeywordOrder.{rises, is_before-rises, are_low, atom_low, room_at_top, room_if_short, First, below, same, first_of, rises_below, rises_same, above_full, full_leaves, below_full}
use Rattle.node_record.proofs.KeywordOrder.{room_with, room_behind, last_is_atom, last_below, last_top}

-- what a next keyword keeps
pub record Next (before : List ℕ) (above size : ℕ) (text : List ℕ) : Type 0 where
  pub long : length text ≡ size
  pub atoms : list_all is_atom_byte text ≡ true
  pub higher : rises before text ≡ true
  pub room : leaves_room 63 (last_byte above) text ≡ true

pub next_is : (before : List ℕ) (above size : ℕ) (text : List ℕ) → is_next before above size text ≡ true → Next before above size text
unfolding is_next has_atom_bytes
next_is before above size text h =
    let rest = and_right (length text == size) _ h in
    let more = and_right (list_all is_atom_byte text) _ rest in
    record {
      long = eqb-true (length text) size (and_left (length text == size) _ h);
      atoms = and_left (list_all is_atom_byte text) _ rest;
      higher = sym (is_before-rises before text) ∙ and_left (is_before before text) _ more;
      room = and_right (is_before before text) _ more;
    }

pub is_next_from : (before : List ℕ) (above size : ℕ) (text : List ℕ) → Next before above size text → is_next before above size text ≡ true
unfolding is_next has_atom_bytes
is_next_from before above size text n =
    and_both (length text == size) _ (eq-eqb (length text) size n.long)
    (and_both (list_all is_atom_byte text) _ n.atoms (and_both (is_before before text) _ (is_before-rises before text ∙ n.higher) n.room))

-- texts behind others

pub all_join : (s t : List ℕ) → list_all is_atom_byte s ≡ true → list_all is_atom_byte t ≡ true → list_all is_atom_byte (s ++ t) ≡ true
all_join [] t h k = k
all_join (c ∷ s) t h k = and_both (is_atom_byte c) _ (and_left (is_atom_byte c) _ h) (all_join s t (and_right (is_atom_byte c) _ h) k)

all_front : (s t : List ℕ) → list_all is_atom_byte (s ++ t) ≡ true → list_all is_atom_byte s ≡ true
all_front [] t h = refl
all_front (c ∷ s) t h = and_both (is_atom_byte c) _ (and_left (is_atom_byte c) _ h) (all_front s t (and_right (is_atom_byte c) _ h))

all_back : (s t : List ℕ) → list_all is_atom_byte (s ++ t) ≡ true → list_all is_atom_byte t ≡ true
all_back [] t h = h
all_back (c ∷ s) t h = all_back s t (and_right (is_atom_byte c) _ h)

tildes_atoms : (n : ℕ) → list_all is_atom_byte (replicate n 126) ≡ true
unfolding is_atom_byte
tildes_atoms zero = refl
tildes_atoms (suc n) = tildes_atoms n

to_atoms : (last n : ℕ) → is_atom_byte last ≡ true → list_all is_atom_byte (tildes_to last n) ≡ true
unfolding tildes_to
to_atoms last zero h = refl
to_atoms last (suc n) h = all_join (replicate n 126) (last ∷ []) (tildes_atoms n) (and_both (is_atom_byte last) true h refl)

to_length : (last n : ℕ) → length (tildes_to last n) ≡ n
unfolding tildes_to
to_length last zero = refl
to_length last (suc n) = omega (arith, length-append {A = ℕ} (replicate n 126) (last ∷ []), length-replicate {A = ℕ} n 126)

-- a text that rises behind a front does with the greatest bytes there
above_tildes : (p s u : List ℕ) (n : ℕ) → length u ≡ suc n → are_low u ≡ true → rises p (s ++ u) ≡ true → rises p (s ++ (replicate n 126 ++ 126 ∷ [])) ≡ true
above_tildes p [] u n long low h = above_full n 126 p u long low (room_at_top n u low) h
above_tildes [] (c ∷ s) u n long low h = refl
above_tildes (y ∷ p) (c ∷ s) u n long low h = by_first (first_of y c p (s ++ u) h) (λ more. above_tildes p s u n long low more)
  where
    tildes : List ℕ
    tildes = replicate n 126 ++ 126 ∷ []

    by_first : First y c p (s ++ u) → (rises p (s ++ u) ≡ true → rises p (s ++ tildes) ≡ true) → rises (y ∷ p) (c ∷ (s ++ tildes)) ≡ true
    by_first (below less) again = rises_below y c p (s ++ tildes) less
    by_first (same is more) again = rises_same y c p (s ++ tildes) is (again more)

-- the two texts that a front may go on to
data Filled (k last : ℕ) (p s : List ℕ) (n : ℕ) : Type 0 where
  with_tildes : rises p (s ++ (replicate n 126 ++ 126 ∷ [])) ≡ true → leaves_room k last (s ++ (replicate n 126 ++ 126 ∷ [])) ≡ true → Filled k last p s n
  with_last : rises p (s ++ (replicate n 126 ++ last ∷ [])) ≡ true → leaves_room k last (s ++ (replicate n 126 ++ last ∷ [])) ≡ true → Filled k last p s n

filled : (k last : ℕ) (p s u : List ℕ) (n : ℕ) → length u ≡ suc n → length s + suc n ≡ suc k → are_low u ≡ true → rises p (s ++ u) ≡ true
    → leaves_room k last (s ++ u) ≡ true → Filled k last p s n
filled k last p [] u n long whole low h room =
    let same : n ≡ k = omega (arith, whole) in
    subst (λ (m : ℕ). Filled k last p [] m) (sym same)
    (with_last (above_full k last p u (long ∙ ap suc same) low room h) (full_leaves k last))
filled zero last p (c ∷ s) u n long whole low h room = absurd (omega (arith, whole))
filled (suc k) last p (c ∷ s) u n long whole low h room =
    by_byte (nat_eq c 126) refl (λ q top more. filled k last q s u n long (omega (arith, whole)) low more (room_behind k last c (s ++ u) top room))
  where
    tildes : List ℕ
    tildes = replicate n 126 ++ 126 ∷ []

    lasts : List ℕ
    lasts = replicate n 126 ++ last ∷ []

    put : (p q : List ℕ) → ((t : List ℕ) → rises q (s ++ t) ≡ true → rises p (c ∷ (s ++ t)) ≡ true) → Filled k last q s n → Filled (suc k) last p (c ∷ s) n
    put p q up (with_tildes more left) = with_tildes (up tildes more) (room_with k last c (s ++ tildes) (λ _. left))
    put p q up (with_last more left) = with_last (up lasts more) (room_with k last c (s ++ lasts) (λ _. left))

    some_rise : (s u : List ℕ) → length u ≡ suc n → rises [] (s ++ u) ≡ true
    some_rise [] [] long = absurd (omega (arith, long))
    some_rise [] (d ∷ u) long = refl
    some_rise (e ∷ s) u long = refl

    by_step : (y : ℕ) (p : List ℕ) → First y c p (s ++ u) → ((q : List ℕ) → rises q (s ++ u) ≡ true → Filled k last q s n) → Filled (suc k) last (y ∷ p) (c ∷ s) n
    by_step y p (below less) again = put (y ∷ p) [] (λ t _. rises_below y c p (s ++ t) less) (again [] (some_rise s u long))
    by_step y p (same is more) again = put (y ∷ p) p (λ t rise. rises_same y c p (s ++ t) is rise) (again p more)

    by_first : (p : List ℕ) → rises p (c ∷ (s ++ u)) ≡ true → ((q : List ℕ) → rises q (s ++ u) ≡ true → Filled k last q s n) → Filled (suc k) last p (c ∷ s) n
    by_first [] h again = put [] [] (λ t _. refl) (again [] (some_rise s u long))
    by_first (y ∷ p) h again = by_step y p (first_of y c p (s ++ u) h) again

    by_byte : (b : Bool) → nat_eq c 126 ≡ b → ((q : List ℕ) → c ≡ 126 → rises q (s ++ u) ≡ true → Filled k last q s n) → Filled (suc k) last p (c ∷ s) n
    by_byte true e again = by_first p h (λ q more. again q (eqb-true c 126 e) more)
    by_byte false e again =
        with_tildes (above_tildes p (c ∷ s) u n long low h) (room_with k last c (s ++ tildes) (λ is. absurd (false≢true (sym e ∙ eq-eqb c 126 is))))

nothing_behind : (s : List ℕ) (last : ℕ) → s ++ tildes_to last 0 ≡ s
unfolding tildes_to
nothing_behind s last = append-nil s

tilde_atom : is_atom_byte 126 ≡ true
unfolding is_atom_byte
tilde_atom = refl

-- a front with the rest of a next keyword is one with other bytes that rise and leave room
module _ (before : List ℕ) (above size : ℕ) (s : List ℕ) (c : ℕ) (u : List ℕ) (next : Next before above size (s ++ c ∷ u)) where
  abbrev tail : ℕ → List ℕ
  tail last = replicate (length u) 126 ++ last ∷ []

  left_is : size - length s ≡ suc (length u)
  left_is = omega (arith, next.long, length-append s (c ∷ u))

  made : (last : ℕ) → is_atom_byte last ≡ true → rises before (s ++ tail last) ≡ true → leaves_room 63 (last_byte above) (s ++ tail last) ≡ true
      → is_next before above size (s ++ tildes_to last (size - length s)) ≡ true
  unfolding tildes_to
  made last atom rise room =
      ap (λ (m : ℕ). is_next before above size (s ++ tildes_to last m)) left_is
      ∙ is_next_from before above size (s ++ tildes_to last (suc (length u))) (record {
        long = omega (arith, length-append s (tildes_to last (suc (length u))), to_length last (suc (length u)), next.long, length-append s (c ∷ u));
        atoms = all_join s (tildes_to last (suc (length u))) (all_front s (c ∷ u) next.atoms) (to_atoms last (suc (length u)) atom);
        higher = rise;
        room = room;
      })

  by_filled : above ≤ 15 → Filled 63 (last_byte above) before s (length u) → goes_on before above size s ≡ true
  unfolding goes_on
  by_filled few (with_tildes rise room) = or_left (is_next before above size (s ++ tildes_to 126 (size - length s))) _ (made 126 tilde_atom rise room)
  by_filled few (with_last rise room) =
      or_right (is_next before above size (s ++ tildes_to 126 (size - length s))) _ (made (last_byte above) (last_is_atom above (omega (arith, few))) rise room)

  some_behind : above ≤ 15 → size ≤ 64 → goes_on before above size s ≡ true
  some_behind few short = by_size (nat_lt size 64) refl
    where
      low : are_low (c ∷ u) ≡ true
      low = atom_low (c ∷ u) (all_back s (c ∷ u) next.atoms)

      total : length s + suc (length u) ≡ size
      total = omega (arith, next.long, length-append s (c ∷ u))

      by_size : (b : Bool) → nat_lt size 64 ≡ b → goes_on before above size s ≡ true
      by_size true e =
          let less : size < 64 = grind (arith, nat_tests, e) in
          let rise = above_tildes before s (c ∷ u) (length u) refl low next.higher in
          let fits : length (s ++ tail 126) ≤ 63 =
          omega (arith, length-append {A = ℕ} s (tail 126), length-append {A = ℕ} (replicate (length u) 126) (126 ∷ []), length-replicate {A = ℕ} (length u) 126, total, less) in
          by_filled few (with_tildes rise (room_if_short 63 (last_byte above) (s ++ tail 126) fits))
      by_size false e =
          let more : 64 ≤ size = grind (arith, nat_tests, e) in
          by_filled few (filled 63 (last_byte above) before s (c ∷ u) (length u) refl (omega (arith, total, more, short)) low next.higher next.room)

-- the front of a next keyword goes on to one
pub front_goes_on : (before : List ℕ) (above size : ℕ) → above ≤ 15 → size ≤ 64 → (s u : List ℕ) → is_next before above size (s ++ u) ≡ true
    → goes_on before above size s ≡ true
unfolding goes_on
front_goes_on before above size few short s [] h =
    let whole : is_next before above size s ≡ true = ap (is_next before above size) (sym (append-nil s)) ∙ h in
    let none : size - length s ≡ 0 = omega (arith, (next_is before above size s whole).long) in
    or_left (is_next before above size (s ++ tildes_to 126 (size - length s))) _
    (ap (λ (n : ℕ). is_next before above size (s ++ tildes_to 126 n)) none ∙ ap (is_next before above size) (nothing_behind s 126) ∙ whole)
front_goes_on before above size few short s (c ∷ u) h = some_behind before above size s c u (next_is before above size (s ++ c ∷ u) h) few short

-- the words of a size for which there is one
module _ (before : List ℕ) (above size : ℕ) (few : above ≤ 15) (short : size ≤ 64) (some : goes_on before above size [] ≡ true) where
  goes : (s : List ℕ) → goes_on before above size s ≡ true → (t : List ℕ) × (is_next before above size (s ++ t) ≡ true)
  unfolding goes_on
  goes s h = by_first (is_next before above size (s ++ tildes_to 126 (size - length s))) refl h
    where
      by_first : (b : Bool) → is_next before above size (s ++ tildes_to 126 (size - length s)) ≡ b
          → b || is_next before above size (s ++ tildes_to (last_byte above) (size - length s)) ≡ true → (t : List ℕ) × (is_next before above size (s ++ t) ≡ true)
      by_first true e h = (tildes_to 126 (size - length s), e)
      by_first false e h = (tildes_to (last_byte above) (size - length s), h)

  pub lawful_next : Lawful (next_keywords before above size)
  lawful_next = record {
    empty_begins = some;
    front = λ s t h.
        let on = goes (s ++ t) h in
        front_goes_on before above size few short s (t ++ on.0) (ap (is_next before above size) (sym (append_assoc s t on.0)) ∙ on.1);
    whole = λ s h. front_goes_on before above size few short s [] (ap (is_next before above size) (append-nil s) ∙ h);
    goes_on = goes;
  }

  too_long : (s : List ℕ) → size < length s → goes_on before above size s ≡ true → ⊥
  too_long s more h =
      let on = goes s h in
      omega (arith, (next_is before above size (s ++ on.0) on.1).long, length-append s on.0, more)

  pub apart_next : Apart (next_keywords before above size) any
  apart_next s h c _ = by_case (goes_on before above size (s ++ c ∷ [])) refl
    where
      by_case : (b : Bool) → goes_on before above size (s ++ c ∷ []) ≡ b → b ≡ false
      by_case true e = absurd (too_long (s ++ c ∷ []) (omega (arith, length-append s (c ∷ []), (next_is before above size s h).long)) e)
      by_case false e = refl

-- a text above which there is room for so many, or none
pub record Fits (above : ℕ) (before : List ℕ) : Type 0 where
  pub atoms : list_all is_atom_byte before ≡ true
  pub short : length before ≤ 64
  pub room : leaves_room 63 (last_byte above) before ≡ true

pub fits_none : (above : ℕ) → Fits above []
unfolding leaves_room
fits_none above = record { atoms = refl; short = omega arith; room = refl }

pub fits_kept : (above : ℕ) (text : List ℕ) → Fits above (kept above text)
unfolding kept has_atom_bytes
fits_kept above text = by_tests (list_all is_atom_byte text) (nat_le (length text) 64) (leaves_room 63 (last_byte above) text) refl refl refl
  where
    by_tests : (a s r : Bool) → list_all is_atom_byte text ≡ a → nat_le (length text) 64 ≡ s → leaves_room 63 (last_byte above) text ≡ r
        → Fits above (cond (a && (s && r)) text [])
    by_tests false s r ea es er = fits_none above
    by_tests true false r ea es er = fits_none above
    by_tests true true false ea es er = fits_none above
    by_tests true true true ea es er = record { atoms = ea; short = leb-true (length text) 64 es; room = er }

pub kept_is : (above : ℕ) (text : List ℕ) → Fits above text → kept above text ≡ text
unfolding kept has_atom_bytes
kept_is above text f = rw (f.atoms, le-leb (length text) 64 f.short, f.room) refl

-- above such a text there is a keyword of 64 bytes
pub full_size : (before : List ℕ) (above : ℕ) → above ≤ 15 → Fits (suc above) before → is_size before above 64 ≡ true
unfolding is_size tildes_to
full_size before above few f =
    let last = last_byte above in
    let rise : rises before (replicate 63 126 ++ last ∷ []) ≡ true =
    below_full 63 (last_byte (suc above)) last before (last_below above few) (last_top above) f.short (atom_low before f.atoms) f.room in
    let next : Next before above 64 (replicate 63 126 ++ last ∷ []) = record {
      long = to_length last 64;
      atoms = to_atoms last 64 (last_is_atom above (omega arith));
      higher = rise;
      room = full_leaves 63 last;
    } in
    front_goes_on before above 64 few (omega arith) [] (replicate 63 126 ++ last ∷ []) (is_next_from before above 64 (replicate 63 126 ++ last ∷ []) next)

size_parts : (before : List ℕ) (above n : ℕ) → is_size before above n ≡ true → (n ≤ 64) × (goes_on before above n [] ≡ true)
unfolding is_size
size_parts before above n h =
    let bounds = and_left (nat_le 1 n && nat_le n 64) _ h in
    (leb-true n 64 (and_right (nat_le 1 n) _ bounds), and_right (nat_le 1 n && nat_le n 64) _ h)

size_fits : (before : List ℕ) (above : ℕ) → is_size before above 64 ≡ true → (size : ℕ)
    → (size_for before above size ≤ 64) × (goes_on before above (size_for before above size) [] ≡ true)
size_fits before above full size = by_case (is_size before above size) refl
  where
    by_case : (b : Bool) → is_size before above size ≡ b → (cond b size 64 ≤ 64) × (goes_on before above (cond b size 64) [] ≡ true)
    by_case true e = size_parts before above size e
    by_case false e = size_parts before above 64 full

pub good_keyword : (V : Type 0) (before : List ℕ) (above : ℕ) → above ≤ 15 → Fits (suc above) before → Good V any (keyword before above)
unfolding keyword
good_keyword V before above few f =
    let full = full_size before above few f in
    good_joined (small (is_size before above)) (λ size. word (next_keywords before above (size_for before above size))) (good_small (is_size before above) 64 full)
    (λ size.
    let bounds = size_fits before above full size in
    good_word (next_keywords before above (size_for before above size)) (lawful_next before above (size_for before above size) few bounds.0 bounds.1) any
    (apart_next before above (size_for before above size) few bounds.0 bounds.1))

pub good_rising : (V : Type 0) (n : ℕ) (before : List ℕ) (so_far : List (List ℕ)) → n ≤ 16 → Fits n before → Good V any (rising n before so_far)
unfolding rising
good_rising V zero before so_far few f = good_give any so_far
good_rising V (suc above) before so_far few f =
    good_joined (keyword before above) (λ text. rising above (kept above text) (so_far ++ text ∷ [])) (good_keyword V before above (omega (arith, few)) f)
    (λ text. good_rising V above (kept above text) (so_far ++ text ∷ []) (omega (arith, few)) (fits_kept above text))
