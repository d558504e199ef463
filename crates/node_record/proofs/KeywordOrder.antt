-- Byte order of keywords, and the keywords that leave room above them.
use Rattle.std.proofs.Common.{◌≡◌, ℕ, zero, suc, ◌+◌, ◌-◌, ◌<◌, ◌≤◌, List, [], ◌∷◌, ◌++◌, length, replicate, Bool, true, false, ◌&&◌, cond, not, ◌==◌, nat_lt, nat_le, nat_eq}
use Rattle.std.proofs.Common.{Ordering, Less, Equal, Greater, refl, sym, ap, ◌∙◌, subst, arith, eqb-true, eq-eqb, leb-true, le-leb}
use Rattle.std.proofs.lemmas.Bool.{false≢true}
use Rattle.std.proofs.lemmas.Bool.Decides.{nat_tests}
use Rattle.std.proofs.lemmas.Cmp.{same_from_slice_cmp}
use Rattle.std.specs.Ordering.{nat_cmp, is_lt}
use Rattle.std.specs.Cmp.Lexicographic.{slice_cmp}
use Rattle.std.specs.List.{list_all}
use Rattle.grammar.proofs.Conditions.{and_both, and_left, and_right}
use Rattle.mail_message.specs.Keywords.{is_atom_byte}
use Rattle.node_record.specs.Flags.{last_byte, leaves_room, is_before, tildes_to}

-- the one text stands before the other
abbrev pub rises : List ℕ → List ℕ → Bool
rises [] [] = false
rises [] (x ∷ t) = true
rises (y ∷ p) [] = false
rises (y ∷ p) (x ∷ t) = cond (y == x) (rises p t) (nat_lt y x)

pub before_is : (p t : List ℕ) (o : Ordering) → o ≡ slice_cmp nat_cmp p t → is_lt o ≡ rises p t
before_is = same_from_slice_cmp nat_cmp is_lt rises refl (λ _ _. refl) (λ _ _. refl) (λ x y xs ys o h. grind (arith, nat_tests))

pub is_before-rises : (p t : List ℕ) → is_before p t ≡ rises p t
is_before-rises p t = before_is p t (slice_cmp nat_cmp p t) refl

-- no byte is above `~`
pub are_low : List ℕ → Bool
are_low [] = true
are_low (c ∷ text) = nat_le c 126 && are_low text

low_first : (c : ℕ) (t : List ℕ) → are_low (c ∷ t) ≡ true → c ≤ 126
unfolding are_low
low_first c t h = by_case (nat_le c 126) refl h
  where
    by_case : (b : Bool) → nat_le c 126 ≡ b → b && are_low t ≡ true → c ≤ 126
    by_case true e h = leb-true c 126 e
    by_case false e h = absurd (false≢true h)

low_rest : (c : ℕ) (t : List ℕ) → are_low (c ∷ t) ≡ true → are_low t ≡ true
unfolding are_low
low_rest c t h = by_case (nat_le c 126) h
  where
    by_case : (b : Bool) → b && are_low t ≡ true → are_low t ≡ true
    by_case true h = h
    by_case false h = absurd (false≢true h)

-- a text of low bytes leaves room for none
pub room_at_top : (k : ℕ) (t : List ℕ) → are_low t ≡ true → leaves_room k 126 t ≡ true
unfolding leaves_room
room_at_top k [] h = refl
room_at_top zero (c ∷ t) h = le-leb c 126 (low_first c t h)
room_at_top (suc k) (c ∷ t) h = by_case (c == 126) (room_at_top k t (low_rest c t h))
  where
    by_case : (b : Bool) → leaves_room k 126 t ≡ true → cond b (leaves_room k 126 t) true ≡ true
    by_case true again = again
    by_case false again = refl

-- so does one that is shorter than all `~`
pub room_if_short : (k last : ℕ) (t : List ℕ) → length t ≤ k → leaves_room k last t ≡ true
unfolding leaves_room
room_if_short k last [] h = refl
room_if_short zero last (c ∷ t) h = absurd (omega arith)
room_if_short (suc k) last (c ∷ t) h = by_case (c == 126) (room_if_short k last t (omega arith))
  where
    by_case : (b : Bool) → leaves_room k last t ≡ true → cond b (leaves_room k last t) true ≡ true
    by_case true again = again
    by_case false again = refl

-- what follows a `~`, or another byte
pub room_behind : (k last c : ℕ) (t : List ℕ) → c ≡ 126 → leaves_room (suc k) last (c ∷ t) ≡ true → leaves_room k last t ≡ true
unfolding leaves_room
room_behind k last c t is h = ap (λ (b : Bool). cond b (leaves_room k last t) true) (sym (eq-eqb c 126 is)) ∙ h

pub room_with : (k last c : ℕ) (t : List ℕ) → (c ≡ 126 → leaves_room k last t ≡ true) → leaves_room (suc k) last (c ∷ t) ≡ true
unfolding leaves_room
room_with k last c t more = by_case (c == 126) refl
  where
    by_case : (b : Bool) → (c == 126) ≡ b → cond b (leaves_room k last t) true ≡ true
    by_case true e = more (eqb-true c 126 e)
    by_case false e = refl

room_last : (last c : ℕ) (t : List ℕ) → leaves_room zero last (c ∷ t) ≡ true → c ≤ last
unfolding leaves_room
room_last last c t h = leb-true c last h

room_at_last : (last c : ℕ) (t : List ℕ) → c ≤ last → leaves_room zero last (c ∷ t) ≡ true
unfolding leaves_room
room_at_last last c t h = le-leb c last h

-- how the first bytes of two texts stand that rise
pub data First (y x : ℕ) (p t : List ℕ) : Type 0 where
  below : y < x → First y x p t
  same : y ≡ x → rises p t ≡ true → First y x p t

pub first_of : (y x : ℕ) (p t : List ℕ) → rises (y ∷ p) (x ∷ t) ≡ true → First y x p t
first_of y x p t h = by_case (y == x) refl h
  where
    by_case : (b : Bool) → (y == x) ≡ b → cond b (rises p t) (nat_lt y x) ≡ true → First y x p t
    by_case true e h = same (eqb-true y x e) h
    by_case false e h = below (grind (arith, nat_tests, h))

pub rises_below : (y x : ℕ) (p t : List ℕ) → y < x → rises (y ∷ p) (x ∷ t) ≡ true
rises_below y x p t h =
    let other : (y == x) ≡ false = grind (arith, nat_tests) in
    let less : nat_lt y x ≡ true = grind (arith, nat_tests) in
    rw other less

pub rises_same : (y x : ℕ) (p t : List ℕ) → y ≡ x → rises p t ≡ true → rises (y ∷ p) (x ∷ t) ≡ true
rises_same y x p t is h = ap (λ (b : Bool). cond b (rises p t) (nat_lt y x)) (eq-eqb y x is) ∙ h

no_rise : (p : List ℕ) → rises p [] ≡ true → ⊥
no_rise [] h = false≢true h
no_rise (y ∷ p) h = false≢true h

-- the greatest text of one more byte than `~` that leaves room stands behind all that a text which does stands behind
pub above_full : (k last : ℕ) (p u : List ℕ) → length u ≡ suc k → are_low u ≡ true → leaves_room k last u ≡ true → rises p u ≡ true
    → rises p (replicate k 126 ++ last ∷ []) ≡ true
above_full k last p [] long low room h = absurd (omega (arith, long))
above_full zero last [] (x ∷ u) long low room h = refl
above_full (suc k) last [] (x ∷ u) long low room h = refl
above_full zero last (y ∷ p) (x ∷ u) long low room h = by_first (first_of y x p u h)
  where
    none : u ≡ []
    none = by_list u (omega (arith, long))
      where
        by_list : (u : List ℕ) → length u ≡ 0 → u ≡ []
        by_list [] e = refl
        by_list (c ∷ u) e = absurd (omega (arith, e))

    by_first : First y x p u → rises (y ∷ p) (last ∷ []) ≡ true
    by_first (below less) = rises_below y last p [] (omega (arith, less, room_last last x u room))
    by_first (same is more) = absurd (no_rise p (subst (λ (s : List ℕ). rises p s ≡ true) none more))
above_full (suc k) last (y ∷ p) (x ∷ u) long low room h =
    by_first (first_of y x p u h) (λ top more. above_full k last p u (omega (arith, long)) (low_rest x u low) (room_behind k last x u top room) more)
  where
    rest : List ℕ
    rest = replicate k 126 ++ last ∷ []

    by_top : (b : Bool) → nat_lt y 126 ≡ b → y ≡ x → (x ≡ 126 → rises p rest ≡ true) → rises (y ∷ p) (126 ∷ rest) ≡ true
    by_top true e is again = rises_below y 126 p rest (grind (arith, nat_tests))
    by_top false e is again =
        let top : y ≡ 126 = grind (arith, nat_tests, low_first x u low, is) in
        rises_same y 126 p rest top (again (sym is ∙ top))

    by_first : First y x p u → (x ≡ 126 → rises p u ≡ true → rises p rest ≡ true) → rises (y ∷ p) (126 ∷ rest) ≡ true
    by_first (below less) again = rises_below y 126 p rest (omega (arith, less, low_first x u low))
    by_first (same is more) again = by_top (nat_lt y 126) refl is (λ top. again top more)

-- the text itself leaves that room
pub full_leaves : (k last : ℕ) → leaves_room k last (replicate k 126 ++ last ∷ []) ≡ true
full_leaves zero last = room_at_last last last [] (omega arith)
full_leaves (suc k) last = room_with k last 126 (replicate k 126 ++ last ∷ []) (λ _. full_leaves k last)

-- all that leave room for one more stand before it
pub below_full : (k less last : ℕ) (p : List ℕ) → less < last → last ≤ 126 → length p ≤ suc k → are_low p ≡ true → leaves_room k less p ≡ true
    → rises p (replicate k 126 ++ last ∷ []) ≡ true
below_full zero less last [] lower top short low room = refl
below_full (suc k) less last [] lower top short low room = refl
below_full zero less last (y ∷ p) lower top short low room = rises_below y last p [] (omega (arith, lower, room_last less y p room))
below_full (suc k) less last (y ∷ p) lower top short low room =
    by_top (nat_lt y 126) refl (λ is. below_full k less last p lower top (omega arith) (low_rest y p low) (room_behind k less y p is room))
  where
    rest : List ℕ
    rest = replicate k 126 ++ last ∷ []

    by_top : (b : Bool) → nat_lt y 126 ≡ b → (y ≡ 126 → rises p rest ≡ true) → rises (y ∷ p) (126 ∷ rest) ≡ true
    by_top true e again = rises_below y 126 p rest (grind (arith, nat_tests))
    by_top false e again =
        let is : y ≡ 126 = grind (arith, nat_tests, low_first y p low) in
        rises_same y 126 p rest is (again is)

-- atoms have low bytes alone
pub atom_low : (text : List ℕ) → list_all is_atom_byte text ≡ true → are_low text ≡ true
unfolding are_low is_atom_byte
atom_low [] h = refl
atom_low (c ∷ text) h =
    let first : is_atom_byte c ≡ true = and_left (is_atom_byte c) (list_all is_atom_byte text) h in
    and_both (nat_le c 126) (are_low text) (grind (arith, nat_tests, first)) (atom_low text (and_right (is_atom_byte c) (list_all is_atom_byte text) h))

-- a text before one that leaves room leaves room for one more
pub room_below : (k less last : ℕ) (p t : List ℕ) → ((c : ℕ) → is_atom_byte c ≡ true → c < last → c ≤ less) → list_all is_atom_byte p ≡ true
    → are_low t ≡ true → length t ≤ suc k → rises p t ≡ true → leaves_room k last t ≡ true → leaves_room k less p ≡ true
unfolding leaves_room
room_below k less last [] t next atoms low short h room = refl
room_below k less last (y ∷ p) [] next atoms low short h room = absurd (false≢true h)
room_below zero less last (y ∷ p) (x ∷ t) next atoms low short h room = by_first (first_of y x p t h)
  where
    none : (t : List ℕ) → length t ≡ 0 → t ≡ []
    none [] e = refl
    none (c ∷ t) e = absurd (omega (arith, e))

    by_first : First y x p t → leaves_room zero less (y ∷ p) ≡ true
    by_first (below lower) =
        room_at_last less y p (next y (and_left (is_atom_byte y) (list_all is_atom_byte p) atoms) (omega (arith, lower, room_last last x t room)))
    by_first (same is more) = absurd (no_rise p (subst (λ (s : List ℕ). rises p s ≡ true) (none t (omega (arith, short))) more))
room_below (suc k) less last (y ∷ p) (x ∷ t) next atoms low short h room =
    room_with k less y p (λ top. by_first top (first_of y x p t h) (λ is more.
    room_below k less last p t next (and_right (is_atom_byte y) (list_all is_atom_byte p) atoms) (low_rest x t low) (omega (arith, short)) more
    (room_behind k last x t is room)))
  where
    by_first : y ≡ 126 → First y x p t → (x ≡ 126 → rises p t ≡ true → leaves_room k less p ≡ true) → leaves_room k less p ≡ true
    by_first top (below lower) again = absurd (omega (arith, lower, top, low_first x t low))
    by_first top (same is more) again = again (sym is ∙ top) more

-- the last bytes of the keywords with room above them

pub last_is_atom : (above : ℕ) → above ≤ 16 → is_atom_byte (last_byte above) ≡ true
unfolding last_byte is_atom_byte
last_is_atom above few = grind (arith, nat_tests)

pub last_below : (above : ℕ) → above ≤ 15 → last_byte (suc above) < last_byte above
unfolding last_byte
last_below above few = grind (arith, nat_tests)

pub last_top : (above : ℕ) → last_byte above ≤ 126
unfolding last_byte
last_top above = grind (arith, nat_tests)

pub last_next : (above c : ℕ) → above ≤ 15 → is_atom_byte c ≡ true → c < last_byte above → c ≤ last_byte (suc above)
unfolding last_byte is_atom_byte
last_next above c few atom less = grind (arith, nat_tests)
