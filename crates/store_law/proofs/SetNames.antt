-- The UIDs that a command takes from its set and its view are those of the messages that the set names.
use Rattle.std.proofs.Common.{◌≡◌, ℕ, zero, suc, ◌+◌, ◌-◌, ◌&&◌, ◌||◌, Bool, true, false, cond, List, [], ◌∷◌, length, map, Some}
use Rattle.std.proofs.Common.{refl, sym, ◌∙◌, ap, subst, inl, inr, ⊎_elim, arith}
use Rattle.std.specs.Prelude.{◌⊎◌, min, max, nat_le, slice_get}
use Rattle.std.specs.List.{Contains, filter, zip}
use Rattle.std.proofs.lemmas.Bool.Decides.{nat_tests}
use Rattle.mail_message.specs.Sets.{part_at, part_holds, set_at, set_holds}
use Rattle.mail_message.specs.declared.message.Row.{Row}
use Rattle.mail_message.specs.declared.set.SetEnd.TheVariants.{Number, Last}
use Rattle.mail_message.specs.declared.set.SetPart.{SetPart}
use Rattle.mail_message.specs.declared.set.SetPart.TheVariants.{One, Range}
use Rattle.mur_model.specs.ClientView.{uids}
use Rattle.mur_model.specs.NamedRows.{last_uid, named_uids, numbers_from, uid_or_none, uids_by}
use Rattle.store_law.specs.SetNames.{IsBetween, IsInPart, IsInSet, Names, last_number, number_of}
use Rattle.store_law.proofs.ContainsLaws.{at_first, behind_first, first_or_behind, none_there}

-- ---- a number in a set

one_holds : (one number : ℕ) → number ≡ one → (nat_le one number && nat_le number one) ≡ true
one_holds one number is = grind (arith, nat_tests, is)

holds_one : (one number : ℕ) → (nat_le one number && nat_le number one) ≡ true → number ≡ one
holds_one one number is = grind (arith, nat_tests, is)

range_holds : (one other number : ℕ) → IsBetween one other number ⊎ IsBetween other one number
    → (nat_le (min one other) number && nat_le number (max one other)) ≡ true
range_holds one other number (inl is) = let low = is.0 in let high = is.1 in grind (arith, nat_tests, low, high)
range_holds one other number (inr is) = let low = is.0 in let high = is.1 in grind (arith, nat_tests, low, high)

holds_range : (one other number : ℕ) → (nat_le (min one other) number && nat_le number (max one other)) ≡ true
    → IsBetween one other number ⊎ IsBetween other one number
holds_range one other number is = by (nat_le one other) refl
  where
    by : (least : Bool) → nat_le one other ≡ least → IsBetween one other number ⊎ IsBetween other one number
    by true e = inl (grind (arith, nat_tests, is, e), grind (arith, nat_tests, is, e))
    by false e = inr (grind (arith, nat_tests, is, e), grind (arith, nat_tests, is, e))

module _ (largest number : ℕ) where
  part_in : (part : SetPart) → IsInPart largest part number → part_holds (part_at largest part) number ≡ true
  part_in (One (Number one)) is = one_holds one number is
  part_in (One Last) is = one_holds largest number is
  part_in (Range (Number one) (Number other)) is = range_holds one other number is
  part_in (Range (Number one) Last) is = range_holds one largest number is
  part_in (Range Last (Number other)) is = range_holds largest other number is
  part_in (Range Last Last) is = range_holds largest largest number is

  in_part : (part : SetPart) → part_holds (part_at largest part) number ≡ true → IsInPart largest part number
  in_part (One (Number one)) is = holds_one one number is
  in_part (One Last) is = holds_one largest number is
  in_part (Range (Number one) (Number other)) is = holds_range one other number is
  in_part (Range (Number one) Last) is = holds_range one largest number is
  in_part (Range Last (Number other)) is = holds_range largest other number is
  in_part (Range Last Last) is = holds_range largest largest number is

  pub set_in : (set : List SetPart) → IsInSet largest set number → set_holds (set_at largest set) number ≡ true
  unfolding IsInSet
  set_in [] is = absurd is
  set_in (part ∷ set) (inl is) = rw (part_in part is) refl
  set_in (part ∷ set) (inr is) = by (part_holds (part_at largest part) number) (set_in set is)
    where
      by : (one : Bool) → set_holds (set_at largest set) number ≡ true → (one || set_holds (set_at largest set) number) ≡ true
      by true rest = refl
      by false rest = rest

  in_set : (set : List SetPart) → set_holds (set_at largest set) number ≡ true → IsInSet largest set number
  unfolding IsInSet
  in_set [] is = cc
  in_set (part ∷ set) is = by (part_holds (part_at largest part) number) refl is (in_set set)
    where
      by : (one : Bool) → part_holds (part_at largest part) number ≡ one → (one || set_holds (set_at largest set) number) ≡ true
          → (set_holds (set_at largest set) number ≡ true → IsInSet largest set number) → IsInPart largest part number ⊎ IsInSet largest set number
      by true e is rest = inl (in_part part e)
      by false e is rest = inr (rest is)

-- ---- the numbers of rows

-- of rows behind so many others
abbrev numbers_of : Bool → ℕ → List Row → List ℕ
numbers_of by_uid place [] = []
numbers_of by_uid place (row ∷ rows) = number_of by_uid place row ∷ numbers_of by_uid (place + 1) rows

by_number : (place : ℕ) (rows : List Row) → numbers_of false place rows ≡ numbers_from (place + 1) rows
by_number place [] = refl
by_number place (row ∷ rows) = ap (λ (more : List ℕ). (place + 1) ∷ more) (by_number (place + 1) rows)

by_their_uid : (place : ℕ) (rows : List Row) → numbers_of true place rows ≡ uids rows
by_their_uid place [] = refl
by_their_uid place (row ∷ rows) = ap (λ (more : List ℕ). row.uid ∷ more) (by_their_uid (place + 1) rows)

last_by_number : (place : ℕ) (row : Row) (rows : List Row) → last_number false place (row ∷ rows) ≡ place + length (row ∷ rows)
unfolding last_number
last_by_number place row [] = refl
last_by_number place row (other ∷ rows) = last_by_number (place + 1) other rows ∙ omega arith

count_is : (rows : List Row) → length rows ≡ last_number false 0 rows
unfolding last_number
count_is [] = refl
count_is (row ∷ rows) = sym (last_by_number 0 row rows ∙ omega arith)

last_by_uid : (place : ℕ) (row : Row) (rows : List Row) → last_number true place (row ∷ rows) ≡ uid_or_none (slice_get (row ∷ rows) (length rows))
unfolding last_number
last_by_uid place row [] = refl
last_by_uid place row (other ∷ rows) = last_by_uid (place + 1) other rows

last_is : (rows : List Row) → last_uid rows ≡ last_number true 0 rows
unfolding last_number
last_is [] = refl
last_is (row ∷ rows) =
    let count : length (row ∷ rows) - 1 ≡ length rows = omega arith in
    ap (λ n. uid_or_none (slice_get (row ∷ rows) n)) count ∙ sym (last_by_uid 0 row rows)

-- ---- the rows whose number is in a set

module _ (by_uid : Bool) (set : List SetPart) where
  -- the UIDs of those, of rows behind so many others
  abbrev picks : ℕ → List Row → List ℕ
  picks place rows = uids_by set (numbers_of by_uid place rows) rows

  row_picked : (place : ℕ) (rows : List Row) (k n : ℕ) (row : Row) → slice_get rows k ≡ Some row → n ≡ place + k
      → set_holds set (number_of by_uid n row) ≡ true → Contains (picks place rows) row.uid
  row_picked place [] k n row at is held = cc
  row_picked place (other ∷ rows) zero n row at is held =
      let same : other ≡ row = cc in
      let here : n ≡ place = omega (arith, is) in
      let holds : set_holds set (number_of by_uid place other) ≡ true =
      subst (λ (r : Row). set_holds set (number_of by_uid place r) ≡ true) (sym same)
      (subst (λ m. set_holds set (number_of by_uid m row) ≡ true) here held) in
      rw holds (subst (λ (r : Row). Contains (other.uid ∷ picks (place + 1) rows) r.uid) same (at_first other.uid (picks (place + 1) rows)))
  row_picked place (other ∷ rows) (suc k) n row at is held =
      by (set_holds set (number_of by_uid place other)) (row_picked (place + 1) rows k n row at (omega (arith, is)) held)
    where
      by : (holds : Bool) → Contains (picks (place + 1) rows) row.uid
          → Contains (map (λ (pair : Row × Bool). pair.0.uid) (cond holds ((other, holds) ∷ filter (λ (pair : Row × Bool). pair.1)
          (zip rows (map (set_holds set) (numbers_of by_uid (place + 1) rows))))
          (filter (λ (pair : Row × Bool). pair.1) (zip rows (map (set_holds set) (numbers_of by_uid (place + 1) rows)))))) row.uid
      by true rest = behind_first other.uid row.uid (picks (place + 1) rows) rest
      by false rest = rest

  record Picked (place : ℕ) (rows : List Row) (uid : ℕ) : Type 0 where
    pub at : ℕ
    pub number : ℕ
    pub row : Row
    pub stands : slice_get rows at ≡ Some row
    pub own : row.uid ≡ uid
    pub counted : number ≡ place + at
    pub held : set_holds set (number_of by_uid number row) ≡ true

  picked_row : (place : ℕ) (rows : List Row) (uid : ℕ) → Contains (picks place rows) uid → Picked place rows uid
  picked_row place [] uid is = absurd (none_there uid is)
  picked_row place (other ∷ rows) uid is = by (set_holds set (number_of by_uid place other)) refl is (picked_row (place + 1) rows uid)
    where
      later : Picked (place + 1) rows uid → Picked place (other ∷ rows) uid
      later it = record {
        at = suc it.at;
        number = it.number;
        row = it.row;
        stands = it.stands;
        own = it.own;
        counted = omega (arith, it.counted);
        held = it.held;
      }

      by : (holds : Bool) → set_holds set (number_of by_uid place other) ≡ holds
          → Contains (map (λ (pair : Row × Bool). pair.0.uid) (cond holds ((other, holds) ∷ filter (λ (pair : Row × Bool). pair.1)
          (zip rows (map (set_holds set) (numbers_of by_uid (place + 1) rows))))
          (filter (λ (pair : Row × Bool). pair.1) (zip rows (map (set_holds set) (numbers_of by_uid (place + 1) rows)))))) uid
          → (Contains (picks (place + 1) rows) uid → Picked (place + 1) rows uid) → Picked place (other ∷ rows) uid
      by true e is rest = ⊎_elim
          (λ (here : other.uid ≡ uid). record { at = 0; number = place; row = other; stands = refl; own = here; counted = omega arith; held = e })
          (λ (behind : Contains (picks (place + 1) rows) uid). later (rest behind)) (first_or_behind other.uid uid (picks (place + 1) rows) is)
      by false e is rest = later (rest is)

-- ---- the messages that a set names

uids_picked : (by_uid : Bool) (set : List SetPart) (rows : List Row)
    → named_uids by_uid set rows ≡ picks by_uid (set_at (last_number by_uid 0 rows) set) 0 rows
unfolding named_uids
uids_picked false set rows =
    ap (λ n. uids_by (set_at n set) (numbers_from 1 rows) rows) (count_is rows)
    ∙ ap (λ numbers. uids_by (set_at (last_number false 0 rows) set) numbers rows) (sym (by_number 0 rows))
uids_picked true set rows =
    ap (λ n. uids_by (set_at n set) (uids rows) rows) (last_is rows)
    ∙ ap (λ numbers. uids_by (set_at (last_number true 0 rows) set) numbers rows) (sym (by_their_uid 0 rows))

pub named_taken : (by_uid : Bool) (set : List SetPart) (rows : List Row) (uid : ℕ) → Names by_uid set rows uid → Contains (named_uids by_uid set rows) uid
named_taken by_uid set rows uid it =
    let largest : ℕ = last_number by_uid 0 rows in
    subst (λ us. Contains us uid) (sym (uids_picked by_uid set rows))
    (subst (Contains (picks by_uid (set_at largest set) 0 rows)) it.own
    (row_picked by_uid (set_at largest set) 0 rows it.place it.place it.row it.stands (omega arith)
    (set_in largest (number_of by_uid it.place it.row) set it.named)))

pub taken_named : (by_uid : Bool) (set : List SetPart) (rows : List Row) (uid : ℕ) → Contains (named_uids by_uid set rows) uid → Names by_uid set rows uid
taken_named by_uid set rows uid is =
    let largest : ℕ = last_number by_uid 0 rows in
    let it : Picked by_uid (set_at largest set) 0 rows uid =
    picked_row by_uid (set_at largest set) 0 rows uid (subst (λ us. Contains us uid) (uids_picked by_uid set rows) is) in
    record {
      place = it.at;
      row = it.row;
      stands = it.stands;
      own = it.own;
      named = in_set largest (number_of by_uid it.at it.row) set
          (subst (λ n. set_holds (set_at largest set) (number_of by_uid n it.row) ≡ true) (let e : it.number ≡ it.at = omega (arith, it.counted) in e) it.held);
    }
