-- Rows in rising order of UID, and where a row stands in them.
use Rattle.std.proofs.Common.{◌≡◌, ℕ, zero, suc, ◌+◌, ◌-◌, ◌<◌, ◌≤◌, ◌^◌, Bool, true, false, ◌==◌, List, [], ◌∷◌, ◌++◌, map, length, slice_get, Option, None, Some, cond}
use Rattle.std.proofs.Common.{if◌then◌else◌, Result, Ok, Err, OnOk, OnErr, refl, sym, ap, subst, arith}
use Rattle.std.specs.Option.{unwrap_or, IfSome}
use Rattle.std.proofs.lemmas.List.{length-map}
use native.Mathlib.Numerals.{unary_clauses}
use Rattle.std.proofs.Math.ListN.{get_or-map}
use Rattle.std.specs.List.{AllByRecursion, position_from}
use Rattle.std.specs.List.Sorted.{IsStrictlySortedBy, IsNonDecreasingBy}
use Rattle.std.specs.declared.cmp.Ordering.TheVariants.{Less}
use Rattle.std.specs.Ordering.{nat_cmp}
use Rattle.std.proofs.lemmas.Bool.Decides.{nat_tests}
use Rattle.std.proofs.lemmas.Map.Keys.{non_decreasing_from_sorted}
use Rattle.mail_message.specs.declared.message.Row.{Row}
use Rattle.mail_message.specs.declared.message.Message.{Message}
use Rattle.mail_message.specs.Boxes.{row_of, uids_of, IsRising}
use Rattle.mail_message.specs.RowOrder.{AreOrdered, AreRising, HasNext, IsAbove, IsPlace, is_row_of, row_at, if_row_of, place_if_row_of}
use Rattle.mail_message.proofs.SlotLaws.{less, below}
use Rattle.mail_message.proofs.NextRows.{next-more}

-- ---- the rows of messages

uids_of_rows : (messages : List Message) → map (λ (row : Row). row.uid) (map row_of messages) ≡ uids_of messages
uids_of_rows [] = refl
uids_of_rows (message ∷ messages) = ap (λ uids. message.uid ∷ uids) (uids_of_rows messages)

pub rising-rows : (messages : List Message) → IsRising messages → AreRising (map row_of messages)
rising-rows messages rising = subst (IsStrictlySortedBy nat_cmp) (sym (uids_of_rows messages)) rising

-- ---- a row at the end

less_more : (k : ℕ) (rows : List Row) (row : Row) → AllByRecursion (λ q. nat_cmp k q ≡ Less) (map (λ row. row.uid) rows) → k < row.uid
    → AllByRecursion (λ q. nat_cmp k q ≡ Less) (map (λ row. row.uid) (rows ++ row ∷ []))
less_more k [] row all lt = (less k row.uid lt, tt)
less_more k (other ∷ rows) row all lt = (all.0, less_more k rows row all.1 lt)

pub rising-more : (rows : List Row) (row : Row) → AreRising rows → IsAbove rows row.uid → AreRising (rows ++ row ∷ [])
unfolding IsStrictlySortedBy
rising-more [] row rising above = (tt, tt)
rising-more (other ∷ rows) row rising above = (less_more other.uid rows row rising.0 above.0, rising-more rows row rising.1 above.1)

less_next : (k : ℕ) (rows rest : List Row) (row : Row) → AllByRecursion (λ q. nat_cmp k q ≡ Less) (map (λ row. row.uid) (rows ++ row ∷ rest)) → k < row.uid
less_next k [] rest row all = below k row.uid all.0
less_next k (other ∷ rows) rest row all = less_next k rows rest row all.1

-- the next of rising rows is above those before it
pub above-next : (rows rest : List Row) (row : Row) → AreRising (rows ++ row ∷ rest) → IsAbove rows row.uid
unfolding IsStrictlySortedBy
above-next [] rest row rising = tt
above-next (other ∷ rows) rest row rising = (less_next other.uid rows rest row rising.0, above-next rows rest row rising.1)

pub rising-none : AreRising []
unfolding IsStrictlySortedBy
rising-none = tt

pub ordered-none : AreOrdered []
ordered-none = record { rising = rising-none; next = tt }

-- a row that was put at the end, or for which there was no memory
pub rising-pushed : {A E : Type 0} (result : Result A E) (old new : List Row) (row : Row) → OnOk result (new ≡ old ++ row ∷ []) → OnErr result (new ≡ old)
    → AreRising old → IsAbove old row.uid → AreRising new
rising-pushed (Ok done) old new row ok err rising above = subst AreRising (sym ok) (rising-more old row rising above)
rising-pushed (Err fault) old new row ok err rising above = subst AreRising (sym err) rising

-- the same, below a UIDNEXT
pub ordered-pushed : {A E : Type 0} (result : Result A E) (old new : List Row) (row : Row) → OnOk result (new ≡ old ++ row ∷ []) → OnErr result (new ≡ old)
    → AreOrdered old → IsAbove old row.uid → HasNext row.uid → AreOrdered new
ordered-pushed (Ok done) old new row ok err ordered above has =
    subst AreOrdered (sym ok) (record { rising = rising-more old row ordered.rising above; next = next-more old row ordered.next has })
ordered-pushed (Err fault) old new row ok err ordered above has = subst AreOrdered (sym err) ordered

-- a place of one of the rows
pub place-within : (test : Row → Bool) (from : ℕ) (rows : List Row) → IfSome (position_from test from rows) (λ place. place < from + length rows)
place-within test from [] = tt
place-within test from (row ∷ rows) = by (test row) (place-within test (from + 1) rows)
  where
    next : (found : Option ℕ) → IfSome found (λ place. place < (from + 1) + length rows) → IfSome found (λ place. place < from + suc (length rows))
    next None is = tt
    next (Some place) is = omega (arith, is)

    by : (here : Bool) → IfSome (position_from test (from + 1) rows) (λ place. place < (from + 1) + length rows)
        → IfSome (cond here (Some from) (position_from test (from + 1) rows)) (λ place. place < from + suc (length rows))
    by true is = omega arith
    by false is = next (position_from test (from + 1) rows) is

-- which has a number of 32 bits
pub place-numbered : (test : Row → Bool) (rows : List Row) → length rows < 2 ^ 32 → IfSome (position_from test 0 rows) (λ place. place + 1 < 2 ^ 32)
place-numbered test rows room = by (position_from test 0 rows) (place-within test 0 rows)
  where
    by : (found : Option ℕ) → IfSome found (λ place. place < 0 + length rows) → IfSome found (λ place. place + 1 < 2 ^ 32)
    by None is = tt
    by (Some place) is = omega (arith, is, room)

some_is : (row other : Row) → Some row ≡ Some other → row ≡ other
some_is row other same = ap (λ found. unwrap_or found row) same

-- what is above the last of rising rows is above each
pub above-last : (rows : List Row) (last : Row) (uid : ℕ) → AreRising rows → slice_get rows (length rows - 1) ≡ Some last → last.uid < uid → IsAbove rows uid
unfolding IsStrictlySortedBy
above-last [] last uid rising at lt = tt
above-last (row ∷ []) last uid rising at lt = (subst (λ (r : Row). r.uid < uid) (sym (some_is row last at)) lt, tt)
above-last (row ∷ next ∷ rows) last uid rising at lt =
    let above = above-last (next ∷ rows) last uid rising.1 (simp unary_clauses (simp unary_clauses at at)) lt in
    (omega (arith, below row.uid next.uid rising.0.0, above.0), above)

pub last-above : (rows : List Row) (last : Row) (uid : ℕ) → slice_get rows (length rows - 1) ≡ Some last → IsAbove rows uid → last.uid < uid
last-above [] last uid at above = cc
last-above (row ∷ []) last uid at above = subst (λ (r : Row). r.uid < uid) (some_is row last at) above.0
last-above (row ∷ next ∷ rows) last uid at above = last-above (next ∷ rows) last uid (simp unary_clauses (simp unary_clauses at at)) above.1

-- ---- a look-up

pub rising-from : (rows : List Row) → AreRising rows → IsNonDecreasingBy (λ (row : Row). row.uid) rows
rising-from rows rising i j d le lt =
    let uids = map (λ (row : Row). row.uid) rows in
    let within : j < length uids = rw (length-map rows (λ (row : Row). row.uid)) lt in
    let rises = non_decreasing_from_sorted uids rising i j d.uid le within in
    rw (get_or-map (λ (row : Row). row.uid) rows i d, get_or-map (λ (row : Row). row.uid) rows j d) at rises

none_behind : (uid k : ℕ) (rows : List Row) → AllByRecursion (λ q. nat_cmp k q ≡ Less) (map (λ row. row.uid) rows) → uid ≤ k → row_at rows uid ≡ None
none_behind uid k [] all le = refl
none_behind uid k (row ∷ rows) all le =
    let lt = below k row.uid all.0 in
    let apart : (row.uid == uid) ≡ false = grind (arith, nat_tests, lt, le) in rw apart (none_behind uid k rows all.1 le)

-- the row with a UID stands behind those with lower ones
pub row-placed : (rows : List Row) (uid place : ℕ) → AreRising rows → IsPlace rows uid place → if_row_of uid (slice_get rows place) ≡ row_at rows uid
unfolding IsStrictlySortedBy
row-placed [] uid place rising at = refl
row-placed (row ∷ rows) uid zero rising at =
    let none = none_behind uid row.uid rows rising.0 (at.1 0 row (omega arith) (omega arith)) in
    ap (λ rest. if is_row_of uid row then Some row else rest) (sym none)
row-placed (row ∷ rows) uid (suc place) rising at =
    let lt = at.0 0 row (omega arith) (omega arith) in
    let apart : (row.uid == uid) ≡ false = grind (arith, nat_tests, lt) in
    rw apart (row-placed rows uid place rising.1
    (λ k d from to. at.0 (suc k) d (omega arith) (omega (arith, to)), λ k d from to. at.1 (suc k) d (omega (arith, from)) (omega (arith, to))))

none_placed : (uid k from : ℕ) (rows : List Row) → AllByRecursion (λ q. nat_cmp k q ≡ Less) (map (λ row. row.uid) rows) → uid ≤ k
    → position_from (is_row_of uid) from rows ≡ None
none_placed uid k from [] all le = refl
none_placed uid k from (row ∷ rows) all le =
    let lt = below k row.uid all.0 in
    let apart : (row.uid == uid) ≡ false = grind (arith, nat_tests, lt, le) in rw apart (none_placed uid k (from + 1) rows all.1 le)

-- the place of the row with a UID is behind those with lower ones
pub place-placed : (rows : List Row) (uid place from n : ℕ) → n ≡ from + place → AreRising rows → IsPlace rows uid place
    → place_if_row_of uid n (slice_get rows place) ≡ position_from (is_row_of uid) from rows
unfolding IsStrictlySortedBy
place-placed [] uid place from n is rising at = refl
place-placed (row ∷ rows) uid zero from n is rising at =
    let none = none_placed uid row.uid (from + 1) rows rising.0 (at.1 0 row (omega arith) (omega arith)) in
    let first : n ≡ from = omega (arith, is) in
    rw (first, none) refl
place-placed (row ∷ rows) uid (suc place) from n is rising at =
    let lt = at.0 0 row (omega arith) (omega arith) in
    let apart : (row.uid == uid) ≡ false = grind (arith, nat_tests, lt) in
    rw apart (place-placed rows uid place (from + 1) n (omega (arith, is)) rising.1
    (λ k d from to. at.0 (suc k) d (omega arith) (omega (arith, to)), λ k d from to. at.1 (suc k) d (omega (arith, from)) (omega (arith, to))))
