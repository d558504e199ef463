-- A row that is put at its place among rising rows.
use Rattle.std.proofs.Common.{◌≡◌, ◌≢◌, ℕ, zero, suc, ◌<◌, ◌≤◌, true, false, List, [], ◌∷◌, map, length, slice_get, refl, sym, ap}
use Rattle.std.proofs.Common.{arith}
use Rattle.std.specs.List.{insert, slice_set}
use Rattle.std.specs.List.Sorted.{IsNonDecreasingBy}
use Rattle.std.specs.declared.cmp.Ordering.TheVariants.{Equal}
use Rattle.std.specs.Ordering.{nat_cmp}
use Rattle.std.proofs.lemmas.Cmp.{ranked, by_ranked}
use Rattle.std.proofs.lemmas.List.{length-map}
use Rattle.std.proofs.lemmas.Map.Keys.{non_decreasing_from_sorted}
use Rattle.std.proofs.Math.ListN.{get_or-map}
use Rattle.mail_message.specs.declared.message.Row.{Row}
use Rattle.mail_message.specs.RowOrder.{AreRising, IsPlace}
use Rattle.mail_delta.specs.Deltas.{with_row, has_uid_at}
use Rattle.mail_delta.proofs.Keyed.{less, greater, same_number, other_number}

pub rising-from : (rows : List Row) → AreRising rows → IsNonDecreasingBy (λ (row : Row). row.uid) rows
rising-from rows rising i j d le lt =
    let uids = map (λ (row : Row). row.uid) rows in
    let within : j < length uids = rw (length-map rows (λ (row : Row). row.uid)) lt in
    let rises = non_decreasing_from_sorted uids rising i j d.uid le within in
    rw (get_or-map (λ (row : Row). row.uid) rows i d, get_or-map (λ (row : Row). row.uid) rows j d) at rises

equal_of : (a b : ℕ) → a ≡ b → nat_cmp a b ≡ Equal
equal_of a b h =
    by_ranked _ _ _ (nat_cmp a b) (ranked a b _ refl) (λ o l. absurd (omega (arith, h, l))) (λ o e. o) (λ o g. absurd (omega (arith, h, g)))

behind : (row : Row) (rows : List Row) (uid place : ℕ) → IsPlace (row ∷ rows) uid (suc place) → IsPlace rows uid place
behind row rows uid place at = (
  λ k d from to. at.0 (suc k) d (omega arith) (omega (arith, to)),
  λ k d from to. at.1 (suc k) d (omega (arith, from)) (omega (arith, to)),
)

-- in the place of the row with its UID
pub set-is : (rows : List Row) (row : Row) (place : ℕ) → IsPlace rows row.uid place → has_uid_at row.uid (slice_get rows place) ≡ true
    → slice_set rows place row ≡ with_row rows row
set-is [] row place at same = cc
set-is (other ∷ rows) row zero at same = rw (equal_of row.uid other.uid (sym (same_number other.uid row.uid same))) refl
set-is (other ∷ rows) row (suc place) at same =
    let lower : other.uid < row.uid = at.0 0 row (omega arith) (omega arith) in
    rw (greater row.uid other.uid lower) (ap (λ rest. other ∷ rest) (set-is rows row place (behind other rows row.uid place at) same))

-- or between those with lower UIDs and those with higher ones
pub insert-is : (rows : List Row) (row : Row) (place : ℕ) → IsPlace rows row.uid place → place ≤ length rows
    → has_uid_at row.uid (slice_get rows place) ≡ false → insert rows place row ≡ with_row rows row
insert-is [] row zero at le apart = refl
insert-is [] row (suc place) at le apart = absurd (omega (arith, le))
insert-is (other ∷ rows) row zero at le apart =
    let from : row.uid ≤ other.uid = at.1 0 row (omega arith) (omega arith) in
    let ne : other.uid ≢ row.uid = other_number other.uid row.uid apart in
    let lt : row.uid < other.uid = omega (arith, from, ne) in rw (less row.uid other.uid lt) refl
insert-is (other ∷ rows) row (suc place) at le apart =
    let lower : other.uid < row.uid = at.0 0 row (omega arith) (omega arith) in
    rw (greater row.uid other.uid lower)
    (ap (λ rest. other ∷ rest) (insert-is rows row place (behind other rows row.uid place at) (omega (arith, le)) apart))
