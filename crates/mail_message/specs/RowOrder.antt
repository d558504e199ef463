-- Rows of a mailbox in rising order of UID (RFC 9051, 2.3.1.1).
use Rattle.std.specs.Prelude.{ℕ, Bool, ◌+◌, ◌^◌, ◌<◌, ◌≤◌, ◌==◌, if◌then◌else◌, List, map, Option, None, Some}
use Rattle.std.specs.List.{AllByRecursion, find}
use Rattle.std.specs.List.Sorted.{IsStrictlySortedBy, IsPartitionPoint}
use Rattle.std.specs.Ordering.{nat_cmp}
use Rattle.mail_message.specs.declared.message.Row.{Row}

-- the rows stand in strictly rising order of UID
abbrev pub AreRising : List Row → Type 0
AreRising rows = IsStrictlySortedBy nat_cmp (map (λ row. row.uid) rows)

-- UIDNEXT above a UID has 32 bits too (RFC 9051, 2.3.1.1)
abbrev pub HasNext : ℕ → Type 0
HasNext uid = uid + 1 < 2 ^ 32

-- above the UID of each row there is a UIDNEXT
abbrev pub HaveNext : List Row → Type 0
HaveNext rows = AllByRecursion (λ row. HasNext row.uid) rows

-- rows that rise below a UIDNEXT, so that each has a number of 32 bits (RFC 9051, 2.3.1.2 and 9: nz-number)
pub record AreOrdered (rows : List Row) : Type 0 where
  pub rising : AreRising rows
  pub next : HaveNext rows

-- a UID is higher than that of each row
abbrev pub IsAbove : List Row → ℕ → Type 0
IsAbove rows uid = AllByRecursion (λ row. row.uid < uid) rows

abbrev pub is_row_of : ℕ → Row → Bool
is_row_of uid row = row.uid == uid

-- the row with a UID, if it is there
abbrev pub row_at : List Row → ℕ → Option Row
row_at rows uid = find (is_row_of uid) rows

-- a row, if it has the UID
abbrev pub if_row_of : ℕ → Option Row → Option Row
if_row_of uid None = None
if_row_of uid (Some row) = if is_row_of uid row then Some row else None

-- a place, if a row has the UID
abbrev pub place_if_row_of : ℕ → ℕ → Option Row → Option ℕ
place_if_row_of uid place None = None
place_if_row_of uid place (Some row) = if is_row_of uid row then Some place else None

-- so many rows have a lower UID, and the others none
abbrev pub IsPlace : List Row → ℕ → ℕ → Type 0
IsPlace rows uid place = IsPartitionPoint (λ row. row.uid < uid) (λ row. uid ≤ row.uid) rows place
