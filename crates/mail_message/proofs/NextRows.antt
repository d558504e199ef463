-- Rows below a UIDNEXT: 32 bits number those that rise.
use Rattle.std.proofs.Common.{◌≡◌, ℕ, suc, ◌+◌, ◌<◌, ◌≤◌, ◌^◌, Bool, true, false, cond, List, [], ◌∷◌, ◌++◌, map, length, filter, arith}
use Rattle.std.specs.List.{AllByRecursion}
use Rattle.std.specs.List.Sorted.{IsStrictlySortedBy}
use Rattle.std.specs.declared.cmp.Ordering.TheVariants.{Less}
use Rattle.std.specs.Ordering.{nat_cmp}
use Rattle.mail_message.specs.declared.message.Row.{Row}
use Rattle.mail_message.specs.RowOrder.{AreRising, HasNext, HaveNext}
use Rattle.mail_message.proofs.SlotLaws.{below}

-- the next of rows, behind those before it
pub next-middle : (rows rest : List Row) (row : Row) → HaveNext (rows ++ row ∷ rest) → HasNext row.uid
next-middle [] rest row next = next.0
next-middle (other ∷ rows) rest row next = next-middle rows rest row next.1

pub next-more : (rows : List Row) (row : Row) → HaveNext rows → HasNext row.uid → HaveNext (rows ++ row ∷ [])
next-more [] row next has = (has, tt)
next-more (other ∷ rows) row next has = (next.0, next-more rows row next.1 has)

pub next-both : (rows more : List Row) → HaveNext rows → HaveNext more → HaveNext (rows ++ more)
next-both [] more next behind = behind
next-both (row ∷ rows) more next behind = (next.0, next-both rows more next.1 behind)

pub next-some : (test : Row → Bool) (rows : List Row) → HaveNext rows → HaveNext (filter test rows)
next-some test [] next = tt
next-some test (row ∷ rows) next = by (test row) (next-some test rows next.1)
  where
    by : (there : Bool) → HaveNext (filter test rows) → HaveNext (cond there (row ∷ filter test rows) (filter test rows))
    by true rest = (next.0, rest)
    by false rest = rest

-- ---- numbers

above_all : (k : ℕ) (rows : List Row) → AllByRecursion (λ q. nat_cmp k q ≡ Less) (map (λ row. row.uid) rows) → AllByRecursion (λ row. suc k ≤ row.uid) rows
above_all k [] all = tt
above_all k (row ∷ rows) all = (omega (arith, below k row.uid all.0), above_all k rows all.1)

-- so many rows rise from one number below another
fits : (low : ℕ) (rows : List Row) → low < 2 ^ 32 → AreRising rows → AllByRecursion (λ row. low ≤ row.uid) rows → HaveNext rows → length rows + low < 2 ^ 32
unfolding IsStrictlySortedBy
fits low [] room rising from next = omega (arith, room)
fits low (row ∷ rows) room rising from next =
    omega (arith, from.0, fits (suc row.uid) rows (omega (arith, next.0)) rising.1 (above_all row.uid rows rising.0) next.1)

from_none : (rows : List Row) → AllByRecursion (λ row. 0 ≤ row.uid) rows
from_none [] = tt
from_none (row ∷ rows) = (omega arith, from_none rows)

pub numbered : (rows : List Row) → AreRising rows → HaveNext rows → length rows < 2 ^ 32
numbered rows rising next = omega (arith, fits 0 rows (omega arith) rising (from_none rows) next)
