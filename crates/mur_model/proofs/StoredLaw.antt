-- The lines of a STORE are the same by its view and by its changes, which both rise by UID.
use Rattle.std.proofs.Common.{◌≡◌, ℕ, ◌+◌, ◌<◌, nat_eq, nat_lt, Bool, true, false, List, [], ◌∷◌, ◌++◌, None, Some, refl, ap, ◌∙◌, sym, arith}
use Rattle.std.specs.List.{AllByRecursion, position_from}
use Rattle.std.specs.List.Sorted.{IsStrictlySortedBy}
use Rattle.std.specs.Ordering.{nat_cmp}
use Rattle.std.specs.declared.cmp.Ordering.TheVariants.{Less}
use Rattle.std.proofs.lemmas.Bool.Decides.{nat_tests}
use Rattle.mail_message.specs.declared.message.Row.{Row}
use Rattle.mail_message.specs.RowOrder.{AreRising, is_row_of, row_at}
use Rattle.mur_model.specs.ClientView.{uids}
use Rattle.mur_model.specs.StoreFlags.{stored_line, stored_lines}
use Rattle.mur_model.specs.StoredLines.{placed_line, placed_lines}

abbrev Below : ℕ → List Row → Type 0
Below uid rows = AllByRecursion (λ other. nat_cmp uid other ≡ Less) (uids rows)

less : (a b : ℕ) → nat_cmp a b ≡ Less → a < b
less a b is = grind (arith, nat_tests, is)

below_lower : (k j : ℕ) (rows : List Row) → k < j → Below j rows → Below k rows
below_lower k j [] lt all = tt
below_lower k j (row ∷ rows) lt all =
    let next = less j row.uid all.0 in
    let first : nat_cmp k row.uid ≡ Less = grind (arith, nat_tests, lt, next) in (first, below_lower k j rows lt all.1)

-- ---- a UID below all of some rows is that of none

none_at : (uid : ℕ) (rows : List Row) → Below uid rows → row_at rows uid ≡ None
none_at uid [] all = refl
none_at uid (row ∷ rows) all =
    let lt = less uid row.uid all.0 in
    let apart : nat_eq row.uid uid ≡ false = grind (arith, nat_tests, lt) in rw apart (none_at uid rows all.1)

no_place : (uid before : ℕ) (rows : List Row) → Below uid rows → position_from (is_row_of uid) before rows ≡ None
no_place uid before [] all = refl
no_place uid before (row ∷ rows) all =
    let lt = less uid row.uid all.0 in
    let apart : nat_eq row.uid uid ≡ false = grind (arith, nat_tests, lt) in rw apart (no_place uid (before + 1) rows all.1)

-- ---- one row or one change less

-- a change below all rows is that of none
without_change : (by_uid : Bool) (change : Row) (changes : List Row) (n : ℕ) (rows : List Row) → Below change.uid rows
    → stored_lines by_uid (change ∷ changes) n rows ≡ stored_lines by_uid changes n rows
without_change by_uid change changes n [] all = refl
without_change by_uid change changes n (row ∷ rows) all =
    let lt = less change.uid row.uid all.0 in
    let apart : nat_eq change.uid row.uid ≡ false = grind (arith, nat_tests, lt) in
    rw apart (ap (λ more. stored_line by_uid n (row_at changes row.uid) ++ more) (without_change by_uid change changes (n + 1) rows all.1))

-- a row below all changes has no line
without_row : (by_uid : Bool) (before : ℕ) (row : Row) (rows changes : List Row) → Below row.uid changes
    → placed_lines by_uid before (row ∷ rows) changes ≡ placed_lines by_uid (before + 1) rows changes
without_row by_uid before row rows [] all = refl
without_row by_uid before row rows (change ∷ changes) all =
    let lt = less row.uid change.uid all.0 in
    let apart : nat_eq row.uid change.uid ≡ false = grind (arith, nat_tests, lt) in
    rw apart
    (ap (λ more. placed_line by_uid (position_from (is_row_of change.uid) (before + 1) rows) change ++ more)
    (without_row by_uid before row rows changes all.1))

no_changes : (by_uid : Bool) (n : ℕ) (rows : List Row) → stored_lines by_uid [] n rows ≡ []
no_changes by_uid n [] = refl
no_changes by_uid n (row ∷ rows) = no_changes by_uid (n + 1) rows

no_rows : (by_uid : Bool) (before : ℕ) (changes : List Row) → placed_lines by_uid before [] changes ≡ []
no_rows by_uid before [] = refl
no_rows by_uid before (change ∷ changes) = no_rows by_uid before changes

-- ---- both

abbrev Same : Bool → ℕ → List Row → List Row → Type 0
Same by_uid before rows changes = stored_lines by_uid changes (before + 1) rows ≡ placed_lines by_uid before rows changes

-- a row above the next change
row_above : (by_uid : Bool) (before : ℕ) (row change : Row) (rows changes : List Row) → Below change.uid (row ∷ rows)
    → Same by_uid before (row ∷ rows) changes → Same by_uid before (row ∷ rows) (change ∷ changes)
row_above by_uid before row change rows changes all same =
    without_change by_uid change changes (before + 1) (row ∷ rows) all ∙ (rw (no_place change.uid before (row ∷ rows) all) same)

-- the row of the next change
row_of_it : (by_uid : Bool) (before : ℕ) (row change : Row) (rows changes : List Row) → nat_eq change.uid row.uid ≡ true → nat_eq row.uid change.uid ≡ true
    → Below change.uid rows → Below row.uid changes
    → Same by_uid (before + 1) rows changes → Same by_uid before (row ∷ rows) (change ∷ changes)
row_of_it by_uid before row change rows changes is si all others same =
    rw (is, si)
    (ap (λ more. stored_line by_uid (before + 1) (Some change) ++ more)
    (without_change by_uid change changes ((before + 1) + 1) rows all ∙ same ∙ sym (without_row by_uid before row rows changes others)))

-- a row below the next change
row_below : (by_uid : Bool) (before : ℕ) (row : Row) (rows changes : List Row) → Below row.uid changes
    → Same by_uid (before + 1) rows changes → Same by_uid before (row ∷ rows) changes
row_below by_uid before row rows changes all same = rw (none_at row.uid changes all) (same ∙ sym (without_row by_uid before row rows changes all))

step : (by_uid : Bool) (before : ℕ) (row : Row) (rows : List Row) → AreRising (row ∷ rows)
    → ((changes : List Row) → AreRising changes → Same by_uid (before + 1) rows changes)
    → (changes : List Row) → AreRising changes → Same by_uid before (row ∷ rows) changes
unfolding IsStrictlySortedBy
step by_uid before row rows rising same [] rises = no_changes by_uid (before + 1) (row ∷ rows)
step by_uid before row rows rising same (change ∷ changes) rises =
    by (nat_lt change.uid row.uid) (nat_eq change.uid row.uid) refl refl (step by_uid before row rows rising same changes rises.1)
  where
    by : (lower is : Bool) → nat_lt change.uid row.uid ≡ lower → nat_eq change.uid row.uid ≡ is
        → Same by_uid before (row ∷ rows) changes → Same by_uid before (row ∷ rows) (change ∷ changes)
    by true is lt e rest =
        let below : change.uid < row.uid = grind (arith, nat_tests, lt) in
        let first : nat_cmp change.uid row.uid ≡ Less = grind (arith, nat_tests, below) in
        row_above by_uid before row change rows changes (first, below_lower change.uid row.uid rows below rising.0) rest
    by false true lt e rest =
        let equal : change.uid ≡ row.uid = grind (arith, nat_tests, e) in
        let back : nat_eq row.uid change.uid ≡ true = grind (arith, nat_tests, e) in
        row_of_it by_uid before row change rows changes e back (rw equal rising.0) (rw (sym equal) rises.0) (same changes rises.1)
    by false false lt e rest =
        let below : row.uid < change.uid = grind (arith, nat_tests, lt, e) in
        let first : nat_cmp row.uid change.uid ≡ Less = grind (arith, nat_tests, below) in
        row_below by_uid before row rows (change ∷ changes) (first, below_lower row.uid change.uid changes below rises.0) (same (change ∷ changes) rises)

both : (by_uid : Bool) (before : ℕ) (rows : List Row) → AreRising rows → (changes : List Row) → AreRising changes → Same by_uid before rows changes
unfolding IsStrictlySortedBy
both by_uid before [] rising changes rises = sym (no_rows by_uid before changes)
both by_uid before (row ∷ rows) rising changes rises = step by_uid before row rows rising (both by_uid (before + 1) rows rising.1) changes rises

pub lines_by_change : (by_uid : Bool) (rows changes : List Row) → AreRising rows → AreRising changes
    → placed_lines by_uid 0 rows changes ≡ stored_lines by_uid changes 1 rows
lines_by_change by_uid rows changes rising rises = sym (both by_uid 0 rows rising changes rises)
