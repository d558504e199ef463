-- Rows with other rows put in their places.
use Rattle.std.proofs.Common.{◌≡◌, ℕ, ◌<◌, Bool, true, false, cond, ◌==◌, List, [], ◌∷◌, Option, Some, None, refl, sym, ◌∙◌, ap, subst, arith}
use Rattle.std.specs.List.{fold}
use Rattle.std.specs.List.Sorted.{IsStrictlySortedBy}
use Rattle.std.specs.declared.cmp.Ordering.{Ordering}
use Rattle.std.specs.declared.cmp.Ordering.TheVariants.{Less, Equal, Greater}
use Rattle.std.specs.Ordering.{nat_cmp, match_ordering}
use Rattle.std.proofs.lemmas.Bool.Decides.{nat_tests}
use Rattle.mail_message.specs.declared.message.Row.{Row}
use Rattle.mail_message.specs.RowOrder.{AreRising, row_at}
use Rattle.mail_delta.specs.Deltas.{with_row}
use Rattle.mail_delta.proofs.Keyed.{less, below, above, equal, itself, same_number, AreAbove, none-above, lower-above}

abbrev pub uid_of : Row → ℕ
uid_of row = row.uid

-- ---- what is found

here_by : (row other : Row) (rows others : List Row) → row_at others row.uid ≡ Some row → (o : Ordering) → nat_cmp row.uid other.uid ≡ o
    → row_at (match_ordering o (row ∷ other ∷ rows) (row ∷ rows) (other ∷ others)) row.uid ≡ Some row
here_by row other rows others ih Less h = rw (itself row.uid) refl
here_by row other rows others ih Equal h = rw (itself row.uid) refl
here_by row other rows others ih Greater h =
    let lt = above row.uid other.uid h in
    let apart : (other.uid == row.uid) ≡ false = grind (arith, nat_tests, lt) in rw apart ih

pub row_at-with_row : (rows : List Row) (row : Row) → row_at (with_row rows row) row.uid ≡ Some row
row_at-with_row [] row = rw (itself row.uid) refl
row_at-with_row (other ∷ rows) row = here_by row other rows (with_row rows row) (row_at-with_row rows row) (nat_cmp row.uid other.uid) refl

other_by : (row other : Row) (rows others : List Row) (k : ℕ) → (row.uid == k) ≡ false → row_at others k ≡ row_at rows k
    → (o : Ordering) → nat_cmp row.uid other.uid ≡ o
    → row_at (match_ordering o (row ∷ other ∷ rows) (row ∷ rows) (other ∷ others)) k ≡ row_at (other ∷ rows) k
other_by row other rows others k ne ih Less h = rw ne refl
other_by row other rows others k ne ih Equal h =
    let apart : (other.uid == k) ≡ false = subst (λ n. (n == k) ≡ false) (equal row.uid other.uid h) ne in rw (ne, apart) refl
other_by row other rows others k ne ih Greater h = ap (λ found. cond (other.uid == k) (Some other) found) ih

pub row_at-with_row-other : (rows : List Row) (row : Row) (k : ℕ) → (row.uid == k) ≡ false → row_at (with_row rows row) k ≡ row_at rows k
row_at-with_row-other [] row k ne = rw ne refl
row_at-with_row-other (other ∷ rows) row k ne =
    other_by row other rows (with_row rows row) k ne (row_at-with_row-other rows row k ne) (nat_cmp row.uid other.uid) refl

-- ---- the order

above_by : (j : ℕ) (row other : Row) (rows others : List Row) → j < row.uid → AreAbove uid_of j (other ∷ rows) → AreAbove uid_of j others
    → (o : Ordering) → AreAbove uid_of j (match_ordering o (row ∷ other ∷ rows) (row ∷ rows) (other ∷ others))
above_by j row other rows others lt all ih Less = (less j row.uid lt, all)
above_by j row other rows others lt all ih Equal = (less j row.uid lt, all.1)
above_by j row other rows others lt all ih Greater = (all.0, ih)

above-with_row : (j : ℕ) (rows : List Row) (row : Row) → j < row.uid → AreAbove uid_of j rows → AreAbove uid_of j (with_row rows row)
above-with_row j [] row lt all = (less j row.uid lt, tt)
above-with_row j (other ∷ rows) row lt all =
    above_by j row other rows (with_row rows row) lt all (above-with_row j rows row lt all.1) (nat_cmp row.uid other.uid)

rising_by : (row other : Row) (rows : List Row) → AreAbove uid_of other.uid rows → AreRising rows → AreRising (with_row rows row)
    → (o : Ordering) → nat_cmp row.uid other.uid ≡ o
    → AreRising (match_ordering o (row ∷ other ∷ rows) (row ∷ rows) (other ∷ with_row rows row))
unfolding IsStrictlySortedBy
rising_by row other rows all rising ih Less h =
    ((h, lower-above uid_of row.uid other.uid rows (below row.uid other.uid h) all), (all, rising))
rising_by row other rows all rising ih Equal h = (subst (λ n. AreAbove uid_of n rows) (sym (equal row.uid other.uid h)) all, rising)
rising_by row other rows all rising ih Greater h = (above-with_row other.uid rows row (above row.uid other.uid h) all, ih)

pub rising-with_row : (rows : List Row) (row : Row) → AreRising rows → AreRising (with_row rows row)
unfolding IsStrictlySortedBy
rising-with_row [] row rising = (tt, tt)
rising-with_row (other ∷ rows) row rising =
    rising_by row other rows rising.0 rising.1 (rising-with_row rows row rising.1) (nat_cmp row.uid other.uid) refl

pub rising-with_rows : (rows changed : List Row) → AreRising rows → AreRising (fold with_row rows changed)
rising-with_rows rows [] rising = rising
rising-with_rows rows (row ∷ changed) rising = rising-with_rows (with_row rows row) changed (rising-with_row rows row rising)

-- ---- rising rows put in their places

-- the later row, or the one before if there is none
abbrev pub or_before : Option Row → Option Row → Option Row
or_before None was = was
or_before (Some row) was = Some row

put_by : (row : Row) (rows changed : List Row) (k : ℕ) → AreAbove uid_of row.uid changed
    → row_at (fold with_row (with_row rows row) changed) k ≡ or_before (row_at changed k) (row_at (with_row rows row) k)
    → (b : Bool) → (row.uid == k) ≡ b
    → row_at (fold with_row (with_row rows row) changed) k ≡ or_before (cond b (Some row) (row_at changed k)) (row_at rows k)
put_by row rows changed k all ih true h =
    let same = same_number row.uid k h in
    let none : row_at changed k ≡ None = none-above uid_of k row.uid changed all (omega (arith, same)) in
    let here : row_at (with_row rows row) k ≡ Some row = subst (λ n. row_at (with_row rows row) n ≡ Some row) same (row_at-with_row rows row) in
    ih ∙ ap (λ found. or_before found (row_at (with_row rows row) k)) none ∙ here
put_by row rows changed k all ih false h = ih ∙ ap (or_before (row_at changed k)) (row_at-with_row-other rows row k h)

pub row_at-with_rows : (rows changed : List Row) (k : ℕ) → AreRising changed
    → row_at (fold with_row rows changed) k ≡ or_before (row_at changed k) (row_at rows k)
unfolding IsStrictlySortedBy
row_at-with_rows rows [] k rising = refl
row_at-with_rows rows (row ∷ changed) k rising =
    put_by row rows changed k rising.0 (row_at-with_rows (with_row rows row) changed k rising.1) (row.uid == k) refl

pub rising-none : AreRising []
unfolding IsStrictlySortedBy
rising-none = tt
