-- The rows of a view rise by UID, before its news and behind them.
use Rattle.std.proofs.Common.{◌≡◌, ℕ, ◌<◌, nat_lt, Bool, true, false, cond, List, [], ◌∷◌, ◌++◌, filter, Decides, refl, ap, ◌∙◌, sym, subst, arith}
use Rattle.std.specs.List.{AllByRecursion}
use Rattle.std.specs.List.Sorted.{IsStrictlySortedBy}
use Rattle.std.specs.Ordering.{nat_cmp}
use Rattle.std.specs.declared.cmp.Ordering.TheVariants.{Less}
use Rattle.std.specs.Cmp.{first_so, second_so}
use Rattle.std.proofs.lemmas.Bool.{ltb-true}
use Rattle.std.proofs.lemmas.Bool.Decides.{nat_tests}
use Rattle.std.proofs.lemmas.List.{map-append}
use Rattle.mail_message.specs.declared.message.Row.{Row}
use Rattle.mail_message.specs.RowOrder.{AreRising, HasNext, HaveNext, IsAbove}
use Rattle.mail_message.proofs.NextRows.{next-both, next-some}
use Rattle.mur_model.specs.ClientView.{uids}
use Rattle.mur_model.specs.News.{rows_behind, fresh_rows, is_above}
use Rattle.mur_model.proofs.ClientLaw.{fresh_uids}

-- ---- some of rising rows

abbrev Below : ℕ → List Row → Type 0
Below uid rows = AllByRecursion (λ other. nat_cmp uid other ≡ Less) (uids rows)

less_filter : (k : ℕ) (test : Row → Bool) (rows : List Row) → Below k rows → Below k (filter test rows)
less_filter k test [] all = tt
less_filter k test (row ∷ rows) all = by (test row) (less_filter k test rows all.1)
  where
    by : (there : Bool) → Below k (filter test rows) → Below k (cond there (row ∷ filter test rows) (filter test rows))
    by true rest = (all.0, rest)
    by false rest = rest

pub rising-some : (test : Row → Bool) (rows : List Row) → AreRising rows → AreRising (filter test rows)
unfolding IsStrictlySortedBy
rising-some test [] rising = tt
rising-some test (row ∷ rows) rising = by (test row) (rising-some test rows rising.1)
  where
    by : (there : Bool) → AreRising (filter test rows) → AreRising (cond there (row ∷ filter test rows) (filter test rows))
    by true rest = (less_filter row.uid test rows rising.0, rest)
    by false rest = rest

-- ---- rows behind others

above_is : (rows : List Row) (uid : ℕ) → is_above rows uid ≡ true → IsAbove rows uid
above_is [] uid above = tt
above_is (row ∷ rows) uid above =
    let lower = nat_lt row.uid uid in
    (ltb-true row.uid uid (first_so lower (is_above rows uid) above), above_is rows uid (second_so lower (is_above rows uid) above))

is_above_of : (rows : List Row) (uid : ℕ) → IsAbove rows uid → is_above rows uid ≡ true
is_above_of [] uid above = refl
is_above_of (row ∷ rows) uid above = let lt : nat_lt row.uid uid ≡ true = grind (arith, nat_tests, above.0) in rw lt (is_above_of rows uid above.1)

pub above_decides : (rows : List Row) (uid : ℕ) → Decides (is_above rows uid) (IsAbove rows uid)
above_decides rows uid = (above_is rows uid, is_above_of rows uid)

behind_above : (rows now : List Row) → AllByRecursion (λ row. IsAbove rows row.uid) (rows_behind rows now)
behind_above rows [] = tt
behind_above rows (row ∷ now) = by (is_above rows row.uid) refl (behind_above rows now)
  where
    by : (behind : Bool) → is_above rows row.uid ≡ behind → AllByRecursion (λ row. IsAbove rows row.uid) (rows_behind rows now)
        → AllByRecursion (λ row. IsAbove rows row.uid) (cond behind (row ∷ rows_behind rows now) (rows_behind rows now))
    by true is rest = (above_is rows row.uid is, rest)
    by false is rest = rest

firsts : (row : Row) (rows more : List Row) → AllByRecursion (λ other. IsAbove (row ∷ rows) other.uid) more → AllByRecursion (λ other. row.uid < other.uid) more
firsts row rows [] above = tt
firsts row rows (other ∷ more) above = (above.0.0, firsts row rows more above.1)

others : (row : Row) (rows more : List Row) → AllByRecursion (λ other. IsAbove (row ∷ rows) other.uid) more
    → AllByRecursion (λ other. IsAbove rows other.uid) more
others row rows [] above = tt
others row rows (other ∷ more) above = (above.0.1, others row rows more above.1)

less_more : (k : ℕ) (rows more : List Row) → Below k rows → AllByRecursion (λ other. k < other.uid) more → Below k (rows ++ more)
less_more k [] [] all above = tt
less_more k [] (other ∷ more) all above = (grind (arith, nat_tests, above.0), less_more k [] more all above.1)
less_more k (row ∷ rows) more all above = (all.0, less_more k rows more all.1 above)

rising_both : (rows more : List Row) → AreRising rows → AreRising more → AllByRecursion (λ other. IsAbove rows other.uid) more → AreRising (rows ++ more)
unfolding IsStrictlySortedBy
rising_both [] more rising rises above = rises
rising_both (row ∷ rows) more rising rises above =
    (less_more row.uid rows more rising.0 (firsts row rows more above), rising_both rows more rising.1 rises (others row rows more above))

-- the news changes no UID of a view
view_uids : (rows now : List Row) → uids (fresh_rows now rows ++ rows_behind rows now) ≡ uids (rows ++ rows_behind rows now)
view_uids rows now =
    let uid_of = λ (row : Row). row.uid in
    map-append uid_of (fresh_rows now rows) (rows_behind rows now) ∙ ap (λ list. list ++ uids (rows_behind rows now)) (fresh_uids now rows)
    ∙ sym (map-append uid_of rows (rows_behind rows now))

-- the rows of a view behind its news
pub rising-view : (rows now : List Row) → AreRising rows → AreRising now → AreRising (fresh_rows now rows ++ rows_behind rows now)
rising-view rows now rising rises =
    let both = rising_both rows (rows_behind rows now) rising (rising-some (λ row. is_above rows row.uid) now rises) (behind_above rows now) in
    subst (IsStrictlySortedBy nat_cmp) (sym (view_uids rows now)) both

next_uids : (rows : List Row) → HaveNext rows → AllByRecursion HasNext (uids rows)
next_uids [] next = tt
next_uids (row ∷ rows) next = (next.0, next_uids rows next.1)

uids_next : (rows : List Row) → AllByRecursion HasNext (uids rows) → HaveNext rows
uids_next [] next = tt
uids_next (row ∷ rows) next = (next.0, uids_next rows next.1)

-- they stand below a UIDNEXT
pub next-view : (rows now : List Row) → HaveNext rows → HaveNext now → HaveNext (fresh_rows now rows ++ rows_behind rows now)
next-view rows now next nexts =
    let behind = rows_behind rows now in
    let both = next-both rows behind next (next-some (λ row. is_above rows row.uid) now nexts) in
    uids_next (fresh_rows now rows ++ behind) (subst (AllByRecursion HasNext) (sym (view_uids rows now)) (next_uids (rows ++ behind) both))
