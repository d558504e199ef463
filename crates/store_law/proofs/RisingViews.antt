-- The rows of a view stand in rising order of UID, behind its news too.
use Rattle.std.proofs.Common.{◌≡◌, ℕ, ◌+◌, ◌≤◌, nat_lt, Bool, true, false, ◌&&◌, cond, List, [], ◌∷◌, ◌++◌, map, Option, None, Some, refl, sym, subst, arith}
use Rattle.std.specs.Prelude.{⊤, IfSome}
use Rattle.std.specs.List.{AllByRecursion, filter}
use Rattle.std.proofs.lemmas.Bool.Decides.{nat_tests}
use Rattle.mail_message.specs.Boxes.{Content, row_of}
use Rattle.mail_message.specs.RowOrder.{row_at}
use Rattle.mail_message.specs.declared.message.Message.{Message}
use Rattle.mail_message.specs.declared.message.Row.{Row}
use Rattle.mur_model.specs.News.{fresh_row, fresh_rows, has_row, is_above, news, rows_behind, rows_there}
use Rattle.mur_model.specs.Selected.{rows_of}
use Rattle.store_law.proofs.MirrorNews.{found_uid}
use Rattle.store_law.proofs.RisingStores.{Rises, RisesTo}

-- UIDs rise strictly from one on
abbrev pub RowsRise : ℕ → List Row → Type 0
RowsRise low [] = ⊤
RowsRise low (row ∷ rows) = (low ≤ row.uid) × RowsRise (row.uid + 1) rows

messages_rise : (low : ℕ) (messages : List Message) (next : ℕ) → RisesTo low messages next → RowsRise low (map row_of messages)
messages_rise low [] next rises = tt
messages_rise low (message ∷ messages) next rises = (rises.0, messages_rise (message.uid + 1) messages next rises.1)

pub rows_rise : (box : Content) → Rises box → RowsRise 0 (rows_of box)
rows_rise box rises = messages_rise 0 box.messages box.next rises

lower_rise : (lower low : ℕ) (rows : List Row) → lower ≤ low → RowsRise low rows → RowsRise lower rows
lower_rise lower low [] le rises = tt
lower_rise lower low (row ∷ rows) le rises = (omega (arith, le, rises.0), rises.1)

some_by : (low : ℕ) (row : Row) (rows : List Row) (is : Bool) → low ≤ row.uid → RowsRise (row.uid + 1) rows → RowsRise low (cond is (row ∷ rows) rows)
some_by low row rows true le rises = (le, rises)
some_by low row rows false le rises = lower_rise low (row.uid + 1) rows (omega (arith, le)) rises

some_rise : (low : ℕ) (test : Row → Bool) (rows : List Row) → RowsRise low rows → RowsRise low (filter test rows)
some_rise low test [] rises = tt
some_rise low test (row ∷ rows) rises = some_by low row (filter test rows) (test row) rises.0 (some_rise (row.uid + 1) test rows rises.1)

-- ---- rows behind others

all_so : (P Q : Row → Type 0) (rows : List Row) → ((row : Row) → P row → Q row) → AllByRecursion P rows → AllByRecursion Q rows
all_so P Q [] so all = tt
all_so P Q (row ∷ rows) so all = (so row all.0, all_so P Q rows so all.1)

first_true : (a b : Bool) → (a && b) ≡ true → a ≡ true
first_true true b is = refl
first_true false b is = is

second_true : (a b : Bool) → (a && b) ≡ true → b ≡ true
second_true true b is = is
second_true false b is = cc

abbrev AreAbove : List Row → List Row → Type 0
AreAbove rows more = AllByRecursion (λ (other : Row). is_above rows other.uid ≡ true) more

from_first : (low : ℕ) (more : List Row) → RowsRise 0 more → AllByRecursion (λ (other : Row). low ≤ other.uid) more → RowsRise low more
from_first low [] rises above = tt
from_first low (row ∷ more) rises above = (above.0, rises.1)

both_rise : (low : ℕ) (rows more : List Row) → RowsRise low rows → RowsRise 0 more → AllByRecursion (λ (other : Row). low ≤ other.uid) more
    → AreAbove rows more → RowsRise low (rows ++ more)
both_rise low [] more rises behind above over = from_first low more behind above
both_rise low (row ∷ rows) more rises behind above over = (
  rises.0,
  both_rise (row.uid + 1) rows more rises.1 behind
      (all_so (λ (other : Row). is_above (row ∷ rows) other.uid ≡ true) (λ (other : Row). row.uid + 1 ≤ other.uid) more
      (λ other is. (let lt : nat_lt row.uid other.uid ≡ true = first_true (nat_lt row.uid other.uid) (is_above rows other.uid) is in
      grind (arith, nat_tests, lt))) over)
      (all_so (λ (other : Row). is_above (row ∷ rows) other.uid ≡ true) (λ (other : Row). is_above rows other.uid ≡ true) more
      (λ other is. second_true (nat_lt row.uid other.uid) (is_above rows other.uid) is) over),
)

behind_by : (rows : List Row) (row : Row) (more : List Row) (is : Bool) → is_above rows row.uid ≡ is → AreAbove rows more
    → AreAbove rows (cond is (row ∷ more) more)
behind_by rows row more true e over = (e, over)
behind_by rows row more false e over = over

behind_above : (rows now : List Row) → AreAbove rows (rows_behind rows now)
behind_above rows [] = tt
behind_above rows (row ∷ now) = behind_by rows row (rows_behind rows now) (is_above rows row.uid) refl (behind_above rows now)

none_below : (more : List Row) → AllByRecursion (λ (other : Row). 0 ≤ other.uid) more
none_below [] = tt
none_below (row ∷ more) = (omega arith, none_below more)

-- ---- the news

pub fresh_uid : (row : Row) (it : Option Row) → IfSome it (λ (r : Row). r.uid ≡ row.uid) → (fresh_row row it).uid ≡ row.uid
fresh_uid row None is = refl
fresh_uid row (Some it) is = is

fresh_rise : (now : List Row) (low : ℕ) (rows more : List Row) → RowsRise low (rows ++ more) → RowsRise low (fresh_rows now rows ++ more)
fresh_rise now low [] more rises = rises
fresh_rise now low (row ∷ rows) more rises =
    let same : (fresh_row row (row_at now row.uid)).uid ≡ row.uid = fresh_uid row (row_at now row.uid) (found_uid now row.uid) in (
      subst (λ n. low ≤ n) (sym same) rises.0,
      subst (λ n. RowsRise (n + 1) (fresh_rows now rows ++ more)) (sym same) (fresh_rise now (row.uid + 1) rows more rises.1),
    )

told_rise : (rows now : List Row) → RowsRise 0 rows → RowsRise 0 now → RowsRise 0 (fresh_rows now rows ++ rows_behind rows now)
told_rise rows now rises rise =
    fresh_rise now 0 rows (rows_behind rows now)
    (both_rise 0 rows (rows_behind rows now) rises (some_rise 0 (λ row. is_above rows row.uid) now rise) (none_below (rows_behind rows now))
    (behind_above rows now))

pub news_rise : (rows now : List Row) (expunges : Bool) (told : List ℕ) → RowsRise 0 rows → RowsRise 0 now → RowsRise 0 (news rows now expunges told).rows
unfolding news
news_rise rows now true told rises rise = told_rise (rows_there now rows) now (some_rise 0 (λ row. has_row now row.uid) rows rises) rise
news_rise rows now false told rises rise = told_rise rows now rises rise
