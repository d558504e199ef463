-- Where all messages of a view are in place, the mailbox's rows are the view behind its news.
use Rattle.std.proofs.Common.{◌≡◌, ℕ, zero, suc, ◌+◌, ◌-◌, ◌<◌, nat_eq, nat_lt, Bool, true, false, ◌&&◌, List, [], ◌∷◌, ◌++◌, length}
use Rattle.std.proofs.Common.{take, drop, filter, Some, refl, ap, sym, subst, append_assoc, length-drop, arith}
use Rattle.std.specs.Prelude.{⊤}
use Rattle.std.specs.List.{AllByRecursion}
use Rattle.std.specs.List.Sorted.{IsStrictlySortedBy}
use Rattle.std.specs.Ordering.{nat_cmp}
use Rattle.std.specs.declared.cmp.Ordering.TheVariants.{Less}
use Rattle.std.specs.Cmp.{first_so, second_so}
use Rattle.std.proofs.lemmas.Bool.{false≢true}
use Rattle.std.proofs.lemmas.Bool.Decides.{nat_tests}
use Rattle.std.proofs.lemmas.List.{take-append-drop}
use Rattle.mail_message.specs.declared.message.Row.{Row}
use Rattle.mail_message.specs.RowOrder.{AreRising, row_at}
use Rattle.imap_types.specs.declared.reply.ReplyLine.{ReplyLine}
use Rattle.mur_model.specs.ClientView.{uids}
use Rattle.mur_model.specs.declared.news.Told.{Told}
use Rattle.mur_model.specs.News.{told_of, is_among, is_above, exists_lines, rows_behind, fresh_rows, changed_lines, changed_line}

-- each message of a view has its number in the mailbox too
abbrev pub are_in_place : List Row → List Row → Bool
are_in_place [] now = true
are_in_place (row ∷ rows) [] = false
are_in_place (row ∷ rows) (it ∷ now) = nat_eq it.uid row.uid && are_in_place rows now

-- a line for each that has other flags than were told
abbrev pub lines_in_place : List ℕ → ℕ → List Row → List Row → List ReplyLine
lines_in_place told number [] now = []
lines_in_place told number (row ∷ rows) [] = []
lines_in_place told number (row ∷ rows) (it ∷ now) =
    changed_line (is_among told row.uid) number row (Some it) ++ lines_in_place told (number + 1) rows now

-- the news of so many messages that are in place
abbrev pub told_in_place : ℕ → List Row → List ReplyLine → Told
told_in_place count now lines = record { lines = exists_lines count (length now - count) ++ lines; rows = now }

and_false : (b : Bool) → (b && false) ≡ false
and_false true = refl
and_false false = refl

-- ---- a row is found where it stands

abbrev pub Below : ℕ → List Row → Type 0
Below uid rows = AllByRecursion (λ other. nat_cmp uid other ≡ Less) (uids rows)

pub less : (a b : ℕ) → nat_cmp a b ≡ Less → a < b
less a b is = grind (arith, nat_tests, is)

lower : (k : ℕ) (front rest : List Row) (it : Row) → Below k (front ++ it ∷ rest) → k < it.uid
lower k [] rest it all = less k it.uid all.0
lower k (other ∷ front) rest it all = lower k front rest it all.1

pub found : (front rest : List Row) (it : Row) (uid : ℕ) → AreRising (front ++ it ∷ rest) → nat_eq it.uid uid ≡ true
    → row_at (front ++ it ∷ rest) uid ≡ Some it
unfolding IsStrictlySortedBy
found [] rest it uid rising is = rw is refl
found (other ∷ front) rest it uid rising is =
    let lt = lower other.uid front rest it rising.0 in
    let apart : nat_eq other.uid uid ≡ false = grind (arith, nat_tests, lt, is) in rw apart (found front rest it uid rising.1 is)

-- each row of a view is looked up as the one in its place
abbrev AreFound : List Row → List Row → List Row → Type 0
AreFound now [] its = ⊤
AreFound now (row ∷ rows) [] = ⊥
AreFound now (row ∷ rows) (it ∷ its) = (row_at now row.uid ≡ Some it) × AreFound now rows its

found_from : (front now rows : List Row) → AreRising (front ++ now) → are_in_place rows now ≡ true → AreFound (front ++ now) rows now
found_from front now [] rising is = tt
found_from front [] (row ∷ rows) rising is = absurd (false≢true is)
found_from front (it ∷ now) (row ∷ rows) rising is =
    let same = first_so (nat_eq it.uid row.uid) (are_in_place rows now) is in
    let more = second_so (nat_eq it.uid row.uid) (are_in_place rows now) is in
    let next : (front ++ it ∷ []) ++ now ≡ front ++ it ∷ now = append_assoc front (it ∷ []) now in (
      found front now it row.uid rising same,
      subst (λ (all : List Row). AreFound all rows now) next (found_from (front ++ it ∷ []) now rows (subst AreRising (sym next) rising) more),
    )

-- ---- what is told of rows in their places

lines_are : (now its : List Row) (told : List ℕ) (n : ℕ) (rows : List Row) → AreFound now rows its
    → changed_lines now told n rows ≡ lines_in_place told n rows its
lines_are now its told n [] at = refl
lines_are now [] told n (row ∷ rows) at = elim at [ ]
lines_are now (it ∷ its) told n (row ∷ rows) at =
    rw at.0 (ap (λ more. changed_line (is_among told row.uid) n row (Some it) ++ more) (lines_are now its told (n + 1) rows at.1))

fresh_are : (now its rows : List Row) → AreFound now rows its → fresh_rows now rows ≡ take (length rows) its
fresh_are now its [] at = refl
fresh_are now [] (row ∷ rows) at = elim at [ ]
fresh_are now (it ∷ its) (row ∷ rows) at = rw at.0 (ap (λ more. it ∷ more) (fresh_are now its rows at.1))

-- ---- the rows behind them

not_above : (front rest : List Row) (row : Row) (uid : ℕ) → nat_eq uid row.uid ≡ true → is_above (front ++ row ∷ rest) uid ≡ false
not_above [] rest row uid is = let no : nat_lt row.uid uid ≡ false = grind (arith, nat_tests, is) in rw no refl
not_above (other ∷ front) rest row uid is = rw (not_above front rest row uid is) (and_false (nat_lt other.uid uid))

abbrev AreAbove : List Row → List Row → Type 0
AreAbove rows more = AllByRecursion (λ it. is_above rows it.uid ≡ true) more

all_kept : (rows more : List Row) → AreAbove rows more → filter (λ it. is_above rows it.uid) more ≡ more
all_kept rows [] above = refl
all_kept rows (it ∷ more) above = rw above.0 (ap (λ list. it ∷ list) (all_kept rows more above.1))

behind_are : (front rows now : List Row) → are_in_place rows now ≡ true → AreAbove (front ++ rows) (drop (length rows) now)
    → rows_behind (front ++ rows) now ≡ drop (length rows) now
behind_are front [] now is above = all_kept (front ++ []) now above
behind_are front (row ∷ rows) [] is above = absurd (false≢true is)
behind_are front (row ∷ rows) (it ∷ now) is above =
    let same = first_so (nat_eq it.uid row.uid) (are_in_place rows now) is in
    let more = second_so (nat_eq it.uid row.uid) (are_in_place rows now) is in
    let next : (front ++ row ∷ []) ++ rows ≡ front ++ row ∷ rows = append_assoc front (row ∷ []) rows in
    rw (not_above front rows row it.uid same)
    (subst (λ (all : List Row). rows_behind all now ≡ drop (length rows) now) next
    (behind_are (front ++ row ∷ []) rows now more (subst (λ (all : List Row). AreAbove all (drop (length rows) now)) (sym next) above)))

below_drop : (k n : ℕ) (rows : List Row) → Below k rows → Below k (drop n rows)
below_drop k zero rows all = all
below_drop k (suc n) [] all = tt
below_drop k (suc n) (row ∷ rows) all = below_drop k n rows all.1

above_none : (more : List Row) → AreAbove [] more
above_none [] = tt
above_none (it ∷ more) = (refl, above_none more)

above_more : (k : ℕ) (row : Row) (rows more : List Row) → nat_eq k row.uid ≡ true → Below k more → AreAbove rows more → AreAbove (row ∷ rows) more
above_more k row rows [] same all above = tt
above_more k row rows (it ∷ more) same all above =
    let lt = less k it.uid all.0 in
    let first : nat_lt row.uid it.uid ≡ true = grind (arith, nat_tests, lt, same) in
    (rw first above.0, above_more k row rows more same all.1 above.1)

above_are : (rows now : List Row) → AreRising now → are_in_place rows now ≡ true → AreAbove rows (drop (length rows) now)
unfolding IsStrictlySortedBy
above_are [] now rising is = above_none now
above_are (row ∷ rows) [] rising is = absurd (false≢true is)
above_are (row ∷ rows) (it ∷ now) rising is =
    let same = first_so (nat_eq it.uid row.uid) (are_in_place rows now) is in
    let more = second_so (nat_eq it.uid row.uid) (are_in_place rows now) is in
    above_more it.uid row rows (drop (length rows) now) same (below_drop it.uid (length rows) now rising.0) (above_are rows now rising.1 more)

-- ---- the news

pub told_is : (rows now : List Row) (told : List ℕ) → AreRising now → are_in_place rows now ≡ true
    → told_in_place (length rows) now (lines_in_place told 1 rows now) ≡ told_of [] rows now told
told_is rows now told rising is =
    let at = found_from [] now rows rising is in
    rw (lines_are now now told 1 rows at, fresh_are now now rows at, behind_are [] rows now is (above_are rows now rising is))
    (rw (length-drop (length rows) now, take-append-drop (length rows) now) refl)
