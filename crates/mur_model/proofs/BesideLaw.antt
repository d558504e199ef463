-- What a walk over a view and its mailbox's rows finds is the news.
use Rattle.std.proofs.Common.{◌≡◌, ℕ, suc, ◌+◌, ◌<◌, ◌≤◌, nat_eq, nat_lt, Bool, true, false, not, ◌&&◌, List, [], ◌∷◌, ◌++◌, length}
use Rattle.std.proofs.Common.{drop, None, Some, refl, ap, ◌∙◌, sym, subst, append_assoc, append-nil, zero-add, add-one, drop-cons, get_or, ap₂, arith}
use Rattle.std.specs.Prelude.{⊤}
use Rattle.std.specs.List.{AllByRecursion}
use Rattle.std.specs.List.Sorted.{IsStrictlySortedBy}
use Rattle.std.specs.Ordering.{nat_cmp}
use Rattle.std.specs.declared.cmp.Ordering.TheVariants.{Less}
use Rattle.std.proofs.lemmas.Bool.{true≢false}
use Rattle.std.proofs.Math.ListN.{drop_of_length-le}
use Rattle.std.proofs.lemmas.Bool.Decides.{nat_tests}
use Rattle.mail_message.specs.declared.message.Row.{Row}
use Rattle.mail_message.specs.RowOrder.{AreRising, row_at}
use Rattle.imap_types.specs.declared.reply.ReplyLine.TheVariants.{Expunge}
use Rattle.mur_model.specs.declared.beside.Walked.{Walked}
use Rattle.mur_model.specs.declared.news.Told.{Told}
use Rattle.mur_model.specs.Beside.{same_until, from_place, one_gone, one_kept, walked, told_walked}
use Rattle.mur_model.specs.News.{news, is_among, expunge_lines, rows_there, changed_line}
use Rattle.mail_message.specs.SameFlags.{is_same_flags}
use Rattle.mur_model.proofs.InPlaceLaw.{Below, less, found, are_in_place, lines_in_place, told_is}

and_false : (b : Bool) → (b && false) ≡ false
and_false true = refl
and_false false = refl

-- no line tells the same flags
pub unchanged : (is_told : Bool) (number : ℕ) (row it : Row) → is_same_flags row.flags it.flags ≡ true → changed_line is_told number row (Some it) ≡ []
unchanged is_told number row it same = rw (same, and_false (not is_told)) refl

-- ---- rows that are the same are passed over

none_more : (n : ℕ) → n + 0 ≡ n
none_more n = omega arith

at_start : (e : Bool) (told : List ℕ) (place : ℕ) (rows now : List Row)
    → walked e told (from_place (place + 0)) rows now ≡ walked e told (from_place place) rows now
at_start e told place rows now = rw (none_more place) refl

none_skipped : (e : Bool) (told : List ℕ) (place k : ℕ) (rows now : List Row) → k ≡ 0
    → walked e told (from_place (place + k)) (drop k rows) (drop k now) ≡ walked e told (from_place place) rows now
none_skipped e told place k rows now none =
    subst (λ n. walked e told (from_place (place + n)) (drop n rows) (drop n now) ≡ walked e told (from_place place) rows now) (sym none)
    (at_start e told place rows now)

pub skipped : (e : Bool) (told : List ℕ) (place : ℕ) (rows now : List Row)
    → walked e told (from_place (place + same_until rows now)) (drop (same_until rows now) rows) (drop (same_until rows now) now)
    ≡ walked e told (from_place place) rows now
skipped e told place [] now = at_start e told place [] now
skipped e told place (row ∷ rows) [] = at_start e told place (row ∷ rows) []
skipped e told place (row ∷ rows) (it ∷ now) =
    by (nat_eq it.uid row.uid) (is_same_flags row.flags it.flags) refl refl (skipped e told (place + 1) rows now)
  where
    by : (same flags : Bool) → nat_eq it.uid row.uid ≡ same → is_same_flags row.flags it.flags ≡ flags
        → walked e told (from_place ((place + 1) + same_until rows now)) (drop (same_until rows now) rows) (drop (same_until rows now) now)
        ≡ walked e told (from_place (place + 1)) rows now
        → walked e told (from_place (place + same_until (row ∷ rows) (it ∷ now))) (drop (same_until (row ∷ rows) (it ∷ now)) (row ∷ rows))
        (drop (same_until (row ∷ rows) (it ∷ now)) (it ∷ now))
        ≡ walked e told (from_place place) (row ∷ rows) (it ∷ now)
    by true true is alike more =
        let next : place + suc (same_until rows now) ≡ (place + 1) + same_until rows now = omega arith in
        rw (is, alike) (rw (next, and_false (not (is_among told row.uid))) more)
    by true false is alike more =
        let none : same_until (row ∷ rows) (it ∷ now) ≡ 0 = rw (is, alike) refl in none_skipped e told place (same_until (row ∷ rows) (it ∷ now)) (row ∷ rows) (it ∷ now) none
    by false flags is alike more =
        let none : same_until (row ∷ rows) (it ∷ now) ≡ 0 = rw is refl in none_skipped e told place (same_until (row ∷ rows) (it ∷ now)) (row ∷ rows) (it ∷ now) none

nothing_same : (rows : List Row) → same_until rows [] ≡ 0
nothing_same [] = refl
nothing_same (row ∷ rows) = refl

-- none is, where the mailbox has no more
pub none_same : (rows now : List Row) (at : ℕ) → length now ≤ at → same_until (drop at rows) (drop at now) ≡ 0
none_same rows now at beyond = rw (drop_of_length-le now beyond) (nothing_same (drop at rows))

-- ---- a step by a message that is there

next_row : (rows : List Row) (row : Row) (at : ℕ) → at < length rows → row ≡ get_or rows at row → drop at rows ≡ row ∷ drop (at + 1) rows
next_row rows row at within is = drop-cons rows at row within ∙ ap₂ (λ (r : Row) rest. r ∷ rest) (sym is) (ap (λ n. drop n rows) (sym (add-one at)))

pub kept_step : (e : Bool) (told : List ℕ) (done next : Walked) (row it : Row) (rows now : List Row) → it.uid ≡ row.uid → done.kept < length now
    → it ≡ get_or now done.kept it → next ≡ one_kept told row it done
    → walked e told done (row ∷ rows) (drop done.kept now) ≡ walked e told next rows (drop next.kept now)
kept_step e told done next row it rows now is within at so =
    let same : nat_eq it.uid row.uid ≡ true = grind (arith, nat_tests, is) in
    rw (so, next_row now it done.kept within at, same) refl

-- ---- look-ups of the rows of a view

-- rows that all have lower UIDs than the next row of a view
abbrev AreLow : List Row → List Row → Type 0
AreLow front [] = ⊤
AreLow front (row ∷ rows) = AllByRecursion (λ other. other.uid < row.uid) front

none_at : (uid : ℕ) (rows : List Row) → Below uid rows → row_at rows uid ≡ None
none_at uid [] all = refl
none_at uid (row ∷ rows) all =
    let lt = less uid row.uid all.0 in
    let apart : nat_eq row.uid uid ≡ false = grind (arith, nat_tests, lt) in rw apart (none_at uid rows all.1)

none_between : (uid : ℕ) (front rows : List Row) → AllByRecursion (λ other. other.uid < uid) front → Below uid rows → row_at (front ++ rows) uid ≡ None
none_between uid [] rows low all = none_at uid rows all
none_between uid (other ∷ front) rows low all =
    let lt = low.0 in
    let apart : nat_eq other.uid uid ≡ false = grind (arith, nat_tests, lt) in rw apart (none_between uid front rows low.1 all)

below_lower : (k j : ℕ) (rows : List Row) → k < j → Below j rows → Below k rows
below_lower k j [] lt all = tt
below_lower k j (row ∷ rows) lt all =
    let next = less j row.uid all.0 in
    let first : nat_cmp k row.uid ≡ Less = grind (arith, nat_tests, lt, next) in (first, below_lower k j rows lt all.1)

behind : (front rows : List Row) → AreRising (front ++ rows) → AreRising rows
unfolding IsStrictlySortedBy
behind [] rows rising = rising
behind (other ∷ front) rows rising = behind front rows rising.1

below_it : (uid : ℕ) (it : Row) (rows : List Row) → uid < it.uid → AreRising (it ∷ rows) → Below uid (it ∷ rows)
unfolding IsStrictlySortedBy
below_it uid it rows lt rising =
    let first : nat_cmp uid it.uid ≡ Less = grind (arith, nat_tests, lt) in (first, below_lower uid it.uid rows lt rising.0)

low_more : (k j : ℕ) (front : List Row) → k < j → AllByRecursion (λ (other : Row). other.uid < k) front → AllByRecursion (λ (other : Row). other.uid < j) front
low_more k j [] lt low = tt
low_more k j (other ∷ front) lt low = (omega (arith, lt, low.0), low_more k j front lt low.1)

-- behind the first row too
low_next : (front : List Row) (row : Row) (rows : List Row) → AreRising (row ∷ rows) → AreLow front (row ∷ rows) → AreLow front rows
unfolding IsStrictlySortedBy
low_next front row [] rising low = tt
low_next front row (next ∷ rows) rising low = low_more row.uid next.uid front (less row.uid next.uid (rising.0).0) low

low_end : (k : ℕ) (front : List Row) (it : Row) → it.uid < k → AllByRecursion (λ (other : Row). other.uid < k) front
    → AllByRecursion (λ (other : Row). other.uid < k) (front ++ it ∷ [])
low_end k [] it lt low = (lt, tt)
low_end k (other ∷ front) it lt low = (low.0, low_end k front it lt low.1)

-- and with the row of the mailbox that is the first row's
low_both : (front : List Row) (row it : Row) (rows : List Row) → nat_eq it.uid row.uid ≡ true → AreRising (row ∷ rows) → AreLow front (row ∷ rows)
    → AreLow (front ++ it ∷ []) rows
unfolding IsStrictlySortedBy
low_both front row it [] is rising low = tt
low_both front row it (next ∷ rows) is rising low =
    let lt = less row.uid next.uid (rising.0).0 in
    let before : it.uid < next.uid = grind (arith, nat_tests, is, lt) in
    low_end next.uid front it before (low_more row.uid next.uid front lt low)

-- ---- what a walk finds

record Finds (e : Bool) (told : List ℕ) (now its rows : List Row) (done end : Walked) : Type 0 where
  gone : end.gone ≡ done.gone ++ expunge_lines now (done.kept + 1) rows
  changed : end.changed ≡ done.changed ++ lines_in_place told (done.kept + 1) (rows_there now rows) its
  kept : end.kept ≡ done.kept + length (rows_there now rows)
  placed : are_in_place (rows_there now rows) its ≡ true
  there : e ≡ false → rows_there now rows ≡ rows
  silent : e ≡ false → expunge_lines now (done.kept + 1) rows ≡ []

-- a message that is gone
finds_gone : (e : Bool) (told : List ℕ) (now its : List Row) (row : Row) (rows : List Row) (done end : Walked) → e ≡ true → row_at now row.uid ≡ None
    → Finds e told now its rows (one_gone done) end → Finds e told now its (row ∷ rows) done end
finds_gone e told now its row rows done end so none more = record {
  gone = more.gone ∙ (rw none (append_assoc done.gone (Expunge (done.kept + 1) ∷ []) (expunge_lines now (done.kept + 1) rows)));
  changed = rw none more.changed;
  kept = rw none more.kept;
  placed = rw none more.placed;
  there = λ no. absurd (true≢false (sym so ∙ no));
  silent = λ no. absurd (true≢false (sym so ∙ no));
}

-- one that is there
finds_kept : (e : Bool) (told : List ℕ) (now its : List Row) (row it : Row) (rows : List Row) (done end : Walked)
    → nat_eq it.uid row.uid ≡ true → row_at now row.uid ≡ Some it
    → Finds e told now its rows (one_kept told row it done) end → Finds e told now (it ∷ its) (row ∷ rows) done end
finds_kept e told now its row it rows done end is at more =
    let count = length (rows_there now rows) in
    let sum : (done.kept + 1) + count ≡ done.kept + suc count = omega arith in
    record {
      gone = rw at more.gone;
      changed =
          rw at
          (more.changed
          ∙ append_assoc done.changed (changed_line (is_among told row.uid) (done.kept + 1) row (Some it))
          (lines_in_place told ((done.kept + 1) + 1) (rows_there now rows) its));
      kept = rw at (more.kept ∙ sum);
      placed = rw (at, is) more.placed;
      there = λ no. rw at (ap (λ list. row ∷ list) (more.there no));
      silent = λ no. rw at (more.silent no);
    }

abbrev FindsAll : Bool → List ℕ → List Row → List Row → Type 0
FindsAll e told now rows =
    (front its : List Row) (done end : Walked) → front ++ its ≡ now → AreRising (front ++ its) → AreLow front rows
    → walked e told done rows its ≡ Some end → Finds e told now its rows done end

finds_none : (e : Bool) (told : List ℕ) (now : List Row) → FindsAll e told now []
finds_none e told now front its done end all rising low is =
    let same : done ≡ end = cc in
    rw (sym same)
    (record {
      gone = sym (append-nil done.gone);
      changed = sym (append-nil done.changed);
      kept = sym (none_more done.kept);
      placed = refl;
      there = λ no. refl;
      silent = λ no. refl;
    })

-- where the mailbox has no more rows
finds_end : (e : Bool) (told : List ℕ) (now : List Row) (row : Row) (rows front : List Row) (done end : Walked) → AreRising (row ∷ rows)
    → FindsAll e told now rows → front ++ [] ≡ now → AreRising (front ++ []) → AreLow front (row ∷ rows)
    → walked e told done (row ∷ rows) [] ≡ Some end → Finds e told now [] (row ∷ rows) done end
finds_end true told now row rows front done end rises more all rising low is =
    let none : row_at now row.uid ≡ None = subst (λ list. row_at list row.uid ≡ None) all (none_between row.uid front [] low tt) in
    finds_gone true told now [] row rows done end refl none
    (more front [] (one_gone done) end all rising (low_next front row rows rises low) is)
finds_end false told now row rows front done end rises more all rising low is = absurd (cc)

-- by the next row of the mailbox
finds_by : (e : Bool) (told : List ℕ) (now : List Row) (row it : Row) (rows front its : List Row) (done end : Walked) (same lower : Bool)
    → nat_eq it.uid row.uid ≡ same → nat_lt row.uid it.uid ≡ lower → AreRising (row ∷ rows)
    → FindsAll e told now rows → front ++ it ∷ its ≡ now → AreRising (front ++ it ∷ its) → AreLow front (row ∷ rows)
    → walked e told done (row ∷ rows) (it ∷ its) ≡ Some end → Finds e told now (it ∷ its) (row ∷ rows) done end
finds_by e told now row it rows front its done end true lower same less_is rises more all rising low is =
    let goes = rw same at is in
    let next : (front ++ it ∷ []) ++ its ≡ front ++ it ∷ its = append_assoc front (it ∷ []) its in
    let there : row_at now row.uid ≡ Some it = subst (λ list. row_at list row.uid ≡ Some it) all (found front its it row.uid rising same) in
    finds_kept e told now its row it rows done end same there
    (more (front ++ it ∷ []) its (one_kept told row it done) end (next ∙ all) (subst AreRising (sym next) rising)
    (low_both front row it rows same rises low) goes)
finds_by true told now row it rows front its done end false true same less_is rises more all rising low is =
    let goes = rw (same, less_is) at is in
    let lt : row.uid < it.uid = grind (arith, nat_tests, less_is) in
    let none : row_at now row.uid ≡ None =
    subst (λ list. row_at list row.uid ≡ None) all
    (none_between row.uid front (it ∷ its) low (below_it row.uid it its lt (behind front (it ∷ its) rising))) in
    finds_gone true told now (it ∷ its) row rows done end refl none
    (more front (it ∷ its) (one_gone done) end all rising (low_next front row rows rises low) goes)
finds_by true told now row it rows front its done end false false same less_is rises more all rising low is =
    let stops = rw (same, less_is) at is in absurd (cc)
finds_by false told now row it rows front its done end false lower same less_is rises more all rising low is =
    let stops = rw same at is in absurd (cc)

finds_from : (e : Bool) (told : List ℕ) (now : List Row) (row : Row) (rows : List Row) → AreRising (row ∷ rows) → FindsAll e told now rows
    → FindsAll e told now (row ∷ rows)
finds_from e told now row rows rises more front [] done end all rising low is = finds_end e told now row rows front done end rises more all rising low is
finds_from e told now row rows rises more front (it ∷ its) done end all rising low is =
    finds_by e told now row it rows front its done end (nat_eq it.uid row.uid) (nat_lt row.uid it.uid) refl refl rises more all rising low is

finds : (e : Bool) (told : List ℕ) (now rows : List Row) → AreRising rows → FindsAll e told now rows
unfolding IsStrictlySortedBy
finds e told now [] rises = finds_none e told now
finds e told now (row ∷ rows) rises = finds_from e told now row rows rises (finds e told now rows rises.1)

-- ---- the news

low_none : (rows : List Row) → AreLow [] rows
low_none [] = tt
low_none (row ∷ rows) = tt

found_is : (e : Bool) (told : List ℕ) (now rows : List Row) (end : Walked) → AreRising now → Finds e told now now rows (from_place 0) end
    → told_walked end now ≡ news rows now e told
unfolding news
found_is true told now rows end rising finds =
    let kept : end.kept ≡ length (rows_there now rows) = omega (arith, finds.kept) in
    rw (finds.gone, finds.changed, kept)
    (ap (λ (it : Told). record { lines = expunge_lines now 1 rows ++ it.lines; rows = it.rows }) (told_is (rows_there now rows) now told rising finds.placed))
found_is false told now rows end rising finds =
    let kept : end.kept ≡ length (rows_there now rows) = omega (arith, finds.kept) in
    let there = finds.there refl in
    rw (finds.gone, finds.changed, kept, finds.silent refl) (rw there (told_is rows now told rising (rw there at finds.placed)))

pub walked_news : (rows now : List Row) (expunges : Bool) (told : List ℕ) (place : ℕ) (end : Walked) → AreRising rows → AreRising now
    → place ≡ same_until rows now → Some end ≡ walked expunges told (from_place place) (drop place rows) (drop place now)
    → told_walked end now ≡ news rows now expunges told
walked_news rows now e told place end rises rising at is =
    let from : walked e told (from_place 0) rows now ≡ Some end =
    sym (skipped e told 0 rows now) ∙ (rw (zero-add (same_until rows now), sym at) (sym is)) in
    found_is e told now rows end rising (finds e told now rows rises [] now (from_place 0) end refl rising (low_none rows) from)

drop_all : (rows : List Row) → drop (length rows) rows ≡ []
drop_all [] = refl
drop_all (row ∷ rows) = drop_all rows

pub unchanged_news : (rows now : List Row) (expunges : Bool) (told : List ℕ) (place : ℕ) → AreRising rows → AreRising now
    → place ≡ same_until rows now → place ≡ length rows → told_walked (from_place place) now ≡ news rows now expunges told
unchanged_news rows now e told place rises rising at all =
    walked_news rows now e told place (from_place place) rises rising at (rw (all, drop_all rows) refl)
