-- The news of a view that misses no message of its mailbox but those above it leave it with all of them; told with what is gone, it is the mailbox.
use Rattle.std.proofs.Common.{◌≡◌, ℕ, ◌+◌, ◌<◌, ◌≤◌, ◌==◌, ◌&&◌, nat_lt, Bool, true, false, cond, List, [], ◌∷◌, ◌++◌, Option, None, Some, is_some}
use Rattle.std.proofs.Common.{refl, sym, ◌∙◌, ap, ap₂, subst, arith}
use Rattle.std.specs.List.{filter}
use Rattle.std.proofs.lemmas.Bool.Decides.{nat_tests}
use Rattle.mail_message.specs.RowOrder.{row_at}
use Rattle.mail_message.specs.declared.message.Row.{Row}
use Rattle.mur_model.specs.News.{fresh_row, fresh_rows, has_row, is_above, news, rows_behind, rows_there}
use Rattle.store_law.proofs.MirrorNews.{found_uid}
use Rattle.store_law.proofs.RisingViews.{RowsRise, fresh_uid, news_rise}

-- ---- rows that are found by UID

itself : (n : ℕ) → (n == n) ≡ true
itself n = grind (arith, nat_tests)

first_of : Option Row → Option Row → Option Row
first_of None other = other
first_of (Some row) other = Some row

found_both : (rows more : List Row) (uid : ℕ) → row_at (rows ++ more) uid ≡ first_of (row_at rows uid) (row_at more uid)
unfolding first_of
found_both [] more uid = refl
found_both (row ∷ rows) more uid = by (row.uid == uid) (found_both rows more uid)
  where
    by : (same : Bool) → row_at (rows ++ more) uid ≡ first_of (row_at rows uid) (row_at more uid)
        → cond same (Some row) (row_at (rows ++ more) uid) ≡ first_of (cond same (Some row) (row_at rows uid)) (row_at more uid)
    by true rest = refl
    by false rest = rest

none_below : (low uid : ℕ) (rows : List Row) → RowsRise low rows → uid < low → row_at rows uid ≡ None
none_below low uid [] rises lt = refl
none_below low uid (row ∷ rows) rises lt =
    let apart : (row.uid == uid) ≡ false = grind (arith, nat_tests, lt, rises.0) in
    rw apart (none_below (row.uid + 1) uid rows rises.1 (omega (arith, lt, rises.0)))

-- rows that rise are the same where the same are found
tails_same : (x y : Row) (xs ys : List Row) (uid : ℕ) (same : Bool) → (x.uid == uid) ≡ same → x.uid ≡ y.uid → RowsRise (x.uid + 1) xs → RowsRise (y.uid + 1) ys
    → row_at (x ∷ xs) uid ≡ row_at (y ∷ ys) uid → row_at xs uid ≡ row_at ys uid
tails_same x y xs ys uid true e own rises rise found =
    let at_x : uid < x.uid + 1 = grind (arith, nat_tests, e) in
    let at_y : uid < y.uid + 1 = grind (arith, nat_tests, e, own) in
    none_below (x.uid + 1) uid xs rises at_x ∙ sym (none_below (y.uid + 1) uid ys rise at_y)
tails_same x y xs ys uid false e own rises rise found =
    let other : (y.uid == uid) ≡ false = sym (ap (λ n. n == uid) own) ∙ e in
    let left : cond false (Some x) (row_at xs uid) ≡ cond (y.uid == uid) (Some y) (row_at ys uid) =
    subst (λ b. cond b (Some x) (row_at xs uid) ≡ cond (y.uid == uid) (Some y) (row_at ys uid)) e found in
    subst (λ b. row_at xs uid ≡ cond b (Some y) (row_at ys uid)) other left

same_rows : (low high : ℕ) (xs ys : List Row) → RowsRise low xs → RowsRise high ys → ((uid : ℕ) → row_at xs uid ≡ row_at ys uid) → xs ≡ ys
same_rows low high [] [] rises rise same = refl
same_rows low high [] (y ∷ ys) rises rise same =
    let here : None ≡ Some y = subst (λ b. None ≡ cond b (Some y) (row_at ys y.uid)) (itself y.uid) (same y.uid) in cc
same_rows low high (x ∷ xs) [] rises rise same =
    let here : Some x ≡ None = subst (λ b. cond b (Some x) (row_at xs x.uid) ≡ None) (itself x.uid) (same x.uid) in cc
same_rows low high (x ∷ xs) (y ∷ ys) rises rise same =
    by (nat_lt x.uid y.uid) (nat_lt y.uid x.uid) refl refl (λ own. same_rows (x.uid + 1) (y.uid + 1) xs ys rises.1 rise.1 (λ uid.
    tails_same x y xs ys uid (x.uid == uid) refl own rises.1 rise.1 (same uid)))
  where
    by : (less more : Bool) → nat_lt x.uid y.uid ≡ less → nat_lt y.uid x.uid ≡ more → (x.uid ≡ y.uid → xs ≡ ys) → x ∷ xs ≡ y ∷ ys
    by true more e f rest =
        let lt : x.uid < y.uid = grind (arith, nat_tests, e) in
        let none : row_at (y ∷ ys) x.uid ≡ None = none_below y.uid x.uid (y ∷ ys) (omega arith, rise.1) lt in
        let here : Some x ≡ None = subst (λ b. cond b (Some x) (row_at xs x.uid) ≡ None) (itself x.uid) (same x.uid ∙ none) in cc
    by false true e f rest =
        let lt : y.uid < x.uid = grind (arith, nat_tests, f) in
        let none : row_at (x ∷ xs) y.uid ≡ None = none_below x.uid y.uid (x ∷ xs) (omega arith, rises.1) lt in
        let here : None ≡ Some y = subst (λ b. None ≡ cond b (Some y) (row_at ys y.uid)) (itself y.uid) (sym none ∙ same y.uid) in cc
    by false false e f rest =
        let own : x.uid ≡ y.uid = grind (arith, nat_tests, e, f) in
        let meets : (y.uid == x.uid) ≡ true = grind (arith, nat_tests, own) in
        let left : Some x ≡ row_at (y ∷ ys) x.uid = subst (λ b. cond b (Some x) (row_at xs x.uid) ≡ row_at (y ∷ ys) x.uid) (itself x.uid) (same x.uid) in
        let here : Some x ≡ Some y = subst (λ b. Some x ≡ cond b (Some y) (row_at ys x.uid)) meets left in
        let one : x ≡ y = cc in
        ap₂ (λ (r : Row) (rs : List Row). r ∷ rs) one (rest own)

-- those of some UIDs
found_some : (p : ℕ → Bool) (now : List Row) (uid : ℕ) → row_at (filter (λ row. p row.uid) now) uid ≡ cond (p uid) (row_at now uid) None
found_some p [] uid = by (p uid)
  where
    by : (is : Bool) → row_at [] uid ≡ cond is (row_at [] uid) None
    by true = refl
    by false = refl
found_some p (row ∷ now) uid = by (p row.uid) (row.uid == uid) refl refl (found_some p now uid)
  where
    by : (is same : Bool) → p row.uid ≡ is → (row.uid == uid) ≡ same → row_at (filter (λ row. p row.uid) now) uid ≡ cond (p uid) (row_at now uid) None
        → row_at (cond is (row ∷ filter (λ row. p row.uid) now) (filter (λ row. p row.uid) now)) uid
        ≡ cond (p uid) (cond same (Some row) (row_at now uid)) None
    by true true e f rest =
        let own : row.uid ≡ uid = grind (arith, nat_tests, f) in
        let is : p uid ≡ true = sym (ap p own) ∙ e in
        rw f (rw is refl)
    by true false e f rest = rw f rest
    by false true e f rest =
        let own : row.uid ≡ uid = grind (arith, nat_tests, f) in
        let is : p uid ≡ false = sym (ap p own) ∙ e in
        rest ∙ ap (λ b. cond b (row_at now uid) None) is ∙ sym (ap (λ b. cond b (Some row) None) is)
    by false false e f rest = rest

-- ---- the rows of a view as its mailbox has them

none_found : (found : Option Row) → is_some found ≡ false → found ≡ None
none_found None is = refl
none_found (Some row) is = cc

fresh_is : (row : Row) (found : Option Row) → is_some found ≡ true → Some (fresh_row row found) ≡ found
fresh_is row None is = cc
fresh_is row (Some it) is = refl

either_none : (test : Bool) (found : Option Row) → found ≡ None → cond test found None ≡ None
either_none true found is = is
either_none false found is = refl

found_there : (now rows : List Row) (uid : ℕ) → row_at (fresh_rows now (rows_there now rows)) uid ≡ cond (has_row rows uid) (row_at now uid) None
found_there now [] uid = refl
found_there now (row ∷ rows) uid = by (has_row now row.uid) (row.uid == uid) refl refl (found_there now rows uid)
  where
    fresh : Row
    fresh = fresh_row row (row_at now row.uid)

    kept : List Row
    kept = fresh_rows now (rows_there now rows)

    by : (there same : Bool) → has_row now row.uid ≡ there → (row.uid == uid) ≡ same
        → row_at (fresh_rows now (rows_there now rows)) uid ≡ cond (has_row rows uid) (row_at now uid) None
        → row_at (fresh_rows now (cond there (row ∷ rows_there now rows) (rows_there now rows))) uid
        ≡ cond (is_some (cond same (Some row) (row_at rows uid))) (row_at now uid) None
    by true true e f rest =
        let own : row.uid ≡ uid = grind (arith, nat_tests, f) in
        let here : ((fresh_row row (row_at now row.uid)).uid == uid) ≡ true =
        ap (λ n. n == uid) (fresh_uid row (row_at now row.uid) (found_uid now row.uid)) ∙ f in
        rw here (fresh_is row (row_at now row.uid) e ∙ ap (row_at now) own)
    by true false e f rest =
        let here : ((fresh_row row (row_at now row.uid)).uid == uid) ≡ false =
        ap (λ n. n == uid) (fresh_uid row (row_at now row.uid) (found_uid now row.uid)) ∙ f in
        rw here rest
    by false true e f rest =
        let own : row.uid ≡ uid = grind (arith, nat_tests, f) in
        let none : row_at now uid ≡ None = sym (ap (row_at now) own) ∙ none_found (row_at now row.uid) e in
        rest ∙ either_none (has_row rows uid) (row_at now uid) none ∙ sym none
    by false false e f rest = rest

has_fresh : (now rows : List Row) (uid : ℕ) → has_row (fresh_rows now rows) uid ≡ has_row rows uid
has_fresh now [] uid = refl
has_fresh now (row ∷ rows) uid = by (row.uid == uid) refl (has_fresh now rows uid)
  where
    by : (same : Bool) → (row.uid == uid) ≡ same → has_row (fresh_rows now rows) uid ≡ has_row rows uid
        → is_some (cond ((fresh_row row (row_at now row.uid)).uid == uid) (Some (fresh_row row (row_at now row.uid))) (row_at (fresh_rows now rows) uid))
        ≡ is_some (cond same (Some row) (row_at rows uid))
    by same f rest =
        let here : ((fresh_row row (row_at now row.uid)).uid == uid) ≡ same =
        ap (λ n. n == uid) (fresh_uid row (row_at now row.uid) (found_uid now row.uid)) ∙ f in
        rw here (either same rest)
      where
        either : (b : Bool) → has_row (fresh_rows now rows) uid ≡ has_row rows uid
            → is_some (cond b (Some (fresh_row row (row_at now row.uid))) (row_at (fresh_rows now rows) uid)) ≡ is_some (cond b (Some row) (row_at rows uid))
        either true rest = refl
        either false rest = rest

-- ---- above all rows

above_both : (rows more : List Row) (uid : ℕ) → is_above rows uid ≡ true → is_above more uid ≡ true → is_above (rows ++ more) uid ≡ true
above_both [] more uid is are = are
above_both (row ∷ rows) more uid is are = by (nat_lt row.uid uid) is (λ above. above_both rows more uid above are)
  where
    by : (lower : Bool) → (lower && is_above rows uid) ≡ true → (is_above rows uid ≡ true → is_above (rows ++ more) uid ≡ true)
        → (lower && is_above (rows ++ more) uid) ≡ true
    by true is rest = rest is
    by false is rest = is

above_some : (test : Row → Bool) (rows : List Row) (uid : ℕ) → is_above rows uid ≡ true → is_above (filter test rows) uid ≡ true
above_some test [] uid is = refl
above_some test (row ∷ rows) uid is = by (test row) (nat_lt row.uid uid) refl is (above_some test rows uid)
  where
    by : (kept lower : Bool) → nat_lt row.uid uid ≡ lower → (lower && is_above rows uid) ≡ true
        → (is_above rows uid ≡ true → is_above (filter test rows) uid ≡ true) → is_above (cond kept (row ∷ filter test rows) (filter test rows)) uid ≡ true
    by kept false e is rest = cc
    by true true e is rest = rw e (rest is)
    by false true e is rest = rest is

above_fresh : (now rows : List Row) (uid : ℕ) → is_above (fresh_rows now rows) uid ≡ is_above rows uid
above_fresh now [] uid = refl
above_fresh now (row ∷ rows) uid =
    ap₂ (λ n more. nat_lt n uid && more) (fresh_uid row (row_at now row.uid) (found_uid now row.uid)) (above_fresh now rows uid)

pub above_more : (rows : List Row) (one other : ℕ) → one ≤ other → is_above rows one ≡ true → is_above rows other ≡ true
above_more [] one other le is = refl
above_more (row ∷ rows) one other le is = by (nat_lt row.uid one) refl is (above_more rows one other le)
  where
    by : (lower : Bool) → nat_lt row.uid one ≡ lower → (lower && is_above rows one) ≡ true → (is_above rows one ≡ true → is_above rows other ≡ true)
        → (nat_lt row.uid other && is_above rows other) ≡ true
    by true e is rest = let lt : nat_lt row.uid other ≡ true = grind (arith, nat_tests, e, le) in rw lt (rest is)
    by false e is rest = cc

-- ---- the news

-- rows that rise, below UIDNEXT, and miss none of the mailbox's that isn't above them
pub record Covers (rows now : List Row) (next : ℕ) : Type 0 where
  pub rises : RowsRise 0 rows
  pub below : is_above rows next ≡ true
  pub all : (uid : ℕ) → has_row now uid ≡ true → is_above rows uid ≡ false → has_row rows uid ≡ true

choose : (found : Option Row) (has behind : Bool) → (is_some found ≡ true → has ≡ false → behind ≡ true)
    → first_of (cond has found None) (cond behind found None) ≡ found
unfolding first_of
choose None true true so = refl
choose None true false so = refl
choose None false true so = refl
choose None false false so = refl
choose (Some row) true behind so = refl
choose (Some row) false true so = refl
choose (Some row) false false so = let no : false ≡ true = so refl refl in cc

some_first : (one other : Option Row) → is_some one ≡ true → is_some (first_of one other) ≡ true
unfolding first_of
some_first None other is = cc
some_first (Some row) other is = refl

some_second : (one other : Option Row) → is_some other ≡ true → is_some (first_of one other) ≡ true
unfolding first_of
some_second None other is = is
some_second (Some row) other is = refl

module _ (rows now : List Row) (next : ℕ) (covers : Covers rows now next) where
  is_behind : (uid : ℕ) → has_row now uid ≡ true → has_row rows uid ≡ false → is_above rows uid ≡ true
  is_behind uid has none = by (is_above rows uid) refl
    where
      by : (above : Bool) → is_above rows uid ≡ above → is_above rows uid ≡ true
      by true e = e
      by false e = let both : false ≡ true = sym none ∙ covers.all uid has e in cc

  found_all : (uid : ℕ) → row_at (fresh_rows now (rows_there now rows) ++ rows_behind (rows_there now rows) now) uid ≡ row_at now uid
  found_all uid =
      let there : List Row = rows_there now rows in
      found_both (fresh_rows now there) (rows_behind there now) uid
      ∙ ap₂ first_of (found_there now rows uid) (found_some (is_above there) now uid)
      ∙ choose (row_at now uid) (has_row rows uid) (is_above there uid)
      (λ has none. above_some (λ row. has_row now row.uid) rows uid (is_behind uid has none))

  pub told_whole : (told : List ℕ) → RowsRise 0 now → (news rows now true told).rows ≡ now
  unfolding news
  told_whole told rise = same_rows 0 0 (news rows now true told).rows now (news_rise rows now true told covers.rises rise) rise found_all

  pub news_covers : (expunges : Bool) (told : List ℕ) → RowsRise 0 now → is_above now next ≡ true → Covers (news rows now expunges told).rows now next
  unfolding news
  news_covers true told rise above =
      subst (λ (r : List Row). Covers r now next) (sym (told_whole told rise)) (record { rises = rise; below = above; all = λ uid has not_above. has })
  news_covers false told rise above = record {
    rises = news_rise rows now false told covers.rises rise;
    below = above_both (fresh_rows now rows) (rows_behind rows now) next (above_fresh now rows next ∙ covers.below)
        (above_some (λ row. is_above rows row.uid) now next above);
    all = λ uid has not_above. by uid (has_row rows uid) refl has;
  }
    where
      by : (uid : ℕ) (own : Bool) → has_row rows uid ≡ own → has_row now uid ≡ true → has_row (fresh_rows now rows ++ rows_behind rows now) uid ≡ true
      by uid true e has =
          ap is_some (found_both (fresh_rows now rows) (rows_behind rows now) uid)
          ∙ some_first (row_at (fresh_rows now rows) uid) (row_at (rows_behind rows now) uid) (has_fresh now rows uid ∙ e)
      by uid false e has =
          ap is_some (found_both (fresh_rows now rows) (rows_behind rows now) uid)
          ∙ some_second (row_at (fresh_rows now rows) uid) (row_at (rows_behind rows now) uid)
          (ap is_some (found_some (is_above rows) now uid ∙ ap (λ b. cond b (row_at now uid) None) (is_behind uid has e)) ∙ has)
