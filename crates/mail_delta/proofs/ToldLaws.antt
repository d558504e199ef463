-- What notes tell of a mailbox is what changed since it had the rows that were noted.
use Rattle.std.proofs.Common.{◌≡◌, ℕ, Bool, true, false, cond, not, ◌==◌, List, [], ◌∷◌, ◌++◌, Option, Some, None, option_map, refl, sym, ◌∙◌, ap}
use Rattle.std.proofs.Common.{subst, arith}
use Rattle.std.specs.List.{AllByRecursion, filter}
use Rattle.std.specs.List.Sorted.{IsStrictlySortedBy}
use Rattle.std.specs.Option.{is_some}
use Rattle.std.specs.Map.{keys_of}
use Rattle.std.specs.Ordering.{is_eq, nat_cmp}
use Rattle.std.specs.declared.cmp.Ordering.TheVariants.{Less}
use Rattle.std.proofs.lemmas.Bool.Decides.{nat_tests}
use Rattle.mur_base.specs.Map.{value_at, IsInOrder}
use Rattle.mail_message.specs.declared.message.Row.{Row}
use Rattle.mail_message.specs.declared.message.Message.{Message}
use Rattle.mail_message.specs.Boxes.{Content, message_at, row_of, size_of, IsRising}
use Rattle.mail_message.specs.RowOrder.{AreRising, row_at}
use Rattle.mail_message.proofs.FoundUids.{IsOf, found_is}
use Rattle.mail_delta.specs.Deltas.{rows_of, is_changed, is_same_row, is_gone, gone_of, delta_of}
use Rattle.mail_delta.specs.Notes.{Notes, noted_or, row_in, row_before, changed_row, gone_uid, changed_in, gone_in, delta_by}
use Rattle.mail_message.proofs.FlagLaw.{flags_self}
use Rattle.mail_delta.proofs.Keyed.{itself, passed, AreAbove, Rise, at, none-above, found-at, at-filter, rise-filter, rise-map, at-map, same-items}
use Rattle.mail_delta.proofs.RowPuts.{uid_of}
use Rattle.mail_delta.proofs.DeltaLaw.{rising-rows, row_at-rows}
use Rattle.mail_delta.proofs.NoteLaws.{same_key, other_key}

-- ---- rows have their UIDs

abbrev HasUid : ℕ → Option Row → Type 0
HasUid uid None = Unit {0}
HasUid uid (Some row) = row.uid ≡ uid

row_by : (uid : ℕ) (found : Option Message) → IsOf uid found → HasUid uid (option_map row_of found)
row_by uid None is = tt
row_by uid (Some message) is = is

row_in-uid : (box : Content) (uid : ℕ) → HasUid uid (row_in box uid)
row_in-uid box uid = row_by uid (message_at box.messages uid) (found_is box.messages uid)

-- ---- items told of one UID after the other

module _ {A : Type 0} (key : A → ℕ) where
  -- at most one item, which has this key
  abbrev IsOne : ℕ → List A → Type 0
  IsOne uid [] = Unit {0}
  IsOne uid (item ∷ []) = key item ≡ uid
  IsOne uid (item ∷ other ∷ items) = ⊥

  above_both : (k uid : ℕ) (one items : List A) → IsOne uid one → nat_cmp k uid ≡ Less → AreAbove key k items → AreAbove key k (one ++ items)
  above_both k uid [] items is lt all = all
  above_both k uid (item ∷ []) items is lt all = (subst (λ n. nat_cmp k n ≡ Less) (sym is) lt, all)
  above_both k uid (item ∷ other ∷ more) items is lt all = absurd is

  rise_both : (uid : ℕ) (one items : List A) → IsOne uid one → AreAbove key uid items → Rise key items → Rise key (one ++ items)
  unfolding IsStrictlySortedBy
  rise_both uid [] items is all rise = rise
  rise_both uid (item ∷ []) items is all rise = (subst (λ n. AreAbove key n items) (sym is) all, rise)
  rise_both uid (item ∷ other ∷ more) items is all rise = absurd is

  here_both : (uid : ℕ) (one items : List A) → IsOne uid one → AreAbove key uid items → at key (one ++ items) uid ≡ at key one uid
  here_both uid [] items is all = none-above key uid uid items all (omega arith)
  here_both uid (item ∷ []) items is all =
      let here : (key item == uid) ≡ true = grind (arith, nat_tests, is) in rw here refl
  here_both uid (item ∷ other ∷ more) items is all = absurd is

  other_both : (uid k : ℕ) (one items : List A) → IsOne uid one → (k ≡ uid → ⊥) → at key (one ++ items) k ≡ at key items k
  other_both uid k [] items is ne = refl
  other_both uid k (item ∷ []) items is ne =
      let other : (key item == k) ≡ false = subst (λ n. (n == k) ≡ false) (sym is) (grind (arith, nat_tests, ne)) in rw other refl
  other_both uid k (item ∷ other ∷ more) items is ne = absurd is

-- ---- changed rows

one_changed : (uid : ℕ) (was now : Option Row) → HasUid uid now → IsOne uid_of uid (changed_row was now)
one_changed uid was None is = tt
one_changed uid was (Some row) is =
    let P : Bool → Type 0 = λ b. IsOne uid_of uid (cond b [] (row ∷ [])) in elim (is_same_row was row) as P [ true ↦ tt | false ↦ is ]

above_changed : (k : ℕ) (box : Content) (notes : Notes) → AllByRecursion (λ q. nat_cmp k q ≡ Less) (keys_of notes)
    → AreAbove uid_of k (changed_in box notes)
above_changed k box [] all = tt
above_changed k box (note ∷ notes) all =
    above_both uid_of k note.0 (changed_row note.1 (row_in box note.0)) (changed_in box notes)
    (one_changed note.0 note.1 (row_in box note.0) (row_in-uid box note.0)) all.0 (above_changed k box notes all.1)

pub rising-changed : (box : Content) (notes : Notes) → IsInOrder nat_cmp notes → AreRising (changed_in box notes)
unfolding IsStrictlySortedBy
rising-changed box [] order = tt
rising-changed box (note ∷ notes) order =
    rise_both uid_of note.0 (changed_row note.1 (row_in box note.0)) (changed_in box notes)
    (one_changed note.0 note.1 (row_in box note.0) (row_in-uid box note.0)) (above_changed note.0 box notes order.0) (rising-changed box notes order.1)

-- the row that is told of a UID
abbrev changed_one : ℕ → Option (Option Row) → Option Row → Option Row
changed_one uid None now = None
changed_one uid (Some was) now = row_at (changed_row was now) uid

changed_by : (box : Content) (note : ℕ × Option Row) (notes : Notes) (k : ℕ) → AreAbove uid_of note.0 (changed_in box notes)
    → row_at (changed_in box notes) k ≡ changed_one k (value_at nat_cmp notes k) (row_in box k)
    → (b : Bool) → is_eq (nat_cmp k note.0) ≡ b
    → row_at (changed_row note.1 (row_in box note.0) ++ changed_in box notes) k
    ≡ changed_one k (cond b (Some note.1) (value_at nat_cmp notes k)) (row_in box k)
changed_by box note notes k all ih true h =
    let P : ℕ → Type 0 = λ n. row_at (changed_row note.1 (row_in box note.0) ++ changed_in box notes) n ≡ row_at (changed_row note.1 (row_in box n)) n in
    subst P (sym (same_key k note.0 h))
    (here_both uid_of note.0 (changed_row note.1 (row_in box note.0)) (changed_in box notes)
    (one_changed note.0 note.1 (row_in box note.0) (row_in-uid box note.0)) all)
changed_by box note notes k all ih false h =
    other_both uid_of note.0 k (changed_row note.1 (row_in box note.0)) (changed_in box notes)
    (one_changed note.0 note.1 (row_in box note.0) (row_in-uid box note.0)) (other_key k note.0 h) ∙ ih

row_at-changed_in : (box : Content) (notes : Notes) (k : ℕ) → IsInOrder nat_cmp notes
    → row_at (changed_in box notes) k ≡ changed_one k (value_at nat_cmp notes k) (row_in box k)
unfolding IsStrictlySortedBy
row_at-changed_in box [] k order = refl
row_at-changed_in box (note ∷ notes) k order =
    changed_by box note notes k (above_changed note.0 box notes order.0) (row_at-changed_in box notes k order.1) (is_eq (nat_cmp k note.0)) refl

-- ---- UIDs that are gone

abbrev own : ℕ → ℕ
own n = n

one_gone : (uid : ℕ) (was now : Option Row) → IsOne own uid (gone_uid uid was now)
one_gone uid None now = tt
one_gone uid (Some was) (Some row) = tt
one_gone uid (Some was) None = refl

above_gone : (k : ℕ) (box : Content) (notes : Notes) → AllByRecursion (λ q. nat_cmp k q ≡ Less) (keys_of notes) → AreAbove own k (gone_in box notes)
above_gone k box [] all = tt
above_gone k box (note ∷ notes) all =
    above_both own k note.0 (gone_uid note.0 note.1 (row_in box note.0)) (gone_in box notes)
    (one_gone note.0 note.1 (row_in box note.0)) all.0 (above_gone k box notes all.1)

rise-gone_in : (box : Content) (notes : Notes) → IsInOrder nat_cmp notes → Rise own (gone_in box notes)
unfolding IsStrictlySortedBy
rise-gone_in box [] order = tt
rise-gone_in box (note ∷ notes) order =
    rise_both own note.0 (gone_uid note.0 note.1 (row_in box note.0)) (gone_in box notes)
    (one_gone note.0 note.1 (row_in box note.0)) (above_gone note.0 box notes order.0) (rise-gone_in box notes order.1)

-- the UID if it is told as gone
abbrev gone_one : ℕ → Option (Option Row) → Option Row → Option ℕ
gone_one uid None now = None
gone_one uid (Some was) now = at own (gone_uid uid was now) uid

gone_by : (box : Content) (note : ℕ × Option Row) (notes : Notes) (k : ℕ) → AreAbove own note.0 (gone_in box notes)
    → at own (gone_in box notes) k ≡ gone_one k (value_at nat_cmp notes k) (row_in box k)
    → (b : Bool) → is_eq (nat_cmp k note.0) ≡ b
    → at own (gone_uid note.0 note.1 (row_in box note.0) ++ gone_in box notes) k
    ≡ gone_one k (cond b (Some note.1) (value_at nat_cmp notes k)) (row_in box k)
gone_by box note notes k all ih true h =
    let P : ℕ → Type 0 = λ n. at own (gone_uid note.0 note.1 (row_in box note.0) ++ gone_in box notes) n ≡ at own (gone_uid n note.1 (row_in box n)) n in
    subst P (sym (same_key k note.0 h))
    (here_both own note.0 (gone_uid note.0 note.1 (row_in box note.0)) (gone_in box notes) (one_gone note.0 note.1 (row_in box note.0)) all)
gone_by box note notes k all ih false h =
    other_both own note.0 k (gone_uid note.0 note.1 (row_in box note.0)) (gone_in box notes)
    (one_gone note.0 note.1 (row_in box note.0)) (other_key k note.0 h) ∙ ih

at-gone_in : (box : Content) (notes : Notes) (k : ℕ) → IsInOrder nat_cmp notes → at own (gone_in box notes) k ≡ gone_one k (value_at nat_cmp notes k) (row_in box k)
unfolding IsStrictlySortedBy
at-gone_in box [] k order = refl
at-gone_in box (note ∷ notes) k order =
    gone_by box note notes k (above_gone note.0 box notes order.0) (at-gone_in box notes k order.1) (is_eq (nat_cmp k note.0)) refl

-- ---- what is told is what changed

module _ (box : Content) (notes : Notes) (rows : List Row) (rising : IsRising box.messages) (were : AreRising rows) (order : IsInOrder nat_cmp notes)
    (had : (k : ℕ) → row_before notes k (row_in box k) ≡ row_at rows k) where
  -- a row that was noted, or else is as it is now
  changed_each : (k : ℕ) (row : Row) (was : Option Row) → row_at rows k ≡ was → row.uid ≡ k
      → cond (is_changed rows row) (Some row) None ≡ row_at (changed_row was (Some row)) k
  changed_each k row was is uid =
      let test : is_changed rows row ≡ not (is_same_row was row) = ap (λ n. not (is_same_row (row_at rows n) row)) uid ∙ ap (λ o. not (is_same_row o row)) is in
      let here : (row.uid == k) ≡ true = grind (arith, nat_tests, uid) in
      let P : Bool → Type 0 = λ b. cond (not b) (Some row) None ≡ row_at (cond b [] (row ∷ [])) k in
      rw test (elim (is_same_row was row) as P [ true ↦ refl | false ↦ sym (rw here refl) ])

  changed_at : (k : ℕ) (found : Option (Option Row)) (now : Option Row) → noted_or found now ≡ row_at rows k → HasUid k now
      → changed_one k found now ≡ passed (is_changed rows) now
  changed_at k None None is uid = refl
  changed_at k (Some was) None is uid = refl
  changed_at k (Some was) (Some row) is uid = sym (changed_each k row was (sym is) uid)
  changed_at k None (Some row) is uid =
      let same : is_same_row (Some row) row ≡ true = flags_self row.flags in
      sym (changed_each k row (Some row) (sym is) uid ∙ rw same refl)

  changed-told : changed_in box notes ≡ filter (is_changed rows) (rows_of box)
  changed-told =
      let now : AreRising (rows_of box) = rising-rows box rising in
      same-items uid_of (changed_in box notes) (filter (is_changed rows) (rows_of box)) (rising-changed box notes order)
      (rise-filter uid_of (is_changed rows) (rows_of box) now)
      (λ k. row_at-changed_in box notes k order ∙ changed_at k (value_at nat_cmp notes k) (row_in box k) (had k) (row_in-uid box k)
      ∙ ap (passed (is_changed rows)) (sym (row_at-rows box k)) ∙ sym (at-filter uid_of (is_changed rows) (rows_of box) k now))

  gone_each : (k : ℕ) (was : Row) (now : Option Row) → row_in box k ≡ now → was.uid ≡ k
      → at own (gone_uid k (Some was) now) k ≡ option_map uid_of (cond (is_gone (rows_of box) was) (Some was) None)
  gone_each k was None is uid =
      let gone : is_gone (rows_of box) was ≡ true =
      ap (λ n. not (is_some (row_at (rows_of box) n))) uid ∙ ap (λ (o : Option Row). not (is_some o)) (row_at-rows box k ∙ is) in
      rw (itself k, gone) (ap Some (sym uid))
  gone_each k was (Some row) is uid =
      let there : is_gone (rows_of box) was ≡ false =
      ap (λ n. not (is_some (row_at (rows_of box) n))) uid ∙ ap (λ (o : Option Row). not (is_some o)) (row_at-rows box k ∙ is) in
      rw there refl

  gone_at : (k : ℕ) (found : Option (Option Row)) (now before : Option Row) → row_in box k ≡ now → row_at rows k ≡ before → noted_or found now ≡ before
      → HasUid k now → gone_one k found now ≡ option_map uid_of (passed (is_gone (rows_of box)) before)
  gone_at k (Some None) now None is was e uid = refl
  gone_at k (Some (Some one)) now (Some other) is was e uid =
      let same : one ≡ other = cc in
      subst (λ x. at own (gone_uid k (Some x) now) k ≡ option_map uid_of (passed (is_gone (rows_of box)) (Some other))) (sym same)
      (gone_each k other now is (found-at uid_of k rows other was))
  gone_at k (Some None) now (Some other) is was e uid = cc
  gone_at k (Some (Some one)) now None is was e uid = cc
  gone_at k None None None is was e uid = refl
  gone_at k None None (Some other) is was e uid = cc
  gone_at k None (Some row) None is was e uid = cc
  gone_at k None (Some row) (Some other) is was e uid =
      let there : is_gone (rows_of box) other ≡ false =
      ap (λ n. not (is_some (row_at (rows_of box) n))) (found-at uid_of k rows other was)
      ∙ ap (λ (o : Option Row). not (is_some o)) (row_at-rows box k ∙ is) in
      rw there refl

  gone-told : gone_in box notes ≡ gone_of (rows_of box) rows
  gone-told =
      same-items own (gone_in box notes) (gone_of (rows_of box) rows) (rise-gone_in box notes order)
      (rise-map uid_of own uid_of (λ row. refl) (filter (is_gone (rows_of box)) rows) (rise-filter uid_of (is_gone (rows_of box)) rows were))
      (λ k. at-gone_in box notes k order
      ∙ gone_at k (value_at nat_cmp notes k) (row_in box k) (row_at rows k) refl refl (had k) (row_in-uid box k)
      ∙ ap (option_map uid_of) (sym (at-filter uid_of (is_gone (rows_of box)) rows k were))
      ∙ sym (at-map uid_of own uid_of (λ row. refl) (filter (is_gone (rows_of box)) rows) k))

  -- notes tell what changed since the mailbox had the rows
  pub delta-told : (size : ℕ) → size ≡ size_of box.messages → delta_by notes box size ≡ delta_of rows box
  delta-told size is = λ i. record { serial = box.serial; next = box.next; size = is i; changed = changed-told i; gone = gone-told i }
