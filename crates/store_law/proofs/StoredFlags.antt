-- The rows of a STORE are those of its mailbox behind it; and their UIDs are among those that the reply takes for told.
use Rattle.std.proofs.Common.{◌≡◌, ◌≢◌, ℕ, ◌==◌, ◌||◌, Bool, true, false, cond, List, [], ◌∷◌, ◌++◌, Option, None, Some, is_some, refl, sym, ◌∙◌}
use Rattle.std.proofs.Common.{ap, subst, arith}
use Rattle.std.specs.Prelude.{All}
use Rattle.std.specs.List.{fold, list_any}
use Rattle.std.specs.BTreeMap.{is_at}
use Rattle.std.specs.BTreeSet.{insert_key}
use Rattle.std.specs.Ordering.{nat_cmp, match_ordering, is_eq}
use Rattle.std.specs.declared.cmp.Ordering.{Ordering}
use Rattle.std.specs.declared.cmp.Ordering.TheVariants.{Less, Equal, Greater}
use Rattle.std.proofs.lemmas.Bool.Decides.{nat_tests}
use Rattle.std.proofs.lemmas.List.Elements.{All-append, All-cons, All-head, All-nil, All-tail}
use Rattle.std.specs.Option.{option_map}
use Rattle.mail_message.specs.Boxes.{Content, content_after, content_after_all, message_at, relabelled, row_of, with_flags}
use Rattle.mail_message.specs.FlagSets.{Flags, flags_after}
use Rattle.mail_message.specs.RowOrder.{row_at}
use Rattle.mail_message.specs.declared.change.Change.TheVariants.{SetFlags}
use Rattle.mail_message.specs.declared.message.Message.{Message}
use Rattle.mail_message.specs.declared.message.Row.{Row}
use Rattle.mail_message.specs.declared.mode.Mode.{Mode}
use Rattle.mail_store.specs.Named.{set_of}
use Rattle.mail_store.specs.Store.{flag_changes, rows_stored, stored, stored_row, stored_rows}
use Rattle.mur_base.proofs.MapLaws.{not_equal, numbers_apart}
use Rattle.mur_model.specs.ClientView.{uids as uids_of}
use Rattle.mur_model.specs.News.{is_among}
use Rattle.mur_model.specs.Selected.{rows_of}
use Rattle.mur_model.proofs.FetchRowsLaw.{row_found}
use Rattle.store_law.proofs.MessagesLeft.{labelled_at, uid_of_found}

-- ---- the set of some UIDs has those alone

at_uid : (uid other : ℕ) → is_at (nat_cmp uid) other ≡ (other == uid)
at_uid uid other = by (other == uid) refl
  where
    by : (same : Bool) → (other == uid) ≡ same → is_at (nat_cmp uid) other ≡ same
    by true e = let here : other ≡ uid = grind (arith, nat_tests, e) in subst (λ n. is_at (nat_cmp uid) n ≡ true) (sym here) (numbers_apart.itself uid)
    by false e = not_equal nat_cmp numbers_apart uid other (λ here. (let back : (other == uid) ≡ true = grind (arith, nat_tests, here) in
        let both : false ≡ true = sym e ∙ back in cc))

swapped : (a b c : Bool) → (a || (b || c)) ≡ (b || (a || c))
swapped true true c = refl
swapped true false c = refl
swapped false true c = refl
swapped false false c = refl

twice : (a c : Bool) → (a || c) ≡ (a || (a || c))
twice true c = refl
twice false c = refl

inserted_by : (uid key other : ℕ) (keys : List ℕ) (order : Ordering) → nat_cmp key other ≡ order
    → list_any (is_at (nat_cmp uid)) (insert_key nat_cmp keys key) ≡ (is_at (nat_cmp uid) key || list_any (is_at (nat_cmp uid)) keys)
    → list_any (is_at (nat_cmp uid)) (match_ordering order (key ∷ other ∷ keys) (other ∷ keys) (other ∷ insert_key nat_cmp keys key))
    ≡ (is_at (nat_cmp uid) key || (is_at (nat_cmp uid) other || list_any (is_at (nat_cmp uid)) keys))
inserted_by uid key other keys Less e rest = refl
inserted_by uid key other keys Equal e rest =
    let same : key ≡ other = numbers_apart.exact key other (ap is_eq e) in
    subst (λ k. (is_at (nat_cmp uid) other || list_any (is_at (nat_cmp uid)) keys)
    ≡ (is_at (nat_cmp uid) k || (is_at (nat_cmp uid) other || list_any (is_at (nat_cmp uid)) keys))) (sym same)
    (twice (is_at (nat_cmp uid) other) (list_any (is_at (nat_cmp uid)) keys))
inserted_by uid key other keys Greater e rest =
    ap (λ more. is_at (nat_cmp uid) other || more) rest
    ∙ swapped (is_at (nat_cmp uid) other) (is_at (nat_cmp uid) key) (list_any (is_at (nat_cmp uid)) keys)

inserted : (uid key : ℕ) (keys : List ℕ)
    → list_any (is_at (nat_cmp uid)) (insert_key nat_cmp keys key) ≡ (is_at (nat_cmp uid) key || list_any (is_at (nat_cmp uid)) keys)
inserted uid key [] = refl
inserted uid key (other ∷ keys) = inserted_by uid key other keys (nat_cmp key other) refl (inserted uid key keys)

or_false : (a : Bool) → (a || false) ≡ a
or_false true = refl
or_false false = refl

-- the tests of two lists, in whichever order the elements were put in
folded : (uid : ℕ) (keys more : List ℕ)
    → list_any (is_at (nat_cmp uid)) (fold (insert_key nat_cmp) keys more) ≡ (list_any (λ other. other == uid) more || list_any (is_at (nat_cmp uid)) keys)
folded uid keys [] = refl
folded uid keys (key ∷ more) =
    folded uid (insert_key nat_cmp keys key) more ∙ ap (λ b. list_any (λ other. other == uid) more || b) (inserted uid key keys)
    ∙ swapped (list_any (λ other. other == uid) more) (is_at (nat_cmp uid) key) (list_any (is_at (nat_cmp uid)) keys)
    ∙ ap (λ b. b || (list_any (λ other. other == uid) more || list_any (is_at (nat_cmp uid)) keys)) (at_uid uid key)
    ∙ grouped (key == uid) (list_any (λ other. other == uid) more) (list_any (is_at (nat_cmp uid)) keys)
  where
    grouped : (a b c : Bool) → (a || (b || c)) ≡ ((a || b) || c)
    grouped true b c = refl
    grouped false b c = refl

pub among_set : (uids : List ℕ) (uid : ℕ) → is_among (set_of uids) uid ≡ list_any (λ other. other == uid) uids
unfolding is_among
among_set uids uid = folded uid [] uids ∙ or_false (list_any (λ other. other == uid) uids)

any_at : (uid : ℕ) (keys : List ℕ) → list_any (is_at (nat_cmp uid)) keys ≡ list_any (λ other. other == uid) keys
any_at uid [] = refl
any_at uid (key ∷ keys) = ap (λ b. b || list_any (is_at (nat_cmp uid)) keys) (at_uid uid key) ∙ ap (λ b. (key == uid) || b) (any_at uid keys)

-- ---- the rows of a STORE

some_by : (row : Row) (found : Option Row) (same : Bool) → (same || is_some found) ≡ is_some (cond same (Some row) found)
some_by row found true = refl
some_by row found false = refl

pub any_row : (rows : List Row) (uid : ℕ) → list_any (λ other. other == uid) (uids_of rows) ≡ is_some (row_at rows uid)
any_row [] uid = refl
any_row (row ∷ rows) uid = ap (λ b. (row.uid == uid) || b) (any_row rows uid) ∙ some_by row (row_at rows uid) (row.uid == uid)

-- a message that is found has such flags
abbrev HasFlags : Flags → Option Message → Type 0
HasFlags flags None = ⊥
HasFlags flags (Some message) = message.flags ≡ flags

abbrev pub TellsFlags : Flags → Option Row → Type 0
TellsFlags flags None = ⊥
TellsFlags flags (Some row) = row.flags ≡ flags

module _ (uid : ℕ) (flags : Flags) where
  -- each row of the UID has these flags
  abbrev Such : Row → Type 0
  Such row = row.uid ≡ uid → row.flags ≡ flags

  abbrev HasThem : List Row → Content → Type 0
  HasThem rows box = HasFlags flags (message_at (content_after_all box (flag_changes rows)).messages uid)

  -- a message of the UID, as a row leaves it
  by_row : (row : Row) (rows : List Row) (box : Content) (now : Message) (same : Bool) → (now.uid == row.uid) ≡ same → now.uid ≡ uid
      → (row.uid ≡ uid → row.flags ≡ flags) → (row.uid ≢ uid → now.flags ≡ flags)
      → message_at (content_after box (SetFlags row.uid row.flags)).messages uid ≡ Some (cond same (relabelled now row.flags) now)
      → ((later : Message) → later.uid ≡ uid → later.flags ≡ flags
      → message_at (content_after box (SetFlags row.uid row.flags)).messages uid ≡ Some later → HasThem (row ∷ rows) box)
      → HasThem (row ∷ rows) box
  by_row row rows box now true e own such other changed more =
      let here : row.uid ≡ uid = grind (arith, nat_tests, e, own) in more (relabelled now row.flags) own (such here) changed
  by_row row rows box now false e own such other changed more =
      more now own (other (λ here. (let back : (now.uid == row.uid) ≡ true = grind (arith, nat_tests, here, own) in
      let both : false ≡ true = sym e ∙ back in cc))) changed

  -- a message that has them keeps them
  kept_flags : (rows : List Row) (box : Content) (now : Message) → All Such rows → now.uid ≡ uid → now.flags ≡ flags
      → message_at box.messages uid ≡ Some now → HasThem rows box
  kept_flags [] box now such own has at = subst (HasFlags flags) (sym at) has
  kept_flags (row ∷ rows) box now such own has at =
      by_row row rows box now (now.uid == row.uid) refl own (All-head Such row rows such) (λ other. has)
      (labelled_at box.messages row.uid uid row.flags now at)
      (λ later is so found. kept_flags rows (content_after box (SetFlags row.uid row.flags)) later (All-tail Such row rows such) is so found)

  -- and a row of the UID gives them
  given_by : (row : Row) (rows : List Row) (box : Content) (now : Message) (found : Row) (same : Bool) → (row.uid == uid) ≡ same → All Such (row ∷ rows)
      → now.uid ≡ uid → message_at (content_after box (SetFlags row.uid row.flags)).messages uid ≡ Some (with_flags row.uid row.flags now)
      → cond same (Some row) (row_at rows uid) ≡ Some found
      → (row_at rows uid ≡ Some found → (later : Message) → later.uid ≡ uid
      → message_at (content_after box (SetFlags row.uid row.flags)).messages uid ≡ Some later → HasThem (row ∷ rows) box)
      → HasThem (row ∷ rows) box
  given_by row rows box now found true e such own changed is more =
      let here : row.uid ≡ uid = grind (arith, nat_tests, e) in
      let meets : (now.uid == row.uid) ≡ true = grind (arith, nat_tests, here, own) in
      kept_flags rows (content_after box (SetFlags row.uid row.flags)) (relabelled now row.flags) (All-tail Such row rows such) own
      (All-head Such row rows such here)
      (changed ∙ ap (λ b. Some (cond b (relabelled now row.flags) now)) meets)
  given_by row rows box now found false e such own changed is more =
      let misses : (now.uid == row.uid) ≡ false = grind (arith, nat_tests, e, own) in
      more is now own (changed ∙ ap (λ b. Some (cond b (relabelled now row.flags) now)) misses)

  given_flags : (rows : List Row) (box : Content) (now : Message) (found : Row) → All Such rows → now.uid ≡ uid → row_at rows uid ≡ Some found
      → message_at box.messages uid ≡ Some now → HasThem rows box
  given_flags [] box now found such own is at = cc
  given_flags (row ∷ rows) box now found such own is at =
      given_by row rows box now found (row.uid == uid) refl such own (labelled_at box.messages row.uid uid row.flags now at) is
      (λ rest later same at_later. given_flags rows (content_after box (SetFlags row.uid row.flags)) later found (All-tail Such row rows such) same rest at_later)

module _ (messages : List Message) (mode : Mode) (flags : Flags) (uid : ℕ) where
  -- the row of a UID is that of a message
  record IsRowOf (row : Row) : Type 0 where
    message : Message
    at : message_at messages uid ≡ Some message
    has : row.flags ≡ flags_after mode message.flags flags

  row_by : (key : ℕ) (keys : List ℕ) (found : Option Message) (row : Row) → message_at messages key ≡ found
      → row_at (stored_row mode flags found ++ stored_rows messages mode flags keys) uid ≡ Some row
      → (row_at (stored_rows messages mode flags keys) uid ≡ Some row → IsRowOf row) → IsRowOf row
  row_by key keys None row at is more = more is
  row_by key keys (Some message) row at is more = by (message.uid == uid) refl is
    where
      first : Row
      first = record { uid = message.uid; flags = flags_after mode message.flags flags }

      by : (same : Bool) → (message.uid == uid) ≡ same → cond same (Some first) (row_at (stored_rows messages mode flags keys) uid) ≡ Some row → IsRowOf row
      by true e is =
          let here : message.uid ≡ uid = grind (arith, nat_tests, e) in
          let own : message.uid ≡ key = uid_of_found messages key message at in
          let one : first ≡ row = cc in
          record {
            message = message;
            at = subst (λ n. message_at messages n ≡ Some message) (sym own ∙ here) at;
            has = ap (λ (r : Row). r.flags) (sym one);
          }
      by false e is = more is

  row_of_it : (keys : List ℕ) (row : Row) → row_at (stored_rows messages mode flags keys) uid ≡ Some row → IsRowOf row
  row_of_it [] row is = cc
  row_of_it (key ∷ keys) row is = row_by key keys (message_at messages key) row refl is (row_of_it keys row)

  or_true : (a : Bool) → (a || true) ≡ true
  or_true true = refl
  or_true false = refl

  key_by : (key : ℕ) (keys : List ℕ) (found : Option Message) (row : Row) → message_at messages key ≡ found
      → row_at (stored_row mode flags found ++ stored_rows messages mode flags keys) uid ≡ Some row
      → (row_at (stored_rows messages mode flags keys) uid ≡ Some row → list_any (λ other. other == uid) keys ≡ true)
      → ((key == uid) || list_any (λ other. other == uid) keys) ≡ true
  key_by key keys None row at is more = rw (more is) (or_true (key == uid))
  key_by key keys (Some message) row at is more = by (message.uid == uid) refl is
    where
      by : (same : Bool) → (message.uid == uid) ≡ same
          → cond same (Some (record { uid = message.uid; flags = flags_after mode message.flags flags })) (row_at (stored_rows messages mode flags keys) uid)
          ≡ Some row
          → ((key == uid) || list_any (λ other. other == uid) keys) ≡ true
      by true e is =
          let own : message.uid ≡ key = uid_of_found messages key message at in
          let here : (key == uid) ≡ true = grind (arith, nat_tests, e, own) in
          rw here refl
      by false e is = rw (more is) (or_true (key == uid))

  -- and its UID is among the keys
  key_of_it : (keys : List ℕ) (row : Row) → row_at (stored_rows messages mode flags keys) uid ≡ Some row → list_any (λ other. other == uid) keys ≡ true
  key_of_it [] row is = cc
  key_of_it (key ∷ keys) row is = key_by key keys (message_at messages key) row refl is (key_of_it keys row)

  -- each row of the UID is that of the one message
  such_row : (first : Message) (key : ℕ) (found : Option Message) → message_at messages uid ≡ Some first → message_at messages key ≡ found
      → All (Such uid (flags_after mode first.flags flags)) (stored_row mode flags found)
  such_row first key None own at = All-nil (Such uid (flags_after mode first.flags flags))
  such_row first key (Some message) own at =
      All-cons (Such uid (flags_after mode first.flags flags)) (record { uid = message.uid; flags = flags_after mode message.flags flags }) []
      (λ same. (let here : key ≡ uid = sym (uid_of_found messages key message at) ∙ same in
      let both : Some message ≡ Some first = sym at ∙ ap (message_at messages) here ∙ own in
      let one : message ≡ first = cc in ap (λ (m : Message). flags_after mode m.flags flags) one))
      (All-nil (Such uid (flags_after mode first.flags flags)))

  such_rows : (first : Message) (keys : List ℕ) → message_at messages uid ≡ Some first
      → All (Such uid (flags_after mode first.flags flags)) (stored_rows messages mode flags keys)
  such_rows first [] own = All-nil (Such uid (flags_after mode first.flags flags))
  such_rows first (key ∷ keys) own =
      All-append (Such uid (flags_after mode first.flags flags)) (stored_row mode flags (message_at messages key)) (stored_rows messages mode flags keys)
      (such_row first key (message_at messages key) own refl) (such_rows first keys own)

told_as : (flags : Flags) (found : Option Message) → HasFlags flags found → TellsFlags flags (option_map row_of found)
told_as flags None has = absurd has
told_as flags (Some message) has = has

-- the row of a message that a STORE changed is its mailbox's then
pub stored_told : (box : Content) (uids : List ℕ) (mode : Mode) (flags : Flags) (uid : ℕ) (row : Row)
    → row_at (rows_stored box uids mode flags) uid ≡ Some row → TellsFlags row.flags (row_at (rows_of (stored box uids mode flags)) uid)
stored_told box uids mode flags uid row is =
    let it = row_of_it box.messages mode flags uid (set_of uids) row is in
    let own : it.message.uid ≡ uid = uid_of_found box.messages uid it.message it.at in
    let has : HasFlags (flags_after mode it.message.flags flags) (message_at (stored box uids mode flags).messages uid) =
    given_flags uid (flags_after mode it.message.flags flags) (rows_stored box uids mode flags) box it.message row
    (such_rows box.messages mode flags uid it.message (set_of uids) it.at) own is it.at in
    subst (λ (found : Option Row). TellsFlags row.flags found) (sym (row_found (stored box uids mode flags).messages uid))
    (told_as row.flags (message_at (stored box uids mode flags).messages uid)
    (subst (λ f. HasFlags f (message_at (stored box uids mode flags).messages uid)) (sym it.has) has))

-- what the reply takes for told was named
pub told_named : (box : Content) (uids : List ℕ) (mode : Mode) (flags : Flags) (uid : ℕ)
    → is_among (set_of (uids_of (rows_stored box uids mode flags))) uid ≡ true → list_any (λ other. other == uid) uids ≡ true
unfolding is_among
told_named box uids mode flags uid is =
    let rows = rows_stored box uids mode flags in
    by (row_at rows uid) refl (sym (among_set (uids_of rows) uid ∙ any_row rows uid) ∙ is)
  where
    by : (found : Option Row) → row_at (rows_stored box uids mode flags) uid ≡ found → is_some found ≡ true → list_any (λ other. other == uid) uids ≡ true
    by None at some = cc
    by (Some row) at some =
        sym (among_set uids uid) ∙ any_at uid (set_of uids) ∙ key_of_it box.messages mode flags uid (set_of uids) row at
