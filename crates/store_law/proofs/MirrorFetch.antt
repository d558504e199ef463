-- A mirror behind the lines of a FETCH: of each message whose flags a line told, it has those that the mailbox has now.
use Rattle.std.proofs.Common.{◌≡◌, ℕ, zero, suc, ◌+◌, ◌<◌, ◌≤◌, ◌==◌, Bool, true, false, not, ◌&&◌, ◌||◌, cond, if◌then◌else◌, List, [], ◌∷◌, ◌++◌, map}
use Rattle.std.proofs.Common.{Option, None, Some, refl, sym, ◌∙◌, ap, ap₂, subst, arith}
use Rattle.std.specs.Prelude.{IfSome}
use Rattle.std.specs.List.{fold, list_any, position_from}
use Rattle.std.specs.Option.{option_map}
use Rattle.std.proofs.lemmas.Bool.Decides.{nat_tests}
use Rattle.std.proofs.lemmas.List.Folds.{list_any-append}
use Rattle.mail_fetch.specs.FlagText.{flags_text}
use Rattle.mail_fetch.specs.Parts.{part_text, uid_text}
use Rattle.mail_message.specs.Boxes.{relabelled}
use Rattle.mail_message.specs.RowOrder.{is_row_of, row_at}
use Rattle.mail_message.specs.SameFlags.{is_same_flags}
use Rattle.mail_message.specs.declared.item.Item.{Item}
use Rattle.mail_message.specs.declared.item.Item.TheVariants as item
use Rattle.mail_message.specs.declared.message.Message.{Message}
use Rattle.mail_message.specs.declared.message.Row.{Row}
use Rattle.mur_model.specs.declared.commands.fetch.Fetching.{Fetching}
use Rattle.mur_model.specs.Fetch.{fetch_lines, fetch_reply_line, flag_uids, is_flags, is_uid_item, items_told, number_in, tells_flags}
use Rattle.store_law.specs.Mirror.{IsSeenOf, Mirror, Mirrors, Seen, at_number, no_uid, read_line, read_lines, seen_by}
use Rattle.store_law.proofs.MirrorNews.{found_uid, read_both, row_told, rows_told_by, told_row}
use Rattle.store_law.proofs.RisingViews.{RowsRise}

-- ---- the parts of a line

-- a line's parts of a message with these flags
abbrev parts_of : Message → List Item → List (List ℕ)
parts_of message items = map (λ asked. part_text asked message) items

part_flags : (message : Message) (seen : Seen) (asked : Item)
    → (seen_by seen (part_text asked message)).flags ≡ cond (is_flags asked) (Some (flags_text message.flags)) seen.flags
part_flags message seen item.Flags = refl
part_flags message seen item.Uid = refl
part_flags message seen item.InternalDate = refl
part_flags message seen item.Size = refl
part_flags message seen (item.Body None) = refl
part_flags message seen (item.Body (Some partial)) = refl
part_flags message seen (item.BodyPeek None) = refl
part_flags message seen (item.BodyPeek (Some partial)) = refl

part_silenced : (message : Message) (seen : Seen) (asked : Item)
    → (seen_by seen (part_text asked message)).silenced ≡ cond (is_flags asked) no_uid seen.silenced
part_silenced message seen item.Flags = refl
part_silenced message seen item.Uid = refl
part_silenced message seen item.InternalDate = refl
part_silenced message seen item.Size = refl
part_silenced message seen (item.Body None) = refl
part_silenced message seen (item.Body (Some partial)) = refl
part_silenced message seen (item.BodyPeek None) = refl
part_silenced message seen (item.BodyPeek (Some partial)) = refl

part_uid : (message : Message) (seen : Seen) (asked : Item)
    → (seen_by seen (part_text asked message)).uid ≡ cond (is_uid_item asked) (Some (uid_text message.uid)) seen.uid
part_uid message seen item.Flags = refl
part_uid message seen item.Uid = refl
part_uid message seen item.InternalDate = refl
part_uid message seen item.Size = refl
part_uid message seen (item.Body None) = refl
part_uid message seen (item.Body (Some partial)) = refl
part_uid message seen (item.BodyPeek None) = refl
part_uid message seen (item.BodyPeek (Some partial)) = refl

either_told : {A : Type 0} (one more : Bool) (told before : A) → cond more told (cond one told before) ≡ cond (one || more) told before
either_told true true told before = refl
either_told true false told before = refl
either_told false more told before = refl

-- flags are told where they are among the items
parts_flags : (message : Message) (seen : Seen) (items : List Item)
    → (fold seen_by seen (parts_of message items)).flags ≡ cond (list_any is_flags items) (Some (flags_text message.flags)) seen.flags
parts_flags message seen [] = refl
parts_flags message seen (asked ∷ items) =
    parts_flags message (seen_by seen (part_text asked message)) items
    ∙ ap (λ before. cond (list_any is_flags items) (Some (flags_text message.flags)) before) (part_flags message seen asked)
    ∙ either_told (is_flags asked) (list_any is_flags items) (Some (flags_text message.flags)) seen.flags

-- and then no silent STORE has named the message since
parts_silenced : (message : Message) (seen : Seen) (items : List Item)
    → (fold seen_by seen (parts_of message items)).silenced ≡ cond (list_any is_flags items) no_uid seen.silenced
parts_silenced message seen [] = refl
parts_silenced message seen (asked ∷ items) =
    parts_silenced message (seen_by seen (part_text asked message)) items
    ∙ ap (λ before. cond (list_any is_flags items) no_uid before) (part_silenced message seen asked)
    ∙ either_told (is_flags asked) (list_any is_flags items) no_uid seen.silenced

parts_uid : (message : Message) (seen : Seen) (items : List Item)
    → (fold seen_by seen (parts_of message items)).uid ≡ cond (list_any is_uid_item items) (Some (uid_text message.uid)) seen.uid
parts_uid message seen [] = refl
parts_uid message seen (asked ∷ items) =
    parts_uid message (seen_by seen (part_text asked message)) items
    ∙ ap (λ before. cond (list_any is_uid_item items) (Some (uid_text message.uid)) before) (part_uid message seen asked)
    ∙ either_told (is_uid_item asked) (list_any is_uid_item items) (Some (uid_text message.uid)) seen.uid

-- the flags are among the items that are told where they were asked for, or were changed

any_if : (test : Bool) (asked : Item) → list_any is_flags (if test then asked ∷ [] else []) ≡ (test && is_flags asked)
any_if true asked = by (is_flags asked)
  where
    by : (b : Bool) → (b || false) ≡ b
    by true = refl
    by false = refl
any_if false asked = refl

joined : (items changes test : Bool) → (((test && false) || items) || ((changes && not items) && true)) ≡ (items || changes)
joined true true true = refl
joined true true false = refl
joined true false true = refl
joined true false false = refl
joined false true true = refl
joined false true false = refl
joined false false true = refl
joined false false false = refl

any_told : (it : Fetching) (changes : Bool) → list_any is_flags (items_told it changes) ≡ (list_any is_flags it.items || changes)
any_told it changes =
    let first : List Item = if it.by_uid && not (list_any is_uid_item it.items) then item.Uid ∷ [] else [] in
    let last : List Item = if changes && not (list_any is_flags it.items) then item.Flags ∷ [] else [] in
    list_any-append is_flags (first ++ it.items) last
    ∙ ap₂ (λ a b. a || b)
    (list_any-append is_flags first it.items
    ∙ ap (λ b. b || list_any is_flags it.items) (any_if (it.by_uid && not (list_any is_uid_item it.items)) item.Uid))
    (any_if (changes && not (list_any is_flags it.items)) item.Flags)
    ∙ joined (list_any is_flags it.items) changes (it.by_uid && not (list_any is_uid_item it.items))

-- ---- the message of a line's number

pub alike : (is_told so : ℕ → Bool) (now rows : List Row) → ((uid : ℕ) → is_told uid ≡ so uid) → rows_told_by is_told now rows ≡ rows_told_by so now rows
alike is_told so now [] same = refl
alike is_told so now (row ∷ rows) same =
    ap₂ (λ (one : Row) more. one ∷ more) (ap (λ b. told_row b row (row_at now row.uid)) (same row.uid)) (alike is_told so now rows same)

module _ (is_told so : ℕ → Bool) (now : List Row) (uid : ℕ) (become : Seen → Seen)
    (others : (other : ℕ) → (other == uid) ≡ false → so other ≡ is_told other)
    (here : (seen : Seen) (row : Row) → row.uid ≡ uid → IsSeenOf seen (row_told is_told now row) → IsSeenOf (become seen) (row_told so now row)) where
  other_same : (row : Row) → (row.uid == uid) ≡ false → row_told so now row ≡ row_told is_told now row
  other_same row apart = ap (λ b. told_row b row (row_at now row.uid)) (others row.uid apart)

  -- rows behind it are others
  behind_same : (low : ℕ) (rows : List Row) → RowsRise low rows → uid < low → rows_told_by so now rows ≡ rows_told_by is_told now rows
  behind_same low [] rises lt = refl
  behind_same low (row ∷ rows) rises lt =
      let apart : (row.uid == uid) ≡ false = grind (arith, nat_tests, lt, rises.0) in
      ap₂ (λ (one : Row) more. one ∷ more) (other_same row apart) (behind_same (row.uid + 1) rows rises.1 (omega (arith, lt, rises.0)))

  none_by : (before : ℕ) (row : Row) (rows : List Row) (same : Bool) (found : Option ℕ) → (row.uid == uid) ≡ same → cond same (Some before) found ≡ None
      → (found ≡ None → rows_told_by so now rows ≡ rows_told_by is_told now rows)
      → rows_told_by so now (row ∷ rows) ≡ rows_told_by is_told now (row ∷ rows)
  none_by before row rows true found e none more = cc
  none_by before row rows false found e none more = ap₂ (λ (one : Row) rest. one ∷ rest) (other_same row e) (more none)

  none_same : (before : ℕ) (rows : List Row) → position_from (is_row_of uid) before rows ≡ None → rows_told_by so now rows ≡ rows_told_by is_told now rows
  none_same before [] none = refl
  none_same before (row ∷ rows) none =
      none_by before row rows (row.uid == uid) (position_from (is_row_of uid) (before + 1) rows) refl none (none_same (before + 1) rows)

  least_by : (before place : ℕ) (same : Bool) (found : Option ℕ) → cond same (Some before) found ≡ Some place → (found ≡ Some place → before + 1 ≤ place)
      → before ≤ place
  least_by before place true found is more = let one : before ≡ place = cc in omega (arith, one)
  least_by before place false found is more = omega (arith, more is)

  least : (before place : ℕ) (rows : List Row) → position_from (is_row_of uid) before rows ≡ Some place → before ≤ place
  least before place [] is = cc
  least before place (row ∷ rows) is =
      least_by before place (row.uid == uid) (position_from (is_row_of uid) (before + 1) rows) is (least (before + 1) place rows)

  at_by : (seen : Seen) (mirror : Mirror) (row : Row) (rows : List Row) (before place further : ℕ) (same : Bool) → (row.uid == uid) ≡ same
      → cond same (Some before) (position_from (is_row_of uid) (before + 1) rows) ≡ Some place → place ≡ before + further
      → IsSeenOf seen (row_told is_told now row) → Mirrors mirror (rows_told_by is_told now rows) → RowsRise (row.uid + 1) rows
      → ((k : ℕ) → position_from (is_row_of uid) (before + 1) rows ≡ Some place → place ≡ before + 1 + k
      → Mirrors (at_number become (suc k) mirror) (rows_told_by so now rows))
      → Mirrors (at_number become (suc further) (seen ∷ mirror)) (rows_told_by so now (row ∷ rows))
  unfolding Mirrors at_number
  at_by seen mirror row rows before place zero true e is far first rest rises more =
      let own : row.uid ≡ uid = grind (arith, nat_tests, e) in
      (here seen row own first, subst (Mirrors mirror) (sym (behind_same (row.uid + 1) rows rises (omega (arith, own)))) rest)
  at_by seen mirror row rows before place (suc k) true e is far first rest rises more =
      let one : before ≡ place = cc in absurd (omega (arith, one, far))
  at_by seen mirror row rows before place zero false e is far first rest rises more = absurd (omega (arith, far, least (before + 1) place rows is))
  at_by seen mirror row rows before place (suc k) false e is far first rest rises more =
      (subst (IsSeenOf seen) (sym (other_same row e)) first, more k is (omega (arith, far)))

  at_place : (low : ℕ) (rows : List Row) (mirror : Mirror) (before place further : ℕ) → RowsRise low rows → Mirrors mirror (rows_told_by is_told now rows)
      → position_from (is_row_of uid) before rows ≡ Some place → place ≡ before + further
      → Mirrors (at_number become (suc further) mirror) (rows_told_by so now rows)
  unfolding Mirrors
  at_place low [] mirror before place further rises agrees is far = cc
  at_place low (row ∷ rows) [] before place further rises agrees is far = absurd agrees
  at_place low (row ∷ rows) (seen ∷ mirror) before place further rises agrees is far =
      at_by seen mirror row rows before place further (row.uid == uid) refl is far agrees.0 agrees.1 rises.1
      (λ k found apart. at_place (row.uid + 1) rows mirror (before + 1) place k rises.1 agrees.1 found apart)

-- ---- a line

abbrev and_told : (ℕ → Bool) → Bool → ℕ → ℕ → Bool
and_told is_told tells uid other = is_told other || (tells && (uid == other))

or_false : (a : Bool) → (a || false) ≡ a
or_false true = refl
or_false false = refl

and_false : (a : Bool) → (a && false) ≡ false
and_false true = refl
and_false false = refl

other_told : (is_told : ℕ → Bool) (tells : Bool) (uid other : ℕ) → (other == uid) ≡ false → and_told is_told tells uid other ≡ is_told other
other_told is_told tells uid other apart =
    let back : (uid == other) ≡ false = grind (arith, nat_tests, apart) in
    rw back (rw (and_false tells) (or_false (is_told other)))

-- a text that was told says the flags of a row, unless a silent STORE has named it since
abbrev SaysFlags : (ℕ → Bool) → Row → Option (List ℕ) → Type 0
SaysFlags silenced row told = IfSome told (λ text. silenced row.uid ≡ false → text ≡ flags_text row.flags)

flags_here : (tells known same : Bool) (row it : Row) (before : Option (List ℕ)) (silenced : ℕ → Bool) → same ≡ true
    → SaysFlags silenced (told_row known row (Some it)) before
    → SaysFlags (cond tells no_uid silenced) (told_row (known || (tells && same)) row (Some it)) (cond tells (Some (flags_text it.flags)) before)
flags_here true true same row it before silenced is so = λ silent. refl
flags_here true false true row it before silenced is so = λ silent. refl
flags_here true false false row it before silenced is so = cc
flags_here false true same row it before silenced is so = so
flags_here false false same row it before silenced is so = so

uid_here : (tells : Bool) (own uid : ℕ) (before : Option (List ℕ)) → own ≡ uid → IfSome before (λ text. text ≡ uid_text uid)
    → IfSome (cond tells (Some (uid_text own)) before) (λ text. text ≡ uid_text uid)
uid_here true own uid before is so = ap uid_text is
uid_here false own uid before is so = so

pub told_uid : (known : Bool) (row : Row) (it : Option Row) → IfSome it (λ (r : Row). r.uid ≡ row.uid) → (told_row known row it).uid ≡ row.uid
told_uid false row it is = refl
told_uid true row None is = refl
told_uid true row (Some it) is = is

module _ (it : Fetching) (message : Message) (now : List Row) (is_told : ℕ → Bool) where
  -- the message, with the flags that the mailbox has now
  seen_here : (row : Row) (found : Row) (seen : Seen) → row_at now message.uid ≡ Some found → row.uid ≡ message.uid
      → IsSeenOf seen (row_told is_told now row)
      → IsSeenOf (fold seen_by seen (parts_of (relabelled message found.flags) (items_told it (not (is_same_flags message.flags found.flags)))))
      (row_told (and_told is_told (tells_flags it message (Some found)) message.uid) now row)
  seen_here row found seen at own so =
      let changes : Bool = not (is_same_flags message.flags found.flags) in
      let items : List Item = items_told it changes in
      let tells : Bool = tells_flags it message (Some found) in
      let later : Message = relabelled message found.flags in
      let here : row_at now row.uid ≡ Some found = ap (row_at now) own ∙ at in
      let same : (message.uid == row.uid) ≡ true = grind (arith, nat_tests, own) in
      let uid_is : (told_row (and_told is_told tells message.uid row.uid) row (row_at now row.uid)).uid ≡ row.uid =
      told_uid (and_told is_told tells message.uid row.uid) row (row_at now row.uid) (found_uid now row.uid) in
      let uid_was : (told_row (is_told row.uid) row (row_at now row.uid)).uid ≡ row.uid =
      told_uid (is_told row.uid) row (row_at now row.uid) (found_uid now row.uid) in (
        subst (λ (u : Option (List ℕ)). IfSome u (λ text. text ≡ uid_text (told_row (and_told is_told tells message.uid row.uid) row (row_at now row.uid)).uid))
            (sym (parts_uid later seen items))
            (uid_here (list_any is_uid_item items) message.uid (told_row (and_told is_told tells message.uid row.uid) row (row_at now row.uid)).uid seen.uid
            (sym own ∙ sym uid_is) (subst (λ n. IfSome seen.uid (λ text. text ≡ uid_text n)) (uid_was ∙ sym uid_is) so.0)),
        subst (λ (f : Option (List ℕ)).
            SaysFlags (fold seen_by seen (parts_of later items)).silenced (told_row (and_told is_told tells message.uid row.uid) row (row_at now row.uid)) f)
            (sym (parts_flags later seen items ∙ ap (λ b. cond b (Some (flags_text found.flags)) seen.flags) (any_told it changes)))
            (subst (λ (s : ℕ → Bool). SaysFlags s (told_row (and_told is_told tells message.uid row.uid) row (row_at now row.uid))
            (cond tells (Some (flags_text found.flags)) seen.flags))
            (sym (parts_silenced later seen items ∙ ap (λ b. cond b no_uid seen.silenced) (any_told it changes)))
            (subst (λ (r : Option Row). SaysFlags (cond tells no_uid seen.silenced) (told_row (and_told is_told tells message.uid row.uid) row r)
            (cond tells (Some (flags_text found.flags)) seen.flags)) (sym here)
            (flags_here tells (is_told row.uid) (message.uid == row.uid) row found seen.flags seen.silenced same
            (subst (λ (r : Option Row). SaysFlags seen.silenced (told_row (is_told row.uid) row r) seen.flags) here so.1)))),
      )

  line_by : (rows : List Row) (mirror : Mirror) (found : Option Row) (place : Option ℕ) → RowsRise 0 rows → row_at now message.uid ≡ found
      → position_from (is_row_of message.uid) 0 rows ≡ place → Mirrors mirror (rows_told_by is_told now rows)
      → Mirrors (read_lines mirror (fetch_reply_line it message (option_map (λ p. p + 1) place) found))
      (rows_told_by (and_told is_told (tells_flags it message found) message.uid) now rows)
  unfolding read_line
  line_by rows mirror None None rises at is agrees =
      subst (Mirrors mirror) (alike is_told (and_told is_told false message.uid) now rows (λ uid. sym (or_false (is_told uid)))) agrees
  line_by rows mirror None (Some place) rises at is agrees =
      subst (Mirrors mirror) (alike is_told (and_told is_told false message.uid) now rows (λ uid. sym (or_false (is_told uid)))) agrees
  line_by rows mirror (Some found) None rises at is agrees =
      let tells : Bool = tells_flags it message (Some found) in
      subst (Mirrors mirror)
      (sym (none_same is_told (and_told is_told tells message.uid) now message.uid (λ seen. fold seen_by seen
      (parts_of (relabelled message found.flags) (items_told it (not (is_same_flags message.flags found.flags)))))
      (λ other apart. other_told is_told tells message.uid other apart) (λ seen row own so. seen_here row found seen at own so) 0 rows is)) agrees
  line_by rows mirror (Some found) (Some place) rises at is agrees =
      let tells : Bool = tells_flags it message (Some found) in
      let become : Seen → Seen = λ seen. fold seen_by seen
      (parts_of (relabelled message found.flags) (items_told it (not (is_same_flags message.flags found.flags)))) in
      let number : suc place ≡ place + 1 = omega arith in
      subst (λ n. Mirrors (at_number become n mirror) (rows_told_by (and_told is_told tells message.uid) now rows)) number
      (at_place is_told (and_told is_told tells message.uid) now message.uid become (λ other apart. other_told is_told tells message.uid other apart)
      (λ seen row own so. seen_here row found seen at own so) 0 rows mirror 0 place place rises agrees is (omega arith))

-- ---- all lines

then_told : (is_told tells : Bool) (uid other : ℕ) (more : List ℕ)
    → ((is_told || (tells && (uid == other))) || list_any (λ u. u == other) more)
    ≡ (is_told || list_any (λ u. u == other) ((if tells then uid ∷ [] else []) ++ more))
then_told true tells uid other more = refl
then_told false true uid other more = refl
then_told false false uid other more = refl

pub fetched_mirrors : (it : Fetching) (rows now : List Row) (is_told : ℕ → Bool) (mirror : Mirror) (before : List Message) → RowsRise 0 rows
    → Mirrors mirror (rows_told_by is_told now rows)
    → Mirrors (read_lines mirror (fetch_lines it rows now before))
    (rows_told_by (λ other. is_told other || list_any (λ u. u == other) (flag_uids it now before)) now rows)
fetched_mirrors it rows now is_told mirror [] rises agrees =
    subst (Mirrors mirror) (alike is_told (λ other. is_told other || false) now rows (λ uid. sym (or_false (is_told uid)))) agrees
fetched_mirrors it rows now is_told mirror (message ∷ before) rises agrees =
    let tells : Bool = tells_flags it message (row_at now message.uid) in
    let line = fetch_reply_line it message (number_in rows message.uid) (row_at now message.uid) in
    let one : Mirrors (read_lines mirror line) (rows_told_by (and_told is_told tells message.uid) now rows) =
    line_by it message now is_told rows mirror (row_at now message.uid) (position_from (is_row_of message.uid) 0 rows) rises refl refl agrees in
    let rest = fetched_mirrors it rows now (and_told is_told tells message.uid) (read_lines mirror line) before rises one in
    subst (λ m. Mirrors m (rows_told_by (λ other. is_told other || list_any (λ u. u == other) (flag_uids it now (message ∷ before))) now rows))
    (sym (read_both mirror line (fetch_lines it rows now before)))
    (subst (Mirrors (read_lines (read_lines mirror line) (fetch_lines it rows now before)))
    (alike (λ other. and_told is_told tells message.uid other || list_any (λ u. u == other) (flag_uids it now before))
    (λ other. is_told other || list_any (λ u. u == other) (flag_uids it now (message ∷ before))) now rows
    (λ other. then_told (is_told other) tells message.uid other (flag_uids it now before))) rest)
