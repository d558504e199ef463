-- A delta makes of the old rows those that a mailbox has now.
use Rattle.std.proofs.Common.{◌≡◌, ℕ, Bool, true, false, cond, not, List, [], ◌∷◌, map, Option, Some, None, option_map, refl, sym, ◌∙◌, ap}
use Rattle.std.specs.List.{filter, fold}
use Rattle.std.specs.Option.{is_some}
use Rattle.mail_message.specs.declared.message.Row.{Row}
use Rattle.mail_message.specs.declared.message.Message.{Message}
use Rattle.mail_message.specs.declared.message.Snapshot.{Snapshot}
use Rattle.mail_message.specs.Boxes.{Content, row_of, size_of, snapshot_of, IsRising}
use Rattle.mail_message.specs.RowOrder.{AreRising, row_at}
use Rattle.mail_message.specs.SameFlags.{is_same_flags}
use Rattle.mail_delta.specs.Deltas.{rows_of, is_changed, is_same_row, is_gone, gone_of, delta_of, with_row, is_among, without_rows, applied}
use Rattle.mail_delta.specs.declared.delta.Delta.{Delta}
use Rattle.mail_delta.specs.Notes.{row_in}
use Rattle.mail_message.proofs.FlagLaw.{same_flags_decide}
use Rattle.mail_delta.proofs.Keyed.{passed, found-at, at-filter, rise-filter, rise-map, at-map, same-items}
use Rattle.mail_delta.proofs.RowPuts.{uid_of, or_before, rising-with_rows, row_at-with_rows}

-- ---- the rows of a mailbox

abbrev pub message_uid : Message → ℕ
message_uid message = message.uid

pub rising-rows : (box : Content) → IsRising box.messages → AreRising (rows_of box)
rising-rows box rising = rise-map message_uid uid_of row_of (λ message. refl) box.messages rising

pub row_at-rows : (box : Content) (k : ℕ) → row_at (rows_of box) k ≡ row_in box k
row_at-rows box k = at-map message_uid uid_of row_of (λ message. refl) box.messages k

pub row_is : (one other : Row) → one.uid ≡ other.uid → one.flags ≡ other.flags → one ≡ other
row_is one other uid flags = λ i. record { uid = uid i; flags = flags i }

is_some-mapped : {A B : Type 0} (f : A → B) (found : Option A) → is_some (option_map f found) ≡ is_some found
is_some-mapped f None = refl
is_some-mapped f (Some x) = refl

-- a UID is among those of rows if a row has it
pub among-rows : (rows : List Row) (k : ℕ) → is_among (map uid_of rows) k ≡ is_some (row_at rows k)
among-rows rows k = ap is_some (at-map uid_of (λ (n : ℕ). n) uid_of (λ row. refl) rows k) ∙ is_some-mapped uid_of (row_at rows k)

is_some-if : (b : Bool) (row : Row) → is_some (cond b (Some row) None) ≡ b
is_some-if true row = refl
is_some-if false row = refl

-- ---- old rows and those now

module _ (old now : List Row) (was : AreRising old) (is : AreRising now) where
  among-gone : (k : ℕ) → is_among (gone_of now old) k ≡ is_some (passed (is_gone now) (row_at old k))
  among-gone k = among-rows (filter (is_gone now) old) k ∙ ap is_some (at-filter uid_of (is_gone now) old k was)

  gone_at : (k : ℕ) (row : Row) → row_at old k ≡ Some row → (found : Option Row) → row_at now k ≡ found
      → is_among (gone_of now old) row.uid ≡ not (is_some found)
  gone_at k row there found at =
      let uid : row.uid ≡ k = found-at uid_of k old row there in
      let test : is_gone now row ≡ not (is_some found) = ap (λ n. not (is_some (row_at now n))) uid ∙ ap (λ (o : Option Row). not (is_some o)) at in
      ap (is_among (gone_of now old)) uid ∙ among-gone k ∙ ap (λ o. is_some (passed (is_gone now) o)) there
      ∙ is_some-if (is_gone now row) row ∙ test

  abbrev stays : Row → Bool
  stays row = not (is_among (gone_of now old) row.uid)

  old_at : (k : ℕ) (row : Row) → row_at now k ≡ Some row → (found : Option Row) → row_at old k ≡ found
      → is_changed old row ≡ not (is_same_row found row)
  old_at k row there found at =
      let uid : row.uid ≡ k = found-at uid_of k now row there in
      ap (λ n. not (is_same_row (row_at old n) row)) uid ∙ ap (λ o. not (is_same_row o row)) at

  same_by : (k : ℕ) (one row : Row) → row_at old k ≡ Some one → row_at now k ≡ Some row
      → is_changed old row ≡ not (is_same_flags one.flags row.flags) → stays one ≡ true
      → (b : Bool) → is_same_flags one.flags row.flags ≡ b
      → or_before (cond (is_changed old row) (Some row) None) (cond (stays one) (Some one) None) ≡ Some row
  same_by k one row before after test stay true same =
      let flags : one.flags ≡ row.flags = (same_flags_decide one.flags row.flags).0 same in
      let uid : one.uid ≡ row.uid = found-at uid_of k old one before ∙ sym (found-at uid_of k now row after) in
      let unchanged : is_changed old row ≡ false = test ∙ ap not same in
      let it : Some one ≡ Some row = ap Some (row_is one row uid flags) in
      rw (unchanged, stay) it
  same_by k one row before after test stay false other =
      let changed : is_changed old row ≡ true = test ∙ ap not other in rw changed refl

  both_by : (k : ℕ) (before after : Option Row) → row_at old k ≡ before → row_at now k ≡ after
      → or_before (passed (is_changed old) after) (passed stays before) ≡ after
  both_by k None None before after = refl
  both_by k (Some one) None before after =
      let gone : is_among (gone_of now old) one.uid ≡ true = gone_at k one before None after in rw gone refl
  both_by k None (Some row) before after =
      let changed : is_changed old row ≡ true = old_at k row after None before in rw changed refl
  both_by k (Some one) (Some row) before after =
      same_by k one row before after (old_at k row after (Some one) before) (ap not (gone_at k one before (Some row) after))
      (is_same_flags one.flags row.flags) refl

  -- the old rows without those that are gone, and with the changed ones, are the rows now
  pub applied-rows : fold with_row (without_rows old (gone_of now old)) (filter (is_changed old) now) ≡ now
  applied-rows =
      let base : List Row = without_rows old (gone_of now old) in
      let changed : List Row = filter (is_changed old) now in
      same-items uid_of (fold with_row base changed) now (rising-with_rows base changed (rise-filter uid_of stays old was)) is
      (λ k. row_at-with_rows base changed k (rise-filter uid_of (is_changed old) now is)
      ∙ ap (λ o. or_before o (row_at base k)) (at-filter uid_of (is_changed old) now k is)
      ∙ ap (or_before (passed (is_changed old) (row_at now k))) (at-filter uid_of stays old k was)
      ∙ both_by k (row_at old k) (row_at now k) refl refl)

-- a delta applied to the old snapshot gives what the mailbox tells of itself now
pub applied-delta : (old : Snapshot) (box : Content) → AreRising old.rows → IsRising box.messages → applied old (delta_of old.rows box) ≡ snapshot_of box
applied-delta old box was rising =
    let P : List Row → Snapshot = λ rows. record { serial = box.serial; next = box.next; size = size_of box.messages; rows = rows } in
    ap P (applied-rows old.rows (rows_of box) was (rising-rows box rising))

-- a frontend that has nothing is told all rows
pub all-changed : (rows : List Row) → filter (is_changed []) rows ≡ rows
all-changed [] = refl
all-changed (row ∷ rows) = ap (λ rest. row ∷ rest) (all-changed rows)

-- ---- the same with what a look gives

pub all-told : (seen : Snapshot) (box : Content) (changed : List Row) (gone : List ℕ) → seen ≡ snapshot_of box → changed ≡ seen.rows → gone ≡ []
    → ◌≡◌ {A = Delta} (record { serial = seen.serial; next = seen.next; size = seen.size; changed = changed; gone = gone }) (delta_of [] box)
all-told seen box changed gone e is none =
    let rows : changed ≡ filter (is_changed []) (rows_of box) = is ∙ ap (λ (s : Snapshot). s.rows) e ∙ sym (all-changed (rows_of box)) in
    λ i. record { serial = (e i).serial; next = (e i).next; size = (e i).size; changed = rows i; gone = none i }

pub complete-by : (old : Snapshot) (box : Content) (seen : Snapshot) (now were changed : List Row) (gone : List ℕ) → seen ≡ snapshot_of box
    → now ≡ seen.rows → were ≡ old.rows → changed ≡ filter (is_changed old.rows) now → gone ≡ gone_of seen.rows were
    → AreRising old.rows → IsRising box.messages
    → applied old (record { serial = seen.serial; next = seen.next; size = seen.size; changed = changed; gone = gone }) ≡ snapshot_of box
complete-by old box seen now were changed gone e n w hc hg rising sorted =
    let rows : seen.rows ≡ rows_of box = ap (λ (s : Snapshot). s.rows) e in
    let new : changed ≡ filter (is_changed old.rows) (rows_of box) = hc ∙ ap (filter (is_changed old.rows)) (n ∙ rows) in
    let left : gone ≡ gone_of (rows_of box) old.rows = hg ∙ ap (λ r. gone_of r were) rows ∙ ap (gone_of (rows_of box)) w in
    let delta : ◌≡◌ {A = Delta} (record { serial = seen.serial; next = seen.next; size = seen.size; changed = changed; gone = gone }) (delta_of old.rows box) =
    (λ i. record { serial = (e i).serial; next = (e i).next; size = (e i).size; changed = new i; gone = left i }) in
    ap (applied old) delta ∙ applied-delta old box rising sorted
