-- What changed in a mailbox between two moments, and a snapshot after that (RFC 9051, 2.3.1.1 and 2.3.2).
use Rattle.std.specs.Prelude.{ℕ, Bool, false, not, ◌==◌, List, [], ◌∷◌, map, Option, None, Some, is_some}
use Rattle.std.specs.List.{filter, find, fold}
use Rattle.std.specs.Ordering.{nat_cmp, match_ordering}
use Rattle.mur_base.specs.Map.{value_at}
use Rattle.mail_message.specs.declared.message.Row.{Row}
use Rattle.mail_message.specs.declared.message.Snapshot.{Snapshot}
use Rattle.mail_message.specs.Boxes.{Content, row_of, size_of}
use Rattle.mail_message.specs.RowOrder.{row_at}
use Rattle.mail_delta.specs.declared.delta.Delta.{Delta}
use Rattle.mail_message.specs.SameFlags.{is_same_flags}

-- a row for each message of a mailbox
abbrev pub rows_of : Content → List Row
rows_of box = map row_of box.messages

-- there was a row, with the flags of this one
abbrev pub is_same_row : Option Row → Row → Bool
is_same_row None row = false
is_same_row (Some old) row = is_same_flags old.flags row.flags

-- the old rows don't have this one equally
abbrev pub is_changed : List Row → Row → Bool
is_changed old row = not (is_same_row (row_at old row.uid) row)

-- the rows have none with the UID of this one
abbrev pub is_gone : List Row → Row → Bool
is_gone now row = not (is_some (row_at now row.uid))

-- the UIDs of the old rows that the rows have no more
abbrev pub gone_of : List Row → List Row → List ℕ
gone_of now old = map (λ row. row.uid) (filter (is_gone now) old)

-- what changed in a mailbox since it had these rows: its rows that are new or other ones, and the UIDs that are gone, both in their order
abbrev pub delta_of : List Row → Content → Delta
delta_of old box = record {
  serial = box.serial;
  next = box.next;
  size = size_of box.messages;
  changed = filter (is_changed old) (rows_of box);
  gone = gone_of (rows_of box) old;
}

-- ---- a snapshot after a delta

-- the rows and this one, at its place by UID or in the place of the one with its UID
abbrev pub with_row : List Row → Row → List Row
with_row [] row = row ∷ []
with_row (other ∷ rows) row =
    match_ordering (nat_cmp row.uid other.uid) (row ∷ other ∷ rows) (row ∷ rows) (other ∷ with_row rows row)

-- a row, if there is one, has the UID
abbrev pub has_uid_at : ℕ → Option Row → Bool
has_uid_at uid None = false
has_uid_at uid (Some row) = row.uid == uid

abbrev pub is_among : List ℕ → ℕ → Bool
is_among uids uid = is_some (find (λ other. other == uid) uids)

-- the rows whose UIDs aren't among some
abbrev pub without_rows : List Row → List ℕ → List Row
without_rows rows gone = filter (λ row. not (is_among gone row.uid)) rows

-- the UID of a row isn't in a set
abbrev pub is_left : List (ℕ × Unit {0}) → Row → Bool
is_left gone row = not (is_some (value_at nat_cmp gone row.uid))

-- a snapshot after a delta: without the rows that are gone, and with the changed ones
abbrev pub applied : Snapshot → Delta → Snapshot
applied old delta = record {
  serial = delta.serial;
  next = delta.next;
  size = delta.size;
  rows = fold with_row (without_rows old.rows delta.gone) delta.changed;
}

-- what a frontend has of a mailbox that it was told nothing of
abbrev pub nothing_seen : Snapshot
nothing_seen = record { serial = 0; next = 1; size = 0; rows = [] }
