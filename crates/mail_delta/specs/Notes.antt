-- Rows of a mailbox as they were before they changed.
use Rattle.std.specs.Prelude.{ℕ, if◌then◌else◌, List, [], ◌∷◌, ◌++◌, Option, None, Some, is_some}
use Rattle.std.specs.List.{fold}
use Rattle.std.specs.Option.{option_map}
use Rattle.std.specs.Ordering.{nat_cmp}
use Rattle.mur_base.specs.Map.{value_at, with_entry}
use Rattle.mail_message.specs.declared.message.Row.{Row}
use Rattle.mail_message.specs.Boxes.{Content, message_at, row_of}
use Rattle.mail_delta.specs.declared.delta.Delta.{Delta}
use Rattle.mail_delta.specs.Deltas.{is_same_row}

-- the row of a message, if it is there
abbrev pub row_in : Content → ℕ → Option Row
row_in box uid = option_map row_of (message_at box.messages uid)

-- for some UIDs the row before, if there was one
abbrev pub Notes : Type 0
Notes = List (ℕ × Option Row)

-- the row as it was noted, or as it is now if nothing was noted
abbrev pub noted_or : Option (Option Row) → Option Row → Option Row
noted_or None now = now
noted_or (Some was) now = was

-- the row of a UID before, by the notes and by the row now
abbrev pub row_before : Notes → ℕ → Option Row → Option Row
row_before notes uid now = noted_or (value_at nat_cmp notes uid) now

-- the notes and this one, unless they have one of the UID: the first note of a UID is the one that counts
abbrev pub with_note : Notes → ℕ → Option Row → Notes
with_note notes uid was = if is_some (value_at nat_cmp notes uid) then notes else with_entry nat_cmp notes uid was

-- notes, and later ones for the UIDs that they lack
abbrev pub with_later : Notes → Notes → Notes
with_later notes later = fold (λ kept note. with_note kept note.0 note.1) notes later

-- notes, and earlier ones in the place of those with their UIDs
abbrev pub with_earlier : Notes → Notes → Notes
with_earlier notes earlier = fold (λ kept note. with_entry nat_cmp kept note.0 note.1) notes earlier

-- ---- what notes tell of a mailbox

-- the row as it is now, if it is there and another one than before
abbrev pub changed_row : Option Row → Option Row → List Row
changed_row was None = []
changed_row was (Some row) = if is_same_row was row then [] else row ∷ []

-- the UID, if there was a row and is none
abbrev pub gone_uid : ℕ → Option Row → Option Row → List ℕ
gone_uid uid None now = []
gone_uid uid (Some was) (Some row) = []
gone_uid uid (Some was) None = uid ∷ []

abbrev pub changed_in : Content → Notes → List Row
changed_in box [] = []
changed_in box (note ∷ notes) = changed_row note.1 (row_in box note.0) ++ changed_in box notes

abbrev pub gone_in : Content → Notes → List ℕ
gone_in box [] = []
gone_in box (note ∷ notes) = gone_uid note.0 note.1 (row_in box note.0) ++ gone_in box notes

-- what notes tell of a mailbox with bodies of this size
abbrev pub delta_by : Notes → Content → ℕ → Delta
delta_by notes box size = record {
  serial = box.serial;
  next = box.next;
  size = size;
  changed = changed_in box notes;
  gone = gone_in box notes;
}
