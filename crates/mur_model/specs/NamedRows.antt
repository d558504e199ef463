-- The messages that a command of a selected session names (RFC 9051, 9: sequence-set; 6.4.9): rows of its view, by their numbers or by their UIDs.
use Rattle.std.specs.Prelude.{ℕ, ◌+◌, ◌-◌, Bool, true, false, ◌&&◌, ◌||◌, nat_le, nat_lt, List, [], ◌∷◌, length, map, slice_get, Option, None, Some}
use Rattle.std.specs.List.{filter, list_all, zip}
use Rattle.mail_message.specs.Sets.{set_at, set_holds}
use Rattle.mail_message.specs.declared.message.Row.{Row}
use Rattle.mail_message.specs.declared.set.SetEnd.{SetEnd}
use Rattle.mail_message.specs.declared.set.SetEnd.TheVariants.{Number, Last}
use Rattle.mail_message.specs.declared.set.SetPart.{SetPart}
use Rattle.mail_message.specs.declared.set.SetPart.TheVariants.{One, Range}
use Rattle.mur_model.specs.declared.view.View.{View}
use Rattle.mur_model.specs.ClientView.{uids}

-- among so many messages there is one of this number, which is at least 1 (RFC 9051, 9: nz-number)
abbrev pub has_number : ℕ → SetEnd → Bool
has_number count (Number number) = nat_le number count
has_number count Last = nat_lt 0 count

abbrev pub has_numbers : ℕ → SetPart → Bool
has_numbers count (One end) = has_number count end
has_numbers count (Range one other) = has_number count one && has_number count other

-- each number of the set is a message's
abbrev pub has_all_numbers : ℕ → List SetPart → Bool
has_all_numbers count set = list_all (has_numbers count) set

-- a set names messages of a view; one of UIDs may name none
abbrev pub names_messages : View → Bool → List SetPart → Bool
names_messages view by_uid set = by_uid || has_all_numbers (length view.rows) set

abbrev pub uid_or_none : Option Row → ℕ
uid_or_none None = 0
uid_or_none (Some row) = row.uid

-- the UID of the last row, 0 where there is none
abbrev pub last_uid : List Row → ℕ
last_uid rows = uid_or_none (slice_get rows (length rows - 1))

-- the numbers of rows, of which the first has this one
abbrev pub numbers_from : ℕ → List Row → List ℕ
numbers_from number [] = []
numbers_from number (row ∷ rows) = number ∷ numbers_from (number + 1) rows

-- the UIDs of the rows that have a mark
abbrev pub picked : List (Row × Bool) → List ℕ
picked pairs = map (λ pair. pair.0.uid) (filter (λ pair. pair.1) pairs)

-- the UIDs of the rows whose number, of these, is in a set
abbrev pub uids_by : List SetPart → List ℕ → List Row → List ℕ
uids_by set numbers rows = picked (zip rows (map (set_holds set) numbers))

-- the UIDs of the named messages, in rising order; `*` is the last message of the view
unfoldable pub named_uids : Bool → List SetPart → List Row → List ℕ
named_uids false set rows = uids_by (set_at (length rows) set) (numbers_from 1 rows) rows
named_uids true set rows = uids_by (set_at (last_uid rows) set) (uids rows) rows
