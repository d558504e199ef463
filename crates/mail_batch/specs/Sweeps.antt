-- Which changes of a mailbox its giver has still to send, and which messages the taker has already.
use Rattle.std.specs.Prelude.{◌≡◌, ℕ, Bool, true, false, if◌then◌else◌, List, [], map, Option, None, Some, is_some}
use Rattle.std.specs.List.{fold}
use Rattle.std.specs.Map.{keys_of}
use Rattle.std.specs.Ordering.{nat_cmp}
use Rattle.mur_base.specs.Map.{value_at, with_entry, with_value, without_key}
use Rattle.mail_message.specs.declared.message.Message.{Message}
use Rattle.mail_message.specs.declared.message.Row.{Row}
use Rattle.mail_message.specs.declared.change.Change.{Change}
use Rattle.mail_message.specs.declared.change.Change.TheVariants.{Put, SetFlags, Gone, NextUid}
use Rattle.mail_message.specs.Boxes.{message_at, row_of}
use Rattle.mail_batch.specs.Weights.{batch, all_fit}

-- for each UID that was ever noted, whether the taker has its message once all that was sent has come
abbrev pub SentMarks : Type 0
SentMarks = List (ℕ × Bool)

pub record SweepState : Type 0 where
  -- the UIDs of which a change is still to be sent, in rising order
  pub left : List (ℕ × Unit {0})
  pub known : SentMarks

-- a change of the UID is still to be sent
abbrev pub is_left : SweepState → ℕ → Bool
is_left sweep uid = is_some (value_at nat_cmp sweep.left uid)

abbrev pub or_false : Option Bool → Bool
or_false None = false
or_false (Some sent) = sent

-- the taker has a message with the UID, once all that was sent has come
abbrev pub is_sent : SweepState → ℕ → Bool
is_sent sweep uid = or_false (value_at nat_cmp sweep.known uid)

-- a UID that has no mark yet gets one: its message wasn't sent
abbrev pub with_place : SentMarks → ℕ → SentMarks
with_place known uid = if is_some (value_at nat_cmp known uid) then known else with_entry nat_cmp known uid false

-- from now on a change of the UID is to be sent
abbrev pub noted : SweepState → ℕ → SweepState
noted sweep uid = record { left = with_entry nat_cmp sweep.left uid tt; known = with_place sweep.known uid }

abbrev pub noted_row : SweepState → Row → SweepState
noted_row sweep row = noted sweep row.uid

abbrev pub nothing_left : SweepState
nothing_left = record { left = []; known = [] }

-- at the start each message is to be sent, and the taker has none
abbrev pub all_left : List Message → SweepState
all_left messages = fold noted_row nothing_left (map row_of messages)

-- A UID's change, by whether the taker has a message with it and by the giver's message: a message that the taker lacks goes whole,
-- one that it has goes as its flags, and one that the giver lacks goes as Gone.
abbrev pub change_by : ℕ → Bool → Option Message → Change
change_by uid sent None = Gone uid
change_by uid false (Some message) = Put message
change_by uid true (Some message) = SetFlags uid message.flags

abbrev pub change_at : SweepState → List Message → ℕ → Change
change_at sweep messages uid = change_by uid (is_sent sweep uid) (message_at messages uid)

-- all changes that are still to be sent, in rising order of UID
abbrev pub changes_left : SweepState → List Message → List Change
changes_left sweep messages = map (change_at sweep messages) (keys_of sweep.left)

-- the next batch: the first of the changes left, within the limits of a batch
abbrev pub batch_of : SweepState → List Message → List Change
batch_of sweep messages = batch (change_at sweep messages) (keys_of sweep.left)

-- one batch takes all changes left
abbrev pub fits_one_batch : SweepState → List Message → Bool
fits_one_batch sweep messages = all_fit (change_at sweep messages) (keys_of sweep.left)

-- the change of a UID was sent: none is left, and the taker has a message with the UID, or has none
abbrev pub settled : SweepState → ℕ → Bool → SweepState
settled sweep uid sent = record { left = without_key nat_cmp sweep.left uid; known = with_value nat_cmp sweep.known uid sent }

abbrev pub after_sending : SweepState → Change → SweepState
after_sending sweep (Put message) = settled sweep message.uid true
after_sending sweep (SetFlags uid flags) = settled sweep uid true
after_sending sweep (Gone uid) = settled sweep uid false
after_sending sweep (NextUid next) = sweep

abbrev pub after_sending_all : SweepState → List Change → SweepState
after_sending_all sweep changes = fold after_sending sweep changes

-- the same changes are left, and the taker has the same messages
pub record IsSameSweep (old new : SweepState) : Type 0 where
  pub left : new.left ≡ old.left
  pub sent : (uid : ℕ) → is_sent new uid ≡ is_sent old uid
