-- The content of a mailbox (RFC 9051, 2.3.1.1 and 2.3.2), and what changes make of it.
use Rattle.std.specs.Prelude.{ℕ, ◌-◌, ◌^◌, min, Bool, false, not, ◌==◌, if◌then◌else◌, List, [], ◌∷◌, ◌++◌, length, map, Option}
use Rattle.std.specs.List.{filter, find, fold, sum_by}
use Rattle.std.specs.List.Sorted.{IsStrictlySortedBy}
use Rattle.std.specs.Option.{option_to_list}
use Rattle.std.specs.Ordering.{nat_cmp, match_ordering}
use Rattle.mail_message.specs.declared.message.Message.{Message}
use Rattle.mail_message.specs.declared.message.Row.{Row}
use Rattle.mail_message.specs.declared.message.Snapshot.{Snapshot}
use Rattle.mail_message.specs.declared.message.Summary.{Summary}
use Rattle.mail_message.specs.declared.change.Change.{Change}
use Rattle.mail_message.specs.declared.change.Change.TheVariants.{Put, SetFlags, Gone, NextUid}
use Rattle.mail_message.specs.FlagSets.{Flags}
use Rattle.mail_message.specs.RowOrder.{HasNext}

-- UIDVALIDITY, UIDNEXT, the access list, and the messages in rising order of UID
pub record Content : Type 0 where
  pub serial : ℕ
  pub next : ℕ
  pub acl : List ℕ
  pub messages : List Message

-- a new mailbox
abbrev pub empty_box : ℕ → List ℕ → Content
empty_box serial acl = record { serial = serial; next = 1; acl = acl; messages = [] }

abbrev pub has_uid : ℕ → Message → Bool
has_uid uid message = message.uid == uid

-- the message with a UID, if it is there
abbrev pub message_at : List Message → ℕ → Option Message
message_at messages uid = find (has_uid uid) messages

-- the messages and this one, at its place by UID or in the place of the one with its UID
abbrev pub with_message : List Message → Message → List Message
with_message [] message = message ∷ []
with_message (other ∷ messages) message =
    match_ordering (nat_cmp message.uid other.uid) (message ∷ other ∷ messages) (message ∷ messages) (other ∷ with_message messages message)

-- the messages without the one that has the UID
abbrev pub without_uid : List Message → ℕ → List Message
without_uid messages uid = filter (λ message. not (has_uid uid message)) messages

abbrev pub uids_of : List Message → List ℕ
uids_of messages = map (λ message. message.uid) messages

-- the messages stand in strictly rising order of UID
abbrev pub IsRising : List Message → Type 0
IsRising messages = IsStrictlySortedBy nat_cmp (uids_of messages)

-- the message has \Deleted
abbrev pub is_deleted : Message → Bool
is_deleted message = message.flags.system.deleted

-- the message with other flags
abbrev pub relabelled : Message → Flags → Message
relabelled message flags = record message { flags = flags }

-- the same where it has the UID
abbrev pub with_flags : ℕ → Flags → Message → Message
with_flags uid flags message = if has_uid uid message then relabelled message flags else message

-- the messages after a change
abbrev pub messages_after : List Message → Change → List Message
messages_after messages (Put message) = with_message messages message
messages_after messages (SetFlags uid flags) = map (with_flags uid flags) messages
messages_after messages (Gone uid) = without_uid messages uid
messages_after messages (NextUid next) = messages

-- UIDNEXT after a change
abbrev pub next_after : ℕ → Change → ℕ
next_after next (Put message) = next
next_after next (SetFlags uid flags) = next
next_after next (Gone uid) = next
next_after next (NextUid later) = later

-- the content after a change
abbrev pub content_after : Content → Change → Content
content_after box change = record box { next = next_after box.next change; messages = messages_after box.messages change }

-- above what a change puts there is a UIDNEXT
abbrev pub LeavesNext : Change → Type 0
LeavesNext (Put message) = HasNext message.uid
LeavesNext (SetFlags uid flags) = Unit {0}
LeavesNext (Gone uid) = Unit {0}
LeavesNext (NextUid next) = Unit {0}

-- the change names the UID
abbrev pub is_touched : ℕ → Change → Bool
is_touched uid (Put message) = message.uid == uid
is_touched uid (SetFlags named flags) = named == uid
is_touched uid (Gone named) = named == uid
is_touched uid (NextUid next) = false

-- the content after changes in their order
abbrev pub content_after_all : Content → List Change → Content
content_after_all box changes = fold content_after box changes

-- the bytes of all bodies together, at most the greatest number of 64 bits
abbrev pub size_of : List Message → ℕ
size_of messages = min (sum_by (λ message. length message.body) messages) (2 ^ 64 - 1)

-- the UID and the flags of a message
abbrev pub row_of : Message → Row
row_of message = record { uid = message.uid; flags = message.flags }

-- a message without its body, of which the number of octets is told (RFC 9051, 2.3.4)
abbrev pub summary_of : Message → Summary
summary_of message = record { uid = message.uid; flags = message.flags; date = message.date; size = length message.body }

-- what a mailbox tells of itself
abbrev pub snapshot_of : Content → Snapshot
snapshot_of box = record { serial = box.serial; next = box.next; size = size_of box.messages; rows = map row_of box.messages }

-- for each UID in its turn the message, if it is there
abbrev pub messages_at : List Message → List ℕ → List Message
messages_at messages [] = []
messages_at messages (uid ∷ uids) = option_to_list (message_at messages uid) ++ messages_at messages uids
