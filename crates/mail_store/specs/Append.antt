-- What APPEND does to a mailbox (RFC 9051, 6.3.12 and 2.3.1.1).
use Rattle.std.specs.Prelude.{ℕ, ◌+◌, ◌-◌, ◌^◌, nat_lt, if◌then◌else◌, List, [], ◌∷◌, length, Option, Some, None}
use Rattle.mur_base.specs.declared.limits.TheConstants.{MAILBOX_MESSAGE_LIMIT}
use Rattle.mail_message.specs.declared.message.Message.{Message}
use Rattle.mail_message.specs.declared.change.Change.{Change}
use Rattle.mail_message.specs.declared.change.Change.TheVariants.{Put, NextUid}
use Rattle.mail_message.specs.Boxes.{Content, content_after_all}
use Rattle.mail_store.specs.declared.fault.StoreFault.{StoreFault}
use Rattle.mail_store.specs.declared.fault.StoreFault.TheVariants.{TooMany, UidsSpent}

-- the UIDs of messages from a first one on
abbrev pub uids_from : ℕ → List Message → List ℕ
uids_from uid [] = []
uids_from uid (message ∷ messages) = uid ∷ uids_from (uid + 1) messages

-- each message is put at the next UID, and the first UID behind them is UIDNEXT
abbrev pub puts_from : ℕ → List Message → List Change
puts_from uid [] = NextUid uid ∷ []
puts_from uid (message ∷ messages) = Put (record message { uid = uid }) ∷ puts_from (uid + 1) messages

-- the content with messages at the UIDs from UIDNEXT on
abbrev pub appended : Content → List Message → Content
appended box messages = content_after_all box (puts_from box.next messages)

-- why messages can't be appended
abbrev pub append_fault : Content → List Message → Option StoreFault
append_fault box messages =
    if nat_lt MAILBOX_MESSAGE_LIMIT (length box.messages + length messages) then Some TooMany
    else if nat_lt (2 ^ 32 - 1) (box.next + length messages) then Some UidsSpent
    else None
