-- Which commands are refused, and why (RFC 3656, 4). The tests of a command are made in their order: the first that holds tells why.
use Rattle.std.specs.Prelude.{ℕ, Bool, true, false, ◌&&◌, ◌||◌, ◌==◌, not, nat_le, is_none, List, [], ◌∷◌, codes, Option, None, Some, if◌then◌else◌}
use Rattle.mur_base.specs.declared.home.Location.{Location}
use Rattle.mur_base.specs.declared.limits.TheConstants.{MAILBOX_LIMIT}
use Rattle.node_record.specs.declared.table.State.{State}
use Rattle.node_record.specs.declared.table.State.TheVariants.{Bare, Kept, Active}
use Rattle.node_record.specs.declared.table.Record.{Record}
use Rattle.node_record.specs.Table.{MailboxTable, is_mailbox_if}
use Rattle.master_core.specs.declared.refusal.Refusal.{Refusal}
use Rattle.master_core.specs.declared.refusal.Refusal.TheVariants as refusal
use Rattle.master_core.specs.declared.sender.Sender.{Sender}
use Rattle.master_core.specs.Senders.{is_backend, is_server}

abbrev pub refusal_text : Refusal → List ℕ
refusal_text refusal.Exists = codes "1 exists"
refusal_text refusal.Reserved = codes "2 reserved"
refusal_text refusal.NotActive = codes "3 not active"
refusal_text refusal.NoSuchName = codes "4 no such name"
refusal_text refusal.NotYours = codes "5 not yours"
refusal_text refusal.Full = codes "6 full"
refusal_text refusal.SerialsSpent = codes "7 serials spent"

abbrev pub is_active_state : State → Bool
is_active_state (Bare serial) = false
is_active_state (Kept acl) = false
is_active_state (Active acl) = true

-- the name is active
abbrev pub is_active : Option Record → Bool
is_active None = false
is_active (Some it) = is_active_state it.state

-- the name is reserved, with or without an access list
abbrev pub is_reserved : Option Record → Bool
is_reserved None = false
is_reserved (Some it) = not (is_active_state it.state)

-- the name has a record, and that is at another server than the sender
abbrev pub is_elsewhere : Sender → Option Record → Bool
is_elsewhere sender None = false
is_elsewhere sender (Some it) = not (is_server sender it.place)

-- where the name is: at the place of its record, or at the one given where it has none
abbrev pub place_in : Option Record → Location → Location
place_in None place = place
place_in (Some it) place = it.place

-- the name would be one mailbox more than there may be
abbrev pub is_full : MailboxTable → Option Record → Bool
is_full table found = not (is_mailbox_if found) && nat_le MAILBOX_LIMIT table.mailboxes

abbrev pub first_of : List (Bool × Refusal) → Option Refusal
first_of [] = None
first_of (test ∷ tests) = if test.0 then Some test.1 else first_of tests

-- RESERVE name location (RFC 3656, 4.9)
unfoldable pub reserve_refusal : MailboxTable → Sender → Option Record → Location → Option Refusal
reserve_refusal table sender found place = first_of (
    (not (is_backend sender), refusal.NotYours)
    ∷ (not (is_server sender place), refusal.NotYours)
    ∷ (is_active found, refusal.Exists)
    ∷ (is_reserved found, refusal.Reserved)
    ∷ (table.serial == 4294967295, refusal.SerialsSpent)
    ∷ [])

-- ACTIVATE name location acl (RFC 3656, 4.1): the location may be at another server, if the record is at the sender
unfoldable pub activate_refusal : MailboxTable → Sender → Option Record → Location → Option Refusal
activate_refusal table sender found place = first_of (
    (not (is_backend sender), refusal.NotYours)
    ∷ (not (is_server sender (place_in found place)), refusal.NotYours)
    ∷ (is_full table found, refusal.Full)
    ∷ [])

-- DEACTIVATE name location (RFC 3656, 4.3)
unfoldable pub deactivate_refusal : Sender → Option Record → Location → Option Refusal
deactivate_refusal sender found place = first_of (
    (not (is_backend sender), refusal.NotYours)
    ∷ (is_none found, refusal.NoSuchName)
    ∷ (is_elsewhere sender found || not (is_server sender place), refusal.NotYours)
    ∷ (not (is_active found), refusal.NotActive)
    ∷ [])

-- DELETE name (RFC 3656, 4.4)
unfoldable pub delete_refusal : Sender → Option Record → Option Refusal
delete_refusal sender found = first_of (
    (not (is_backend sender), refusal.NotYours)
    ∷ (is_none found, refusal.NoSuchName)
    ∷ (is_elsewhere sender found, refusal.NotYours)
    ∷ [])
