-- The table of the master (RFC 3656, 1): the record of each name, folded from the entries of its disk.
use Rattle.std.specs.Prelude.{◌≡◌, ℕ, Bool, true, false, max, List, [], Option, None, Some}
use Rattle.std.specs.List.{fold, count_by}
use Rattle.std.specs.Map.{values_of}
use Rattle.std.specs.Ordering.{nat_cmp}
use Rattle.std.specs.Cmp.Lexicographic.{slice_cmp}
use Rattle.mur_base.specs.declared.home.Location.{Location}
use Rattle.mur_base.specs.Map.{value_at, with_entry, with_value, without_key}
use Rattle.node_record.specs.declared.table.State.{State}
use Rattle.node_record.specs.declared.table.State.TheVariants.{Bare, Kept, Active}
use Rattle.node_record.specs.declared.table.Record.{Record}
use Rattle.node_record.specs.declared.master.MasterRecord.{MasterRecord}
use Rattle.node_record.specs.declared.master.MasterRecord.TheVariants as entry

abbrev pub Records : Type 0
Records = List (List ℕ × Record)

-- the records, the greatest serial that a name was reserved under, and how many names are mailboxes
pub record MailboxTable : Type 0 where
  pub records : Records
  pub serial : ℕ
  pub mailboxes : ℕ

abbrev pub record_at : MailboxTable → List ℕ → Option Record
record_at table name = value_at (slice_cmp nat_cmp) table.records name

-- a name is a mailbox where its record is active, or is reserved with an access list

abbrev pub has_acl : State → Bool
has_acl (Bare serial) = false
has_acl (Kept acl) = true
has_acl (Active acl) = true

abbrev pub is_mailbox : Record → Bool
is_mailbox record_of_name = has_acl record_of_name.state

abbrev pub is_mailbox_if : Option Record → Bool
is_mailbox_if None = false
is_mailbox_if (Some it) = is_mailbox it

abbrev pub IsMailbox : MailboxTable → List ℕ → Type 0
IsMailbox table name = is_mailbox_if (record_at table name) ≡ true

-- how many names are mailboxes
abbrev pub mailboxes_in : Records → ℕ
mailboxes_in records = count_by is_mailbox (values_of records)

abbrev pub counted : Records → ℕ → MailboxTable
counted records serial = record { records = records; serial = serial; mailboxes = mailboxes_in records }

-- the count of mailboxes is right
abbrev pub IsCounted : MailboxTable → Type 0
IsCounted table = table.mailboxes ≡ mailboxes_in table.records

abbrev pub empty_table : MailboxTable
empty_table = counted [] 0

-- the access list is kept where there is one
abbrev pub kept_state : State → State
kept_state (Bare serial) = Bare serial
kept_state (Kept acl) = Kept acl
kept_state (Active acl) = Kept acl

abbrev pub moved : Location → Record → Record
moved place it = record { place = place; state = kept_state it.state }

abbrev pub with_record : Records → List ℕ → Record → Records
with_record records name it = with_entry (slice_cmp nat_cmp) records name it

-- a name without a record stays without one
abbrev pub reserved_again : Records → List ℕ → Location → Option Record → Records
reserved_again records name place None = records
reserved_again records name place (Some it) = with_value (slice_cmp nat_cmp) records name (moved place it)

-- the records after an entry
abbrev pub records_after : Records → MasterRecord → Records
records_after records (entry.Reserved name place serial) = with_record records name (record { place = place; state = Bare serial })
records_after records (entry.Active name place acl) = with_record records name (record { place = place; state = Active acl })
records_after records (entry.Inactive name place) = reserved_again records name place (value_at (slice_cmp nat_cmp) records name)
records_after records (entry.Deleted name) = without_key (slice_cmp nat_cmp) records name

-- the serial is the greatest one that a name was reserved under
abbrev pub serial_after : ℕ → MasterRecord → ℕ
serial_after last (entry.Reserved name place serial) = max last serial
serial_after last (entry.Active name place acl) = last
serial_after last (entry.Inactive name place) = last
serial_after last (entry.Deleted name) = last

abbrev pub table_after : MailboxTable → MasterRecord → MailboxTable
table_after table it = counted (records_after table.records it) (serial_after table.serial it)

-- the table of a disk with these entries
abbrev pub table_of : List MasterRecord → MailboxTable
table_of entries = fold table_after empty_table entries
