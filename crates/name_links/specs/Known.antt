-- The master's table to one name: the record that `home_law` speaks of.
use Rattle.std.specs.Prelude.{ℕ, List, map, Option, None, Some}
use Rattle.node_record.specs.declared.table.State.{State}
use Rattle.node_record.specs.declared.table.State.TheVariants.{Bare, Kept, Active}
use Rattle.node_record.specs.declared.table.Record.{Record}
use Rattle.node_record.specs.Table.{Records, MailboxTable, record_at}
use Rattle.home_law.specs.Items.{RecordKind, bare, kept, active, NameRecord, no_record, recorded}
use Rattle.home_law.specs.ManyNames.{NameRow}

abbrev pub kind_of : State → RecordKind
kind_of (Bare serial) = bare
kind_of (Kept acl) = kept
kind_of (Active acl) = active

abbrev pub known_by : Option Record → NameRecord
known_by None = no_record
known_by (Some it) = recorded (kind_of it.state) (it.place).server

-- the record of a name
abbrev pub known : MailboxTable → List ℕ → NameRecord
known table name = known_by (record_at table name)

-- the records as `ManyNames` lists them
abbrev pub row_of : List ℕ × Record → NameRow
row_of entry = record { name = entry.0; kind = kind_of (entry.1).state; server = ((entry.1).place).server }

abbrev pub rows_of : Records → List NameRow
rows_of records = map row_of records
