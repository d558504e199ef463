-- Who may change the record of a name.
use Rattle.std.specs.Prelude.{◌≡◌, ℕ, List, Some}
use Rattle.node_record.specs.declared.master.MasterRecord.{MasterRecord}
use Rattle.node_record.specs.declared.master.MasterRecord.TheVariants as entry
use Rattle.node_record.specs.declared.table.Record.{Record}
use Rattle.node_record.specs.Table.{MailboxTable, record_at}
use Rattle.master_core.specs.declared.sender.Sender.{Sender}
use Rattle.master_core.specs.declared.sender.Sender.TheVariants.{Backend}

-- the name whose record an entry changes
abbrev pub name_of : MasterRecord → List ℕ
name_of (entry.Reserved name place serial) = name
name_of (entry.Active name place acl) = name
name_of (entry.Inactive name place) = name
name_of (entry.Deleted name) = name

-- the record of the name, if it has one, is at the backend that sends
pub record IsByServer (table : MailboxTable) (from : Sender) (name : List ℕ) : Type 0 where
  pub node : List ℕ
  pub is : from ≡ Backend node
  pub holds : (it : Record) → record_at table name ≡ Some it → (it.place).server ≡ node
