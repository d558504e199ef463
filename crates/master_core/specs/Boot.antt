-- The master that starts from the entries of its disk.
use Rattle.std.specs.Prelude.{◌≡◌, ℕ, List, [], ◌∷◌, ◌++◌}
use Rattle.node_record.specs.declared.master.MasterRecord.{MasterRecord}
use Rattle.node_record.specs.MasterEntries.{master_entry}
use Rattle.node_record.specs.Ruled.{IsMasterRecord}
use Rattle.node_record.specs.Stored.{IsStored, IsFirstBad}
use Rattle.node_record.specs.Table.{MailboxTable, table_of}
use Rattle.master_core.specs.declared.master.Master.{Master}

-- each byte string is the entry in its place
pub data AreStored : List (List ℕ) → List MasterRecord → Type 0 where
  none : AreStored [] []
  next : (bytes : List ℕ) (entry : MasterRecord) (more : List (List ℕ)) (entries : List MasterRecord) → IsStored IsMasterRecord master_entry bytes entry
      → AreStored more entries → AreStored (bytes ∷ more) (entry ∷ entries)

-- those before one are entries, and that one is none from this place on
pub record IsNoEntry (all : List (List ℕ)) (at : ℕ) : Type 0 where
  pub before : List (List ℕ)
  pub bytes : List ℕ
  pub after : List (List ℕ)
  pub entries : List MasterRecord
  pub parts : all ≡ before ++ bytes ∷ after
  pub stored : AreStored before entries
  pub bad : IsFirstBad IsMasterRecord master_entry bytes at

-- no stream and no connection
unfoldable pub booted : List ℕ → List (List ℕ) → MailboxTable → Master
booted me backends table = record { me = me; backends = backends; table = table; streams = []; watchers = []; outside = [] }

-- the table is that of the entries which the byte strings are
pub record IsRead (all : List (List ℕ)) (table : MailboxTable) : Type 0 where
  pub entries : List MasterRecord
  pub stored : AreStored all entries
  pub is : table ≡ table_of entries

-- the master has that table
pub record IsBooted (me : List ℕ) (backends : List (List ℕ)) (all : List (List ℕ)) (master : Master) : Type 0 where
  pub table : MailboxTable
  pub read : IsRead all table
  pub is : master ≡ booted me backends table
