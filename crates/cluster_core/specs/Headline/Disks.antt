-- What stands on the disks: the mailboxes of a backend and the master's table are what the entries of their disks make, in order, from nothing on.
use Rattle.std.specs.Prelude.{◌≡◌, ℕ, List, ◌++◌, map, Option, Some}
use Rattle.back_node.specs.declared.node.BackNode.{BackNode}
use Rattle.mur_config.specs.declared.config.Config.{Config}
use Rattle.node_record.specs.declared.backend.BackendRecord.{BackendRecord}
use Rattle.node_record.specs.declared.master.MasterRecord.{MasterRecord}
use Rattle.node_record.specs.BackendEntries.{backend_entry}
use Rattle.node_record.specs.MasterEntries.{master_entry}
use Rattle.node_record.specs.Held.{Names, phases_of}
use Rattle.node_record.specs.Table.{MailboxTable, table_of}
use Rattle.schedule_text.specs.declared.event.Event.{Event}
use Rattle.cluster_core.specs.declared.world.World.{World}
use Rattle.cluster_core.specs.Flow.{run_steps, steps_of_run}
use Rattle.cluster_core.specs.Headline.Outside.{table_at}
use Rattle.cluster_core.specs.World.{disk_at, home_at, master_of, start}

-- the entries of a disk are the bytes of records that make these mailboxes
pub record MailboxesStandOn (disk : Option (List (List ℕ))) (held : Names) : Type 0 where
  pub records : List BackendRecord
  pub written : disk ≡ Some (map backend_entry.text records)
  pub made : held ≡ phases_of records

-- or that make this table
pub record TableStandsOn (disk : Option (List (List ℕ))) (table : MailboxTable) : Type 0 where
  pub records : List MasterRecord
  pub written : disk ≡ Some (map master_entry.text records)
  pub made : table ≡ table_of records

-- so it is with each backend, and with the master
pub record IsOnDisks (config : Config) (world : World) : Type 0 where
  pub mailboxes : (node : List ℕ) (home : BackNode) → home_at world node ≡ Some home → MailboxesStandOn (disk_at world node) home.home.held
  pub table : TableStandsOn (disk_at world (master_of config)) (table_at world (master_of config))

-- after each single step of a run
abbrev pub StandsOnDisks : Config → List Event → Type 0
StandsOnDisks config events = (before later : List Event) → steps_of_run config events ≡ before ++ later → IsOnDisks config (run_steps (start config) before)
