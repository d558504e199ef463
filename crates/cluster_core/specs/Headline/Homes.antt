-- The printed homes are the store's mailboxes, each as its backend has it.
use Rattle.std.specs.Prelude.{◌≡◌, true, ℕ, List, length, Option, Some, All, Contains}
use Rattle.std.specs.Option.{option_map}
use Rattle.std.specs.Ordering.{nat_cmp}
use Rattle.std.specs.Cmp.Lexicographic.{slice_cmp}
use Rattle.backend_core.specs.HomeLaws.{is_open}
use Rattle.mail_message.specs.Boxes.{Content}
use Rattle.mur_base.specs.Map.{value_at}
use Rattle.mur_config.specs.declared.config.Config.{Config}
use Rattle.mur_model.specs.declared.store.Store.{Store}
use Rattle.mur_model.specs.Store.{box_at}
use Rattle.node_record.specs.declared.held.Held.{Held}
use Rattle.node_record.specs.declared.table.Record.{Record}
use Rattle.node_record.specs.Table.{record_at}
use Rattle.cluster_core.specs.declared.cluster.HomeRow.{HomeRow}
use Rattle.cluster_core.specs.Headline.Backends.{IsBackend}
use Rattle.cluster_core.specs.World.{layout_of, master_of}
use Rattle.cluster_core.specs.declared.world.World.{World}
use Rattle.cluster_core.specs.Headline.Outside.{table_at}
use Rattle.cluster_core.specs.Shown.{held_at_node, home_rows}

-- what is printed of a mailbox: its UIDVALIDITY, its UIDNEXT and how many messages it has
pub record Numbers : Type 0 where
  pub serial : ℕ
  pub next : ℕ
  pub count : ℕ

abbrev pub numbers_shown : HomeRow → Numbers
numbers_shown row = record { serial = row.serial; next = row.next; count = row.count }

abbrev pub numbers_of : Content → Numbers
numbers_of box = record { serial = box.serial; next = box.next; count = length box.messages }

-- what a row tells, its backend has, which is one of the configuration
pub record IsHeldAt (config : Config) (world : World) (row : HomeRow) : Type 0 where
  pub backend : IsBackend config row.backend
  pub held : Held
  pub at : value_at (slice_cmp nat_cmp) (held_at_node world row.backend) row.name ≡ Some held
  pub phase : row.phase ≡ held.phase
  pub numbers : numbers_shown row ≡ numbers_of held.content

-- the server of a name's record
abbrev pub recorded_server : Config → World → List ℕ → Option (List ℕ)
recorded_server config world name = option_map (λ (it : Record). (it.place).server) (record_at (table_at world (master_of config)) name)

-- a mailbox of the store is shown at the server of its record, with its numbers, whatever its phase there
pub record IsShownBox (config : Config) (world : World) (name : List ℕ) (box : Content) : Type 0 where
  pub row : HomeRow
  pub among : Contains (home_rows (layout_of config) world) row
  pub named : row.name ≡ name
  pub recorded : recorded_server config world name ≡ Some row.backend
  pub numbers : numbers_shown row ≡ numbers_of box

-- a writable home has the store's mailbox
pub record IsTheStores (config : Config) (store : Store) (world : World) (row : HomeRow) : Type 0 where
  pub box : Content
  pub at : box_at store row.name ≡ Some box
  pub recorded : recorded_server config world row.name ≡ Some row.backend
  pub numbers : numbers_shown row ≡ numbers_of box

abbrev pub ShowsOpen : Config → Store → World → HomeRow → Type 0
ShowsOpen config store world row = is_open row.phase ≡ true → IsTheStores config store world row

pub record ShowsBoxesOf (config : Config) (store : Store) (world : World) : Type 0 where
  pub boxes : (name : List ℕ) (box : Content) → box_at store name ≡ Some box → IsShownBox config world name box
  pub open_homes : All (ShowsOpen config store world) (home_rows (layout_of config) world)
  pub rows : All (IsHeldAt config world) (home_rows (layout_of config) world)
