-- Where the mailboxes of the master's table are: each at a backend of the configuration, in its partition.
use Rattle.std.specs.Prelude.{◌≡◌, ℕ, List, ◌++◌, None, All}
use Rattle.mur_base.specs.Names.{mail_name_fault}
use Rattle.mur_base.specs.declared.home.Location.{Location}
use Rattle.mur_config.specs.declared.config.Config.{Config}
use Rattle.node_record.specs.declared.table.Record.{Record}
use Rattle.schedule_text.specs.declared.event.Event.{Event}
use Rattle.cluster_core.specs.declared.world.World.{World}
use Rattle.cluster_core.specs.Flow.{run_steps, steps_of_run}
use Rattle.cluster_core.specs.Headline.Backends.{IsBackend}
use Rattle.cluster_core.specs.Headline.Outside.{table_at}
use Rattle.cluster_core.specs.World.{master_of, start}

-- the place is a backend's own
pub record IsAtBackend (config : Config) (place : Location) : Type 0 where
  pub backend : IsBackend config place.server
  pub partition : place.partition ≡ (backend.node).partition

-- and so is that of a record, whose name is by the rules of mailbox names (RFC 9051, 5.1)
pub record StandsAtBackend (config : Config) (entry : List ℕ × Record) : Type 0 where
  pub named : mail_name_fault entry.0 ≡ None
  pub place : IsAtBackend config (entry.1).place

-- so it is with each record of the master's table
abbrev pub RecordsStand : Config → World → Type 0
RecordsStand config world = All (StandsAtBackend config) (table_at world (master_of config)).records

-- after each single step of a run
abbrev pub RecordsStandAtBackends : Config → List Event → Type 0
RecordsStandAtBackends config events = (before later : List Event) → steps_of_run config events ≡ before ++ later
    → RecordsStand config (run_steps (start config) before)
