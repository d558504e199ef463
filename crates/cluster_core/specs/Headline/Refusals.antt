-- Why a command is refused with `NO [UNAVAILABLE] mailbox is being moved`: the name that it needs is reserved behind the step of its point, as a name is
-- before its mailbox is made (RFC 3656, 4.9), before it is deleted, and while it moves (RFC 3656, 4.3).
use Rattle.std.specs.Prelude.{◌≡◌, ℕ, Bool, List, ◌++◌, length}
use Rattle.master_core.specs.Refusals.{is_reserved}
use Rattle.mur_config.specs.declared.config.Config.{Config}
use Rattle.node_record.specs.Table.{record_at}
use Rattle.schedule_text.specs.declared.event.Event.{Event}
use Rattle.cluster_core.specs.Flow.{run_steps}
use Rattle.cluster_core.specs.Headline.Outside.{table_at}
use Rattle.cluster_core.specs.World.{master_of, start}

-- a mailbox is being moved behind so many of these steps exactly where the master has its name reserved then
abbrev pub AreReserved : Config → List Event → (ℕ → List ℕ → Bool) → Type 0
AreReserved config steps moving = (before later : List Event) → steps ≡ before ++ later → (name : List ℕ)
    → moving (length before) name ≡ is_reserved (record_at (table_at (run_steps (start config) before) (master_of config)) name)
