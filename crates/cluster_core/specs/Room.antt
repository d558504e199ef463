-- Every count of the cluster fits 64 bits.
use Rattle.std.specs.Prelude.{◌≡◌, ℕ, ◌+◌, ◌<◌, ◌^◌, List, Some}
use Rattle.front_core.specs.declared.front.Front.{Front}
use Rattle.front_core.specs.Room.{HasCommands}
use Rattle.schedule_text.specs.Brings.{steps_of, bytes_brought}
use Rattle.schedule_text.specs.declared.event.Event.{Event}
use Rattle.cluster_core.specs.declared.world.World.{World}
use Rattle.cluster_core.specs.World.{front_at}

-- the commands of each connection, those that wait among them, are at most so many
abbrev pub HaveCommands : World → ℕ → Type 0
HaveCommands world most = (node : List ℕ) (front : Front) → front_at world node ≡ Some front → HasCommands front most

-- no count passes 64 bits in the event: each byte of a client ends one command at most
pub record HasRoom (world : World) (event : Event) : Type 0 where
  pub most : ℕ
  pub commands : HaveCommands world most
  pub fits : most + bytes_brought event < 2 ^ 64
  pub steps : world.steps + steps_of event < 2 ^ 64
