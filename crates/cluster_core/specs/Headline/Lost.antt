-- When a command that waits is left without a reply: only as its client closes the connection, or as its frontend takes the End of the link to the server for
-- whose answer it waits.
use Rattle.std.specs.Prelude.{◌≡◌, ◌⊎◌, ℕ, ◌+◌, List, [], ◌∷◌, ◌++◌, Option, Some}
use Rattle.front_core.specs.declared.connection.Connection.{Connection}
use Rattle.front_core.specs.declared.connection.Stage.TheVariants.{Ended}
use Rattle.front_core.specs.declared.front.Front.{Front}
use Rattle.front_core.specs.Front.{connection_at, is_asked}
use Rattle.link_msg.specs.declared.message.LinkMsg.TheVariants.{End}
use Rattle.mur_base.specs.declared.point.AskId.{AskId}
use Rattle.mur_config.specs.declared.config.Config.{Config}
use Rattle.schedule_text.specs.declared.event.Event.{Event}
use Rattle.schedule_text.specs.declared.event.Event.TheVariants.{Hang, Deliver}
use Rattle.cluster_core.specs.declared.world.World.{World}
use Rattle.cluster_core.specs.Flow.{run_steps, steps_of_run}
use Rattle.cluster_core.specs.Headline.Asks.{taken_by}
use Rattle.cluster_core.specs.Headline.AsksOnce.{Awaits}
use Rattle.cluster_core.specs.World.{front_at, start}

-- the command is the next one of its connection at this frontend, and waits: for the answer of a server, or for the master's OK
pub record WaitsOn (found : Option Front) (id : AskId) : Type 0 where
  pub front : Front
  pub is : found ≡ Some front
  pub connection : Connection
  pub there : connection_at front id.conn ≡ Some connection
  pub number : id.command ≡ connection.answered + 1
  pub waits : is_asked connection.stage ≡ 1

-- its connection has ended, and the command was not answered
pub record IsLeft (found : Option Front) (id : AskId) : Type 0 where
  pub front : Front
  pub is : found ≡ Some front
  pub connection : Connection
  pub there : connection_at front id.conn ≡ Some connection
  pub number : id.command ≡ connection.answered + 1
  pub ended : connection.stage ≡ Ended

-- the node takes the End of the link to the server for whose answer the command waits
pub record TakesItsEnd (event : Event) (before : World) (node : List ℕ) (id : AskId) : Type 0 where
  pub server : List ℕ
  pub event_is : event ≡ Deliver server node
  pub taken : taken_by event before ≡ Some End
  pub waits : Awaits (front_at before node) id server

abbrev pub LeavesRightly : Event → World → World → Type 0
LeavesRightly event before after = (node : List ℕ) (id : AskId) → WaitsOn (front_at before node) id → IsLeft (front_at after node) id
    → (event ≡ Hang id.conn) ⊎ TakesItsEnd event before node id

-- so it is in each single step of a run
abbrev pub LeavesRightlyEach : Config → List Event → Type 0
LeavesRightlyEach config events = (before : List Event) (event : Event) (later : List Event) → steps_of_run config events ≡ before ++ event ∷ later
    → LeavesRightly event (run_steps (start config) before) (run_steps (start config) (before ++ event ∷ []))
