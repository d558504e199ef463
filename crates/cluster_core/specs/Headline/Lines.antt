-- A backend sends RESERVE (RFC 3656, 4.9) only for a CREATE that it was asked for, and DEACTIVATE (RFC 3656, 4.3) only for a DELETE: under that command's tag,
-- as the first that it says of the command since it took the ask. So it sends one such line at most for each ask, and none behind its answer.
use Rattle.std.specs.Prelude.{◌≡◌, ◌≢◌, ◌⊎◌, ℕ, List, [], ◌∷◌, ◌++◌, All, Option, None, Some}
use Rattle.imap_types.specs.declared.op.Op.{Op}
use Rattle.imap_types.specs.declared.op.Op.TheVariants.{Create, Delete}
use Rattle.link_msg.specs.declared.ask.FrontAsk.{FrontAsk}
use Rattle.link_msg.specs.declared.message.LinkMsg.{LinkMsg}
use Rattle.link_msg.specs.declared.message.LinkMsg.TheVariants.{Line, Ask}
use Rattle.link_queue.specs.Links.{on_link}
use Rattle.mupdate_codec.specs.declared.command.MCommand.{MCommand}
use Rattle.mupdate_codec.specs.declared.command.MCommand.TheVariants.{Reserve, Deactivate}
use Rattle.mupdate_codec.specs.declared.tag.Tag.{Tag}
use Rattle.mupdate_codec.specs.Asks.{line_ask}
use Rattle.mupdate_codec.specs.Whole.{command_in}
use Rattle.mur_base.specs.declared.point.AskId.{AskId}
use Rattle.mur_config.specs.declared.config.Config.{Config}
use Rattle.name_commands.specs.Whose.{its_command}
use Rattle.schedule_text.specs.declared.event.Event.{Event}
use Rattle.schedule_text.specs.declared.event.Event.TheVariants.{Deliver}
use Rattle.cluster_core.specs.declared.world.World.{World}
use Rattle.cluster_core.specs.Flow.{run_steps, steps_of_run}
use Rattle.cluster_core.specs.Headline.Asks.{taken_by}
use Rattle.cluster_core.specs.Headline.Backends.{IsBackend}
use Rattle.cluster_core.specs.Headline.OneNode.{leaves_on, worker}
use Rattle.cluster_core.specs.World.{start, steps_by}

-- what a line begins
abbrev pub begun_by : Option (Tag × MCommand) → Option Op
begun_by (Some (tag, Reserve name place)) = Some Create
begun_by (Some (tag, Deactivate name place)) = Some Delete
begun_by other = None

-- what a node sends another in a step, in this order
pub record Sends (world : World) (event : Event) (node to : List ℕ) (sent : List LinkMsg) : Type 0 where
  pub works : worker world event ≡ Some node
  pub behind : on_link (steps_by world event).links node to ≡ leaves_on event node to (on_link world.links node to) ++ sent

-- none of these is about the command: neither a line under its tag nor an answer to it
abbrev pub AreOfOthers : AskId → List LinkMsg → Type 0
AreOfOthers id messages = All (λ (message : LinkMsg). its_command message ≢ Some id) messages

-- in this step the node says nothing of the command
abbrev pub SaysNothing : World → Event → List ℕ → AskId → Type 0
SaysNothing world event node id = (to : List ℕ) (sent : List LinkMsg) → Sends world event node to sent → AreOfOthers id sent

-- in this step the node takes an ask of the command, for this
pub record TakesAsk (world : World) (event : Event) (node : List ℕ) (op : Op) (id : AskId) : Type 0 where
  pub from : List ℕ
  pub comes : event ≡ Deliver from node
  pub ask : FrontAsk
  pub taken : taken_by event world ≡ Some (Ask ask)
  pub its : ask.id ≡ id
  pub for_this : ask.op ≡ op

-- behind these steps of a run the node has still to begin this: it took an ask, and from that step on it said nothing of the command
pub data HasToBegin (config : Config) (node : List ℕ) (op : Op) (id : AskId) : List Event → Type 0 where
  is_asked : (steps : List Event) (event : Event) → TakesAsk (run_steps (start config) steps) event node op id
      → SaysNothing (run_steps (start config) steps) event node id → HasToBegin config node op id (steps ++ event ∷ [])
  waits : (steps : List Event) (event : Event) → HasToBegin config node op id steps
      → SaysNothing (run_steps (start config) steps) event node id → HasToBegin config node op id (steps ++ event ∷ [])

-- In the step behind these a node sends another a line that begins this, and these beside it. The line's tag tells a command of which the node takes the ask in
-- this step or has still to begin it; and the line is all that the node says of the command in this step.
pub record BeginsAsAsked (config : Config) (steps : List Event) (event : Event) (node to line : List ℕ) (beside : List LinkMsg) (op : Op) : Type 0 where
  pub id : AskId
  pub tag : line_ask line ≡ Some id
  pub asked : TakesAsk (run_steps (start config) steps) event node op id ⊎ HasToBegin config node op id steps
  pub only : AreOfOthers id beside
  pub elsewhere : (other : List ℕ) (sent : List LinkMsg) → other ≢ to → Sends (run_steps (start config) steps) event node other sent → AreOfOthers id sent

-- so it is with each such line of a backend in each single step of a run
abbrev pub BeginsOnlyAsAsked : Config → List Event → Type 0
BeginsOnlyAsAsked config events = (before : List Event) (event : Event) (later : List Event) → steps_of_run config events ≡ before ++ event ∷ later
    → (node : List ℕ) → IsBackend config node → (to : List ℕ) (ahead : List LinkMsg) (line : List ℕ) (behind : List LinkMsg)
    → Sends (run_steps (start config) before) event node to (ahead ++ Line line ∷ behind) → (op : Op) → begun_by (command_in line) ≡ Some op
    → BeginsAsAsked config before event node to line (ahead ++ behind) op
