-- When a frontend asks a server: in the very step in which a command comes to wait for that server's answer, and once. On a broken link the ask is lost.
use Rattle.std.specs.Prelude.{◌≡◌, ℕ, ◌+◌, ◌==◌, ◌&&◌, Bool, false, List, [], ◌∷◌, ◌++◌, count_by, Option, Some}
use Rattle.asking_core.specs.declared.waiting.At.TheVariants.{Home}
use Rattle.asking_core.specs.declared.waiting.Waiting.{Waiting}
use Rattle.front_core.specs.declared.connection.Connection.{Connection}
use Rattle.front_core.specs.declared.connection.Stage.TheVariants.{Waits}
use Rattle.front_core.specs.declared.front.Front.{Front}
use Rattle.front_core.specs.Front.{connection_at}
use Rattle.imap_types.specs.declared.command.Tag.{Tag}
use Rattle.link_msg.specs.declared.answer.AnswerBody.TheVariants.{Moved}
use Rattle.link_msg.specs.declared.message.LinkMsg.{LinkMsg}
use Rattle.link_msg.specs.declared.message.LinkMsg.TheVariants.{Ask, Answer}
use Rattle.link_queue.specs.Broken.{is_broken}
use Rattle.link_queue.specs.Links.{on_link}
use Rattle.mur_base.specs.declared.point.AskId.{AskId}
use Rattle.mur_config.specs.declared.config.Config.{Config}
use Rattle.schedule_text.specs.declared.event.Event.{Event}
use Rattle.schedule_text.specs.declared.event.Event.TheVariants.{Deliver}
use Rattle.cluster_core.specs.declared.world.World.{World}
use Rattle.cluster_core.specs.Flow.{run_steps, steps_of_run}
use Rattle.cluster_core.specs.Headline.Asks.{taken_by}
use Rattle.cluster_core.specs.Headline.OneNode.{leaves_on, worker}
use Rattle.cluster_core.specs.World.{front_at, start}

-- the command is the next one of its connection at this frontend, and waits for the answer of this server
pub record Awaits (found : Option Front) (id : AskId) (server : List ℕ) : Type 0 where
  pub front : Front
  pub is : found ≡ Some front
  pub connection : Connection
  pub there : connection_at front id.conn ≡ Some connection
  pub number : id.command ≡ connection.answered + 1
  pub tag : Tag
  pub it : Waiting
  pub stage : connection.stage ≡ Waits tag it
  pub at : it.at ≡ Home server

-- the node takes the answer of the server that the command's mailbox has moved, and is at that server
pub record TakesMoved (event : Event) (before : World) (node server : List ℕ) (id : AskId) : Type 0 where
  pub event_is : event ≡ Deliver server node
  pub taken : taken_by event before ≡ Some (Answer (record { id = id; body = Moved server }))

-- the command comes to wait for the answer of this server: it waits so behind the step; and before the step it didn't, or the server has just answered
-- that it is to be asked again
pub record ComesToWait (event : Event) (before after : World) (node server : List ℕ) (id : AskId) : Type 0 where
  pub waits : Awaits (front_at after node) id server
  pub is_new : Awaits (front_at before node) id server → TakesMoved event before node server id

-- a message is an ask of this command
abbrev pub is_ask_of : AskId → LinkMsg → Bool
is_ask_of id (Ask ask) = ((ask.id).conn == id.conn) && ((ask.id).command == id.command)
is_ask_of id message = false

-- so many asks of a command go to a server in a step: one, if the command comes to wait for its answer, and else none
pub record AsksAsItWaits (event : Event) (before after : World) (node server : List ℕ) (id : AskId) (count : ℕ) : Type 0 where
  pub once : ComesToWait event before after node server id → count ≡ 1
  pub never : (ComesToWait event before after node server id → ⊥) → count ≡ 0

-- so it is with each command, in what the node that works in a step sends to a server over a link that isn't broken
abbrev pub AsksInTheStep : Event → World → World → Type 0
AsksInTheStep event before after = (node server : List ℕ) (sent : List LinkMsg) (id : AskId) → worker before event ≡ Some node
    → is_broken before.broken node server ≡ false
    → on_link after.links node server ≡ leaves_on event node server (on_link before.links node server) ++ sent
    → AsksAsItWaits event before after node server id (count_by (is_ask_of id) sent)

-- and that in each single step of a run
abbrev pub AsksOnceEach : Config → List Event → Type 0
AsksOnceEach config events = (before : List Event) (event : Event) (later : List Event) → steps_of_run config events ≡ before ++ event ∷ later
    → AsksInTheStep event (run_steps (start config) before) (run_steps (start config) (before ++ event ∷ []))
