-- What a step of a backend makes of the place of a command: of the one that it is about, and of each other.
use Rattle.std.specs.Prelude.{◌≡◌, ◌≢◌, ℕ, false, List, [], ◌∷◌, filter, None, Some}
use Rattle.back_links.specs.BackEvents.{IsFitting}
use Rattle.back_node.specs.declared.node.BackNode.{BackNode}
use Rattle.back_node.specs.Acted.{BackActed}
use Rattle.back_node.specs.Takes.{name_ask, name_kind, node_takes}
use Rattle.feed_core.specs.declared.replica.Replica.{Replica}
use Rattle.front_core.proofs.OneConnection.Places.{about, is_about, of_connection}
use Rattle.link_msg.specs.declared.answer.BackAnswer.{BackAnswer}
use Rattle.link_msg.specs.declared.ask.FrontAsk.{FrontAsk}
use Rattle.link_msg.specs.declared.counts.Counts.{Counts}
use Rattle.link_msg.specs.declared.message.LinkMsg.{LinkMsg}
use Rattle.link_msg.specs.declared.message.LinkMsg.TheVariants.{Ask, Answer}
use Rattle.link_msg.specs.declared.out.Out.TheVariants.{Link, Mark}
use Rattle.many_links.specs.ManyHold.{ManyHold}
use Rattle.many_links.specs.Murder.{Murder}
use Rattle.mupdate_codec.specs.declared.command.MResponse.{MResponse}
use Rattle.mur_base.specs.declared.home.Location.{Location}
use Rattle.mur_base.specs.declared.point.AskId.{AskId}
use Rattle.mur_model.specs.declared.store.Store.{Store}
use Rattle.name_commands.specs.Moves.{Move, asked_move, heard_move, outs_of, tested_move, Move as move}
use Rattle.name_commands.specs.Places.{FlowsTell, NamePlace as name_at}
use Rattle.name_commands.specs.Whose.{is_of_connection, is_own_out}
use Rattle.name_flows.specs.declared.ask.AskKind.{AskKind}
use Rattle.name_flows.specs.declared.ask.NameAsk.{NameAsk}
use Rattle.name_flows.specs.declared.flow.Flow.{Flow}
use Rattle.name_flows.specs.declared.flows.Flows.{Flows}
use Rattle.name_flows.specs.Asked.{refusal}
use Rattle.name_links.specs.Serials.{Given}
use Rattle.cluster_core.proofs.Commands.Place.{Place, Place as place}
use Rattle.cluster_core.proofs.Steps.HomeLinks.{IsInThen, IsNowhereThen}
use Rattle.cluster_core.proofs.Steps.Murders.{IsFirstOn, IsFront, IsIn, IsNowhere}

-- a backend takes the first message of another node
pub record HomeTakes (murder : Murder) (given : Given) (store : Store) (name : List ℕ) (node : BackNode) (from : List ℕ) (message : LinkMsg) : Type 0 where
  pub holds : ManyHold murder given store
  pub there : murder.nodes name ≡ Some node
  pub first : IsFirstOn murder from name message

-- where a CREATE is at a backend behind such a move
abbrev pub moved_to : List ℕ → Location → Move → Place
moved_to name me (move.is_answered front id body) = place.is_answered name (record { id = id; body = body })
moved_to name me (move.is_kept ask) = place.is_at me (name_at.waits ask)
moved_to name me (move.is_sent mailbox flow) = place.is_at me (name_at.sends mailbox flow)

-- ---- behind the step

-- the command stays where it is, and nothing goes out about its connection
pub record StaysThen (murder : Murder) (name from : List ℕ) (next : BackActed) (front : List ℕ) (replica : Replica) (id : AskId) (here : Place)
    : Type 0 where
  pub placed : IsInThen murder name from next front replica id here
  pub outs : filter (is_own_out (is_of_connection id.conn)) next.outs ≡ []

pub record NoneThen (murder : Murder) (name from : List ℕ) (next : BackActed) (conn : ℕ) : Type 0 where
  pub placed : IsNowhereThen murder name from next conn
  pub outs : filter (is_own_out (is_of_connection conn)) next.outs ≡ []

-- it is moved, and this goes out about its connection
pub record IsMovedThen (murder : Murder) (name from : List ℕ) (node : BackNode) (next : BackActed) (front : List ℕ) (replica : Replica) (id : AskId)
    (it : Move) : Type 0 where
  pub placed : IsInThen murder name from next front replica id (moved_to name node.flows.me it)
  pub outs : filter (is_own_out (is_of_connection id.conn)) next.outs ≡ outs_of murder.master.me node.flows.me it

-- ---- its own ask

-- for messages: it is answered
abbrev pub AskIsAnswered : Type 0
AskIsAnswered = (murder : Murder) (given : Given) (store : Store) (name : List ℕ) (node : BackNode) (front : List ℕ) (replica : Replica) (id : AskId)
    (ask : FrontAsk) (answer : BackAnswer) (counts : Counts) → HomeTakes murder given store name node front (Ask ask) → IsFront murder front
    → name_kind ask.op ≡ None → answer.id ≡ ask.id → (node_takes node front (Ask ask)).outs ≡ Link front (Answer answer) ∷ Mark ask.id counts ∷ []
    → IsIn murder front replica id (place.is_asked name ask)
    → IsInThen murder name front (node_takes node front (Ask ask)) front replica id (place.is_answered name answer)

-- for a name: it is put off, waits, or the line of its flow is sent
abbrev pub AskIsMoved : Type 0
AskIsMoved = (murder : Murder) (given : Given) (store : Store) (name : List ℕ) (node : BackNode) (front : List ℕ) (replica : Replica) (id : AskId)
    (ask : FrontAsk) (kind : AskKind) → HomeTakes murder given store name node front (Ask ask) → IsFront murder front → IsFitting (Ask ask)
    → ask.id ≡ id → name_kind ask.op ≡ Some kind → IsIn murder front replica id (place.is_asked name ask)
    → IsMovedThen murder name front node (node_takes node front (Ask ask)) front replica id
    (asked_move node.flows node.home.held (name_ask front ask kind))

-- ---- the response to the line of its flow

pub record HasHeard (murder : Murder) (name : List ℕ) (node : BackNode) (next : BackActed) (front : List ℕ) (replica : Replica) (id : AskId)
    (mailbox : List ℕ) (flow : Flow) (it : MResponse) : Type 0 where
  pub move_is : Move
  pub is : heard_move mailbox flow it ≡ Some move_is
  pub moved : IsMovedThen murder name murder.master.me node next front replica id move_is

abbrev pub ResponseIsHeard : Type 0
ResponseIsHeard = (murder : Murder) (given : Given) (store : Store) (name : List ℕ) (node : BackNode) (message : LinkMsg) (front : List ℕ) (replica : Replica)
    (id : AskId) (me : Location) (mailbox : List ℕ) (flow : Flow) (it : MResponse) → HomeTakes murder given store name node murder.master.me message
    → IsFront murder front → about message ≡ of_connection id.conn → me.server ≡ name → flow.front ≡ front
    → IsIn murder front replica id (place.is_at me (name_at.hears mailbox flow it))
    → (me ≡ node.flows.me) × HasHeard murder name node (node_takes node murder.master.me message) front replica id mailbox flow it

-- ---- a message about something else

-- of a frontend, or any other node but the master
abbrev pub OthersStay : Type 0
OthersStay = (murder : Murder) (given : Given) (store : Store) (name : List ℕ) (node : BackNode) (from : List ℕ) (message : LinkMsg) (front : List ℕ)
    (replica : Replica) (id : AskId) (here : Place) → HomeTakes murder given store name node from message → from ≢ murder.master.me → IsFitting message
    → IsFront murder front → is_about id.command (of_connection id.conn) message ≡ false → IsIn murder front replica id here
    → StaysThen murder name from (node_takes node from message) front replica id here

abbrev pub OthersStayNone : Type 0
OthersStayNone = (murder : Murder) (given : Given) (store : Store) (name : List ℕ) (node : BackNode) (from : List ℕ) (message : LinkMsg) (conn : ℕ)
    → HomeTakes murder given store name node from message → from ≢ murder.master.me → IsFitting message → about message ≢ of_connection conn
    → IsNowhere murder conn → NoneThen murder name from (node_takes node from message) conn

-- of the master: the command stays, or it waited for the end of a resync, and is tested
pub data StaysOrIsTested (murder : Murder) (name : List ℕ) (node : BackNode) (next : BackActed) (front : List ℕ) (replica : Replica) (id : AskId)
    (here : Place) : Type 0 where
  stays : StaysThen murder name murder.master.me next front replica id here → StaysOrIsTested murder name node next front replica id here
  is_tested : (ask : NameAsk) (flows : Flows) → here ≡ place.is_at node.flows.me (name_at.waits ask) → next.state.flows.resync ≡ None
      → flows.up ≡ node.flows.up → flows.master ≡ node.flows.master
      → (ask.front ≡ front → ask.id ≡ id
      → IsMovedThen murder name murder.master.me node next front replica id (tested_move ask (refusal flows node.home.held ask.name ask.kind)))
      → StaysOrIsTested murder name node next front replica id here

abbrev pub OtherLinesStayOrTest : Type 0
OtherLinesStayOrTest = (murder : Murder) (given : Given) (store : Store) (name : List ℕ) (node : BackNode) (message : LinkMsg) (front : List ℕ)
    (replica : Replica) (id : AskId) (here : Place) → HomeTakes murder given store name node murder.master.me message → FlowsTell node.flows
    → IsFront murder front → is_about id.command (of_connection id.conn) message ≡ false → IsIn murder front replica id here
    → StaysOrIsTested murder name node (node_takes node murder.master.me message) front replica id here

abbrev pub OtherLinesStayNone : Type 0
OtherLinesStayNone = (murder : Murder) (given : Given) (store : Store) (name : List ℕ) (node : BackNode) (message : LinkMsg) (conn : ℕ)
    → HomeTakes murder given store name node murder.master.me message → FlowsTell node.flows → about message ≢ of_connection conn → IsNowhere murder conn
    → NoneThen murder name murder.master.me (node_takes node murder.master.me message) conn
