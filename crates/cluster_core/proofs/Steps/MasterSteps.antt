-- What a step of the master makes of the place of a command: of the one that it is about, and of each other.
use Rattle.std.specs.Prelude.{◌≡◌, ◌≢◌, ℕ, Bool, true, false, List, [], filter, Some}
use Rattle.back_node.specs.declared.node.BackNode.{BackNode}
use Rattle.feed_core.specs.declared.replica.Replica.{Replica}
use Rattle.feed_links.specs.Lines.{HasStreams}
use Rattle.feed_links.specs.OneFeed.{IsFed}
use Rattle.front_core.proofs.OneConnection.Places.{about, is_over, of_connection}
use Rattle.link_msg.specs.declared.message.LinkMsg.{LinkMsg}
use Rattle.link_queue.specs.Links.{Links, on_link}
use Rattle.many_links.specs.ManyHold.{ManyHold}
use Rattle.many_links.specs.Murder.{Murder, put_all, taken}
use Rattle.many_links.proofs.FrontOuts.{AreItsOuts}
use Rattle.master_core.specs.Linked.{node_says}
use Rattle.master_core.specs.Outside.{Stepped}
use Rattle.master_core.specs.Whose.{TellNobody}
use Rattle.mur_base.specs.declared.home.Location.{Location}
use Rattle.mur_base.specs.declared.point.AskId.{AskId}
use Rattle.mur_model.specs.declared.store.Store.{Store}
use Rattle.name_commands.specs.MasterSteps.{IsTaken}
use Rattle.name_commands.specs.Places.{NamePlace as name_at}
use Rattle.name_commands.specs.Whose.{is_of_connection, is_own_out}
use Rattle.name_flows.specs.declared.flow.Flow.{Flow}
use Rattle.name_links.specs.Serials.{Given}
use Rattle.route_links.specs.Answered.{IsNumbered, noop_of}
use Rattle.route_links.specs.Barriers.{Place as barrier}
use Rattle.cluster_core.proofs.Commands.InPlace.{IsInNone, IsInPlace}
use Rattle.cluster_core.proofs.Commands.Place.{Place, Place as place}
use Rattle.cluster_core.proofs.Steps.Murders.{IsFirstOn, IsFront, IsIn, IsNowhere}

-- the master takes the first message of another node; its streams tell frontends lines that are nobody's
pub record MasterTakes (murder : Murder) (given : Given) (store : Store) (from : List ℕ) (message : LinkMsg) : Type 0 where
  pub holds : ManyHold murder given store
  pub nobodys : TellNobody murder.master.streams
  pub first : IsFirstOn murder from murder.master.me message

-- a frontend is fed, by whether its link is broken, and whether it has that as up; and the command's numbers are of 64 bits
pub record IsFedFront (murder : Murder) (front : List ℕ) (replica : Replica) (id : AskId) : Type 0 where
  pub is_front : IsFront murder front
  pub broken : Bool
  pub reached : Bool
  pub streams : HasStreams murder.master
  pub fed : IsFed murder.master front broken reached (on_link murder.links front murder.master.me) (on_link murder.links murder.master.me front) replica
  pub numbered : IsNumbered id

-- where the message is of this frontend, its link is whole
abbrev pub ComesWhole : {murder : Murder} {front : List ℕ} {replica : Replica} {id : AskId} → List ℕ → IsFedFront murder front replica id → Type 0
ComesWhole {front = front} from fed = from ≡ front → fed.broken ≡ false

-- ---- behind the step, which left these links

abbrev pub IsInBehind : Murder → Links LinkMsg → Stepped → List ℕ → Replica → AskId → Place → Type 0
IsInBehind murder left next front replica id here =
    IsInPlace murder.master.me murder.nodes (put_all murder.master.me left next.outs) front replica id here

abbrev pub IsNowhereBehind : Murder → Links LinkMsg → Stepped → ℕ → Type 0
IsNowhereBehind murder left next conn = IsInNone murder.master.me murder.nodes (put_all murder.master.me left next.outs) conn

-- the command stays where it is, and nothing goes out about its connection
pub record StaysBehind (murder : Murder) (left : Links LinkMsg) (next : Stepped) (front : List ℕ) (replica : Replica) (id : AskId) (here : Place)
    : Type 0 where
  pub placed : IsInBehind murder left next front replica id here
  pub outs : filter (is_own_out (is_of_connection id.conn)) next.outs ≡ []

pub record NoneBehind (murder : Murder) (left : Links LinkMsg) (next : Stepped) (conn : ℕ) : Type 0 where
  pub placed : IsNowhereBehind murder left next conn
  pub outs : filter (is_own_out (is_of_connection conn)) next.outs ≡ []

-- ---- a message about something else, of any node

abbrev pub LinesLeave : Type 0
LinesLeave = (murder : Murder) (given : Given) (store : Store) (from : List ℕ) (message : LinkMsg) (front : List ℕ) (replica : Replica) (id : AskId)
    (here : Place) → MasterTakes murder given store from message → (fed : IsFedFront murder front replica id) → ComesWhole from fed
    → about message ≢ of_connection id.conn → IsIn murder front replica id here
    → StaysBehind murder (taken murder from murder.master.me) (node_says murder.master from message) front replica id here

abbrev pub LinesLeaveNone : Type 0
LinesLeaveNone = (murder : Murder) (given : Given) (store : Store) (from : List ℕ) (message : LinkMsg) (conn : ℕ)
    → MasterTakes murder given store from message → about message ≢ of_connection conn → IsNowhere murder conn
    → NoneBehind murder (taken murder from murder.master.me) (node_says murder.master from message) conn

-- ---- a frontend's line of a command of the connection that is over

abbrev pub OverLeaves : Type 0
OverLeaves = (murder : Murder) (given : Given) (store : Store) (from : List ℕ) (message : LinkMsg) (front : List ℕ) (replica : Replica) (id : AskId)
    (here : Place) → MasterTakes murder given store from message → (fed : IsFedFront murder front replica id) → ComesWhole from fed → IsFront murder from
    → AreItsOuts from (node_says murder.master from message).outs → is_over id.command message ≡ true → IsIn murder front replica id here
    → IsInBehind murder (taken murder from murder.master.me) (node_says murder.master from message) front replica id here

-- ---- the NOOP of the command

abbrev pub NoopIsTaken : Type 0
NoopIsTaken = (murder : Murder) (given : Given) (store : Store) (front : List ℕ) (replica : Replica) (id : AskId)
    → MasterTakes murder given store front (noop_of id) → (fed : IsFedFront murder front replica id) → fed.broken ≡ false
    → IsIn murder front replica id (place.is_barred barrier.asked)
    → IsInBehind murder (taken murder front murder.master.me) (node_says murder.master front (noop_of id)) front replica id
    (place.is_barred (barrier.answered murder.master.table))

-- ---- the line of its flow

pub record HasAnswered (murder : Murder) (name : List ℕ) (node : BackNode) (message : LinkMsg) (rest : List LinkMsg) (front : List ℕ) (replica : Replica)
    (id : AskId) (mailbox : List ℕ) (flow : Flow) : Type 0 where
  pub step : IsTaken (is_of_connection id.conn) murder.master name node message rest (on_link murder.links murder.master.me name) mailbox flow
  pub placed : IsInBehind murder (taken murder name murder.master.me) (node_says murder.master name message) front replica id
      (place.is_at node.flows.me (name_at.hears mailbox flow step.it))

abbrev pub LineIsTaken : Type 0
LineIsTaken = (murder : Murder) (given : Given) (store : Store) (name : List ℕ) (node : BackNode) (message : LinkMsg) (front : List ℕ) (replica : Replica)
    (id : AskId) (me : Location) (mailbox : List ℕ) (flow : Flow) → (takes : MasterTakes murder given store name message) → murder.nodes name ≡ Some node
    → IsFedFront murder front replica id → about message ≡ of_connection id.conn → is_over id.command message ≡ false → me.server ≡ name
    → IsIn murder front replica id (place.is_at me (name_at.sends mailbox flow))
    → (me ≡ node.flows.me) × HasAnswered murder name node message takes.first.rest front replica id mailbox flow
