-- Each CREATE and DELETE is in one place, at first and after each step.
use Rattle.std.specs.Prelude.{◌≡◌, ◌≢◌, ℕ, List, [], ◌∷◌, ◌++◌, filter, Option, None, Some}
use Rattle.link_msg.specs.declared.ask.FrontAsk.{FrontAsk}
use Rattle.link_msg.specs.declared.message.LinkMsg.{LinkMsg}
use Rattle.link_msg.specs.declared.message.LinkMsg.TheVariants.{Up, Ask}
use Rattle.master_core.specs.declared.master.Master.{Master}
use Rattle.master_core.specs.Linked.{node_says}
use Rattle.master_core.specs.Outside.{bytes_in, connect}
use Rattle.master_core.specs.Whose.{TellNobody}
use Rattle.mur_base.specs.declared.home.Location.{Location}
use Rattle.mur_base.specs.declared.point.AskId.{AskId}
use Rattle.name_flows.specs.declared.ask.AskKind.{AskKind}
use Rattle.name_flows.specs.declared.flow.Flow.{Flow}
use Rattle.name_flows.specs.declared.flows.Flows.{Flows}
use Rattle.name_flows.specs.declared.sent.SentLine.{SentLine}
use Rattle.name_flows.specs.Link.{waiting_in}
use Rattle.name_flows.specs.Running.{flow_at}
use Rattle.back_node.specs.declared.node.BackNode.{BackNode}
use Rattle.back_node.specs.Acted.{BackActed}
use Rattle.back_node.specs.Node.{new_node}
use Rattle.back_node.specs.Takes.{name_kind, node_takes}
use Rattle.feed_links.specs.Lines.{messages_to}
use Rattle.name_links.specs.Serials.{Given}
use Rattle.back_links.specs.BackEvents.{IsFitting}
use Rattle.back_links.specs.OneTalk.{HasTalk}
use Rattle.name_commands.specs.Places.{nowhere, flow_line, FlowsTell, TalkShows, TalkTells}
use Rattle.name_commands.specs.Whose.{is_command, is_own_ask, is_own_line}

-- ---- what that says of flows and lines

-- the flow whose line it is
pub record HasItsFlow (flows : Flows) (id : AskId) (line : SentLine) : Type 0 where
  pub name : List ℕ
  pub flow : Flow
  pub runs : flow_at flows name ≡ Some flow
  pub its : flow.ask ≡ id
  pub is : line ≡ flow_line name flow

pub record AreOneToOne (flows : Flows) : Type 0 where
  -- a flow has one line, that of its stage, about its name, under the tag of its command, which doesn't wait as well
  pub lines : (name : List ℕ) (flow : Flow) → flow_at flows name ≡ Some flow → filter (is_own_line (is_command flow.ask)) flows.sent ≡ flow_line name flow ∷ []
  pub asks : (name : List ℕ) (flow : Flow) → flow_at flows name ≡ Some flow → filter (is_own_ask (is_command flow.ask)) (waiting_in flows.resync) ≡ []
  -- a line under a command's tag has its flow
  pub flows_are : (id : AskId) (line : SentLine) (lines : List SentLine) → filter (is_own_line (is_command id)) flows.sent ≡ line ∷ lines
      → HasItsFlow flows id line
  -- two flows are of two commands
  pub names : (name other : List ℕ) (flow its : Flow) → flow_at flows name ≡ Some flow → flow_at flows other ≡ Some its → its.ask ≡ flow.ask → other ≡ name

abbrev pub TellsOneToOne : Type 0
TellsOneToOne = (flows : Flows) → FlowsTell flows → AreOneToOne flows

-- ---- it stays so

-- after a step of the backend
abbrev pub TellsAfterNode : List ℕ → BackActed → List LinkMsg → List LinkMsg → Type 0
TellsAfterNode master next up down = TalkTells next.state (up ++ messages_to master next.outs) down

-- its link comes up first
abbrev pub TellsFirst : Type 0
TellsFirst = (place : Location) (me : List ℕ) → TellsAfterNode me (node_takes (new_node place me) me Up) [] []

-- a CREATE or DELETE that is asked for is nowhere yet
abbrev pub new_by : Option AskKind → FrontAsk → BackNode → List LinkMsg → List LinkMsg → Type 0
new_by None ask node up down = Unit {0}
new_by (Some kind) ask node up down = TalkShows (is_command ask.id) node up down nowhere

abbrev pub IsNew : LinkMsg → BackNode → List LinkMsg → List LinkMsg → Type 0
IsNew (Ask ask) node up down = new_by (name_kind ask.op) ask node up down
IsNew message node up down = Unit {0}

-- the backend takes a message of another node than the master
abbrev pub AsksTell : Type 0
AsksTell = (master : Master) (name : List ℕ) (node : BackNode) (up down : List LinkMsg) (given : Given) (from : List ℕ) (message : LinkMsg)
    → HasTalk master name node up down given → from ≢ master.me → IsFitting message → IsNew message node up down → TalkTells node up down
    → TellsAfterNode master.me (node_takes node from message) up down

-- it takes the master's
abbrev pub AnswersTell : Type 0
AnswersTell = (master : Master) (name : List ℕ) (node : BackNode) (up down : List LinkMsg) (given : Given) (message : LinkMsg)
    → HasTalk master name node up (message ∷ down) given → TalkTells node up (message ∷ down)
    → TellsAfterNode master.me (node_takes node master.me message) up down

-- the master takes its line
abbrev pub LinesTell : Type 0
LinesTell = (master : Master) (name : List ℕ) (node : BackNode) (up down : List LinkMsg) (given : Given) (message : LinkMsg)
    → HasTalk master name node (message ∷ up) down given → TellNobody master.streams → TalkTells node (message ∷ up) down
    → TalkTells node up (down ++ messages_to name (node_says master name message).outs)

-- the master takes anything of another node, a link of the master comes up, or a client from outside does something
abbrev pub OthersTell : Type 0
OthersTell = (master : Master) (name other : List ℕ) (node : BackNode) (up down : List LinkMsg) (given : Given) (message : LinkMsg) → other ≢ name
    → HasTalk master name node up down given → TalkTells node up down
    → TalkTells node up (down ++ messages_to name (node_says master other message).outs)

abbrev pub UpsTell : Type 0
UpsTell = (master : Master) (name other : List ℕ) (node : BackNode) (up down : List LinkMsg) → TalkTells node up down
    → TalkTells node up (down ++ messages_to name (node_says master other Up).outs)

abbrev pub ClientsTell : Type 0
ClientsTell = (master : Master) (name : List ℕ) (node : BackNode) (up down : List LinkMsg) (conn : ℕ) → TalkTells node up down
    → TalkTells node up (down ++ messages_to name (connect master conn).outs)
    × ((bytes : List ℕ) → TalkTells node up (down ++ messages_to name (bytes_in master conn bytes).outs))
