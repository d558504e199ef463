-- Where a CREATE or DELETE is after a step of its backend.
use Rattle.std.specs.Prelude.{◌≡◌, ◌≢◌, ℕ, true, false, List, [], ◌∷◌, ◌++◌, None, Some}
use Rattle.link_msg.specs.declared.ask.FrontAsk.{FrontAsk}
use Rattle.link_msg.specs.declared.message.LinkMsg.{LinkMsg}
use Rattle.link_msg.specs.declared.message.LinkMsg.TheVariants.{Up, Ask}
use Rattle.master_core.specs.declared.master.Master.{Master}
use Rattle.mupdate_codec.specs.declared.command.MResponse.{MResponse}
use Rattle.mur_base.specs.declared.home.Location.{Location}
use Rattle.name_flows.specs.declared.ask.AskKind.{AskKind}
use Rattle.name_flows.specs.declared.ask.NameAsk.{NameAsk}
use Rattle.name_flows.specs.declared.flow.Flow.{Flow}
use Rattle.name_flows.specs.declared.flows.Flows.{Flows}
use Rattle.name_flows.specs.Asked.{refusal}
use Rattle.name_flows.specs.Running.{new_flows}
use Rattle.back_node.specs.declared.node.BackNode.{BackNode}
use Rattle.back_node.specs.Node.{new_node}
use Rattle.back_node.specs.Takes.{name_ask, name_kind, node_takes}
use Rattle.feed_links.specs.Lines.{messages_to}
use Rattle.name_links.specs.Serials.{Given}
use Rattle.back_links.specs.BackEvents.{IsFitting}
use Rattle.back_links.specs.OneTalk.{HasTalk}
use Rattle.name_commands.specs.Moves.{Move, asked_move, heard_move, tested_move, LeavesCommand, MovesCommand}
use Rattle.name_commands.specs.Places.{NamePlace, nowhere, waits, hears, FlowsTell, FlowsShow, TalkShows}
use Rattle.name_commands.specs.Whose.{Whose, asks_for, is_own_message}

-- ---- at first

-- no command is at a new backend
abbrev pub NoneAtFirst : Type 0
NoneAtFirst = (whose : Whose) (me : Location) (master : List ℕ) → FlowsShow whose (new_flows me master) nowhere

-- nor is one when its link comes up
abbrev pub NoneBegins : Type 0
NoneBegins = (whose : Whose) (place : Location) (me : List ℕ) → LeavesCommand whose me (node_takes (new_node place me) me Up) [] [] nowhere

-- ---- its own steps

-- its ask comes
abbrev pub AskMoves : Type 0
AskMoves = (whose : Whose) (master : Master) (name : List ℕ) (node : BackNode) (up down : List LinkMsg) (given : Given) (from : List ℕ) (ask : FrontAsk)
    (kind : AskKind) → HasTalk master name node up down given → from ≢ master.me → IsFitting (Ask ask) → name_kind ask.op ≡ Some kind
    → whose ask.id ≡ true → TalkShows whose node up down nowhere
    → MovesCommand whose master.me node (node_takes node from (Ask ask)) up down (asked_move node.flows node.home.held (name_ask from ask kind))

-- the response to its line comes
pub record IsHeard (whose : Whose) (master : List ℕ) (node : BackNode) (message : LinkMsg) (up down : List LinkMsg) (mailbox : List ℕ) (flow : Flow)
    (it : MResponse) : Type 0 where
  pub move : Move
  pub is : heard_move mailbox flow it ≡ Some move
  pub moved : MovesCommand whose master node (node_takes node master message) up down move

abbrev pub AnswerMoves : Type 0
AnswerMoves = (whose : Whose) (master : Master) (name : List ℕ) (node : BackNode) (up down : List LinkMsg) (given : Given) (message : LinkMsg)
    (mailbox : List ℕ) (flow : Flow) (it : MResponse) → HasTalk master name node up (message ∷ down) given → is_own_message whose message ≡ true
    → TalkShows whose node up (message ∷ down) (hears mailbox flow it) → IsHeard whose master.me node message up down mailbox flow it

-- ---- steps for something else

-- a frontend asks for another command, or anything else comes that isn't the master's
abbrev pub OtherAsksLeave : Type 0
OtherAsksLeave = (whose : Whose) (master : Master) (name : List ℕ) (node : BackNode) (up down : List LinkMsg) (given : Given) (from : List ℕ)
    (message : LinkMsg) (place : NamePlace) → HasTalk master name node up down given → from ≢ master.me → IsFitting message
    → asks_for whose message ≡ false → TalkShows whose node up down place
    → LeavesCommand whose master.me (node_takes node from message) up down place

-- an ask for messages leaves it where it is, whose ever it is
abbrev pub MessagesLeave : Type 0
MessagesLeave = (whose : Whose) (master : Master) (name : List ℕ) (node : BackNode) (up down : List LinkMsg) (given : Given) (from : List ℕ)
    (ask : FrontAsk) (place : NamePlace) → HasTalk master name node up down given → from ≢ master.me → name_kind ask.op ≡ None
    → TalkShows whose node up down place
    → TalkShows whose (node_takes node from (Ask ask)).state (up ++ messages_to master.me (node_takes node from (Ask ask)).outs) down place

-- The master says something else. It stays where it is, or that ends the resync for which it waits: then it is tested, behind those that waited before it.
pub data LeavesOrTests (whose : Whose) (master : List ℕ) (node : BackNode) (message : LinkMsg) (up down : List LinkMsg) (place : NamePlace) : Type 0 where
  is_left : LeavesCommand whose master (node_takes node master message) up down place → LeavesOrTests whose master node message up down place
  is_tested : (ask : NameAsk) (flows : Flows) → place ≡ waits ask → (node_takes node master message).state.flows.resync ≡ None
      → flows.up ≡ node.flows.up → flows.master ≡ node.flows.master
      → MovesCommand whose master node (node_takes node master message) up down (tested_move ask (refusal flows node.home.held ask.name ask.kind))
      → LeavesOrTests whose master node message up down place

abbrev pub OtherAnswersLeave : Type 0
OtherAnswersLeave = (whose : Whose) (master : Master) (name : List ℕ) (node : BackNode) (up down : List LinkMsg) (given : Given) (message : LinkMsg)
    (place : NamePlace) → HasTalk master name node up (message ∷ down) given → FlowsTell node.flows → is_own_message whose message ≡ false
    → TalkShows whose node up (message ∷ down) place → LeavesOrTests whose master.me node message up down place
