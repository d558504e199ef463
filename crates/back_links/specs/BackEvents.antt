-- A talk begins when the link comes up first, and goes on in each step of the backend.
use Rattle.std.specs.Prelude.{◌≡◌, ◌≢◌, ℕ, ◌<◌, ◌^◌, nat_eq, true, List, [], ◌∷◌, ◌++◌, Option, None, Some}
use Rattle.std.specs.List.{list_any}
use Rattle.std.specs.Cmp.Lexicographic.{pointwise}
use Rattle.backend_core.specs.HomeLaws.{RisesAt, is_open_here}
use Rattle.backend_core.specs.HomeStep.{held_at}
use Rattle.link_msg.specs.declared.ask.FrontAsk.{FrontAsk}
use Rattle.link_msg.specs.declared.message.LinkMsg.{LinkMsg}
use Rattle.link_msg.specs.declared.message.LinkMsg.TheVariants.{Up, Ask}
use Rattle.master_core.specs.declared.master.Master.{Master}
use Rattle.master_core.specs.Boot.{booted}
use Rattle.mur_base.specs.declared.home.Location.{Location}
use Rattle.node_record.specs.Table.{empty_table}
use Rattle.name_flows.specs.declared.ask.AskKind.{AskKind}
use Rattle.back_node.specs.declared.node.BackNode.{BackNode}
use Rattle.back_node.specs.Acted.{BackActed}
use Rattle.back_node.specs.Node.{new_node}
use Rattle.back_node.specs.NodeLaws.{IsCarriedOut, is_of_messages}
use Rattle.back_node.specs.Takes.{name_kind, node_takes}
use Rattle.feed_links.specs.Lines.{messages_to}
use Rattle.name_links.specs.Serials.{Given}
use Rattle.name_links.specs.Spelled.{IsNameText, IsPlaceText}
use Rattle.back_links.specs.OneTalk.{HasTalk}

-- the talk goes on after a step of the backend: what it sends the master comes behind what is on its way
abbrev pub TalkAfterNode : Master → List ℕ → BackActed → List LinkMsg → List LinkMsg → Given → Type 0
TalkAfterNode master name next up down given = HasTalk master name next.state (up ++ messages_to master.me next.outs) down given

-- the link of a new backend with a new master comes up
abbrev pub TalkBegins : Type 0
TalkBegins = (place : Location) (me : List ℕ) (backends : List (List ℕ)) → IsPlaceText place → list_any (pointwise nat_eq place.server) backends ≡ true
    → TalkAfterNode (booted me backends empty_table) place.server (node_takes (new_node place me) me Up) [] [] []

-- a CREATE or DELETE is of a name, and its command's numbers are of 64 bits
abbrev pub fits_by : Option AskKind → FrontAsk → Type 0
fits_by None ask = Unit {0}
fits_by (Some kind) ask = (ask.id.conn < 2 ^ 64) × (ask.id.command < 2 ^ 64) × IsNameText ask.name

abbrev pub IsFitting : LinkMsg → Type 0
IsFitting (Ask ask) = fits_by (name_kind ask.op) ask
IsFitting message = Unit {0}

-- a frontend asks for something, or another node sends anything else
abbrev pub AsksKeepTalk : Type 0
AsksKeepTalk = (master : Master) (name : List ℕ) (node : BackNode) (up down : List LinkMsg) (given : Given) (from : List ℕ) (message : LinkMsg)
    → from ≢ master.me → IsFitting message → HasTalk master name node up down given → TalkAfterNode master name (node_takes node from message) up down given

-- the backend takes the first message of the master
abbrev pub HearsKeepsTalk : Type 0
HearsKeepsTalk = (master : Master) (name : List ℕ) (node : BackNode) (up down : List LinkMsg) (given : Given) (message : LinkMsg)
    → HasTalk master name node up (message ∷ down) given → TalkAfterNode master name (node_takes node master.me message) up down given

-- an ask for messages is carried out where the mailbox is open, whatever is on its way
pub record IsServed (master : Master) (name : List ℕ) (node : BackNode) (up down : List LinkMsg) (given : Given) (from : List ℕ) (ask : FrontAsk) : Type 0 where
  pub done : IsCarriedOut node from ask
  pub goes_on : TalkAfterNode master name (node_takes node from (Ask ask)) up down given

abbrev pub MessagesAreServed : Type 0
MessagesAreServed = (master : Master) (name : List ℕ) (node : BackNode) (up down : List LinkMsg) (given : Given) (from : List ℕ) (ask : FrontAsk)
    → from ≢ master.me → is_of_messages ask.op ≡ true → is_open_here (held_at node.home ask.name) ≡ true → RisesAt node.home ask.name
    → HasTalk master name node up down given → IsServed master name node up down given from ask
