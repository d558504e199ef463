-- A talk goes on in each step of the master.
use Rattle.std.specs.Prelude.{◌≡◌, ◌≢◌, ℕ, nat_eq, false, List, [], ◌∷◌, ◌++◌, Option, None, Some}
use Rattle.std.specs.List.{list_any}
use Rattle.std.specs.Cmp.Lexicographic.{pointwise}
use Rattle.home_law.specs.Items.{Server}
use Rattle.link_msg.specs.declared.message.LinkMsg.{LinkMsg}
use Rattle.link_msg.specs.declared.message.LinkMsg.TheVariants.{Up, Line}
use Rattle.master_core.specs.declared.master.Master.{Master}
use Rattle.master_core.specs.declared.sender.Sender.TheVariants.{Outside}
use Rattle.master_core.specs.Linked.{node_says}
use Rattle.master_core.specs.Outside.{Stepped, bytes_in, connect}
use Rattle.master_core.specs.Streams.{without}
use Rattle.mupdate_codec.specs.declared.command.MCommand.{MCommand}
use Rattle.mupdate_codec.specs.declared.tag.Tag.{Tag}
use Rattle.mupdate_codec.specs.Whole.{command_in}
use Rattle.node_record.specs.Table.{MailboxTable}
use Rattle.back_node.specs.declared.node.BackNode.{BackNode}
use Rattle.feed_links.specs.Lines.{messages_to}
use Rattle.name_links.specs.Serials.{Given, gives}
use Rattle.back_links.specs.OneTalk.{HasTalk}

-- the talk goes on after a step of the master: what it sends the node comes behind what is on its way
abbrev pub TalkAfterMaster : Stepped → List ℕ → BackNode → List LinkMsg → List LinkMsg → Given → Type 0
TalkAfterMaster next name node up down given = HasTalk next.master name node up (down ++ messages_to name next.outs) given

-- the UIDVALIDITY that a message of a backend gives to a mailbox, if it gives one

abbrev pub given_if : MailboxTable → Server → Option (Tag × MCommand) → Given
given_if table server None = []
given_if table server (Some it) = gives table server it.1

abbrev pub given_in : MailboxTable → Server → LinkMsg → Given
given_in table server (Line bytes) = given_if table server (command_in bytes)
given_in table server message = []

-- the master takes the first message of the backend
abbrev pub TakesKeepsTalk : Type 0
TakesKeepsTalk = (master : Master) (name : List ℕ) (node : BackNode) (up down : List LinkMsg) (given : Given) (message : LinkMsg)
    → HasTalk master name node (message ∷ up) down given
    → TalkAfterMaster (node_says master name message) name node up down (given ++ given_in master.table name message)

-- it takes the first message of another backend
abbrev pub OthersKeepTalk : Type 0
OthersKeepTalk = (master : Master) (name other : List ℕ) (node its : BackNode) (up down its_up its_down : List LinkMsg) (given : Given) (message : LinkMsg)
    → other ≢ name → HasTalk master name node up down given → HasTalk master other its (message ∷ its_up) its_down given
    → TalkAfterMaster (node_says master other message) name node up down (given ++ given_in master.table other message)

-- it takes any message of a node that is no backend
abbrev pub FrontendsKeepTalk : Type 0
FrontendsKeepTalk = (master : Master) (name front : List ℕ) (node : BackNode) (up down : List LinkMsg) (given : Given) (message : LinkMsg)
    → list_any (pointwise nat_eq front) master.backends ≡ false → HasTalk master name node up down given
    → TalkAfterMaster (node_says master front message) name node up down given

-- a link of the master comes up, whose ever it is
abbrev pub UpsKeepTalk : Type 0
UpsKeepTalk = (master : Master) (name other : List ℕ) (node : BackNode) (up down : List LinkMsg) (given : Given) → HasTalk master name node up down given
    → TalkAfterMaster (node_says master other Up) name node up down given

-- a client from outside connects, sends bytes, or closes its connection
pub record ClientsLeaveTalk (master : Master) (name : List ℕ) (node : BackNode) (up down : List LinkMsg) (given : Given) : Type 0 where
  pub connects : (conn : ℕ) → TalkAfterMaster (connect master conn) name node up down given
  pub says : (conn : ℕ) (bytes : List ℕ) → TalkAfterMaster (bytes_in master conn bytes) name node up down given
  pub ends : (conn : ℕ) → HasTalk (without master (Outside conn)) name node up down given

abbrev pub ClientsKeepTalk : Type 0
ClientsKeepTalk = (master : Master) (name : List ℕ) (node : BackNode) (up down : List LinkMsg) (given : Given) → HasTalk master name node up down given
    → ClientsLeaveTalk master name node up down given
