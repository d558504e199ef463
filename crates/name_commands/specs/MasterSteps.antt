-- Where a CREATE or DELETE is after a step of the master.
use Rattle.std.specs.Prelude.{◌≡◌, ◌≢◌, ℕ, true, false, List, [], ◌∷◌, ◌++◌, filter, Some}
use Rattle.link_msg.specs.declared.message.LinkMsg.{LinkMsg}
use Rattle.link_msg.specs.declared.out.Out.TheVariants.{Link}
use Rattle.master_core.specs.declared.master.Master.{Master}
use Rattle.master_core.specs.declared.reply.Reply.{Reply}
use Rattle.master_core.specs.declared.sender.Sender.TheVariants.{Backend}
use Rattle.master_core.specs.Linked.{node_says}
use Rattle.master_core.specs.Outside.{bytes_in, connect, Stepped}
use Rattle.master_core.specs.Replies.{reply_to}
use Rattle.master_core.specs.Step.{mark_of}
use Rattle.master_core.specs.Whose.{TellNobody}
use Rattle.mupdate_codec.specs.declared.command.MResponse.{MResponse}
use Rattle.mur_base.specs.declared.home.Location.{Location}
use Rattle.name_flows.specs.declared.flow.Flow.{Flow}
use Rattle.node_record.specs.Table.{MailboxTable}
use Rattle.back_node.specs.declared.node.BackNode.{BackNode}
use Rattle.feed_links.specs.Lines.{messages_to}
use Rattle.name_links.specs.Serials.{Given}
use Rattle.back_links.specs.OneTalk.{HasTalk}
use Rattle.name_commands.specs.Places.{NamePlace, nowhere, sends, hears, TalkShows, answer_message, stage_command}
use Rattle.name_commands.specs.Replied.{IsReplied}
use Rattle.name_commands.specs.Whose.{Whose, is_own_message, is_own_out}

-- what the master makes of the line of a flow
abbrev pub flow_reply : MailboxTable → List ℕ → Location → List ℕ → Flow → Reply
flow_reply table name me mailbox flow = reply_to table (Backend name) (stage_command me mailbox flow.stage)

-- The master takes its line. There is one response, under the same tag, and the step's mark is that of the reply.
pub record IsTaken (whose : Whose) (master : Master) (name : List ℕ) (node : BackNode) (message : LinkMsg) (up down : List LinkMsg) (mailbox : List ℕ)
    (flow : Flow) : Type 0 where
  pub it : MResponse
  pub answer : (flow_reply master.table name node.flows.me mailbox flow).answers ≡ it ∷ []
  pub replied : IsReplied master.table node.flows.me mailbox flow it (flow_reply master.table name node.flows.me mailbox flow)
  pub placed : TalkShows whose node up (down ++ messages_to name (node_says master name message).outs) (hears mailbox flow it)
  pub outs : filter (is_own_out whose) (node_says master name message).outs
      ≡ Link name (answer_message flow it) ∷ mark_of (Some flow.ask) (flow_reply master.table name node.flows.me mailbox flow).counts

abbrev pub LineTaken : Type 0
LineTaken = (whose : Whose) (master : Master) (name : List ℕ) (node : BackNode) (up down : List LinkMsg) (given : Given) (message : LinkMsg)
    (mailbox : List ℕ) (flow : Flow) → HasTalk master name node (message ∷ up) down given → TellNobody master.streams
    → is_own_message whose message ≡ true → TalkShows whose node (message ∷ up) down (sends mailbox flow)
    → IsTaken whose master name node message up down mailbox flow

-- no other backend hears of it
abbrev pub LineTakenAlone : Type 0
LineTakenAlone = (whose : Whose) (master : Master) (name other : List ℕ) (node its : BackNode) (up down its_up its_down : List LinkMsg) (given : Given)
    (message : LinkMsg) (mailbox : List ℕ) (flow : Flow) → other ≢ name → HasTalk master name node (message ∷ up) down given → TellNobody master.streams
    → is_own_message whose message ≡ true → TalkShows whose node (message ∷ up) down (sends mailbox flow) → TalkShows whose its its_up its_down nowhere
    → TalkShows whose its its_up (its_down ++ messages_to other (node_says master name message).outs) nowhere

-- a step of the master for something else
pub record IsPassed (whose : Whose) (name : List ℕ) (next : Stepped) (node : BackNode) (up down : List LinkMsg) (place : NamePlace) : Type 0 where
  pub placed : TalkShows whose node up (down ++ messages_to name next.outs) place
  pub outs : filter (is_own_out whose) next.outs ≡ []

-- it takes another line of this backend
abbrev pub OtherLinesPass : Type 0
OtherLinesPass = (whose : Whose) (master : Master) (name : List ℕ) (node : BackNode) (up down : List LinkMsg) (message : LinkMsg) (place : NamePlace)
    → TellNobody master.streams → is_own_message whose message ≡ false → TalkShows whose node (message ∷ up) down place
    → IsPassed whose name (node_says master name message) node up down place

-- or anything of another node
abbrev pub OtherNodesPass : Type 0
OtherNodesPass = (whose : Whose) (master : Master) (name other : List ℕ) (node : BackNode) (up down : List LinkMsg) (message : LinkMsg) (place : NamePlace)
    → TellNobody master.streams → is_own_message whose message ≡ false → TalkShows whose node up down place
    → IsPassed whose name (node_says master other message) node up down place

-- or a client from outside connects, or sends bytes; where it closes its connection, nothing goes out
abbrev pub ClientsPass : Type 0
ClientsPass = (whose : Whose) (master : Master) (name : List ℕ) (node : BackNode) (up down : List LinkMsg) (place : NamePlace) (conn : ℕ)
    → TalkShows whose node up down place
    → IsPassed whose name (connect master conn) node up down place
    × ((bytes : List ℕ) → IsPassed whose name (bytes_in master conn bytes) node up down place)
