-- The first line of a backend: what the master makes of it, and sends.
use Rattle.std.proofs.Common.{◌≡◌, ◌≢◌, ℕ, ◌<◌, ◌^◌, Bool, false, is_some, List, [], ◌∷◌, ◌++◌, map, Option, None, Some, refl, ap, subst, ◌∙◌, append-nil}
use Rattle.std.specs.List.{AllByRecursion}
use Rattle.home_law.specs.Items.{Server}
use Rattle.home_law.specs.ManyNames.{SentLine as OpenLine}
use Rattle.link_msg.specs.declared.message.LinkMsg.{LinkMsg}
use Rattle.master_core.specs.declared.master.Master.{Master}
use Rattle.master_core.specs.declared.sender.Sender.{Sender}
use Rattle.master_core.specs.declared.sender.Sender.TheVariants.{Backend}
use Rattle.master_core.specs.Changes.{change_outs}
use Rattle.master_core.specs.Linked.{sender_by, sender_of, node_says, let_out}
use Rattle.master_core.specs.Replies.{reply_to}
use Rattle.master_core.specs.Step.{Planned, replied, line_step}
use Rattle.master_core.specs.Streams.{is_stream}
use Rattle.mupdate_codec.specs.declared.command.MCommand.{MCommand}
use Rattle.mupdate_codec.specs.declared.tag.Tag.{Tag}
use Rattle.mupdate_codec.specs.Arguments.{exact}
use Rattle.mupdate_codec.specs.Commands.{command_line}
use Rattle.back_node.specs.declared.node.BackNode.{BackNode}
use Rattle.feed_links.specs.Lines.{messages_to, stream_of}
use Rattle.feed_links.specs.Spelled.{CanBeTold}
use Rattle.feed_links.proofs.Messages.{told_line, own_answers, no_answers, change_untold, reply_messages}
use Rattle.feed_links.proofs.TablesTold.{tables_can_be_told}
use Rattle.name_links.specs.Answers.{HasNoBang, IsTable, answers_to}
use Rattle.name_links.specs.Lines.{backend_line}
use Rattle.name_links.specs.LinkIs.{AreSent, LinkHolds}
use Rattle.name_links.specs.OneLink.{OneLink, server_of, table_by, under}
use Rattle.name_links.specs.Serials.{Given, gives}
use Rattle.name_links.proofs.LinkEvents.{line_is, none_sent}
use Rattle.name_links.proofs.Outs.{line_is_reply}
use Rattle.back_links.specs.MasterEvents.{given_if, given_in}
use Rattle.back_links.specs.OneTalk.{link_of, HasTalk}
use Rattle.back_links.specs.Spelled.{HasCommandTexts}
use Rattle.back_links.specs.Written.{command_message, response_message}
use Rattle.back_links.proofs.Queues.{told_messages, IsFirst}
use Rattle.back_links.proofs.Texts.{command_read}

-- the master takes it for the command that the backend meant
pub record IsItsLine (master : Master) (name : List ℕ) (message : LinkMsg) (it : Tag × MCommand) : Type 0 where
  pub line : OpenLine
  pub is : message ≡ command_message it
  pub spelled : HasCommandTexts it
  pub meant : backend_line name it.0 it.1 ≡ Some line
  pub sender : sender_of master name ≡ Backend name
  pub no_stream : is_stream master (Backend name) ≡ false
  pub no_bang : HasNoBang name
  pub table : IsTable master.table
  pub low : master.table.serial < 2 ^ 32

-- the first command on its way is a line
pub first_meant : (link : OneLink) (it : Tag × MCommand) (ups : List (Tag × MCommand)) → LinkHolds link → link.ups ≡ it ∷ ups
    → (line : OpenLine) × (backend_line (server_of link) it.0 it.1 ≡ Some line)
first_meant link it ups holds e = by_left holds.is.tied.left refl
  where
    by_left : (left : List (Tag × OpenLine)) → holds.is.tied.left ≡ left → (line : OpenLine) × (backend_line (server_of link) it.0 it.1 ≡ Some line)
    by_left [] first =
        absurd (none_sent (server_of link) it ups (subst (λ (us : List (Tag × MCommand)). AreSent (server_of link) [] us) e
        (subst (λ (ls : List (Tag × OpenLine)). AreSent (server_of link) ls link.ups) first holds.is.tied.sent)))
    by_left (line ∷ lines) first = (line.1, line_is link it ups holds.ready holds.is e line lines first)

streamless : (master : Master) (name : List ℕ) → stream_of master name ≡ None → is_stream master (Backend name) ≡ false
unfolding is_stream
streamless master name none = ap (λ (t : Option Tag). is_some t) none

pub its_line : (master : Master) (name : List ℕ) (node : BackNode) (up down : List LinkMsg) (given : Given) (message : LinkMsg)
    (talk : HasTalk master name node (message ∷ up) down given) (first : IsFirst command_message message up talk.ups) → IsItsLine master name message first.it
its_line master name node up down given message talk first =
    let link : OneLink = link_of master node talk.ups talk.downs in
    let line = first_meant link first.it first.more talk.holds.names first.are in
    let spelled : AllByRecursion HasCommandTexts (first.it ∷ first.more) = subst (AllByRecursion HasCommandTexts) first.are talk.written.commands in
    record {
      line = line.0;
      is = first.is;
      spelled = spelled.0;
      meant = subst (λ (b : Server). backend_line b (first.it).0 (first.it).1 ≡ Some line.0) talk.each.named line.1;
      sender = ap (λ (b : Bool). sender_by b name) talk.each.backend;
      no_stream = streamless master name talk.each.no_stream;
      no_bang = subst HasNoBang talk.each.named talk.holds.names.ready.name;
      table = talk.holds.names.ready.table;
      low = talk.holds.names.ready.serial;
    }

-- the step is the reply to it
module _ (master : Master) (name : List ℕ) (message : LinkMsg) (it : Tag × MCommand) (its : IsItsLine master name message it) where
  abbrev text : List ℕ
  text = (command_line exact).text it

  abbrev pub next : Planned
  next = replied master (Backend name) it.0 (reply_to master.table (Backend name) it.1)

  pub step_replies : line_step master (Backend name) text ≡ next
  step_replies = line_is_reply master name text it.0 it.1 its.line (command_read it its.spelled) its.meant its.no_stream

  pub says_reply : node_says master name message ≡ let_out next
  unfolding node_says
  says_reply =
      ap (λ (m : LinkMsg). node_says master name m) its.is
      ∙ ap (λ (from : Sender). let_out (line_step master from text)) its.sender
      ∙ ap (λ (p : Planned). let_out p) step_replies

  pub gives_same : given_in master.table name message ≡ gives master.table name it.1
  gives_same =
      ap (λ (m : LinkMsg). given_in master.table name m) its.is
      ∙ ap (λ (c : Option (Tag × MCommand)). given_if master.table name c) (command_read it its.spelled)

  pub table_told : CanBeTold master.table → CanBeTold (table_by master.table name it.1)
  unfolding replied
  table_told can = subst (λ (p : Planned). CanBeTold p.master.table) step_replies (tables_can_be_told master (Backend name) text can)

  -- what it sends the node is the responses, each under the tag
  pub own_messages : stream_of master name ≡ None → messages_to name next.outs ≡ map response_message (map (under it.0) (answers_to master.table name it.1))
  unfolding replied
  own_messages none =
      let reply = reply_to master.table (Backend name) it.1 in
      let answers : List LinkMsg = map (told_line it.0) reply.answers in
      reply_messages master name (Backend name) it.0 reply
      ∙ ap (λ (l : List LinkMsg). l ++ messages_to name (change_outs master.streams master.watchers reply.entry))
      (own_answers name (Backend name) it.0 reply.answers refl)
      ∙ ap (λ (l : List LinkMsg). answers ++ l) (change_untold master name reply.entry none)
      ∙ append-nil answers
      ∙ told_messages it.0 reply.answers

  -- and another node nothing
  pub other_messages : (node : List ℕ) → name ≢ node → stream_of master node ≡ None → messages_to node next.outs ≡ []
  unfolding replied
  other_messages node ne none =
      let reply = reply_to master.table (Backend name) it.1 in
      reply_messages master node (Backend name) it.0 reply
      ∙ ap (λ (l : List LinkMsg). l ++ messages_to node (change_outs master.streams master.watchers reply.entry))
      (no_answers node (Backend name) it.0 reply.answers ne)
      ∙ change_untold master node reply.entry none
