-- The master takes a line: a command's own, or another.
use Rattle.std.proofs.Common.{◌≡◌, ℕ, Bool, true, cond, is_some, List, [], ◌∷◌, ◌++◌, map, filter, Option, None, Some, refl, sym, ap, subst, ◌∙◌}
use Rattle.std.specs.List.{AllByRecursion}
use Rattle.link_msg.specs.declared.counts.Counts.{Counts}
use Rattle.link_msg.specs.declared.message.LinkMsg.{LinkMsg}
use Rattle.link_msg.specs.declared.out.Out.{Out}
use Rattle.link_msg.specs.declared.out.Out.TheVariants.{Client, Close, Link, Mark, Told as tell}
use Rattle.mail_message.specs.FirstAcl.{first_acl}
use Rattle.master_core.specs.declared.master.Master.{Master}
use Rattle.master_core.specs.declared.refusal.Refusal.{Refusal}
use Rattle.master_core.specs.declared.reply.Reply.{Reply}
use Rattle.master_core.specs.declared.sender.Sender.TheVariants.{Backend}
use Rattle.master_core.specs.Changes.{change_outs}
use Rattle.master_core.specs.Linked.{let_out, node_says}
use Rattle.master_core.specs.Outside.{bytes_in, connect, Stepped}
use Rattle.master_core.proofs.OutsideAlone.{AreItsOwn, bytes_alone, connects_alone}
use Rattle.master_core.specs.Refusals.{activate_refusal, deactivate_refusal, delete_refusal, reserve_refusal}
use Rattle.master_core.specs.Replies.{activate_by, activate_reply, deactivate_by, deactivate_reply, delete_by, delete_reply, reply_to, reserve_by, reserve_reply}
use Rattle.master_core.specs.Step.{answered, mark_of, mark_outs, replied}
use Rattle.master_core.specs.Whose.{TellNobody}
use Rattle.mupdate_codec.specs.declared.command.MCommand.{MCommand}
use Rattle.mupdate_codec.specs.declared.command.MResponse.{MResponse}
use Rattle.mupdate_codec.specs.declared.tag.Tag.{Tag}
use Rattle.mupdate_codec.specs.Arguments.{exact}
use Rattle.mupdate_codec.specs.Asks.{ask_id_of, tag_of}
use Rattle.mupdate_codec.specs.Commands.{command_line}
use Rattle.mupdate_codec.specs.Whole.{command_in}
use Rattle.mupdate_codec.proofs.AsksLaw.{ask_again}
use Rattle.mupdate_codec.proofs.LineAsks.{own_response}
use Rattle.mur_base.specs.declared.home.Location.{Location}
use Rattle.mur_base.specs.declared.point.AskId.{AskId}
use Rattle.name_flows.specs.declared.flow.Flow.{Flow}
use Rattle.name_flows.specs.declared.flow.Stage.{Stage}
use Rattle.name_flows.specs.declared.flow.Stage.TheVariants.{Reserving, Making, Deactivating, Deleting}
use Rattle.name_flows.specs.Running.{flow_at}
use Rattle.node_record.specs.Table.{MailboxTable, record_at}
use Rattle.back_node.specs.declared.node.BackNode.{BackNode}
use Rattle.feed_links.specs.Lines.{messages_to}
use Rattle.feed_links.proofs.Names.{other_name}
use Rattle.name_links.specs.OneLink.{OneLink, server_of, under}
use Rattle.name_links.specs.Serials.{Given}
use Rattle.back_links.specs.OneTalk.{HasTalk, link_of}
use Rattle.back_links.specs.Spelled.{HasCommandTexts, HasLineTexts, HasResponseTexts}
use Rattle.back_links.specs.Written.{command_message, response_message}
use Rattle.back_links.proofs.AnswersTold.{answers_told, under_spelled}
use Rattle.back_links.proofs.FirstLine.{IsItsLine, its_line, next, own_messages, says_reply}
use Rattle.back_links.proofs.Queues.{first_of, IsFirst}
use Rattle.back_links.proofs.StepsSaid.{sends_spelled}
use Rattle.back_links.proofs.Texts.{command_read, response_read}
use Rattle.name_commands.specs.MasterSteps.{ClientsPass, flow_reply, IsPassed, IsTaken, LineTaken, LineTakenAlone, OtherLinesPass, OtherNodesPass}
use Rattle.name_commands.specs.Places.{NamePlace, sends, TalkShows, answer_message, flow_line, flow_message, may_come, stage_command}
use Rattle.name_commands.specs.Replied.{IsReplied}
use Rattle.name_commands.specs.Whose.{Whose, is_own, is_own_line, is_own_message, is_own_out}
use Rattle.name_commands.proofs.GrantedLaw.{deactivate_goes, delete_goes, IsHere, make_finds}
use Rattle.name_commands.proofs.Marks.{changes_none, its_mark, none_sent, says_others, sent_of_outs}
use Rattle.name_commands.proofs.Own.{all_behind, kept, none_behind, of_one, on_itself, own_is, passed}
use Rattle.name_commands.proofs.ReplyLaw.{activate_replied, deactivate_replied, delete_replied, reserve_replied}
use Rattle.name_commands.proofs.Sends.{stage_same}

-- ---- one response

record HasOneAnswer (stage : Stage) (reply : Reply) : Type 0 where
  it : MResponse
  answer : reply.answers ≡ it ∷ []
  fits : may_come stage it ≡ true

reserve_one : (table : MailboxTable) (name : List ℕ) (place : Location) (why : Option Refusal) → HasOneAnswer Reserving (reserve_by table name place why)
reserve_one table name place (Some why) = record { it = _; answer = refl; fits = refl }
reserve_one table name place None = record { it = _; answer = refl; fits = refl }

activate_one : (b name : List ℕ) (place : Location) (acl : List ℕ) (why : Option Refusal) → HasOneAnswer Making (activate_by (Backend b) name place acl why)
activate_one b name place acl (Some why) = record { it = _; answer = refl; fits = refl }
activate_one b name place acl None = record { it = _; answer = refl; fits = refl }

deactivate_one : (name : List ℕ) (place : Location) (why : Option Refusal) → why ≡ None → HasOneAnswer Deactivating (deactivate_by name place why)
deactivate_one name place (Some why) e = cc
deactivate_one name place None e = record { it = _; answer = refl; fits = refl }

delete_one : (name : List ℕ) (why : Option Refusal) → why ≡ None → HasOneAnswer Deleting (delete_by name why)
delete_one name (Some why) e = cc
delete_one name None e = record { it = _; answer = refl; fits = refl }

just : (one other : Tag × MCommand) → Some one ≡ Some other → one ≡ other
just one other e = cc

-- ---- its line is the first

module _ (whose : Whose) (master : Master) (name : List ℕ) (node : BackNode) (up down : List LinkMsg) (given : Given) (message : LinkMsg)
    (mailbox : List ℕ) (flow : Flow) (talk : HasTalk master name node (message ∷ up) down given) (tells : TellNobody master.streams)
    (own : is_own_message whose message ≡ true) (placed : TalkShows whose node (message ∷ up) down (sends mailbox flow)) where
  abbrev me : Location
  me = node.flows.me

  abbrev link : OneLink
  link = link_of master node talk.ups talk.downs

  abbrev tag : Tag
  tag = tag_of flow.ask

  abbrev it : Tag × MCommand
  it = (tag, stage_command me mailbox flow.stage)

  abbrev reply : Reply
  reply = flow_reply master.table name me mailbox flow

  pub first : IsFirst command_message message up talk.ups
  first = first_of command_message message up talk.ups talk.written.up_is

  both_are : message ∷ filter (is_own_message whose) up ≡ flow_message me mailbox flow ∷ []
  both_are = sym (kept (is_own_message whose) message up own) ∙ placed.up_is

  none_left : filter (is_own_message whose) up ≡ []
  none_left = let e = both_are in cc

  message_is : message ≡ flow_message me mailbox flow
  message_is = let e = both_are in cc

  -- it can be read again, since it is among the lines that were sent
  line_spelled : HasLineTexts (flow_line mailbox flow)
  line_spelled = of_one (is_own_line whose) HasLineTexts node.flows.sent (flow_line mailbox flow) talk.said.sent placed.at.sent

  spelled : HasCommandTexts it
  spelled =
      subst (λ (c : MCommand). HasCommandTexts (tag, c)) (stage_same whose me node.home.held flow.stage mailbox)
      (sends_spelled me node.home.held (flow_line mailbox flow ∷ []) talk.said.place talk.said.mailboxes (line_spelled, tt)).0

  its : IsItsLine master name message first.it
  its = its_line master name node up down given message talk first

  text_is : (command_line exact).text first.it ≡ (command_line exact).text it
  text_is = let both : command_message first.it ≡ command_message it = sym first.is ∙ message_is in cc

  pub it_is : first.it ≡ it
  it_is =
      just first.it it (sym (command_read first.it its.spelled) ∙ ap (λ (b : List ℕ). command_in b) text_is ∙ command_read it spelled)

  it_its : IsItsLine master name message it
  it_its = subst (λ (x : Tag × MCommand). IsItsLine master name message x) it_is its

  ups_are : talk.ups ≡ it ∷ first.more
  ups_are = first.are ∙ ap (λ (x : Tag × MCommand). x ∷ first.more) it_is

  says_is : node_says master name message ≡ let_out (next master name message it it_its)
  says_is = says_reply master name message it it_its

  -- ---- the reply

  own_flow_is : whose flow.ask ≡ true
  own_flow_is = (own_is whose (flow_at node.flows mailbox) flow (placed.at.running mailbox ∙ on_itself mailbox flow)).1

  tag_tells : ask_id_of tag ≡ Some flow.ask
  tag_tells = ask_again flow.ask placed.at.numbered.0 placed.at.numbered.1

  at_name : server_of link ≡ name
  at_name = talk.each.named

  one_by : (stage : Stage) → talk.ups ≡ (tag, stage_command me mailbox stage) ∷ first.more
      → HasOneAnswer stage (reply_to master.table (Backend name) (stage_command me mailbox stage))
  unfolding reply_to reserve_reply activate_reply deactivate_reply delete_reply
  one_by Reserving e = reserve_one master.table mailbox me (reserve_refusal master.table (Backend name) (record_at master.table mailbox) me)
  one_by Making e = activate_one name mailbox me (first_acl mailbox) (activate_refusal master.table (Backend name) (record_at master.table mailbox) me)
  one_by Deactivating e =
      deactivate_one mailbox me (deactivate_refusal (Backend name) (record_at master.table mailbox) me)
      (subst (λ (b : List ℕ). deactivate_refusal (Backend b) (record_at master.table mailbox) me ≡ None) at_name
      (deactivate_goes link talk.holds.names.is mailbox tag first.more e))
  one_by Deleting e =
      delete_one mailbox (delete_refusal (Backend name) (record_at master.table mailbox))
      (subst (λ (b : List ℕ). delete_refusal (Backend b) (record_at master.table mailbox) ≡ None) at_name
      (delete_goes link talk.holds.names.is mailbox tag first.more (ap (λ (i : Option AskId). is_some i) tag_tells) e))

  one : HasOneAnswer flow.stage reply
  one = one_by flow.stage ups_are

  abbrev response_of : MResponse
  response_of = one.it

  replied_by : (stage : Stage) → flow.stage ≡ stage → talk.ups ≡ (tag, stage_command me mailbox stage) ∷ first.more
      → (reply_to master.table (Backend name) (stage_command me mailbox stage)).answers ≡ response_of ∷ []
      → IsReplied master.table me mailbox flow response_of (reply_to master.table (Backend name) (stage_command me mailbox stage))
  unfolding reply_to reserve_reply activate_reply deactivate_reply delete_reply
  replied_by Reserving at e answers = reserve_replied master.table name me mailbox flow response_of at_name at it_its.low answers
  replied_by Making at e answers =
      activate_replied master.table name me mailbox flow response_of at_name at
      (subst (λ (b : List ℕ). IsHere b (record_at master.table mailbox)) at_name
      (make_finds link talk.holds.names.is mailbox tag first.more (first_acl mailbox) (ap (λ (i : Option AskId). is_some i) tag_tells) e)) answers
  replied_by Deactivating at e answers =
      deactivate_replied master.table name me mailbox flow response_of at_name at (deactivate_refusal (Backend name) (record_at master.table mailbox) me)
      (subst (λ (b : List ℕ). deactivate_refusal (Backend b) (record_at master.table mailbox) me ≡ None) at_name
      (deactivate_goes link talk.holds.names.is mailbox tag first.more e)) answers
  replied_by Deleting at e answers =
      delete_replied master.table name me mailbox flow response_of at_name at (delete_refusal (Backend name) (record_at master.table mailbox))
      (subst (λ (b : List ℕ). delete_refusal (Backend b) (record_at master.table mailbox) ≡ None) at_name
      (delete_goes link talk.holds.names.is mailbox tag first.more (ap (λ (i : Option AskId). is_some i) tag_tells) e)) answers

  own_answer : is_own_message whose (answer_message flow response_of) ≡ true
  own_answer = ap (λ (i : Option AskId). is_own whose i) (own_response flow.ask response_of ∙ tag_tells) ∙ own_flow_is

  responses_spelled : AllByRecursion HasResponseTexts (map (under tag) reply.answers)
  responses_spelled =
      under_spelled tag reply.answers spelled.0
      (answers_told master.table talk.told it_its.low name tag (stage_command me mailbox flow.stage) it_its.line it_its.meant)

  answer_spelled : HasResponseTexts (tag, response_of)
  answer_spelled = let all : AllByRecursion HasResponseTexts (map (under tag) (response_of ∷ [])) =
      subst (λ (l : List MResponse). AllByRecursion HasResponseTexts (map (under tag) l)) one.answer responses_spelled in all.0

  sent_are : messages_to name (node_says master name message).outs ≡ answer_message flow response_of ∷ []
  sent_are =
      ap (λ (s : Stepped). messages_to name s.outs) says_is
      ∙ own_messages master name message it it_its talk.each.no_stream
      ∙ ap (λ (l : List MResponse). map response_message (map (under tag) l)) one.answer

  outs_are : filter (is_own_out whose) (node_says master name message).outs ≡ Link name (answer_message flow response_of) ∷ mark_of (Some flow.ask) reply.counts
  unfolding replied
  outs_are =
      let from = Backend name in
      let changes : List Out = change_outs master.streams master.watchers reply.entry in
      ap (λ (s : Stepped). filter (is_own_out whose) s.outs) says_is
      ∙ ap (λ (l : List MResponse). filter (is_own_out whose) (map (answered from tag) l ++ (changes ++ mark_outs from tag reply.counts))) one.answer
      ∙ kept (is_own_out whose) (Link name (answer_message flow response_of)) (changes ++ mark_outs from tag reply.counts) own_answer
      ∙ ap (λ (l : List Out). Link name (answer_message flow response_of) ∷ l)
      (all_behind (is_own_out whose) changes (mark_outs from tag reply.counts) (mark_of (Some flow.ask) reply.counts)
      (changes_none whose master.streams master.watchers reply.entry tells)
      (ap (λ (i : Option AskId). filter (is_own_out whose) (mark_of i reply.counts)) tag_tells ∙ its_mark whose flow.ask reply.counts own_flow_is))

  taken : IsTaken whose master name node message up down mailbox flow
  taken = record {
    it = response_of;
    answer = one.answer;
    replied = replied_by flow.stage refl ups_are one.answer;
    placed = record {
      at = record { waiting = placed.at.waiting; running = placed.at.running; sent = placed.at.sent; numbered = placed.at.numbered };
      up_is = none_left;
      down_is =
          all_behind (is_own_message whose) down (messages_to name (node_says master name message).outs) (answer_message flow response_of ∷ []) placed.down_is
          (ap (λ (l : List LinkMsg). filter (is_own_message whose) l) sent_are ∙ kept (is_own_message whose) (answer_message flow response_of) [] own_answer);
      known = record { fits = one.fits; read = response_read (tag, response_of) answer_spelled };
    };
    outs = outs_are;
  }

pub line_taken : LineTaken
line_taken whose master name node up down given message mailbox flow talk tells own placed =
    taken whose master name node up down given message mailbox flow talk tells own placed

no_mark_sent : (node : List ℕ) (id : AskId) (counts : Option Counts) → messages_to node (mark_of (Some id) counts) ≡ []
no_mark_sent node id None = refl
no_mark_sent node id (Some counts) = refl

pub line_taken_alone : LineTakenAlone
line_taken_alone whose master name other node another up down its_up its_down given message mailbox flow ne talk tells own placed nothing =
    let it = taken whose master name node up down given message mailbox flow talk tells own placed in
    let counts = (flow_reply master.table name node.flows.me mailbox flow).counts in
    let none : filter (is_own_message whose) (messages_to other (node_says master name message).outs) ≡ [] =
    sent_of_outs whose other (node_says master name message).outs ∙ ap (λ (l : List Out). messages_to other l) it.outs
    ∙ ap (λ (b : Bool). cond b (answer_message flow it.it ∷ []) [] ++ messages_to other (mark_of (Some flow.ask) counts))
    (other_name name other (λ e. ne (sym e)))
    ∙ no_mark_sent other flow.ask counts in
    record {
      at = nothing.at;
      up_is = nothing.up_is;
      down_is = none_behind (is_own_message whose) its_down (messages_to other (node_says master name message).outs) none ∙ nothing.down_is;
      known = tt;
    }

-- ---- a step that lets out nothing about it

passes : (whose : Whose) (name : List ℕ) (next : Stepped) (node : BackNode) (up down : List LinkMsg) (place : NamePlace)
    → filter (is_own_out whose) next.outs ≡ [] → TalkShows whose node up down place → IsPassed whose name next node up down place
passes whose name next node up down place nothing placed = record {
  placed = record {
    at = placed.at;
    up_is = placed.up_is;
    down_is = none_behind (is_own_message whose) down (messages_to name next.outs) (none_sent whose name next.outs nothing) ∙ placed.down_is;
    known = placed.known;
  };
  outs = nothing;
}

pub other_nodes_pass : OtherNodesPass
other_nodes_pass whose master name other node up down message place tells others placed =
    passes whose name (node_says master other message) node up down place (says_others whose master other message tells others) placed

pub other_lines_pass : OtherLinesPass
other_lines_pass whose master name node up down message place tells others placed =
    passes whose name (node_says master name message) node up down place (says_others whose master name message tells others)
    (record {
      at = placed.at;
      up_is = sym (passed (is_own_message whose) message up others) ∙ placed.up_is;
      down_is = placed.down_is;
      known = placed.known;
    })

pub clients_outs : (whose : Whose) (conn : ℕ) (outs : List Out) → AreItsOwn conn outs → filter (is_own_out whose) outs ≡ []
unfolding AreItsOwn
clients_outs whose conn [] own = refl
clients_outs whose conn (Client other bytes ∷ outs) own = clients_outs whose conn outs own.1
clients_outs whose conn (Close other ∷ outs) own = clients_outs whose conn outs own.1
clients_outs whose conn (Link node message ∷ outs) own = absurd own.0
clients_outs whose conn (Mark id counts ∷ outs) own = absurd own.0
clients_outs whose conn (tell id how ∷ outs) own = absurd own.0

pub clients_pass : ClientsPass
clients_pass whose master name node up down place conn placed = (
  passes whose name (connect master conn) node up down place (clients_outs whose conn (connect master conn).outs (connects_alone master conn).own) placed,
  λ bytes. passes whose name (bytes_in master conn bytes) node up down place
      (clients_outs whose conn (bytes_in master conn bytes).outs (bytes_alone master conn bytes).own) placed,
)
