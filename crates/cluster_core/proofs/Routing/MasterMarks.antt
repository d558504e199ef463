-- What the master marks for a line: the command that its tag tells. Where that counts only if its client is told, the table stays; and it always counts only
-- for a backend's line.
use Rattle.std.proofs.Common.{◌≡◌, ℕ, ◌&&◌, not, Bool, true, false, cond, List, [], ◌∷◌, ◌++◌, map, Option, None, Some, refl, ◌∙◌, ap}
use Rattle.std.specs.Prelude.{⊤, All, if◌then◌else◌}
use Rattle.std.specs.List.{AllByRecursion}
use Rattle.std.proofs.lemmas.List.Elements.{All-cons, All-nil}
use Rattle.feed_links.proofs.Steps.{settled_table}
use Rattle.link_msg.specs.declared.counts.Counts.{Counts}
use Rattle.link_msg.specs.declared.counts.Counts.TheVariants.{Always, IfAnswered}
use Rattle.link_msg.specs.declared.out.Out.{Out}
use Rattle.link_msg.specs.declared.out.Out.TheVariants.{Client, Close, Link, Mark as mark, Told as tell}
use Rattle.mark_history.specs.declared.mark.Mark.{Mark}
use Rattle.mark_history.specs.declared.mark.MarkKind.TheVariants.{Home}
use Rattle.master_core.specs.declared.master.Master.{Master}
use Rattle.master_core.specs.declared.refusal.Refusal.{Refusal}
use Rattle.master_core.specs.declared.refusal.Refusal.TheVariants as refusal
use Rattle.master_core.specs.declared.reply.Reply.{Reply}
use Rattle.master_core.specs.declared.sender.Sender.{Sender}
use Rattle.master_core.specs.declared.sender.Sender.TheVariants.{Backend, Frontend, Outside}
use Rattle.master_core.specs.declared.streams.StreamStep.{StreamStep}
use Rattle.master_core.specs.declared.streams.StreamStep.TheVariants as stream
use Rattle.master_core.specs.Changes.{change_line, change_outs, node_told, watcher_told}
use Rattle.master_core.specs.Lines.{tag_before}
use Rattle.master_core.specs.Refusals.{activate_refusal, deactivate_refusal, delete_refusal, reserve_refusal}
use Rattle.master_core.specs.Replies.{activate_by, activate_reply, bad_reply, deactivate_by, deactivate_reply, delete_by, delete_reply, find_reply, list_reply, logout_reply, noop_reply, reply_to, reserve_by, reserve_reply, update_reply}
use Rattle.master_core.specs.Senders.{is_backend, is_server}
use Rattle.master_core.specs.Step.{Planned, answered, bad_step, command_step, line_by, line_step, mark_of, mark_outs, replied, settled, table_with}
use Rattle.master_core.specs.Streams.{close_outs, is_stream, may_follow_update, stream_step}
use Rattle.mupdate_codec.specs.declared.command.MCommand.{MCommand}
use Rattle.mupdate_codec.specs.declared.command.MCommand.TheVariants as command
use Rattle.mupdate_codec.specs.declared.command.MResponse.{MResponse}
use Rattle.mupdate_codec.specs.declared.tag.Tag.{Tag}
use Rattle.mupdate_codec.specs.Asks.{ask_id_of, line_ask}
use Rattle.mupdate_codec.specs.Whole.{command_in}
use Rattle.mupdate_codec.proofs.LineAsks.{command_tells}
use Rattle.mupdate_codec.proofs.WholeLaw.{is_line}
use Rattle.mur_base.specs.declared.home.Location.{Location}
use Rattle.mur_base.specs.declared.point.AskId.{AskId}
use Rattle.node_record.specs.declared.master.MasterRecord.{MasterRecord}
use Rattle.node_record.specs.declared.table.Record.{Record}
use Rattle.node_record.specs.Table.{MailboxTable, record_at}
use Rattle.cluster_core.proofs.Nodes.Carried.{marks_made}

-- ---- what a reply counts as

pub record CountsSo (from : Sender) (reply : Reply) (counts : Counts) : Type 0 where
  pub seen : counts ≡ IfAnswered → reply.entry ≡ None
  pub always : counts ≡ Always → is_backend from ≡ true

abbrev pub CountsEach : Sender → Reply → Type 0
CountsEach from reply = (counts : Counts) → reply.counts ≡ Some counts → CountsSo from reply counts

not_both : {A : Type 0} → Always ≡ IfAnswered → A
not_both e = cc

just_seen : (from : Sender) (reply : Reply) → reply.entry ≡ None → reply.counts ≡ Some IfAnswered → CountsEach from reply
just_seen from reply none is counts e =
    let same : counts ≡ IfAnswered = cc in record { seen = λ s. none; always = λ a. (let no : Always ≡ IfAnswered = cc in not_both no) }

counts_none : (from : Sender) (reply : Reply) → reply.counts ≡ None → CountsEach from reply
counts_none from reply is counts e = (let no : None ≡ Some counts = cc in cc)

module _ (table : MailboxTable) (from : Sender) where
  reserve_counts_so : (name : List ℕ) (place : Location) (found : Option Refusal) → CountsEach from (reserve_by table name place found)
  reserve_counts_so name place None = counts_none from _ refl
  reserve_counts_so name place (Some refusal.Exists) = just_seen from _ refl refl
  reserve_counts_so name place (Some refusal.SerialsSpent) = just_seen from _ refl refl
  reserve_counts_so name place (Some refusal.Reserved) = counts_none from _ refl
  reserve_counts_so name place (Some refusal.NotActive) = counts_none from _ refl
  reserve_counts_so name place (Some refusal.NoSuchName) = counts_none from _ refl
  reserve_counts_so name place (Some refusal.NotYours) = counts_none from _ refl
  reserve_counts_so name place (Some refusal.Full) = counts_none from _ refl

  done_so : (reply : Reply) → reply.counts ≡ Some Always → is_backend from ≡ true → CountsEach from reply
  done_so reply is backend counts e =
      let same : counts ≡ Always = cc in record { seen = λ s. (let no : Always ≡ IfAnswered = cc in not_both no); always = λ a. backend }

  activate_by_server : (name : List ℕ) (place : Location) (acl : List ℕ) (own : Bool) → is_server from place ≡ own → is_backend from ≡ true
      → CountsEach from (activate_by from name place acl None)
  activate_by_server name place acl true own backend = done_so _ (ap (λ b. if b then Some Always else None) own) backend
  activate_by_server name place acl false own backend = counts_none from _ (ap (λ b. if b then Some Always else None) own)

  activate_counts_so : (name : List ℕ) (place : Location) (acl : List ℕ) (found : Option Refusal) → (found ≡ None → is_backend from ≡ true)
      → CountsEach from (activate_by from name place acl found)
  activate_counts_so name place acl (Some why) backend = just_seen from _ refl refl
  activate_counts_so name place acl None backend = activate_by_server name place acl (is_server from place) refl (backend refl)

  deactivate_counts_so : (name : List ℕ) (place : Location) (found : Option Refusal) → CountsEach from (deactivate_by name place found)
  deactivate_counts_so name place (Some why) = counts_none from _ refl
  deactivate_counts_so name place None = counts_none from _ refl

  delete_counts_so : (name : List ℕ) (found : Option Refusal) → (found ≡ None → is_backend from ≡ true) → CountsEach from (delete_by name found)
  delete_counts_so name (Some why) backend = counts_none from _ refl
  delete_counts_so name None backend = done_so _ refl (backend refl)

-- only a backend isn't refused
activates_at_backend : (table : MailboxTable) (from : Sender) (found : Option Record) (place : Location) → activate_refusal table from found place ≡ None
    → is_backend from ≡ true
unfolding activate_refusal
activates_at_backend table (Backend node) found place e = refl
activates_at_backend table (Frontend node) found place e = cc
activates_at_backend table (Outside conn) found place e = cc

deletes_at_backend : (from : Sender) (found : Option Record) → delete_refusal from found ≡ None → is_backend from ≡ true
unfolding delete_refusal
deletes_at_backend (Backend node) found e = refl
deletes_at_backend (Frontend node) found e = cc
deletes_at_backend (Outside conn) found e = cc

reply_counts_so : (table : MailboxTable) (from : Sender) (it : MCommand) → CountsEach from (reply_to table from it)
unfolding reply_to reserve_reply activate_reply deactivate_reply delete_reply find_reply list_reply update_reply noop_reply logout_reply
reply_counts_so table from (command.Reserve name place) = reserve_counts_so table from name place (reserve_refusal table from (record_at table name) place)
reply_counts_so table from (command.Activate name place acl) =
    activate_counts_so table from name place acl (activate_refusal table from (record_at table name) place)
    (activates_at_backend table from (record_at table name) place)
reply_counts_so table from (command.Deactivate name place) =
    deactivate_counts_so table from name place (deactivate_refusal from (record_at table name) place)
reply_counts_so table from (command.Delete name) =
    delete_counts_so table from name (delete_refusal from (record_at table name)) (deletes_at_backend from (record_at table name))
reply_counts_so table from (command.Find name) = counts_none from _ refl
reply_counts_so table from (command.List prefix) = counts_none from _ refl
reply_counts_so table from command.Update = counts_none from _ refl
reply_counts_so table from command.Noop = just_seen from _ refl refl
reply_counts_so table from command.Logout = counts_none from _ refl

-- ---- where there is no entry, the table stays

replied_table : (master : Master) (from : Sender) (tag : Tag) (reply : Reply) → reply.entry ≡ None → (replied master from tag reply).master.table ≡ master.table
unfolding replied
replied_table master from tag reply none = ap (table_with master.table) none

bad_none : bad_reply.entry ≡ None
unfolding bad_reply
bad_none = refl

command_table : (master : Master) (from : Sender) (tag : Tag) (it : MCommand) → (reply_to master.table from it).entry ≡ None
    → (command_step master from tag it).master.table ≡ master.table
unfolding command_step bad_step
command_table master from tag it none = by (is_stream master from && not (may_follow_update it))
  where
    by : (bad : Bool)
        → (cond bad (replied master from tag bad_reply)
        (settled (replied master from tag (reply_to master.table from it)) from tag (stream_step it))).master.table ≡ master.table
    by true = replied_table master from tag bad_reply bad_none
    by false =
        settled_table (replied master from tag (reply_to master.table from it)) from tag (stream_step it)
        ∙ replied_table master from tag (reply_to master.table from it) none

-- ---- the marks

-- a mark is of this command and counts so, and nobody is told
abbrev pub IsOfIt : Option AskId → (Counts → Type 0) → Out → Type 0
IsOfIt found So (mark ask counts) = (found ≡ Some ask) × So counts
IsOfIt found So (tell ask how) = ⊥
IsOfIt found So out = ⊤

abbrev pub AreOfIt : Option AskId → (Counts → Type 0) → List Out → Type 0
AreOfIt found So outs = AllByRecursion (IsOfIt found So) outs

module _ (found : Option AskId) (So : Counts → Type 0) where
  both_of : (one two : List Out) → AreOfIt found So one → AreOfIt found So two → AreOfIt found So (one ++ two)
  both_of [] two first second = second
  both_of (out ∷ one) two first second = (first.0, both_of one two first.1 second)

  answer_of : (from : Sender) (tag : Tag) (it : MResponse) → IsOfIt found So (answered from tag it)
  answer_of (Backend node) tag it = tt
  answer_of (Frontend node) tag it = tt
  answer_of (Outside conn) tag it = tt

  answers_of : (from : Sender) (tag : Tag) (answers : List MResponse) → AreOfIt found So (map (answered from tag) answers)
  answers_of from tag [] = tt
  answers_of from tag (it ∷ more) = (answer_of from tag it, answers_of from tag more)

  streams_of : (streams : List (List ℕ × Tag)) (line : MResponse) → AreOfIt found So (map (node_told line) streams)
  streams_of [] line = tt
  streams_of (s ∷ streams) line = (tt, streams_of streams line)

  watchers_of : (watchers : List (ℕ × Tag)) (line : MResponse) → AreOfIt found So (map (watcher_told line) watchers)
  watchers_of [] line = tt
  watchers_of (w ∷ watchers) line = (tt, watchers_of watchers line)

  changes_of : (streams : List (List ℕ × Tag)) (watchers : List (ℕ × Tag)) (change : Option MasterRecord)
      → AreOfIt found So (change_outs streams watchers change)
  unfolding change_outs
  changes_of streams watchers None = tt
  changes_of streams watchers (Some change) =
      both_of (map (node_told (change_line change)) streams) (map (watcher_told (change_line change)) watchers)
      (streams_of streams (change_line change)) (watchers_of watchers (change_line change))

  mark_is_of : (id : Option AskId) (counts : Option Counts) → found ≡ id → ((it : Counts) → counts ≡ Some it → So it) → AreOfIt found So (mark_of id counts)
  mark_is_of None counts e so = tt
  mark_is_of (Some id) None e so = tt
  mark_is_of (Some id) (Some counts) e so = ((e, so counts refl), tt)

  marks_are_of : (from : Sender) (tag : Tag) (counts : Option Counts) → found ≡ ask_id_of tag → ((it : Counts) → counts ≡ Some it → So it)
      → AreOfIt found So (mark_outs from tag counts)
  marks_are_of (Backend node) tag counts e so = mark_is_of (ask_id_of tag) counts e so
  marks_are_of (Frontend node) tag counts e so = mark_is_of (ask_id_of tag) counts e so
  marks_are_of (Outside conn) tag counts e so = tt

  none_of : (id : Option AskId) → AreOfIt found So (mark_of id None)
  none_of None = tt
  none_of (Some id) = tt

  none_counted : (from : Sender) (tag : Tag) → AreOfIt found So (mark_outs from tag None)
  none_counted (Backend node) tag = none_of (ask_id_of tag)
  none_counted (Frontend node) tag = none_of (ask_id_of tag)
  none_counted (Outside conn) tag = tt

  closed_of : (from : Sender) → AreOfIt found So (close_outs from)
  closed_of (Backend node) = tt
  closed_of (Frontend node) = tt
  closed_of (Outside conn) = (tt, tt)

  replied_of : (master : Master) (from : Sender) (tag : Tag) (reply : Reply) → AreOfIt found So (mark_outs from tag reply.counts)
      → AreOfIt found So (replied master from tag reply).outs
  unfolding replied
  replied_of master from tag reply marks =
      both_of (map (answered from tag) reply.answers) _ (answers_of from tag reply.answers)
      (both_of (change_outs master.streams master.watchers reply.entry) (mark_outs from tag reply.counts)
      (changes_of master.streams master.watchers reply.entry) marks)

  settled_of : (planned : Planned) (from : Sender) (tag : Tag) (step : StreamStep) → AreOfIt found So planned.outs
      → AreOfIt found So (settled planned from tag step).outs
  unfolding settled
  settled_of planned from tag stream.Stays are = are
  settled_of planned from tag stream.Begins are = are
  settled_of planned from tag stream.Ends are = both_of planned.outs (close_outs from) are (closed_of from)

  bad_of : (master : Master) (from : Sender) (tag : Tag) → AreOfIt found So (replied master from tag bad_reply).outs
  unfolding bad_reply
  bad_of master from tag = replied_of master from tag bad_reply (none_counted from tag)

  command_of : (master : Master) (from : Sender) (tag : Tag) (it : MCommand) → found ≡ ask_id_of tag
      → ((counts : Counts) → (reply_to master.table from it).counts ≡ Some counts → So counts) → AreOfIt found So (command_step master from tag it).outs
  unfolding command_step bad_step
  command_of master from tag it e so = by (is_stream master from && not (may_follow_update it))
    where
      by : (bad : Bool)
          → AreOfIt found So
          (cond bad (replied master from tag bad_reply) (settled (replied master from tag (reply_to master.table from it)) from tag (stream_step it))).outs
      by true = bad_of master from tag
      by false =
          settled_of (replied master from tag (reply_to master.table from it)) from tag (stream_step it)
          (replied_of master from tag (reply_to master.table from it) (marks_are_of from tag (reply_to master.table from it).counts e so))

-- what a mark that counts so tells of the step
pub record TellsStep (master : Master) (from : Sender) (line : List ℕ) (counts : Counts) : Type 0 where
  pub seen : counts ≡ IfAnswered → (line_step master from line).master.table ≡ master.table
  pub always : counts ≡ Always → is_backend from ≡ true

line_of_by : (master : Master) (from : Sender) (line : List ℕ) (meant : Option (Tag × MCommand)) → command_in line ≡ meant
    → AreOfIt (line_ask line) (TellsStep master from line) (line_by master from line meant).outs
unfolding line_by bad_step line_step
line_of_by master from line None e = bad_of (line_ask line) (TellsStep master from line) master from (tag_before line)
line_of_by master from line (Some it) e =
    command_of (line_ask line) (TellsStep master from line) master from it.0 it.1 (command_tells line it (is_line line it e))
    (λ counts is.
    (let its = reply_counts_so master.table from it.1 counts is in
    record {
      seen = λ only. ap (λ (m : Option (Tag × MCommand)). (line_by master from line m).master.table) e ∙ command_table master from it.0 it.1 (its.seen only);
      always = its.always;
    }))

pub line_marks : (master : Master) (from : Sender) (line : List ℕ) → AreOfIt (line_ask line) (TellsStep master from line) (line_step master from line).outs
unfolding line_step
line_marks master from line = line_of_by master from line (command_in line) refl

-- what holds of each that is so holds of the marks
pub marks_of_it : (now : ℕ) (P : Mark → Type 0) (found : Option AskId) (So : Counts → Type 0)
    → ((ask : AskId) (counts : Counts) → found ≡ Some ask → So counts → P (record { step = now; ask = ask; kind = Home counts })) → (outs : List Out)
    → AreOfIt found So outs → All P (marks_made now outs)
marks_of_it now P found So so [] are = All-nil P
marks_of_it now P found So so (mark ask counts ∷ outs) are =
    All-cons P _ (marks_made now outs) (so ask counts are.0.0 are.0.1) (marks_of_it now P found So so outs are.1)
marks_of_it now P found So so (tell ask how ∷ outs) are = absurd are.0
marks_of_it now P found So so (Client conn bytes ∷ outs) are = marks_of_it now P found So so outs are.1
marks_of_it now P found So so (Close conn ∷ outs) are = marks_of_it now P found So so outs are.1
marks_of_it now P found So so (Link node message ∷ outs) are = marks_of_it now P found So so outs are.1
