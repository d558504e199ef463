-- A node asks by UPDATE, and is told all of the table; NOOP tells it nothing; what others send leaves its stream.
use Rattle.std.proofs.Common.{◌≡◌, ℕ, Bool, true, false, ◌&&◌, not, cond, List, [], ◌∷◌, ◌++◌, map, is_some, None, Some, refl, sym, ap, ◌∙◌, subst, append-nil, arith}
use Rattle.std.specs.List.{flat_map, fold}
use Rattle.std.specs.Ordering.{nat_cmp}
use Rattle.std.specs.Cmp.Lexicographic.{slice_cmp}
use Rattle.std.proofs.lemmas.Cmp.{nat_list_cmp_total}
use Rattle.std.proofs.lemmas.Grind.{fold-append}
use Rattle.feed_core.specs.declared.replica.Replica.{Replica}
use Rattle.feed_core.specs.Feed.{empty_replica, replica_after, fed}
use Rattle.feed_core.specs.Stream.{is_update_tag, update_line, update_tag}
use Rattle.feed_core.proofs.StreamLaw.{heard_line, update_read}
use Rattle.master_core.specs.declared.master.Master.{Master}
use Rattle.master_core.specs.declared.reply.Reply.{Reply}
use Rattle.master_core.specs.declared.sender.Sender.{Sender}
use Rattle.master_core.specs.declared.sender.Sender.TheVariants.{Backend, Frontend, Outside}
use Rattle.master_core.specs.declared.streams.StreamStep.{StreamStep}
use Rattle.master_core.specs.declared.streams.StreamStep.TheVariants as stream
use Rattle.master_core.specs.Changes.{change_outs}
use Rattle.master_core.specs.Records.{record_lines}
use Rattle.master_core.specs.Replies.{done, reply_to, bad_reply, noop_reply, update_reply}
use Rattle.master_core.specs.Step.{Planned, answered, reply_outs, replied, settled, bad_step, command_step, line_by, line_step}
use Rattle.master_core.specs.Streams.{is_stream, may_follow_update, stream_step, streaming, without}
use Rattle.master_core.proofs.UpdateLaw.{table_lines}
use Rattle.mupdate_codec.specs.declared.command.MCommand.{MCommand}
use Rattle.mupdate_codec.specs.declared.command.MCommand.TheVariants as command
use Rattle.mupdate_codec.specs.declared.command.MResponse.{MResponse}
use Rattle.mupdate_codec.specs.declared.command.MResponse.TheVariants as response
use Rattle.mupdate_codec.specs.declared.tag.Tag.{Tag}
use Rattle.mupdate_codec.specs.Whole.{command_in}
use Rattle.mupdate_codec.proofs.WholeLaw.{is_line}
use Rattle.mur_base.specs.Map.{value_at, with_entry, IsInOrder}
use Rattle.mur_base.proofs.MapLaws.{names_apart, value_at-with_entry, value_at-with_entry-other}
use Rattle.mur_base.proofs.MapOrder.{with_entry-in_order}
use Rattle.node_record.specs.Table.{MailboxTable}
use Rattle.feed_links.specs.Lines.{messages_to, IsOf, IsOfAnother, HasStreams, stream_of}
use Rattle.feed_links.specs.OneFeed.{HasUpdateTag}
use Rattle.feed_links.specs.Replicas.{hears_all, replica_of, AreNoNews}
use Rattle.feed_links.specs.Spelled.{CanBeTold}
use Rattle.feed_links.specs.Streams.{BeginsStream, UpdateBegins, LeavesNode, OthersLeave, TellsNoNews, NoopTellsNothing, StreamsStayInOrder}
use Rattle.feed_links.proofs.Arguments.{IsSpelledTag, line_tagged}
use Rattle.feed_links.proofs.Following.{update_tagged}
use Rattle.feed_links.proofs.Hearing.{text_spelled, other_heard}
use Rattle.feed_links.proofs.Messages.{told_line, own_answers, no_answers, change_untold, reply_messages, settled_messages}
use Rattle.feed_links.proofs.Names.{value_at-without_key-other, order_kept}
use Rattle.feed_links.proofs.Printed.{response_spelled}
use Rattle.feed_links.proofs.Steps.{StepIs, is_bad, is_taken, taken, step_is}
use Rattle.feed_links.proofs.TableLines.{AreWritten, records_fed, table_written}

-- the lines of a table make the replica that has it

records_after : (replica : Replica) (lines : List MResponse) → (fold replica_after replica lines).records ≡ fed replica.records lines
records_after replica [] = refl
records_after replica (line ∷ lines) = records_after (replica_after replica line) lines

table_told : (table : MailboxTable) → IsInOrder (slice_cmp nat_cmp) table.records → fold replica_after empty_replica (table_lines table) ≡ replica_of table
table_told table order =
    let lines : List MResponse = flat_map record_lines table.records in
    fold-append replica_after empty_replica lines (response.Ok done ∷ [])
    ∙ ap (λ r. record { records = r; whole = true })
    (records_after empty_replica lines ∙ records_fed table order)

lines_heard : (replica : Replica) (lines : List MResponse) → AreWritten update_tag lines → hears_all replica (map (told_line update_tag) lines) ≡ fold replica_after replica lines
lines_heard replica [] all = refl
lines_heard replica (it ∷ lines) all =
    ap (λ r. hears_all r (map (told_line update_tag) lines)) (heard_line replica it all.0) ∙ lines_heard (replica_after replica it) lines all.1

-- UPDATE

no_stream : (master : Master) (from : Sender) (node : List ℕ) → IsOf node from → stream_of master node ≡ None → is_stream master from ≡ false
unfolding is_stream
no_stream master (Backend other) node same none = ap (λ n. is_some (stream_of master n)) same ∙ ap is_some none
no_stream master (Frontend other) node same none = ap (λ n. is_some (stream_of master n)) same ∙ ap is_some none
no_stream master (Outside conn) node never none = absurd never

pub command_may : (master : Master) (from : Sender) (line : List ℕ) (tag : Tag) (it : MCommand) → command_in line ≡ Some (tag, it)
    → (is_stream master from && not (may_follow_update it)) ≡ false → line_step master from line ≡ taken master from tag it
unfolding line_step line_by command_step
command_may master from line tag it read may =
    ap (line_by master from line) read ∙ ap (λ b. cond b (bad_step master from tag) (taken master from tag it)) may

streams_begun : (master : Master) (from : Sender) (node : List ℕ) → IsOf node from → stream_of (taken master from update_tag command.Update).master node ≡ Some update_tag
unfolding settled streaming replied
streams_begun master (Backend other) node same =
    subst (λ n. value_at (slice_cmp nat_cmp) (with_entry (slice_cmp nat_cmp) master.streams n update_tag) node ≡ Some update_tag) (sym same)
    (value_at-with_entry (slice_cmp nat_cmp) names_apart master.streams node update_tag)
streams_begun master (Frontend other) node same =
    subst (λ n. value_at (slice_cmp nat_cmp) (with_entry (slice_cmp nat_cmp) master.streams n update_tag) node ≡ Some update_tag) (sym same)
    (value_at-with_entry (slice_cmp nat_cmp) names_apart master.streams node update_tag)
streams_begun master (Outside conn) node never = absurd never

-- whether UPDATE begins a stream or is refused, a node has none or one under its tag
pub update_tags : (master : Master) (from : Sender) (node : List ℕ) → IsOf node from → HasUpdateTag (stream_of master node)
    → HasUpdateTag (stream_of (line_step master from update_line).master node)
unfolding line_step line_by command_step bad_step replied
update_tags master from node same tag =
    subst (λ found. HasUpdateTag (stream_of (line_by master from update_line found).master node)) (sym update_read) (by (is_stream master from && true))
  where
    by : (b : Bool) → HasUpdateTag (stream_of (cond b (bad_step master from update_tag) (taken master from update_tag command.Update)).master node)
    by true = tag
    by false = subst HasUpdateTag (sym (streams_begun master from node same)) refl

table_stays : (master : Master) (from : Sender) → (taken master from update_tag command.Update).master.table ≡ master.table
unfolding settled streaming replied reply_to update_reply
table_stays master (Backend other) = refl
table_stays master (Frontend other) = refl
table_stays master (Outside conn) = refl

taken_begins : (master : Master) (from : Sender) (node : List ℕ) → CanBeTold master.table → IsOf node from → BeginsStream master node (taken master from update_tag command.Update)
unfolding settled replied reply_to update_reply change_outs
taken_begins master from node can same = record {
  table = table_stays master from;
  told =
      ap (hears_all empty_replica) (settled_messages node (replied master from update_tag (update_reply master.table)) from update_tag stream.Begins
      ∙ reply_messages master node from update_tag (update_reply master.table)
      ∙ append-nil (messages_to node (map (answered from update_tag) (table_lines master.table)))
      ∙ own_answers node from update_tag (table_lines master.table) same)
      ∙ lines_heard empty_replica (table_lines master.table) (table_written update_tag update_tagged master.table can) ∙ table_told master.table can.order;
  stream = streams_begun master from node same;
}

pub update_begins : UpdateBegins
update_begins master from line node can same read none =
    subst (BeginsStream master node)
    (sym (command_may master from line update_tag command.Update read (ap (λ b. b && true) (no_stream master from node same none))))
    (taken_begins master from node can same)

-- NOOP

no_test : (b : Bool) → (b && false) ≡ false
no_test true = refl
no_test false = refl

noop_taken : (master : Master) (from : Sender) (node : List ℕ) (tag : Tag) → IsOf node from → IsSpelledTag tag → is_update_tag tag ≡ false
    → TellsNoNews master node (taken master from tag command.Noop)
unfolding settled replied reply_to noop_reply change_outs
noop_taken master from node tag same tagged other = record {
  table = refl;
  stream = refl;
  nothing = subst AreNoNews
      (sym (reply_messages master node from tag noop_reply
      ∙ append-nil (messages_to node (map (answered from tag) (response.Ok done ∷ [])))
      ∙ own_answers node from tag (response.Ok done ∷ []) same))
      (λ any. other_heard any tag (response.Ok done) (response_spelled tag (response.Ok done) tagged (text_spelled done (omega arith))) other, tt);
}

pub noop_tells_nothing : NoopTellsNothing
noop_tells_nothing master from line node tag same read other =
    subst (TellsNoNews master node) (sym (command_may master from line tag command.Noop read (no_test (is_stream master from))))
    (noop_taken master from node tag same (line_tagged line (tag, command.Noop) (is_line line (tag, command.Noop) read)) other)

-- other senders

stream_left : (planned : Planned) (from : Sender) (tag : Tag) (step : StreamStep) (node : List ℕ) → IsOfAnother node from
    → stream_of (settled planned from tag step).master node ≡ stream_of planned.master node
unfolding settled streaming without
stream_left planned from tag stream.Stays node ne = refl
stream_left planned (Backend other) tag stream.Begins node ne =
    value_at-with_entry-other (slice_cmp nat_cmp) names_apart planned.master.streams other node tag (λ e. ne (sym e))
stream_left planned (Frontend other) tag stream.Begins node ne =
    value_at-with_entry-other (slice_cmp nat_cmp) names_apart planned.master.streams other node tag (λ e. ne (sym e))
stream_left planned (Outside conn) tag stream.Begins node ne = refl
stream_left planned (Backend other) tag stream.Ends node ne = value_at-without_key-other planned.master.streams other node (λ e. ne (sym e))
stream_left planned (Frontend other) tag stream.Ends node ne = value_at-without_key-other planned.master.streams other node (λ e. ne (sym e))
stream_left planned (Outside conn) tag stream.Ends node ne = refl

reply_untold : (master : Master) (from : Sender) (node : List ℕ) (tag : Tag) (reply : Reply) → IsOfAnother node from → stream_of master node ≡ None
    → messages_to node (reply_outs master from tag reply) ≡ []
reply_untold master from node tag reply another none =
    reply_messages master node from tag reply
    ∙ ap (λ l. l ++ messages_to node (change_outs master.streams master.watchers reply.entry)) (no_answers node from tag reply.answers another)
    ∙ change_untold master node reply.entry none

others_by : (master : Master) (from : Sender) (node : List ℕ) (next : Planned) → IsOfAnother node from → StepIs master from next → LeavesNode master node next
unfolding bad_step replied
others_by master from node next another (is_bad tag tagged) =
    record { stream = refl; nothing = λ none. reply_untold master from node tag bad_reply another none }
others_by master from node next another (is_taken tag it tagged has may) =
    let planned : Planned = replied master from tag (reply_to master.table from it) in
    record {
      stream = stream_left planned from tag (stream_step it) node another;
      nothing = λ none. settled_messages node planned from tag (stream_step it)
          ∙ reply_untold master from node tag (reply_to master.table from it) another none;
    }

pub others_leave : OthersLeave
others_leave master from line node another = others_by master from node _ another (step_is master from line)

-- the order of streams

settled_order : (planned : Planned) (from : Sender) (tag : Tag) (step : StreamStep) → HasStreams planned.master → HasStreams (settled planned from tag step).master
unfolding settled streaming without
settled_order planned from tag stream.Stays order = order
settled_order planned (Backend node) tag stream.Begins order = with_entry-in_order (slice_cmp nat_cmp) nat_list_cmp_total planned.master.streams node tag order
settled_order planned (Frontend node) tag stream.Begins order = with_entry-in_order (slice_cmp nat_cmp) nat_list_cmp_total planned.master.streams node tag order
settled_order planned (Outside conn) tag stream.Begins order = order
settled_order planned (Backend node) tag stream.Ends order = order_kept node planned.master.streams order
settled_order planned (Frontend node) tag stream.Ends order = order_kept node planned.master.streams order
settled_order planned (Outside conn) tag stream.Ends order = order

order_by : (master : Master) (from : Sender) (next : Planned) → HasStreams master → StepIs master from next → HasStreams next.master
unfolding bad_step replied
order_by master from next order (is_bad tag tagged) = order
order_by master from next order (is_taken tag it tagged has may) =
    settled_order (replied master from tag (reply_to master.table from it)) from tag (stream_step it) order

pub streams_stay_in_order : StreamsStayInOrder
streams_stay_in_order master from line order = order_by master from _ order (step_is master from line)
