-- What the master lets out for a line is of the command whose line it is: messages and marks.
use Rattle.std.proofs.Common.{◌≡◌, ◌⊎◌, inl, inr, ℕ, ◌&&◌, not, nat_eq, Bool, true, false, cond, List, [], ◌∷◌, ◌++◌, map, filter, Option, None, Some, refl, sym, ap, ◌∙◌}
use Rattle.std.specs.Prelude.{All, ⊤}
use Rattle.std.specs.Cmp.Lexicographic.{pointwise}
use Rattle.std.proofs.lemmas.List.Elements.{All-append, All-cons, All-head, All-nil, All-tail, filter-append}
use Rattle.link_msg.specs.declared.counts.Counts.{Counts}
use Rattle.link_msg.specs.declared.message.LinkMsg.{LinkMsg}
use Rattle.link_msg.specs.declared.message.LinkMsg.TheVariants.{Up, End, Line, Ask, Answer}
use Rattle.link_msg.specs.declared.out.Out.{Out}
use Rattle.link_msg.specs.declared.out.Out.TheVariants.{Client, Close, Link, Mark, Told as tell}
use Rattle.master_core.specs.declared.master.Master.{Master}
use Rattle.master_core.specs.declared.reply.Reply.{Reply}
use Rattle.master_core.specs.declared.sender.Sender.{Sender}
use Rattle.master_core.specs.declared.sender.Sender.TheVariants.{Backend, Frontend, Outside}
use Rattle.master_core.specs.declared.streams.StreamStep.{StreamStep}
use Rattle.master_core.specs.declared.streams.StreamStep.TheVariants as stream
use Rattle.master_core.specs.Changes.{change_line, change_outs, node_told, watcher_told}
use Rattle.master_core.specs.Lines.{tag_before}
use Rattle.master_core.specs.Linked.{node_says, sender_of}
use Rattle.master_core.specs.Replies.{bad_reply, reply_to}
use Rattle.master_core.specs.Step.{Planned, answered, bad_step, command_step, line_by, line_step, mark_of, mark_outs, replied, settled}
use Rattle.master_core.specs.Streams.{close_outs, is_stream, may_follow_update, stream_step}
use Rattle.master_core.specs.Whose.{IsNobodys, IsOf, message_ask, TellNobody}
use Rattle.master_core.proofs.WhoseLaw.{message_says}
use Rattle.mupdate_codec.specs.declared.command.MCommand.{MCommand}
use Rattle.mupdate_codec.specs.declared.command.MResponse.{MResponse}
use Rattle.mupdate_codec.specs.declared.tag.Tag.{Tag}
use Rattle.mupdate_codec.specs.Asks.{ask_id_of, line_ask}
use Rattle.mupdate_codec.specs.Whole.{command_in}
use Rattle.mupdate_codec.proofs.LineAsks.{command_tells, response_under}
use Rattle.mupdate_codec.proofs.WholeLaw.{is_line}
use Rattle.mur_base.specs.declared.point.AskId.{AskId}
use Rattle.node_record.specs.declared.master.MasterRecord.{MasterRecord}
use Rattle.feed_links.specs.Lines.{message_to, messages_to}
use Rattle.name_commands.specs.Whose.{Whose, is_own, is_own_message, is_own_out}
use Rattle.name_commands.proofs.Own.{kept, none_kept, passed}

-- ---- marks

module _ (whose : Whose) where
  -- no mark is theirs
  abbrev IsUnmarked : Out → Type 0
  IsUnmarked (Client conn bytes) = ⊤
  IsUnmarked (Close conn) = ⊤
  IsUnmarked (Link node message) = ⊤
  IsUnmarked (Mark id counts) = whose id ≡ false
  IsUnmarked (tell id how) = whose id ≡ false

  answer_unmarked : (from : Sender) (tag : Tag) (it : MResponse) → IsUnmarked (answered from tag it)
  answer_unmarked (Backend node) tag it = tt
  answer_unmarked (Frontend node) tag it = tt
  answer_unmarked (Outside conn) tag it = tt

  answers_unmarked : (from : Sender) (tag : Tag) (answers : List MResponse) → All IsUnmarked (map (answered from tag) answers)
  answers_unmarked from tag [] = All-nil IsUnmarked
  answers_unmarked from tag (it ∷ more) =
      All-cons IsUnmarked (answered from tag it) (map (answered from tag) more) (answer_unmarked from tag it) (answers_unmarked from tag more)

  streams_unmarked : (streams : List (List ℕ × Tag)) (line : MResponse) → All IsUnmarked (map (node_told line) streams)
  streams_unmarked [] line = All-nil IsUnmarked
  streams_unmarked (s ∷ streams) line = All-cons IsUnmarked (node_told line s) (map (node_told line) streams) tt (streams_unmarked streams line)

  watchers_unmarked : (watchers : List (ℕ × Tag)) (line : MResponse) → All IsUnmarked (map (watcher_told line) watchers)
  watchers_unmarked [] line = All-nil IsUnmarked
  watchers_unmarked (w ∷ watchers) line = All-cons IsUnmarked (watcher_told line w) (map (watcher_told line) watchers) tt (watchers_unmarked watchers line)

  changes_unmarked : (streams : List (List ℕ × Tag)) (watchers : List (ℕ × Tag)) (change : Option MasterRecord)
      → All IsUnmarked (change_outs streams watchers change)
  unfolding change_outs
  changes_unmarked streams watchers None = All-nil IsUnmarked
  changes_unmarked streams watchers (Some change) =
      All-append IsUnmarked (map (node_told (change_line change)) streams) (map (watcher_told (change_line change)) watchers)
      (streams_unmarked streams (change_line change)) (watchers_unmarked watchers (change_line change))

  mark_unmarked : (id : Option AskId) (counts : Option Counts) → is_own whose id ≡ false → All IsUnmarked (mark_of id counts)
  mark_unmarked None counts other = All-nil IsUnmarked
  mark_unmarked (Some id) None other = All-nil IsUnmarked
  mark_unmarked (Some id) (Some counts) other = All-cons IsUnmarked (Mark id counts) [] other (All-nil IsUnmarked)

  no_counts : (id : Option AskId) → All IsUnmarked (mark_of id None)
  no_counts None = All-nil IsUnmarked
  no_counts (Some id) = All-nil IsUnmarked

  marks_unmarked : (from : Sender) (tag : Tag) (counts : Option Counts) → is_own whose (ask_id_of tag) ≡ false → All IsUnmarked (mark_outs from tag counts)
  marks_unmarked (Backend node) tag counts other = mark_unmarked (ask_id_of tag) counts other
  marks_unmarked (Frontend node) tag counts other = mark_unmarked (ask_id_of tag) counts other
  marks_unmarked (Outside conn) tag counts other = All-nil IsUnmarked

  none_counted : (from : Sender) (tag : Tag) → All IsUnmarked (mark_outs from tag None)
  none_counted (Backend node) tag = no_counts (ask_id_of tag)
  none_counted (Frontend node) tag = no_counts (ask_id_of tag)
  none_counted (Outside conn) tag = All-nil IsUnmarked

  closed_unmarked : (from : Sender) → All IsUnmarked (close_outs from)
  closed_unmarked (Backend node) = All-nil IsUnmarked
  closed_unmarked (Frontend node) = All-nil IsUnmarked
  closed_unmarked (Outside conn) = All-cons IsUnmarked (Close conn) [] tt (All-nil IsUnmarked)

  replied_unmarked : (master : Master) (from : Sender) (tag : Tag) (reply : Reply) → All IsUnmarked (mark_outs from tag reply.counts)
      → All IsUnmarked (replied master from tag reply).outs
  unfolding replied
  replied_unmarked master from tag reply marks =
      All-append IsUnmarked (map (answered from tag) reply.answers) _ (answers_unmarked from tag reply.answers)
      (All-append IsUnmarked (change_outs master.streams master.watchers reply.entry) (mark_outs from tag reply.counts)
      (changes_unmarked master.streams master.watchers reply.entry) marks)

  settled_unmarked : (planned : Planned) (from : Sender) (tag : Tag) (step : StreamStep) → All IsUnmarked planned.outs
      → All IsUnmarked (settled planned from tag step).outs
  unfolding settled
  settled_unmarked planned from tag stream.Stays are = are
  settled_unmarked planned from tag stream.Begins are = are
  settled_unmarked planned from tag stream.Ends are = All-append IsUnmarked planned.outs (close_outs from) are (closed_unmarked from)

  bad_unmarked : (master : Master) (from : Sender) (tag : Tag) → All IsUnmarked (replied master from tag bad_reply).outs
  unfolding bad_reply
  bad_unmarked master from tag = replied_unmarked master from tag bad_reply (none_counted from tag)

  command_unmarked : (master : Master) (from : Sender) (tag : Tag) (it : MCommand) → is_own whose (ask_id_of tag) ≡ false
      → All IsUnmarked (command_step master from tag it).outs
  unfolding command_step bad_step
  command_unmarked master from tag it other = by (is_stream master from && not (may_follow_update it))
    where
      by : (bad : Bool)
          → All IsUnmarked
          (cond bad (replied master from tag bad_reply) (settled (replied master from tag (reply_to master.table from it)) from tag (stream_step it))).outs
      by true = bad_unmarked master from tag
      by false =
          settled_unmarked (replied master from tag (reply_to master.table from it)) from tag (stream_step it)
          (replied_unmarked master from tag (reply_to master.table from it) (marks_unmarked from tag (reply_to master.table from it).counts other))

  line_unmarked_by : (master : Master) (from : Sender) (line : List ℕ) (meant : Option (Tag × MCommand)) → command_in line ≡ meant
      → is_own whose (line_ask line) ≡ false → All IsUnmarked (line_by master from line meant).outs
  unfolding line_by bad_step
  line_unmarked_by master from line None e other = bad_unmarked master from (tag_before line)
  line_unmarked_by master from line (Some it) e other =
      command_unmarked master from it.0 it.1 (ap (λ (i : Option AskId). is_own whose i) (sym (command_tells line it (is_line line it e))) ∙ other)

  line_unmarked : (master : Master) (from : Sender) (line : List ℕ) → is_own whose (line_ask line) ≡ false → All IsUnmarked (line_step master from line).outs
  unfolding line_step
  line_unmarked master from line other = line_unmarked_by master from line (command_in line) refl other

  says_unmarked : (master : Master) (node : List ℕ) (message : LinkMsg) → is_own_message whose message ≡ false
      → All IsUnmarked (node_says master node message).outs
  unfolding node_says
  says_unmarked master node (Line bytes) other = line_unmarked master (sender_of master node) bytes other
  says_unmarked master node Up other = All-nil IsUnmarked
  says_unmarked master node End other = All-nil IsUnmarked
  says_unmarked master node (Ask ask) other = All-nil IsUnmarked
  says_unmarked master node (Answer answer) other = All-nil IsUnmarked

  -- ---- and messages

  others_line : (ask : Option AskId) (bytes : List ℕ) → is_own whose ask ≡ false → (line_ask bytes ≡ ask) ⊎ (line_ask bytes ≡ None)
      → is_own whose (line_ask bytes) ≡ false
  others_line ask bytes other (inl is) = ap (λ (i : Option AskId). is_own whose i) is ∙ other
  others_line ask bytes other (inr none) = ap (λ (i : Option AskId). is_own whose i) none

  others_out : (ask : Option AskId) (out : Out) → is_own whose ask ≡ false → IsOf ask out → IsUnmarked out → is_own_out whose out ≡ false
  others_out ask (Client conn bytes) other of unmarked = refl
  others_out ask (Close conn) other of unmarked = refl
  others_out ask (Link node (Line bytes)) other of unmarked = others_line ask bytes other of
  others_out ask (Link node Up) other of unmarked = refl
  others_out ask (Link node End) other of unmarked = refl
  others_out ask (Link node (Ask it)) other of unmarked = absurd of
  others_out ask (Link node (Answer it)) other of unmarked = absurd of
  others_out ask (Mark id counts) other of unmarked = unmarked
  others_out ask (tell id how) other of unmarked = unmarked

  others_outs : (ask : Option AskId) (outs : List Out) → is_own whose ask ≡ false → All (IsOf ask) outs → All IsUnmarked outs
      → filter (is_own_out whose) outs ≡ []
  others_outs ask [] other of unmarked = refl
  others_outs ask (out ∷ outs) other of unmarked =
      passed (is_own_out whose) out outs (others_out ask out other (All-head (IsOf ask) out outs of) (All-head IsUnmarked out outs unmarked))
      ∙ others_outs ask outs other (All-tail (IsOf ask) out outs of) (All-tail IsUnmarked out outs unmarked)

  as_line : (message : LinkMsg) → is_own_message whose message ≡ false → is_own whose (message_ask message) ≡ false
  as_line (Line bytes) other = other
  as_line Up other = refl
  as_line End other = refl
  as_line (Ask ask) other = refl
  as_line (Answer answer) other = refl

  -- what the master lets out for another's message is another's
  pub says_others : (master : Master) (node : List ℕ) (message : LinkMsg) → TellNobody master.streams → is_own_message whose message ≡ false
      → filter (is_own_out whose) (node_says master node message).outs ≡ []
  says_others master node message tells other =
      others_outs (message_ask message) (node_says master node message).outs (as_line message other) (message_says master node message tells)
      (says_unmarked master node message other)

  -- so it sends nobody a message of theirs
  sent_by : (to node : List ℕ) (message : LinkMsg) (rest : List LinkMsg) (here : Bool) → is_own_message whose message ≡ false
      → filter (is_own_message whose) rest ≡ []
      → filter (is_own_message whose) (cond here (message ∷ []) [] ++ rest) ≡ []
  sent_by to node message rest true other none = passed (is_own_message whose) message rest other ∙ none
  sent_by to node message rest false other none = none

  pub none_sent : (node : List ℕ) (outs : List Out) → filter (is_own_out whose) outs ≡ [] → filter (is_own_message whose) (messages_to node outs) ≡ []
  none_sent node [] none = refl
  none_sent node (Client conn bytes ∷ outs) none = none_sent node outs none
  none_sent node (Close conn ∷ outs) none = none_sent node outs none
  none_sent node (Link to message ∷ outs) none =
      let parts = none_kept (is_own_out whose) (Link to message) outs none in
      sent_by to node message (messages_to node outs) (pointwise nat_eq to node) parts.0 (none_sent node outs parts.1)
  none_sent node (Mark id counts ∷ outs) none = none_sent node outs (none_kept (is_own_out whose) (Mark id counts) outs none).1
  none_sent node (tell id how ∷ outs) none = none_sent node outs (none_kept (is_own_out whose) (tell id how) outs none).1

  -- what of theirs is sent a node is what of theirs goes out to it
  sent_same : (here own : Bool) (message : LinkMsg) (rest : List LinkMsg) → is_own_message whose message ≡ own
      → filter (is_own_message whose) (cond here (message ∷ []) [] ++ rest) ≡ cond own (cond here (message ∷ []) [] ++ filter (is_own_message whose) rest)
      (filter (is_own_message whose) rest)
  sent_same true true message rest e = kept (is_own_message whose) message rest e
  sent_same true false message rest e = passed (is_own_message whose) message rest e
  sent_same false true message rest e = refl
  sent_same false false message rest e = refl

  out_same : (node to : List ℕ) (message : LinkMsg) (outs : List Out) (own : Bool) → is_own_message whose message ≡ own
      → filter (is_own_message whose) (messages_to node outs) ≡ messages_to node (filter (is_own_out whose) outs)
      → filter (is_own_message whose) (messages_to node (Link to message ∷ outs))
      ≡ messages_to node (cond own (Link to message ∷ filter (is_own_out whose) outs) (filter (is_own_out whose) outs))
  out_same node to message outs true e more =
      sent_same (pointwise nat_eq to node) true message (messages_to node outs) e
      ∙ ap (λ (l : List LinkMsg). cond (pointwise nat_eq to node) (message ∷ []) [] ++ l) more
  out_same node to message outs false e more = sent_same (pointwise nat_eq to node) false message (messages_to node outs) e ∙ more

  mark_same : (node : List ℕ) (out : Out) (outs : List Out) (own : Bool) → message_to node out ≡ []
      → messages_to node outs ≡ messages_to node (cond own (out ∷ outs) outs)
  mark_same node out outs true e = sym (ap (λ (l : List LinkMsg). l ++ messages_to node outs) e)
  mark_same node out outs false e = refl

  pub sent_of_outs : (node : List ℕ) (outs : List Out)
      → filter (is_own_message whose) (messages_to node outs) ≡ messages_to node (filter (is_own_out whose) outs)
  sent_of_outs node [] = refl
  sent_of_outs node (Client conn bytes ∷ outs) = sent_of_outs node outs
  sent_of_outs node (Close conn ∷ outs) = sent_of_outs node outs
  sent_of_outs node (Link to message ∷ outs) = out_same node to message outs (is_own_message whose message) refl (sent_of_outs node outs)
  sent_of_outs node (Mark id counts ∷ outs) = sent_of_outs node outs ∙ mark_same node (Mark id counts) (filter (is_own_out whose) outs) (whose id) refl
  sent_of_outs node (tell id how ∷ outs) = sent_of_outs node outs ∙ mark_same node (tell id how) (filter (is_own_out whose) outs) (whose id) refl

  -- ---- a reply to their line

  streams_none : (streams : List (List ℕ × Tag)) (line : MResponse) → TellNobody streams → filter (is_own_out whose) (map (node_told line) streams) ≡ []
  streams_none [] line none = refl
  streams_none (s ∷ streams) line none =
      passed (is_own_out whose) (node_told line s) (map (node_told line) streams)
      (ap (λ (i : Option AskId). is_own whose i) (response_under s.1 line ∙ All-head (λ (x : List ℕ × Tag). IsNobodys x.1) s streams none))
      ∙ streams_none streams line (All-tail (λ (x : List ℕ × Tag). IsNobodys x.1) s streams none)

  watchers_none : (watchers : List (ℕ × Tag)) (line : MResponse) → filter (is_own_out whose) (map (watcher_told line) watchers) ≡ []
  watchers_none [] line = refl
  watchers_none (w ∷ watchers) line = watchers_none watchers line

  pub changes_none : (streams : List (List ℕ × Tag)) (watchers : List (ℕ × Tag)) (change : Option MasterRecord) → TellNobody streams
      → filter (is_own_out whose) (change_outs streams watchers change) ≡ []
  unfolding change_outs
  changes_none streams watchers None none = refl
  changes_none streams watchers (Some change) none =
      filter-append (is_own_out whose) (map (node_told (change_line change)) streams) (map (watcher_told (change_line change)) watchers)
      ∙ ap (λ (l : List Out). l ++ filter (is_own_out whose) (map (watcher_told (change_line change)) watchers))
      (streams_none streams (change_line change) none)
      ∙ watchers_none watchers (change_line change)

  pub its_mark : (id : AskId) (counts : Option Counts) → whose id ≡ true → filter (is_own_out whose) (mark_of (Some id) counts) ≡ mark_of (Some id) counts
  its_mark id None own = refl
  its_mark id (Some counts) own = kept (is_own_out whose) (Mark id counts) [] own
