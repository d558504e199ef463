-- What the master sends a frontend in a step is of other commands, unless it takes the NOOP of this one.
use Rattle.std.proofs.Common.{◌≡◌, ◌≢◌, ◌⊎◌, inl, inr, ℕ, Bool, true, false, not, ◌&&◌, cond, nat_eq, List, [], ◌∷◌, ◌++◌, map, Option, None, Some}
use Rattle.std.proofs.Common.{refl, sym, ap, ◌∙◌, subst, append-nil}
use Rattle.std.specs.Cmp.Lexicographic.{pointwise}
use Rattle.std.specs.List.{list_any}
use Rattle.feed_core.specs.declared.replica.Replica.{Replica}
use Rattle.feed_core.specs.Stream.{update_line, update_tag}
use Rattle.feed_core.proofs.StreamLaw.{update_read}
use Rattle.feed_links.proofs.FeedLaw.{whole_not}
use Rattle.feed_links.proofs.Messages.{told_line, own_answers, no_answers, change_told, change_untold, reply_messages, settled_messages}
use Rattle.feed_links.proofs.Steps.{StepIs, is_bad, is_taken, taken, step_is}
use Rattle.feed_links.specs.Lines.{messages_to, stream_of, HasStreams, IsOf, IsOfAnother}
use Rattle.feed_links.specs.OneFeed.{IsFed, asks, is_told, comes_up, breaks_early, is_parted, HasUpdateTag, IsNoop, AreNoopsOrUps, IsUp}
use Rattle.link_msg.specs.declared.message.LinkMsg.{LinkMsg}
use Rattle.link_msg.specs.declared.message.LinkMsg.TheVariants.{Up, End, Line, Ask, Answer}
use Rattle.master_core.specs.declared.master.Master.{Master}
use Rattle.master_core.specs.declared.reply.Reply.{Reply}
use Rattle.master_core.specs.declared.sender.Sender.{Sender}
use Rattle.master_core.specs.Changes.{change_line, change_outs}
use Rattle.master_core.specs.Linked.{sender_by, sender_of, node_says}
use Rattle.master_core.specs.Replies.{reply_to, bad_reply, noop_reply, update_reply}
use Rattle.master_core.specs.Step.{Planned, answered, reply_outs, replied, bad_step, command_step, line_by, line_step}
use Rattle.master_core.specs.Streams.{is_stream, may_follow_update, stream_step}
use Rattle.mupdate_codec.specs.declared.command.MCommand.{MCommand}
use Rattle.mupdate_codec.specs.declared.command.MCommand.TheVariants as command
use Rattle.mupdate_codec.specs.declared.command.MResponse.{MResponse}
use Rattle.mupdate_codec.specs.declared.tag.Tag.{Tag}
use Rattle.mupdate_codec.specs.Asks.{ask_id_of, first_word, line_ask, split_dash}
use Rattle.mupdate_codec.specs.Tags.{mupdate_tag_text}
use Rattle.mupdate_codec.specs.Whole.{command_in}
use Rattle.mupdate_codec.proofs.LineAsks.{command_again, command_under, response_under}
use Rattle.mupdate_codec.proofs.WholeLaw.{is_line}
use Rattle.mur_base.specs.declared.point.AskId.{AskId}
use Rattle.node_record.specs.declared.master.MasterRecord.{MasterRecord}
use Rattle.route_links.specs.Barriers.{IsOfOther, AreOfOthers}

-- ---- a line is of the command that its tag tells

update_tells_none : line_ask (mupdate_tag_text update_tag) ≡ None
unfolding line_ask mupdate_tag_text first_word ask_id_of split_dash
update_tells_none = refl

module _ (ask : AskId) where
  abbrev IsOtherTag : Tag → Type 0
  IsOtherTag tag = line_ask (mupdate_tag_text tag) ≡ Some ask → ⊥

  under_other : (tag : Tag) (it : MResponse) → IsOtherTag tag → IsOfOther ask (told_line tag it)
  under_other tag it other e = other (sym (response_under tag it) ∙ e)

  all_under : (tag : Tag) (answers : List MResponse) → IsOtherTag tag → AreOfOthers ask (map (told_line tag) answers)
  all_under tag [] other = tt
  all_under tag (it ∷ answers) other = (under_other tag it other, all_under tag answers other)

  update_is_other : IsOtherTag update_tag
  update_is_other e = (let no : None ≡ Some ask = sym update_tells_none ∙ e in cc)

  pub update_other : IsOfOther ask (Line update_line)
  unfolding update_line
  update_other e = update_is_other (sym (command_under update_tag command.Update) ∙ e)

  -- ---- changes, which are told under the tag of UPDATE

  abbrev HasStreamOrNone : Master → List ℕ → Type 0
  HasStreamOrNone master node = (stream_of master node ≡ None) ⊎ (stream_of master node ≡ Some update_tag)

  change_other : (master : Master) (node : List ℕ) (made : Option MasterRecord) → HasStreams master → HasStreamOrNone master node
      → AreOfOthers ask (messages_to node (change_outs master.streams master.watchers made))
  unfolding change_outs
  change_other master node None order stream = tt
  change_other master node (Some change) order (inl none) = subst (AreOfOthers ask) (sym (change_untold master node (Some change) none)) tt
  change_other master node (Some change) order (inr there) =
      subst (AreOfOthers ask) (sym (change_told master node update_tag change order there))
      (under_other update_tag (change_line change) update_is_other, tt)

  -- ---- a line of another node

  reply_other : (master : Master) (from : Sender) (node : List ℕ) (tag : Tag) (reply : Reply) → HasStreams master → HasStreamOrNone master node
      → IsOfAnother node from → AreOfOthers ask (messages_to node (reply_outs master from tag reply))
  reply_other master from node tag reply order stream another =
      subst (AreOfOthers ask)
      (sym (reply_messages master node from tag reply
      ∙ ap (λ l. l ++ messages_to node (change_outs master.streams master.watchers reply.entry)) (no_answers node from tag reply.answers another)))
      (change_other master node reply.entry order stream)

  line_other : (master : Master) (from : Sender) (node : List ℕ) (next : Planned) → HasStreams master → HasStreamOrNone master node → IsOfAnother node from
      → StepIs master from next → AreOfOthers ask (messages_to node next.outs)
  unfolding bad_step replied
  line_other master from node next order stream another (is_bad tag tagged) = reply_other master from node tag bad_reply order stream another
  line_other master from node next order stream another (is_taken tag it tagged has may) =
      subst (AreOfOthers ask) (sym (settled_messages node (replied master from tag (reply_to master.table from it)) from tag (stream_step it)))
      (reply_other master from node tag (reply_to master.table from it) order stream another)

  other_sender : (node other : List ℕ) (b : Bool) → other ≢ node → IsOfAnother node (sender_by b other)
  other_sender node other true ne = ne
  other_sender node other false ne = ne

  pub another_sends_others : (master : Master) (node other : List ℕ) (message : LinkMsg) → HasStreams master → HasStreamOrNone master node → other ≢ node
      → AreOfOthers ask (messages_to node (node_says master other message).outs)
  unfolding node_says
  another_sends_others master node other (Line bytes) order stream ne =
      line_other master (sender_of master other) node _ order stream
      (other_sender node other (list_any (pointwise nat_eq other) master.backends) ne) (step_is master (sender_of master other) bytes)
  another_sends_others master node other End order stream ne = tt
  another_sends_others master node other Up order stream ne = tt
  another_sends_others master node other (Ask asked) order stream ne = tt
  another_sends_others master node other (Answer answer) order stream ne = tt

  -- ---- a line of the frontend itself, which changes nothing

  reply_own : (master : Master) (from : Sender) (node : List ℕ) (tag : Tag) (reply : Reply) → reply.entry ≡ None → IsOf node from → IsOtherTag tag
      → AreOfOthers ask (messages_to node (reply_outs master from tag reply))
  unfolding change_outs
  reply_own master from node tag reply none own other =
      subst (AreOfOthers ask)
      (sym (reply_messages master node from tag reply
      ∙ ap (λ made. messages_to node (map (answered from tag) reply.answers) ++ messages_to node (change_outs master.streams master.watchers made)) none
      ∙ append-nil (messages_to node (map (answered from tag) reply.answers))
      ∙ own_answers node from tag reply.answers own))
      (all_under tag reply.answers other)

  taken_own : (master : Master) (from : Sender) (node : List ℕ) (tag : Tag) (it : MCommand) → (reply_to master.table from it).entry ≡ None → IsOf node from
      → IsOtherTag tag → (b : Bool) → AreOfOthers ask (messages_to node (cond b (bad_step master from tag) (taken master from tag it)).outs)
  unfolding bad_step replied bad_reply
  taken_own master from node tag it none own other true = reply_own master from node tag bad_reply refl own other
  taken_own master from node tag it none own other false =
      subst (AreOfOthers ask) (sym (settled_messages node (replied master from tag (reply_to master.table from it)) from tag (stream_step it)))
      (reply_own master from node tag (reply_to master.table from it) none own other)

  line_own : (master : Master) (from : Sender) (node line : List ℕ) (tag : Tag) (it : MCommand) → command_in line ≡ Some (tag, it)
      → (reply_to master.table from it).entry ≡ None → IsOf node from → IsOfOther ask (Line line)
      → AreOfOthers ask (messages_to node (line_step master from line).outs)
  unfolding line_step line_by command_step
  line_own master from node line tag it read none own other =
      subst (λ (next : Planned). AreOfOthers ask (messages_to node next.outs)) (sym (ap (line_by master from line) read))
      (taken_own master from node tag it none own (λ e. other (sym (command_again line (tag, it) (is_line line (tag, it) read)) ∙ e))
      (is_stream master from && not (may_follow_update it)))

  own_sender : (node : List ℕ) (b : Bool) → IsOf node (sender_by b node)
  own_sender node true = refl
  own_sender node false = refl

  noop_none : (master : Master) (from : Sender) → (reply_to master.table from command.Noop).entry ≡ None
  unfolding reply_to noop_reply
  noop_none master from = refl

  update_none : (master : Master) (from : Sender) → (reply_to master.table from command.Update).entry ≡ None
  unfolding reply_to update_reply
  update_none master from = refl

  own_line : (master : Master) (node line : List ℕ) (tag : Tag) (it : MCommand) → command_in line ≡ Some (tag, it)
      → ((from : Sender) → (reply_to master.table from it).entry ≡ None) → IsOfOther ask (Line line)
      → AreOfOthers ask (messages_to node (node_says master node (Line line)).outs)
  unfolding node_says
  own_line master node line tag it read none other =
      line_own master (sender_of master node) node line tag it read (none (sender_of master node))
      (own_sender node (list_any (pointwise nat_eq node) master.backends)) other

  own_noop : (master : Master) (node : List ℕ) (message : LinkMsg) → IsNoop message → IsOfOther ask message
      → AreOfOthers ask (messages_to node (node_says master node message).outs)
  own_noop master node message noop other =
      subst (λ m. AreOfOthers ask (messages_to node (node_says master node m).outs)) (sym noop.is)
      (own_line master node noop.bytes noop.tag command.Noop noop.read (noop_none master) (subst (IsOfOther ask) noop.is other))

  own_update : (master : Master) (node : List ℕ) (message : LinkMsg) → message ≡ Line update_line → IsOfOther ask message
      → AreOfOthers ask (messages_to node (node_says master node message).outs)
  own_update master node message is other =
      subst (λ m. AreOfOthers ask (messages_to node (node_says master node m).outs)) (sym is)
      (own_line master node update_line update_tag command.Update update_read (update_none master) (subst (IsOfOther ask) is other))

  own_up : (master : Master) (node : List ℕ) (message : LinkMsg) → IsUp message → AreOfOthers ask (messages_to node (node_says master node message).outs)
  unfolding node_says
  own_up master node message is = subst (λ m. AreOfOthers ask (messages_to node (node_says master node m).outs)) (sym is) tt

  -- a frontend that is fed sends nothing else
  first_by : (master : Master) (node : List ℕ) (message : LinkMsg) (up before behind : List LinkMsg) → message ∷ up ≡ before ++ Line update_line ∷ behind
      → AreNoopsOrUps before → IsOfOther ask message → AreOfOthers ask (messages_to node (node_says master node message).outs)
  first_by master node message up [] behind is noops other =
      own_update master node message (let same : message ≡ Line update_line = cc in same) other
  first_by master node message up (b ∷ before) behind is (inl noop, noops) other =
      own_noop master node message (let same : b ≡ message = cc in subst IsNoop same noop) other
  first_by master node message up (b ∷ before) behind is (inr up_is, noops) other =
      own_up master node message (let same : b ≡ message = cc in sym same ∙ up_is)

  pub own_sends_others : (master : Master) (node : List ℕ) (reached : Bool) (message : LinkMsg) (up down : List LinkMsg) (replica : Replica)
      → IsFed master node false reached (message ∷ up) down replica → IsOfOther ask message
      → AreOfOthers ask (messages_to node (node_says master node message).outs)
  own_sends_others master node reached message up down replica (asks whole there before behind is one two lines none empty no_stream) other =
      first_by master node message up before behind is one other
  own_sends_others master node reached message up down replica (is_told whole there are lines told stream) other = own_noop master node message are.0 other
  own_sends_others master node reached message up down replica (comes_up whole unreached ups is no_stream) other = own_up master node message ups.0
  own_sends_others master node reached message up down replica (breaks_early gone unreached ups ends is are less no_stream) other = whole_not false gone refl
  own_sends_others master node reached message up down replica (is_parted gone own lines less tag) other = whole_not false gone refl

pub fed_stream : (master : Master) (node : List ℕ) (broken reached : Bool) (up down : List LinkMsg) (replica : Replica)
    → IsFed master node broken reached up down replica → (stream_of master node ≡ None) ⊎ (stream_of master node ≡ Some update_tag)
fed_stream master node broken reached up down replica (asks whole there before behind is one two lines none empty no_stream) = inl no_stream
fed_stream master node broken reached up down replica (is_told whole there are lines told stream) = inr stream
fed_stream master node broken reached up down replica (comes_up whole unreached ups is no_stream) = inl no_stream
fed_stream master node broken reached up down replica (breaks_early gone unreached ups ends is are less no_stream) = inl no_stream
fed_stream master node broken reached up down replica (is_parted gone own lines less tag) = by (stream_of master node) tag
  where
    by : (stream : Option Tag) → HasUpdateTag stream → (stream ≡ None) ⊎ (stream ≡ Some update_tag)
    by None is = inl refl
    by (Some tag) is = inr (ap (λ t. Some t) is)
