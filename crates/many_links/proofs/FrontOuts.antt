-- What the master lets out for a message of a node that is no backend: messages to that node, and marks. A NOOP is answered so under whatever tag.
use Rattle.std.proofs.Common.{◌≡◌, ◌≢◌, ◌&&◌, ℕ, nat_eq, Bool, true, false, cond, All, List, [], ◌∷◌, ◌++◌, map, Option, None, Some, refl, sym, ap, subst, ◌∙◌}
use Rattle.std.specs.List.{list_any}
use Rattle.std.specs.Cmp.Lexicographic.{pointwise}
use Rattle.std.proofs.lemmas.List.Elements.{All-append, All-cons, All-head, All-nil, All-tail}
use Rattle.feed_links.proofs.Names.{other_name}
use Rattle.feed_links.proofs.Steps.{StepIs, is_bad, is_taken, step_is, taken}
use Rattle.feed_links.specs.Lines.{messages_to}
use Rattle.link_msg.specs.declared.counts.Counts.{Counts}
use Rattle.link_msg.specs.declared.counts.Counts.TheVariants.{IfAnswered}
use Rattle.link_msg.specs.declared.message.LinkMsg.{LinkMsg}
use Rattle.link_msg.specs.declared.message.LinkMsg.TheVariants.{Up, End, Line, Ask, Answer}
use Rattle.link_msg.specs.declared.out.Out.{Out}
use Rattle.link_msg.specs.declared.out.Out.TheVariants.{Client, Close, Link, Mark, Told as tell}
use Rattle.master_core.specs.declared.master.Master.{Master}
use Rattle.master_core.specs.declared.reply.Reply.{Reply}
use Rattle.master_core.specs.declared.sender.Sender.{Sender}
use Rattle.master_core.specs.declared.sender.Sender.TheVariants.{Frontend}
use Rattle.master_core.specs.declared.streams.StreamStep.{StreamStep}
use Rattle.master_core.specs.declared.streams.StreamStep.TheVariants as stream
use Rattle.master_core.specs.Changes.{change_outs, text_of}
use Rattle.master_core.specs.Linked.{let_out, node_says, sender_by}
use Rattle.master_core.specs.Replies.{bad_reply, done, noop_reply, reply_to}
use Rattle.master_core.specs.Step.{Planned, answered, bad_step, command_step, line_by, line_step, mark_of, replied, settled}
use Rattle.master_core.specs.Streams.{is_stream, stream_step}
use Rattle.mupdate_codec.specs.declared.command.MCommand.{MCommand}
use Rattle.mupdate_codec.specs.declared.command.MCommand.TheVariants as command
use Rattle.mupdate_codec.specs.declared.command.MResponse.{MResponse}
use Rattle.mupdate_codec.specs.declared.command.MResponse.TheVariants as response
use Rattle.mupdate_codec.specs.declared.tag.Tag.{Tag}
use Rattle.mupdate_codec.specs.Asks.{ask_id_of}
use Rattle.mupdate_codec.specs.Whole.{command_in}
use Rattle.mur_base.specs.declared.point.AskId.{AskId}
use Rattle.node_record.specs.declared.master.MasterRecord.{MasterRecord}
use Rattle.many_links.proofs.FrontTable.{none_written, settled_entry}

-- a message to this node, or a mark
abbrev pub IsItsOut : List ℕ → Out → Type 0
IsItsOut node (Link to message) = to ≡ node
IsItsOut node (Mark ask counts) = Unit {0}
IsItsOut node out = ⊥

abbrev pub AreItsOuts : List ℕ → List Out → Type 0
AreItsOuts node outs = All (IsItsOut node) outs

module _ (front : List ℕ) where
  abbrev Its : Out → Type 0
  Its = IsItsOut front

  its_answers : (tag : Tag) (answers : List MResponse) → AreItsOuts front (map (answered (Frontend front) tag) answers)
  its_answers tag [] = All-nil Its
  its_answers tag (it ∷ answers) =
      All-cons Its (answered (Frontend front) tag it) (map (answered (Frontend front) tag) answers) refl (its_answers tag answers)

  its_marks : (ask : Option AskId) (counts : Option Counts) → AreItsOuts front (mark_of ask counts)
  its_marks None counts = All-nil Its
  its_marks (Some ask) None = All-nil Its
  its_marks (Some ask) (Some counts) = All-cons Its (Mark ask counts) [] tt (All-nil Its)

  no_change : (master : Master) (made : Option MasterRecord) → made ≡ None → AreItsOuts front (change_outs master.streams master.watchers made)
  unfolding change_outs
  no_change master None none = All-nil Its
  no_change master (Some change) none = cc

  its_reply : (master : Master) (tag : Tag) (reply : Reply) → reply.entry ≡ None → AreItsOuts front (replied master (Frontend front) tag reply).outs
  unfolding replied
  its_reply master tag reply none =
      All-append Its (map (answered (Frontend front) tag) reply.answers) _ (its_answers tag reply.answers)
      (All-append Its (change_outs master.streams master.watchers reply.entry) (mark_of (ask_id_of tag) reply.counts) (no_change master reply.entry none)
      (its_marks (ask_id_of tag) reply.counts))

  its_settled : (planned : Planned) (tag : Tag) (step : StreamStep) → AreItsOuts front planned.outs
      → AreItsOuts front (settled planned (Frontend front) tag step).outs
  unfolding settled
  its_settled planned tag stream.Stays are = are
  its_settled planned tag stream.Begins are = are
  its_settled planned tag stream.Ends are = All-append Its planned.outs [] are (All-nil Its)

  reply_none : (master : Master) (tag : Tag) (it : MCommand)
      → (replied master (Frontend front) tag (reply_to master.table (Frontend front) it)).entry ≡ None → (reply_to master.table (Frontend front) it).entry ≡ None
  unfolding replied
  reply_none master tag it none = none

  its_step : (master : Master) (next : Planned) → StepIs master (Frontend front) next → next.entry ≡ None → AreItsOuts front next.outs
  unfolding bad_step bad_reply
  its_step master _ (is_bad tag tagged) none = its_reply master tag bad_reply refl
  its_step master _ (is_taken tag it tagged has may) none =
      let planned : Planned = replied master (Frontend front) tag (reply_to master.table (Frontend front) it) in
      its_settled planned tag (stream_step it)
      (its_reply master tag (reply_to master.table (Frontend front) it) (reply_none master tag it (sym (settled_entry planned front tag (stream_step it)) ∙ none)))

  its_line : (master : Master) (line : List ℕ) → AreItsOuts front (line_step master (Frontend front) line).outs
  its_line master line =
      its_step master (line_step master (Frontend front) line) (step_is master (Frontend front) line)
      (none_written master front line (line_step master (Frontend front) line).entry refl)

pub front_outs : (master : Master) (front : List ℕ) (message : LinkMsg) → list_any (pointwise nat_eq front) master.backends ≡ false
    → AreItsOuts front (node_says master front message).outs
unfolding node_says
front_outs master front (Line bytes) none =
    subst (λ (b : Bool). AreItsOuts front (line_step master (sender_by b front) bytes).outs) (sym none) (its_line front master bytes)
front_outs master front End none = All-nil (IsItsOut front)
front_outs master front Up none = All-nil (IsItsOut front)
front_outs master front (Ask ask) none = All-nil (IsItsOut front)
front_outs master front (Answer answer) none = All-nil (IsItsOut front)

-- so no other node is sent anything
pub others_unsent : (front other : List ℕ) (outs : List Out) → front ≢ other → AreItsOuts front outs → messages_to other outs ≡ []
others_unsent front other [] ne are = refl
others_unsent front other (out ∷ outs) ne are =
    by out (All-head (IsItsOut front) out outs are) (others_unsent front other outs ne (All-tail (IsItsOut front) out outs are))
  where
    by : (one : Out) → IsItsOut front one → messages_to other outs ≡ [] → messages_to other (one ∷ outs) ≡ []
    by (Link to message) its none =
        ap (λ (b : Bool). cond b (message ∷ []) [] ++ messages_to other outs) (ap (λ (n : List ℕ). pointwise nat_eq n other) its ∙ other_name front other ne) ∙ none
    by (Mark ask counts) its none = none
    by (Client conn bytes) its none = absurd its
    by (Close conn) its none = absurd its
    by (tell ask how) its none = absurd its

-- ---- a NOOP

never : (b : Bool) → (b && false) ≡ false
never true = refl
never false = refl

noop_taken : (master : Master) (from : Sender) (line : List ℕ) (tag : Tag) → command_in line ≡ Some (tag, command.Noop)
    → line_step master from line ≡ taken master from tag command.Noop
unfolding line_step line_by command_step
noop_taken master from line tag read =
    ap (line_by master from line) read
    ∙ ap (λ b. cond b (bad_step master from tag) (taken master from tag command.Noop)) (never (is_stream master from))

-- the OK goes out, and the mark of its command
abbrev pub noop_outs : List ℕ → Tag → Option AskId → List Out
noop_outs node tag ask = Link node (Line (text_of tag (response.Ok done))) ∷ mark_of ask (Some IfAnswered)

taken_by : (master : Master) (node : List ℕ) (tag : Tag) (b : Bool)
    → let_out (taken master (sender_by b node) tag command.Noop) ≡ record { master = master; outs = noop_outs node tag (ask_id_of tag) }
unfolding settled replied reply_to noop_reply change_outs
taken_by master node tag true = refl
taken_by master node tag false = refl

pub noop_says : (master : Master) (node line : List ℕ) (tag : Tag) → command_in line ≡ Some (tag, command.Noop)
    → node_says master node (Line line) ≡ record { master = master; outs = noop_outs node tag (ask_id_of tag) }
unfolding node_says
noop_says master node line tag read =
    let b : Bool = list_any (pointwise nat_eq node) master.backends in
    ap let_out (noop_taken master (sender_by b node) line tag read) ∙ taken_by master node tag b
