-- What the master sends a node from which nothing comes to it is about no command: lines of the node's stream.
use Rattle.std.proofs.Common.{◌≡◌, ◌≢◌, ◌&&◌, ℕ, nat_eq, Bool, true, false, not, cond, if◌then◌else◌, List, [], ◌∷◌, ◌++◌, map, Option, None, Some, inr, filter, refl, sym, ◌∙◌, ap, subst, All}
use Rattle.std.proofs.Math.Logic.{⊎_elim}
use Rattle.std.proofs.lemmas.List.Elements.{All-append, All-cons, All-head, All-nil, All-tail}
use Rattle.std.specs.Cmp.Lexicographic.{pointwise}
use Rattle.std.specs.List.{AllByRecursion, list_any}
use Rattle.feed_links.proofs.FeedLaw.{both, no_message, other_sender}
use Rattle.feed_links.proofs.Messages.{no_answers, reply_messages, settled_messages}
use Rattle.feed_links.proofs.Steps.{StepIs, is_bad, is_taken, step_is}
use Rattle.feed_links.specs.Lines.{IsOfAnother, message_to, messages_to}
use Rattle.front_core.proofs.OneConnection.Places.{about, about_command, is_about, is_over, of_connection, of_nobody, same_about}
use Rattle.link_msg.specs.declared.message.LinkMsg.{LinkMsg}
use Rattle.link_msg.specs.declared.message.LinkMsg.TheVariants.{Up, End, Line, Ask, Answer}
use Rattle.link_msg.specs.declared.out.Out.{Out}
use Rattle.link_msg.specs.declared.out.Out.TheVariants.{Client as to_client, Close, Link as to_node, Mark as mark, Told as tell}
use Rattle.master_core.proofs.OutsideAlone.{bytes_alone, connects_alone}
use Rattle.master_core.specs.Changes.{change_line, change_outs, node_told, watcher_told}
use Rattle.master_core.specs.Linked.{node_says, sender_of}
use Rattle.master_core.specs.Replies.{bad_reply, reply_to}
use Rattle.master_core.specs.Step.{Planned, bad_step, line_step, replied}
use Rattle.master_core.specs.Streams.{stream_step}
use Rattle.master_core.specs.Whose.{IsNobodys, IsOf, TellNobody}
use Rattle.master_core.specs.declared.master.Master.{Master}
use Rattle.master_core.specs.declared.reply.Reply.{Reply}
use Rattle.master_core.specs.declared.sender.Sender.{Sender}
use Rattle.mupdate_codec.proofs.LineAsks.{response_under}
use Rattle.mupdate_codec.specs.Asks.{line_ask}
use Rattle.mupdate_codec.specs.declared.command.MResponse.{MResponse}
use Rattle.mupdate_codec.specs.declared.tag.Tag.{Tag}
use Rattle.node_record.specs.declared.master.MasterRecord.{MasterRecord}
use Rattle.node_step.specs.declared.input.NodeInput.{NodeInput}
use Rattle.node_step.specs.declared.input.NodeInput.TheVariants.{Opened, Piece, Hung, From}
use Rattle.cluster_core.proofs.Links.Streams.{IsNotFrom}
use Rattle.cluster_core.proofs.Nodes.Comes.{master_does}

-- messages about nobody
abbrev pub AreNobodys : List LinkMsg → Type 0
AreNobodys messages = AllByRecursion (λ message. about message ≡ of_nobody) messages

-- of these none is about a command
about_no : (first conn : ℕ) (message : LinkMsg) → about message ≡ of_nobody → is_about first (of_connection conn) message ≡ false
unfolding same_about
about_no first conn message none = ap (λ a. same_about a (of_connection conn) && not (is_over first message)) none

pub none_about : (first conn : ℕ) (messages : List LinkMsg) → AreNobodys messages → filter (is_about first (of_connection conn)) messages ≡ []
none_about first conn [] all = refl
none_about first conn (message ∷ messages) all =
    ap (λ b. cond b (message ∷ filter (is_about first (of_connection conn)) messages) (filter (is_about first (of_connection conn)) messages))
    (about_no first conn message all.0) ∙ none_about first conn messages all.1

-- ---- lines under a stream's tag

line_nobodys : (bytes : List ℕ) → line_ask bytes ≡ None → about (Line bytes) ≡ of_nobody
line_nobodys bytes none = ap about_command none

out_nobodys : (node : List ℕ) (out : Out) → IsOf None out → AreNobodys (message_to node out)
out_nobodys node (to_node to (Line bytes)) is = by (pointwise nat_eq to node)
  where
    by : (same : Bool) → AreNobodys (if same then Line bytes ∷ [] else [])
    by true = (line_nobodys bytes (⊎_elim (λ e. e) (λ e. e) is), tt)
    by false = tt
out_nobodys node (to_node to Up) is = absurd is
out_nobodys node (to_node to End) is = absurd is
out_nobodys node (to_node to (Ask ask)) is = absurd is
out_nobodys node (to_node to (Answer answer)) is = absurd is
out_nobodys node (to_client conn bytes) is = tt
out_nobodys node (Close conn) is = tt
out_nobodys node (mark ask counts) is = tt
out_nobodys node (tell ask how) is = tt

outs_nobodys : (node : List ℕ) (outs : List Out) → All (IsOf None) outs → AreNobodys (messages_to node outs)
outs_nobodys node [] all = tt
outs_nobodys node (out ∷ outs) all =
    both (λ message. about message ≡ of_nobody) (message_to node out) (messages_to node outs) (out_nobodys node out (All-head (IsOf None) out outs all))
    (outs_nobodys node outs (All-tail (IsOf None) out outs all))

streams_nobodys : (streams : List (List ℕ × Tag)) (line : MResponse) → TellNobody streams → All (IsOf None) (map (node_told line) streams)
streams_nobodys [] line none = All-nil (IsOf None)
streams_nobodys (s ∷ streams) line none =
    All-cons (IsOf None) (node_told line s) (map (node_told line) streams)
    (inr (response_under s.1 line ∙ All-head (λ (x : List ℕ × Tag). IsNobodys x.1) s streams none))
    (streams_nobodys streams line (All-tail (λ (x : List ℕ × Tag). IsNobodys x.1) s streams none))

watchers_nobodys : (watchers : List (ℕ × Tag)) (line : MResponse) → All (IsOf None) (map (watcher_told line) watchers)
watchers_nobodys [] line = All-nil (IsOf None)
watchers_nobodys (w ∷ watchers) line =
    All-cons (IsOf None) (watcher_told line w) (map (watcher_told line) watchers) tt (watchers_nobodys watchers line)

changes_nobodys : (streams : List (List ℕ × Tag)) (watchers : List (ℕ × Tag)) (change : Option MasterRecord) → TellNobody streams
    → All (IsOf None) (change_outs streams watchers change)
unfolding change_outs
changes_nobodys streams watchers None none = All-nil (IsOf None)
changes_nobodys streams watchers (Some change) none =
    All-append (IsOf None) (map (node_told (change_line change)) streams) (map (watcher_told (change_line change)) watchers)
    (streams_nobodys streams (change_line change) none) (watchers_nobodys watchers (change_line change))

-- ---- a line of another sender

reply_nobodys : (master : Master) (from : Sender) (node : List ℕ) (tag : Tag) (reply : Reply) → IsOfAnother node from → TellNobody master.streams
    → AreNobodys (messages_to node (replied master from tag reply).outs)
unfolding replied
reply_nobodys master from node tag reply another nobodys =
    subst AreNobodys
    (sym (reply_messages master node from tag reply
    ∙ ap (λ l. l ++ messages_to node (change_outs master.streams master.watchers reply.entry)) (no_answers node from tag reply.answers another)))
    (outs_nobodys node (change_outs master.streams master.watchers reply.entry) (changes_nobodys master.streams master.watchers reply.entry nobodys))

step_nobodys : (master : Master) (from : Sender) (node : List ℕ) (next : Planned) → IsOfAnother node from → TellNobody master.streams → StepIs master from next
    → AreNobodys (messages_to node next.outs)
unfolding bad_step
step_nobodys master from node next another nobodys (is_bad tag tagged) = reply_nobodys master from node tag bad_reply another nobodys
step_nobodys master from node next another nobodys (is_taken tag it tagged has may) =
    subst AreNobodys (sym (settled_messages node (replied master from tag (reply_to master.table from it)) from tag (stream_step it)))
    (reply_nobodys master from node tag (reply_to master.table from it) another nobodys)

says_nobodys : (master : Master) (node other : List ℕ) (message : LinkMsg) → other ≢ node → TellNobody master.streams
    → AreNobodys (messages_to node (node_says master other message).outs)
unfolding node_says
says_nobodys master node other (Line bytes) ne nobodys =
    step_nobodys master (sender_of master other) node (line_step master (sender_of master other) bytes)
    (other_sender node other (list_any (pointwise nat_eq other) master.backends) ne) nobodys (step_is master (sender_of master other) bytes)
says_nobodys master node other End ne nobodys = tt
says_nobodys master node other Up ne nobodys = tt
says_nobodys master node other (Ask ask) ne nobodys = tt
says_nobodys master node other (Answer answer) ne nobodys = tt

-- WHATEVER COMES TO THE MASTER, but from this node
pub does_nobodys : (master : Master) (node : List ℕ) (input : NodeInput) → IsNotFrom node input → TellNobody master.streams
    → AreNobodys (messages_to node (master_does master input).outs)
does_nobodys master node (From name message) ne nobodys = says_nobodys master node name message ne nobodys
does_nobodys master node (Opened conn) ne nobodys =
    subst AreNobodys (sym (no_message node conn (master_does master (Opened conn)).outs (connects_alone master conn).own)) tt
does_nobodys master node (Piece conn bytes) ne nobodys =
    subst AreNobodys (sym (no_message node conn (master_does master (Piece conn bytes)).outs (bytes_alone master conn bytes).own)) tt
does_nobodys master node (Hung conn) ne nobodys = tt
