-- Which marks a step makes. One of a backend makes none, but where it takes an ask for messages; one of the master makes that of the command whose line it takes.
use Rattle.std.proofs.Common.{◌≡◌, ℕ, Bool, true, false, not, cond, List, [], ◌∷◌, ◌++◌, map, filter, Option, None, Some, refl, sym, ◌∙◌, ap}
use Rattle.std.proofs.lemmas.List.Concat.{flat_map-append}
use Rattle.back_node.specs.declared.node.BackNode.{BackNode}
use Rattle.back_node.specs.Node.{is_my_master}
use Rattle.back_node.specs.Takes.{UpToEntry, answer_out, ask_by, line_by, line_out, name_ask, name_kind, node_takes, passed_over, taken_up, talks}
use Rattle.back_node.proofs.AtHome.{done_by}
use Rattle.link_msg.specs.declared.ask.FrontAsk.{FrontAsk}
use Rattle.link_msg.specs.declared.message.LinkMsg.{LinkMsg}
use Rattle.link_msg.specs.declared.message.LinkMsg.TheVariants.{Up, End, Line, Ask, Answer}
use Rattle.link_msg.specs.declared.out.Out.{Out}
use Rattle.link_msg.specs.declared.out.Out.TheVariants.{Client, Close, Link, Mark as mark, Told as tell}
use Rattle.mark_history.specs.declared.mark.Mark.{Mark}
use Rattle.master_core.specs.declared.master.Master.{Master}
use Rattle.master_core.specs.Linked.{node_says}
use Rattle.master_core.specs.Whose.{TellNobody}
use Rattle.mupdate_codec.specs.declared.command.MResponse.{MResponse}
use Rattle.mupdate_codec.specs.declared.tag.Tag.{Tag}
use Rattle.mupdate_codec.specs.Whole.{response_in}
use Rattle.mur_base.specs.declared.point.AskId.{AskId}
use Rattle.name_commands.specs.Whose.{Whose, is_own, is_own_message, is_own_out, its_command}
use Rattle.name_commands.proofs.Marks.{says_others}
use Rattle.name_commands.proofs.Own.{kept, none_kept}
use Rattle.name_flows.specs.declared.ask.AskKind.{AskKind}
use Rattle.name_flows.specs.declared.ask.Told.{Told}
use Rattle.name_flows.specs.Asked.{asked_step}
use Rattle.name_flows.specs.Heard.{heard_step}
use Rattle.name_flows.specs.Link.{end_step}
use Rattle.name_flows.specs.Listing.{up_step}
use Rattle.name_flows.specs.Steps.{FlowStep, handed}
use Rattle.cluster_core.proofs.Nodes.Carried.{mark_made, marks_made}

-- ---- a step of a backend

-- it asks for messages
abbrev pub asks_messages_by : Option AskKind → Bool
asks_messages_by None = true
asks_messages_by (Some kind) = false

abbrev pub asks_messages : LinkMsg → Bool
asks_messages (Ask ask) = asks_messages_by (name_kind ask.op)
asks_messages message = false

abbrev pub BackendMarksNone : Type 0
BackendMarksNone = (now : ℕ) (node : BackNode) (from : List ℕ) (message : LinkMsg) → asks_messages message ≡ false
    → marks_made now (node_takes node from message).outs ≡ []

lines_unmarked : (now : ℕ) (master : List ℕ) (lines : List (List ℕ)) → marks_made now (map (line_out master) lines) ≡ []
lines_unmarked now master [] = refl
lines_unmarked now master (line ∷ lines) = lines_unmarked now master lines

answers_unmarked : (now : ℕ) (answers : List Told) → marks_made now (map answer_out answers) ≡ []
answers_unmarked now [] = refl
answers_unmarked now (it ∷ answers) = answers_unmarked now answers

talk_marks : (now : ℕ) (node : BackNode) (step : FlowStep) → marks_made now (done_by (talks node step)).outs ≡ []
talk_marks now node step =
    let it = handed node.home.held step in
    flat_map-append (mark_made now) (map (line_out it.flows.master) it.step.lines) (map answer_out it.step.answers)
    ∙ ap (λ (l : List Mark). l ++ marks_made now (map answer_out it.step.answers)) (lines_unmarked now it.flows.master it.step.lines)
    ∙ answers_unmarked now it.step.answers

module _ (now : ℕ) (node : BackNode) (from : List ℕ) where
  if_master : (mine : Bool) (it : UpToEntry) → marks_made now (done_by it).outs ≡ [] → marks_made now (done_by (cond mine it (passed_over node))).outs ≡ []
  if_master true it none = none
  if_master false it none = refl

  heard_marks : (read : Option (Tag × MResponse)) → marks_made now (done_by (line_by node read)).outs ≡ []
  heard_marks None = refl
  heard_marks (Some it) = talk_marks now node (heard_step node.flows node.home.held it.0 it.1)

  ask_marks : (ask : FrontAsk) (kind : Option AskKind) → asks_messages_by kind ≡ false → marks_made now (done_by (ask_by node from ask kind)).outs ≡ []
  ask_marks ask (Some kind) e = talk_marks now node (asked_step node.flows node.home.held (name_ask from ask kind))
  ask_marks ask None e = cc

  node_marks : (message : LinkMsg) → asks_messages message ≡ false → marks_made now (node_takes node from message).outs ≡ []
  unfolding taken_up
  node_marks Up e = if_master (is_my_master node from) (talks node (up_step node.flows)) (talk_marks now node (up_step node.flows))
  node_marks End e = if_master (is_my_master node from) (talks node (end_step node.flows)) (talk_marks now node (end_step node.flows))
  node_marks (Line line) e = if_master (is_my_master node from) (line_by node (response_in line)) (heard_marks (response_in line))
  node_marks (Ask ask) e = ask_marks ask (name_kind ask.op) e
  node_marks (Answer answer) e = refl

pub backend_marks_none : BackendMarksNone
backend_marks_none now node from message e = node_marks now node from message e

-- ---- a step of the master

-- where nothing goes out about any other command, the marks are those of what goes out about these
abbrev not_theirs : Whose → Whose
not_theirs whose id = not (whose id)

abbrev AreTheirs : ℕ → Whose → List Out → Type 0
AreTheirs now whose outs = filter (is_own_out (not_theirs whose)) outs ≡ [] → marks_made now outs ≡ marks_made now (filter (is_own_out whose) outs)

not_false : (b : Bool) → not b ≡ false → b ≡ true
not_false true e = refl
not_false false e = cc

module _ (now : ℕ) (whose : Whose) where
  unmarked_out : (out : Out) (outs : List Out) (own : Bool) → mark_made now out ≡ []
      → marks_made now outs ≡ marks_made now (filter (is_own_out whose) outs)
      → marks_made now outs ≡ marks_made now (cond own (out ∷ filter (is_own_out whose) outs) (filter (is_own_out whose) outs))
  unmarked_out out outs true none more = more ∙ ap (λ (l : List Mark). l ++ marks_made now (filter (is_own_out whose) outs)) (sym none)
  unmarked_out out outs false none more = more

  pub their_marks : (outs : List Out) → AreTheirs now whose outs
  their_marks [] none = refl
  their_marks (Client conn bytes ∷ outs) none = their_marks outs none
  their_marks (Close conn ∷ outs) none = their_marks outs none
  their_marks (Link to message ∷ outs) none =
      unmarked_out (Link to message) outs (is_own_message whose message) refl
      (their_marks outs (none_kept (is_own_out (not_theirs whose)) (Link to message) outs none).1)
  their_marks (mark id counts ∷ outs) none =
      let parts = none_kept (is_own_out (not_theirs whose)) (mark id counts) outs none in
      let own : whose id ≡ true = not_false (whose id) parts.0 in
      ap (λ (l : List Mark). mark_made now (mark id counts) ++ l) (their_marks outs parts.1)
      ∙ ap (marks_made now) (sym (kept (is_own_out whose) (mark id counts) outs own))
  their_marks (tell id how ∷ outs) none =
      let parts = none_kept (is_own_out (not_theirs whose)) (tell id how) outs none in
      let own : whose id ≡ true = not_false (whose id) parts.0 in
      ap (λ (l : List Mark). mark_made now (tell id how) ++ l) (their_marks outs parts.1)
      ∙ ap (marks_made now) (sym (kept (is_own_out whose) (tell id how) outs own))

-- the master takes a line of theirs
theirs_alone : (whose : Whose) (found : Option AskId) → is_own whose found ≡ true → is_own (not_theirs whose) found ≡ false
theirs_alone whose None e = cc
theirs_alone whose (Some id) e = ap not e

abbrev pub LineMarksIts : Type 0
LineMarksIts = (now : ℕ) (whose : Whose) (master : Master) (name : List ℕ) (message : LinkMsg) → TellNobody master.streams
    → is_own_message whose message ≡ true
    → marks_made now (node_says master name message).outs ≡ marks_made now (filter (is_own_out whose) (node_says master name message).outs)

pub line_marks_its : LineMarksIts
line_marks_its now whose master name message tells own =
    their_marks now whose (node_says master name message).outs
    (says_others (not_theirs whose) master name message tells (theirs_alone whose (its_command message) own))

-- or one of nobody
abbrev pub NobodysMarkNone : Type 0
NobodysMarkNone = (now : ℕ) (master : Master) (name : List ℕ) (message : LinkMsg) → TellNobody master.streams → its_command message ≡ None
    → marks_made now (node_says master name message).outs ≡ []

every : Whose
every id = true

none_of_none : (now : ℕ) (outs : List Out) → filter (is_own_out every) outs ≡ [] → marks_made now outs ≡ []
unfolding every
none_of_none now [] none = refl
none_of_none now (Client conn bytes ∷ outs) none = none_of_none now outs none
none_of_none now (Close conn ∷ outs) none = none_of_none now outs none
none_of_none now (Link to message ∷ outs) none = none_of_none now outs (none_kept (is_own_out every) (Link to message) outs none).1
none_of_none now (mark id counts ∷ outs) none = cc
none_of_none now (tell id how ∷ outs) none = cc

pub nobodys_mark_none : NobodysMarkNone
nobodys_mark_none now master name message tells none =
    none_of_none now (node_says master name message).outs
    (says_others every master name message tells (ap (λ (i : Option AskId). is_own every i) none))
