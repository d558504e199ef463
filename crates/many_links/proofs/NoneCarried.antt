-- No command of a client is carried out in a step for which the store does nothing.
use Rattle.std.proofs.Common.{◌≡◌, ◌&&◌, ℕ, Bool, true, false, cond, List, [], ◌∷◌, ◌++◌, map, Option, None, Some, refl, sym, ap, subst, ◌∙◌, append-nil}
use Rattle.std.specs.List.{AllByRecursion}
use Rattle.std.proofs.lemmas.List.Concat.{flat_map-append}
use Rattle.backend_core.specs.declared.op_plan.OpPlan.{OpPlan}
use Rattle.backend_core.specs.AskPlan.{ask_plan}
use Rattle.backend_core.specs.HomeLaws.{is_open_here}
use Rattle.backend_core.specs.HomeStep.{held_at}
use Rattle.backend_core.specs.Plan.{owes}
use Rattle.link_msg.specs.declared.ask.FrontAsk.{FrontAsk}
use Rattle.link_msg.specs.declared.counts.Counts.{Counts}
use Rattle.link_msg.specs.declared.message.LinkMsg.{LinkMsg}
use Rattle.link_msg.specs.declared.message.LinkMsg.TheVariants.{Up, End, Line, Ask, Answer}
use Rattle.link_msg.specs.declared.out.Out.{Out}
use Rattle.link_msg.specs.declared.out.Out.TheVariants.{Client, Close, Link, Mark, Told as tell}
use Rattle.master_core.specs.declared.master.Master.{Master}
use Rattle.master_core.specs.declared.sender.Sender.TheVariants.{Frontend}
use Rattle.master_core.specs.declared.streams.StreamStep.{StreamStep}
use Rattle.master_core.specs.declared.streams.StreamStep.TheVariants as stream
use Rattle.master_core.specs.Linked.{sender_by, node_says}
use Rattle.master_core.specs.Outside.{bytes_in, connect}
use Rattle.master_core.specs.Replies.{reply_to, bad_reply}
use Rattle.master_core.specs.Step.{Planned, replied, settled, bad_step, line_step}
use Rattle.master_core.specs.Streams.{stream_step}
use Rattle.master_core.proofs.OutsideAlone.{AreItsOwn, bytes_alone, connects_alone}
use Rattle.mupdate_codec.specs.declared.command.MCommand.{MCommand}
use Rattle.mupdate_codec.specs.declared.command.MResponse.{MResponse}
use Rattle.mupdate_codec.specs.declared.tag.Tag.{Tag}
use Rattle.mupdate_codec.specs.Whole.{response_in}
use Rattle.mur_base.specs.declared.point.AskId.{AskId}
use Rattle.name_flows.specs.declared.ask.AskKind.{AskKind}
use Rattle.name_flows.specs.declared.ask.Told.{Told}
use Rattle.name_flows.specs.Asked.{asked_step}
use Rattle.name_flows.specs.Heard.{heard_step}
use Rattle.name_flows.specs.Link.{end_step}
use Rattle.name_flows.specs.Listing.{up_step}
use Rattle.name_flows.specs.Steps.{FlowStep, handed}
use Rattle.back_node.specs.declared.node.BackNode.{BackNode}
use Rattle.back_node.specs.Acted.{BackActed}
use Rattle.back_node.specs.Node.{is_my_master}
use Rattle.back_node.specs.NodeLaws.{is_of_messages}
use Rattle.back_node.specs.Takes.{UpToEntry, answer_out, ask_by, line_by, line_out, name_ask, name_kind, node_takes}
use Rattle.back_node.specs.Takes.{passed_over, serves, step_outs, talks, taken_up}
use Rattle.back_node.proofs.AtHome.{done_by, message_step}
use Rattle.back_node.proofs.OpenHere.{elsewhere_is_told}
use Rattle.feed_links.proofs.Steps.{StepIs, is_bad, is_taken, step_is}
use Rattle.back_links.specs.Written.{response_message}
use Rattle.back_links.proofs.Queues.{first_of}
use Rattle.many_links.specs.Marks.{mark_in, marks_in, IsOnlyTold, CarryNoneOut}
use Rattle.many_links.specs.HomeEvents.{is_served}
use Rattle.many_links.specs.OtherSteps.{OthersCarryNone, MasterAsksNothing, FrontendsCarryNone, ClientsCarryNone}
use Rattle.many_links.proofs.Carrying.{Carries, activates, deletes, carries, only_told}
use Rattle.many_links.proofs.FrontTable.{none_written, settled_entry}
use Rattle.many_links.proofs.HomeStays.{no_plan}
use Rattle.many_links.proofs.Marked.{reply_marks}

none_out : (outs : List Out) → marks_in outs ≡ [] → CarryNoneOut outs
none_out outs none = subst (AllByRecursion IsOnlyTold) (sym none) tt

-- ---- a backend

lines_unmarked : (master : List ℕ) (lines : List (List ℕ)) → marks_in (map (line_out master) lines) ≡ []
lines_unmarked master [] = refl
lines_unmarked master (line ∷ lines) = lines_unmarked master lines

answers_unmarked : (answers : List Told) → marks_in (map answer_out answers) ≡ []
answers_unmarked [] = refl
answers_unmarked (it ∷ answers) = answers_unmarked answers

-- its talk with the master counts for nothing
talk_carries_none : (node : BackNode) (step : FlowStep) → CarryNoneOut (done_by (talks node step)).outs
talk_carries_none node step =
    let it = handed node.home.held step in
    none_out (step_outs it.flows.master it.step)
    (flat_map-append mark_in (map (line_out it.flows.master) it.step.lines) (map answer_out it.step.answers)
    ∙ ap (λ (l : List (AskId × Counts)). l ++ marks_in (map answer_out it.step.answers)) (lines_unmarked it.flows.master it.step.lines)
    ∙ answers_unmarked it.step.answers)

module _ (node : BackNode) (from : List ℕ) where
  if_master : (mine : Bool) (it : UpToEntry) → CarryNoneOut (done_by it).outs → CarryNoneOut (done_by (cond mine it (passed_over node))).outs
  if_master true it none = none
  if_master false it none = tt

  heard_none : (read : Option (Tag × MResponse)) → CarryNoneOut (done_by (line_by node read)).outs
  heard_none None = tt
  heard_none (Some it) = talk_carries_none node (heard_step node.flows node.home.held it.0 it.1)

  ask_none : (ask : FrontAsk) (of : Bool) (kind : Option AskKind) → is_of_messages ask.op ≡ of → name_kind ask.op ≡ kind
      → (of && is_open_here (held_at node.home ask.name)) ≡ false → CarryNoneOut (done_by (ask_by node from ask kind)).outs
  unfolding ask_plan
  ask_none ask of (Some kind) is named closed = talk_carries_none node (asked_step node.flows node.home.held (name_ask from ask kind))
  ask_none ask true None is named closed =
      subst (λ (done : BackActed). CarryNoneOut done.outs) (sym (elsewhere_is_told node from ask is closed) ∙ message_step node from ask named) (refl, tt)
  ask_none ask false None is named closed =
      subst (λ (plan : Option OpPlan). CarryNoneOut (done_by (serves node (owes from ask.id plan))).outs) (sym (no_plan node.home ask ask.op is named)) tt

  others_none : (message : LinkMsg) → is_served node message ≡ false → CarryNoneOut (node_takes node from message).outs
  unfolding taken_up
  others_none Up closed = if_master (is_my_master node from) (talks node (up_step node.flows)) (talk_carries_none node (up_step node.flows))
  others_none End closed = if_master (is_my_master node from) (talks node (end_step node.flows)) (talk_carries_none node (end_step node.flows))
  others_none (Line line) closed = if_master (is_my_master node from) (line_by node (response_in line)) (heard_none (response_in line))
  others_none (Ask ask) closed = ask_none ask (is_of_messages ask.op) (name_kind ask.op) refl refl closed
  others_none (Answer answer) closed = tt

pub others_carry_none : OthersCarryNone
others_carry_none node from message closed = others_none node from message closed

-- what the master sends are lines
pub master_asks_nothing : MasterAsksNothing
master_asks_nothing murder given store name node message rest hold there first =
    let talk = (hold.each name node there).talk in
    let line = first_of response_message message rest talk.downs (sym first ∙ talk.written.down_is) in
    ap (λ (m : LinkMsg). is_served node m) line.is

-- ---- a frontend, at the master

-- no line of it writes an entry, so that none carries out
reply_none : (master : Master) (front : List ℕ) (tag : Tag) (it : MCommand) → (reply_to master.table (Frontend front) it).entry ≡ None
    → CarryNoneOut (replied master (Frontend front) tag (reply_to master.table (Frontend front) it)).outs
unfolding replied
reply_none master front tag it none =
    let reply = reply_to master.table (Frontend front) it in
    subst (AllByRecursion IsOnlyTold) (sym (reply_marks master (Frontend front) tag reply))
    (only_told tag reply.counts (λ asked always. by_line it (carries master.table (Frontend front) it always) none))
  where
    by_line : (it : MCommand) → Carries master.table (Frontend front) it → (reply_to master.table (Frontend front) it).entry ≡ None → ⊥
    by_line _ (activates n place acl made) none = (let no = sym made ∙ none in cc)
    by_line _ (deletes n made) none = (let no = sym made ∙ none in cc)

settled_outs : (planned : Planned) (front : List ℕ) (tag : Tag) (step : StreamStep) → (settled planned (Frontend front) tag step).outs ≡ planned.outs
unfolding settled
settled_outs planned front tag stream.Stays = refl
settled_outs planned front tag stream.Begins = refl
settled_outs planned front tag stream.Ends = append-nil planned.outs

step_none : (master : Master) (front : List ℕ) (next : Planned) → StepIs master (Frontend front) next → next.entry ≡ None → CarryNoneOut next.outs
unfolding bad_step bad_reply replied
step_none master front _ (is_bad tag tagged) none =
    subst (AllByRecursion IsOnlyTold) (sym (reply_marks master (Frontend front) tag bad_reply)) (only_told tag None (λ asked always. (let no = always in cc)))
step_none master front _ (is_taken tag it tagged has may) none =
    let planned : Planned = replied master (Frontend front) tag (reply_to master.table (Frontend front) it) in
    subst CarryNoneOut (sym (settled_outs planned front tag (stream_step it)))
    (reply_none master front tag it (sym (settled_entry planned front tag (stream_step it)) ∙ none))

line_none : (master : Master) (front line : List ℕ) → CarryNoneOut (line_step master (Frontend front) line).outs
line_none master front line =
    step_none master front (line_step master (Frontend front) line) (step_is master (Frontend front) line)
    (none_written master front line (line_step master (Frontend front) line).entry refl)

pub frontends_carry_none : FrontendsCarryNone
unfolding node_says
frontends_carry_none master front (Line bytes) none =
    subst (λ (b : Bool). CarryNoneOut (line_step master (sender_by b front) bytes).outs) (sym none) (line_none master front bytes)
frontends_carry_none master front End none = tt
frontends_carry_none master front Up none = tt
frontends_carry_none master front (Ask ask) none = tt
frontends_carry_none master front (Answer answer) none = tt

-- ---- a client from outside

own_unmarked : (conn : ℕ) (outs : List Out) → AreItsOwn conn outs → marks_in outs ≡ []
unfolding AreItsOwn
own_unmarked conn [] own = refl
own_unmarked conn (Client other bytes ∷ outs) own = own_unmarked conn outs own.1
own_unmarked conn (Close other ∷ outs) own = own_unmarked conn outs own.1
own_unmarked conn (Link other message ∷ outs) own = absurd own.0
own_unmarked conn (Mark ask counts ∷ outs) own = absurd own.0
own_unmarked conn (tell ask how ∷ outs) own = absurd own.0

pub clients_carry_none : ClientsCarryNone
clients_carry_none master conn bytes = (
  own_unmarked conn (connect master conn).outs (connects_alone master conn).own,
  own_unmarked conn (bytes_in master conn bytes).outs (bytes_alone master conn bytes).own,
)
