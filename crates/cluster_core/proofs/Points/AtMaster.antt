-- The master takes the line of a CREATE's or DELETE's flow. ACTIVATE, a RESERVE that is refused for good, or DELETE is the command's point; a RESERVE or
-- DEACTIVATE whose OK lets its backend go on, or a RESERVE that puts it off, isn't, and the step makes no mark for it.
use Rattle.std.proofs.Common.{◌≡◌, ◌≢◌, ◌⊎◌, inl, inr, ℕ, Bool, true, false, List, [], ◌∷◌, ◌++◌, filter, Option, None, Some, refl, sym, ◌∙◌, ap, subst}
use Rattle.asking_core.specs.Answered.{answered}
use Rattle.asking_core.specs.declared.waiting.At.{At}
use Rattle.back_links.specs.MasterEvents.{given_in}
use Rattle.back_node.specs.declared.node.BackNode.{BackNode}
use Rattle.imap_types.specs.declared.command.Tag.{Tag}
use Rattle.link_msg.specs.declared.answer.AnswerBody.{AnswerBody}
use Rattle.link_msg.specs.declared.counts.Counts.{Counts}
use Rattle.link_msg.specs.declared.counts.Counts.TheVariants.{Always, IfAnswered}
use Rattle.link_msg.specs.declared.message.LinkMsg.{LinkMsg}
use Rattle.link_msg.specs.declared.out.Out.{Out}
use Rattle.link_msg.specs.declared.out.Out.TheVariants.{Link, Mark as mark}
use Rattle.link_msg.specs.declared.outcome.Outcome.TheVariants.{None as nothing, Exists, Limit}
use Rattle.link_queue.specs.Broken.{Broken}
use Rattle.mail_message.specs.Boxes.{Content}
use Rattle.many_links.specs.Murder.{Murder, master_takes}
use Rattle.many_links.specs.ManyHold.{ManyHold}
use Rattle.mark_history.specs.Marked.{Tale}
use Rattle.mark_history.specs.declared.mark.Mark.{Mark}
use Rattle.master_core.specs.declared.reply.Reply.{Reply}
use Rattle.master_core.specs.Linked.{node_says}
use Rattle.master_core.specs.Refusals.{is_full}
use Rattle.mupdate_codec.specs.declared.command.MResponse.{MResponse}
use Rattle.mur_model.specs.declared.session.Turn.{Turn}
use Rattle.mur_model.specs.declared.store.Store.{Store}
use Rattle.mur_model.specs.Act.{work_on}
use Rattle.mur_model.specs.Create.{create_on, make}
use Rattle.mur_model.specs.Left.{Worked}
use Rattle.mur_model.specs.Needed.{Make, Work, Delete, Append as append_work, Status as status_work, Select as select_work, Viewed as viewed_work}
use Rattle.mur_model.specs.Store.{box_at, is_full as store_is_full}
use Rattle.name_commands.specs.Moves.{ends, heard_move}
use Rattle.name_commands.specs.MasterSteps.{flow_reply}
use Rattle.name_commands.specs.Places.{answer_message, NamePlace as name_at}
use Rattle.name_commands.specs.Replied.{IsReplied, name_activated, name_closed, name_deleted, name_reserved, serials_spent, table_full, was_active, was_reserved}
use Rattle.name_commands.specs.Whose.{is_command, is_own_out}
use Rattle.name_flows.specs.declared.ask.AskKind.{AskKind}
use Rattle.name_flows.specs.declared.ask.AskKind.TheVariants.{Create, Delete as Remove}
use Rattle.name_flows.specs.declared.flow.Flow.{Flow}
use Rattle.name_flows.specs.declared.flow.Stage.{Stage}
use Rattle.name_flows.specs.declared.flow.Stage.TheVariants.{Reserving, Making, Deactivating, Deleting}
use Rattle.name_flows.specs.Running.{done}
use Rattle.name_links.specs.Serials.{Given}
use Rattle.node_record.specs.Table.{record_at}
use Rattle.point_links.specs.Carried.{CarriesOut, turn_at}
use Rattle.point_links.specs.Commands.{ClientCommand, told_turn}
use Rattle.point_links.specs.FlowLines.{LineComes}
use Rattle.point_links.proofs.CreateLaw.{activate_creates, activate_of_full, reserve_of_one_there}
use Rattle.point_links.proofs.DeleteLaw.{delete_deletes}
use Rattle.point_links.proofs.LineLaw.{IsNoEnd, LineIs, line_is}
use Rattle.point_links.proofs.Works.{is_make, same_work}
use Rattle.cluster_core.proofs.Commands.Knows.{GoesOnAtResponse, IsFlowOf, TellsAtAnswer, is_of_kind, kind_of, waiting_at}
use Rattle.cluster_core.proofs.Commands.Knows.GoesOnAtResponse.{puts_off, sends_on}
use Rattle.cluster_core.proofs.Commands.Place.{Place, Place as place}
use Rattle.cluster_core.proofs.Commands.Standing.{Fixed}
use Rattle.cluster_core.proofs.Nodes.Carried.{marks_made}
use Rattle.cluster_core.proofs.Points.Acts.{IsCarriedOut, IsOpen, IsSeen, KnowsOf, carried_so, home_mark, known_so, seen_so}
use Rattle.cluster_core.proofs.Points.Marks.{line_marks_its}

-- ---- what the master makes of it

-- the master's response is on its way to the backend
abbrev pub heard_at : BackNode → List ℕ → Flow → MResponse → Place
heard_at node name flow it = place.is_at node.flows.me (name_at.hears name flow it)

-- what goes out about it is the response, and what the step counts as for it
pub record Responds (now : ℕ) (c : ClientCommand) (murder : Murder) (name : List ℕ) (node : BackNode) (message : LinkMsg) (flow : Flow) (it : MResponse)
    (outs : List Out) (marked : List Mark) : Type 0 where
  pub answer : (flow_reply murder.master.table name node.flows.me c.name flow).answers ≡ it ∷ []
  pub step : filter (is_own_out (is_command c.id)) (node_says murder.master name message).outs ≡ Link name (answer_message flow it) ∷ outs
  pub marks : marks_made now (node_says murder.master name message).outs ≡ marked

-- it is the command's point
pub record IsPointAtMaster (fixed : Fixed) (front : List ℕ) (conn : ℕ) (broken : Broken) (now : ℕ) (marks : List Mark) (story : Tale) (tag : Tag) (c : ClientCommand)
    (murder : Murder) (given : Given) (name : List ℕ) (node : BackNode) (message : LinkMsg) (flow : Flow) : Type 0 where
  pub it : MResponse
  pub counts : Counts
  pub later : Store
  pub responds : Responds now c murder name node message flow it (mark c.id counts ∷ []) (home_mark now c.id counts ∷ [])
  pub then_holds : ManyHold (master_takes murder name message) (given ++ given_in murder.master.table name message) later
  pub carried : IsCarriedOut fixed front conn broken now marks story tag c later counts (heard_at node c.name flow it)

-- it isn't: it waits on
pub record WaitsAtMaster (fixed : Fixed) (front : List ℕ) (conn : ℕ) (broken : Broken) (now : ℕ) (marks : List Mark) (story : Tale) (tag : Tag) (c : ClientCommand)
    (murder : Murder) (given : Given) (name : List ℕ) (node : BackNode) (message : LinkMsg) (flow : Flow) : Type 0 where
  pub it : MResponse
  pub responds : Responds now c murder name node message flow it [] []
  pub then_holds : ManyHold (master_takes murder name message) (given ++ given_in murder.master.table name message) story.course.store
  pub knows : KnowsOf fixed front conn tag c story (heard_at node c.name flow it)

-- it isn't, and the step sees the command: the master has no UIDVALIDITY left
pub record IsSeenAtMaster (fixed : Fixed) (front : List ℕ) (conn : ℕ) (broken : Broken) (now : ℕ) (marks : List Mark) (story : Tale) (tag : Tag) (c : ClientCommand)
    (murder : Murder) (given : Given) (name : List ℕ) (node : BackNode) (message : LinkMsg) (flow : Flow) : Type 0 where
  pub it : MResponse
  pub responds : Responds now c murder name node message flow it (mark c.id IfAnswered ∷ []) (home_mark now c.id IfAnswered ∷ [])
  pub then_holds : ManyHold (master_takes murder name message) (given ++ given_in murder.master.table name message) story.course.store
  pub seen : IsSeen fixed front conn broken now marks story tag c (heard_at node c.name flow it)

pub data LineGoes (fixed : Fixed) (front : List ℕ) (conn : ℕ) (broken : Broken) (now : ℕ) (marks : List Mark) (story : Tale) (tag : Tag) (c : ClientCommand)
    (murder : Murder) (given : Given) (name : List ℕ) (node : BackNode) (message : LinkMsg) (flow : Flow) : Type 0 where
  is_point : IsPointAtMaster fixed front conn broken now marks story tag c murder given name node message flow
      → LineGoes fixed front conn broken now marks story tag c murder given name node message flow
  is_seen : IsSeenAtMaster fixed front conn broken now marks story tag c murder given name node message flow
      → LineGoes fixed front conn broken now marks story tag c murder given name node message flow
  waits_on : WaitsAtMaster fixed front conn broken now marks story tag c murder given name node message flow
      → LineGoes fixed front conn broken now marks story tag c murder given name node message flow

abbrev pub EachLineGoes : Type 0
EachLineGoes = (fixed : Fixed) (front : List ℕ) (conn : ℕ) (broken : Broken) (now : ℕ) (marks : List Mark) (story : Tale) (tag : Tag) (c : ClientCommand)
    (murder : Murder) (given : Given) (name : List ℕ) (node : BackNode) (message : LinkMsg) (rest : List LinkMsg) (flow : Flow)
    → IsOpen fixed conn broken now marks story tag c → IsFlowOf front c c.name flow
    → LineComes murder given story.course.store c name node message rest flow
    → LineGoes fixed front conn broken now marks story tag c murder given name node message flow

-- ---- the reply doesn't tell the UIDVALIDITY

made_turn : (name : List ℕ) (one other : ℕ) (spent : Bool) → (make name one spent).turn ≡ (make name other spent).turn
unfolding make
made_turn name one other true = refl
made_turn name one other false = refl

create_turn : (name : List ℕ) (one other : ℕ) (spent : Bool) (box : Option Content) → (create_on name one spent box).turn ≡ (create_on name other spent box).turn
unfolding create_on
create_turn name one other spent (Some there) = refl
create_turn name one other spent None = made_turn name one other spent

turn_by : (store : Store) (name : List ℕ) (work : Work) (one other : ℕ) → (work ≡ Make) ⊎ (work ≢ Make)
    → turn_at store name work one ≡ turn_at store name work other
unfolding work_on
turn_by store name work one other (inl makes) =
    subst (λ (w : Work). turn_at store name w one ≡ turn_at store name w other) (sym makes)
    (create_turn name one other (store_is_full store) (box_at store name))
turn_by store name work one other (inr ne) =
    ap (λ (w : Worked). w.turn) (same_work name work one other (store_is_full store) (store_is_full store) (box_at store name) ne)

same_turn : (store : Store) (name : List ℕ) (work : Work) (one other : ℕ) → turn_at store name work one ≡ turn_at store name work other
same_turn store name work one other = turn_by store name work one other (is_make work)

-- ---- whose line a stage's is

-- a CREATE's, or a DELETE's
abbrev work_at : Stage → Work
work_at Reserving = Make
work_at Making = Make
work_at Deactivating = Delete
work_at Deleting = Delete

work_of : (kind : AskKind) (stage : Stage) (work : Work) → is_of_kind kind stage → kind_of work ≡ Some kind → work ≡ work_at stage
work_of Create Reserving Make of is = refl
work_of Create Making Make of is = refl
work_of Remove Deactivating Delete of is = refl
work_of Remove Deleting Delete of is = refl
work_of Create Deactivating work of is = absurd of
work_of Create Deleting work of is = absurd of
work_of Remove Reserving work of is = absurd of
work_of Remove Making work of is = absurd of
work_of Remove stage Make of is = cc
work_of Create stage Delete of is = cc
work_of kind stage (append_work message) of is = cc
work_of kind stage (status_work shown items) of is = cc
work_of kind stage (select_work it) of is = cc
work_of kind stage (viewed_work view it) of is = cc

-- ---- each line

module _ (fixed : Fixed) (front : List ℕ) (conn : ℕ) (broken : Broken) (now : ℕ) (marks : List Mark) (story : Tale) (tag : Tag) (c : ClientCommand)
    (murder : Murder) (given : Given) (name : List ℕ) (node : BackNode) (message : LinkMsg) (rest : List LinkMsg) (flow : Flow)
    (is_open : IsOpen fixed conn broken now marks story tag c) (of : IsFlowOf front c c.name flow)
    (comes : LineComes murder given story.course.store c name node message rest flow) where
  abbrev store : Store
  store = story.course.store

  abbrev says : List Out
  says = (node_says murder.master name message).outs

  line : LineIs murder given store c name node message rest flow
  line = line_is murder given store c name node message rest flow comes

  abbrev it_is : MResponse
  it_is = line.taken.it

  abbrev reply : Reply
  reply = flow_reply murder.master.table name node.flows.me c.name flow

  abbrev here : Place
  here = heard_at node c.name flow it_is

  comes_at : (at : At) → LineComes murder given store (waiting_at c at) name node message rest flow
  comes_at at = record {
    holds = comes.holds;
    streams = comes.streams;
    there = comes.there;
    first = comes.first;
    own = comes.own;
    placed = comes.placed;
  }

  responds_so : (counts : Option Counts) (outs : List Out) → reply.counts ≡ counts
      → filter (is_own_out (is_command c.id)) says ≡ Link name (answer_message flow it_is) ∷ outs
      → Responds now c murder name node message flow it_is outs (marks_made now outs)
  responds_so counts outs e step = record {
    answer = line.taken.answer;
    step = step;
    marks = line_marks_its now (is_command c.id) murder.master name message comes.streams comes.own ∙ ap (marks_made now) step;
  }

  -- its client is told of one turn, whatever UIDVALIDITY is given
  abbrev ToldAll : AnswerBody → Type 0
  ToldAll body = (at : At) → (serial : ℕ) × (answered fixed.master c.id c.was (waiting_at c at).waiting body
      ≡ told_turn (waiting_at c at) (turn_at store c.name c.work serial))

  tells_so : (body : AnswerBody) (serial : ℕ) → ToldAll body → TellsAtAnswer fixed.master c body (turn_at store c.name c.work serial)
  tells_so body serial told at =
      let one = told at in
      one.1 ∙ ap (λ (t : Turn). told_turn (waiting_at c at) t) (same_turn store c.name c.work one.0 serial)

  point_so : (later : Store) (counts : Counts) (body : AnswerBody) (serial : ℕ) → reply.counts ≡ Some counts
      → heard_move c.name flow it_is ≡ Some (ends flow body)
      → ManyHold (master_takes murder name message) (given ++ given_in murder.master.table name message) later
      → CarriesOut store later c.name c.work serial counts → ToldAll body
      → LineGoes fixed front conn broken now marks story tag c murder given name node message flow
  point_so later counts body serial are heard holds carries told = is_point (record {
    it = it_is;
    counts = counts;
    later = later;
    responds = responds_so (Some counts) (mark c.id counts ∷ []) are (line.outs (Some counts) are);
    then_holds = holds;
    carried = carried_so fixed front conn broken now marks story tag c is_open serial later counts here carries
        (record { body = body; its = of.its; front_is = of.front_is; ended = heard; tells = tells_so body serial told });
  })

  waits_so : reply.counts ≡ None → (stage : Stage) → flow.stage ≡ stage → IsNoEnd stage → GoesOnAtResponse c.name flow it_is
      → LineGoes fixed front conn broken now marks story tag c murder given name node message flow
  waits_so are stage at no_end goes = waits_on (record {
    it = it_is;
    responds = responds_so None [] are (line.outs None are);
    then_holds = line.nothing_done stage at no_end;
    knows = known_so fixed front conn broken now marks story tag c is_open here (of, goes);
  })

  seen_here : reply.counts ≡ Some IfAnswered → (stage : Stage) → flow.stage ≡ stage → IsNoEnd stage → GoesOnAtResponse c.name flow it_is
      → LineGoes fixed front conn broken now marks story tag c murder given name node message flow
  seen_here are stage at no_end goes = is_seen (record {
    it = it_is;
    responds = responds_so (Some IfAnswered) (mark c.id IfAnswered ∷ []) are
        (line.outs (Some IfAnswered) are);
    then_holds = line.nothing_done stage at no_end;
    seen = seen_so fixed front conn broken now marks story tag c is_open here (of, goes);
  })

  its_work : (stage : Stage) → flow.stage ≡ stage → c.work ≡ work_at stage
  its_work stage e = work_of of.kind stage c.work (subst (is_of_kind of.kind) e of.stage) of.does

  full_so : (heard : heard_move c.name flow it_is ≡ Some (ends flow (done Limit))) → reply.counts ≡ Some IfAnswered → flow.stage ≡ Making
      → is_full murder.master.table (record_at murder.master.table c.name) ≡ true
      → LineGoes fixed front conn broken now marks story tag c murder given name node message flow
  full_so heard are stage over =
      let makes = its_work Making stage in
      let it = activate_of_full murder given store c name node message rest flow comes makes stage over 0 in
      point_so store IfAnswered (done Limit) 0 are heard it.then_holds it.carries
      (λ at. (0, (activate_of_full murder given store (waiting_at c at) name node message rest flow (comes_at at) makes stage over 0).told fixed.master))

  goes_by : IsReplied murder.master.table node.flows.me c.name flow it_is reply
      → LineGoes fixed front conn broken now marks story tag c murder given name node message flow
  goes_by (name_reserved stage none is heard) = waits_so (ap (λ (r : Reply). r.counts) is) Reserving stage tt (sends_on (record flow { stage = Making }) heard)
  goes_by (was_reserved stage reserved is heard) = waits_so (ap (λ (r : Reply). r.counts) is) Reserving stage tt (puts_off heard)
  goes_by (was_active stage active is heard) =
      let makes = its_work Reserving stage in
      let there = reserve_of_one_there murder given store c name node message rest flow comes makes stage active in
      point_so store IfAnswered (done Exists) 0 (ap (λ (r : Reply). r.counts) is) heard (there.point 0).then_holds (there.point 0).carries
      (λ at. (let its = reserve_of_one_there murder given store (waiting_at c at) name node message rest flow (comes_at at) makes stage active in
      (0, (its.point 0).told fixed.master)))
  goes_by (serials_spent stage none spent is heard) = seen_here (ap (λ (r : Reply). r.counts) is) Reserving stage tt (puts_off heard)
  goes_by (table_full stage over is heard) = full_so heard (ap (λ (r : Reply). r.counts) is) stage over
  goes_by (name_activated stage room is heard) =
      let makes = its_work Making stage in
      let made = activate_creates murder given store c name node message rest flow comes makes stage room in
      point_so _ Always (done nothing) made.serial (ap (λ (r : Reply). r.counts) is) heard (made.point).then_holds (made.point).carries
      (λ at. (let its = activate_creates murder given store (waiting_at c at) name node message rest flow (comes_at at) makes stage room in
      (its.serial, (its.point).told fixed.master)))
  goes_by (name_closed stage is heard) =
      waits_so (ap (λ (r : Reply). r.counts) is) Deactivating stage tt (sends_on (record flow { stage = Deleting }) heard)
  goes_by (name_deleted stage is heard) =
      let deletes = its_work Deleting stage in
      let gone = delete_deletes murder given store c name node message rest flow comes deletes stage in
      point_so _ Always (done nothing) 0 (ap (λ (r : Reply). r.counts) is) heard (gone.point 0).then_holds (gone.point 0).carries
      (λ at. (let its = delete_deletes murder given store (waiting_at c at) name node message rest flow (comes_at at) deletes stage in
      (0, (its.point 0).told fixed.master)))

  goes : LineGoes fixed front conn broken now marks story tag c murder given name node message flow
  goes = goes_by line.taken.replied

pub each_line_goes : EachLineGoes
each_line_goes fixed front conn broken now marks story tag c murder given name node message rest flow is_open of comes =
    goes fixed front conn broken now marks story tag c murder given name node message rest flow is_open of comes
