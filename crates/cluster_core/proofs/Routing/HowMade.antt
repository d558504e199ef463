-- How each mark of a run was made: a step works on its command, or the frontend of its client tells it.
use Rattle.std.proofs.Common.{◌≡◌, ℕ, ◌+◌, false, List, [], ◌∷◌, ◌++◌, length, Option, None, Some, refl, sym, ◌∙◌, ap, subst, append_assoc, get_or}
use Rattle.std.specs.Prelude.{All}
use Rattle.std.proofs.lemmas.List.{append-nil}
use Rattle.std.proofs.lemmas.List.Elements.{All-append, All-nil}
use Rattle.front_core.specs.declared.connection.Connection.{Connection}
use Rattle.front_core.specs.Front.{connection_at, deliver}
use Rattle.front_core.specs.Ups.{is_up}
use Rattle.front_core.specs.declared.front.Front.{Front}
use Rattle.imap_types.specs.declared.op.Op.{Op}
use Rattle.imap_types.specs.declared.op.Op.TheVariants.{Create, Delete}
use Rattle.cluster_core.specs.Heard.{heard}
use Rattle.back_node.specs.Takes.{name_kind}
use Rattle.link_msg.specs.declared.counts.Counts.{Counts}
use Rattle.link_msg.specs.declared.how.How.{How}
use Rattle.link_msg.specs.declared.how.How.TheVariants.{Here, Unreached}
use Rattle.link_msg.specs.declared.message.LinkMsg.{LinkMsg}
use Rattle.link_msg.specs.declared.message.LinkMsg.TheVariants.{Up, End, Line, Ask, Answer}
use Rattle.link_msg.specs.declared.out.Out.{Out}
use Rattle.link_queue.specs.Links.{on_link}
use Rattle.mark_history.specs.declared.mark.Mark.{Mark}
use Rattle.mark_history.specs.declared.mark.MarkKind.TheVariants.{Home, Told}
use Rattle.mur_config.specs.declared.config.Config.{Config}
use Rattle.mur_config.specs.Nodes.{AreNodes}
use Rattle.node_step.specs.declared.input.NodeInput.{NodeInput}
use Rattle.node_step.specs.declared.input.NodeInput.TheVariants.{Opened, Piece, Hung, From}
use Rattle.node_step.specs.declared.node.NodeState.{NodeState}
use Rattle.node_step.specs.declared.node.NodeState.TheVariants as state
use Rattle.node_step.specs.NodeStep.{as_back, as_front, as_master, front_takes, takes as node_takes}
use Rattle.node_step.proofs.NodeKinds.{a_front}
use Rattle.schedule_text.specs.declared.event.Event.{Event}
use Rattle.schedule_text.specs.declared.event.Event.TheVariants.{Deliver}
use Rattle.back_node.specs.declared.node.BackNode.{BackNode}
use Rattle.master_core.specs.declared.master.Master.{Master}
use Rattle.cluster_core.specs.declared.world.World.{World}
use Rattle.cluster_core.specs.Flow.{run_steps}
use Rattle.cluster_core.specs.Headline.OneNode.{node_of, worker}
use Rattle.cluster_core.specs.Headline.Routing.{HasDown, IsAtItsNode, IsRefusedThere, IsStepOf, Taken, is_of_name}
use Rattle.cluster_core.specs.Headline.Routing.HasDown.{goes_down, was_down}
use Rattle.cluster_core.specs.Headline.Routing.IsStepOf.{at_home, at_master}
use Rattle.cluster_core.specs.World.{client_at, front_at, node_at, start, steps_by}
use Rattle.cluster_core.proofs.Links.StandLaw.{ups_in_order}
use Rattle.cluster_core.proofs.Runs.OneNodeLaw.{one_more_step}
use Rattle.cluster_core.proofs.Runs.OwnClientsLaw.{run_own, start_own}
use Rattle.cluster_core.proofs.Nodes.Carried.{marks_made}
use Rattle.cluster_core.proofs.Nodes.Comes.{IsOfClient}
use Rattle.cluster_core.proofs.OneServer.EachStep.{LawBehind}
use Rattle.cluster_core.proofs.OneServer.MarksGoOn.{steps_made}
use Rattle.cluster_core.proofs.Routing.Begun.{IsAlone}
use Rattle.cluster_core.proofs.Routing.FrontTells.{AnswersAlone}
use Rattle.cluster_core.proofs.Routing.NodeMarks.{MarkIs, marks_are, marks_now}
use Rattle.cluster_core.proofs.Routing.NodeMarks.MarkIs.{by_home, by_master, by_front}
use Rattle.cluster_core.proofs.Routing.StepMarks.{ComesBy, StepMarks, step_marks}
use Rattle.cluster_core.proofs.Routing.StepMarks.ComesBy.{a_message, of_client}
use Rattle.cluster_core.proofs.Routing.StepMarks.StepMarks.{no_marks, works}
use Rattle.cluster_core.proofs.Routing.Unreached.{IsDownMark, IsPlainAt, IsPlainFor, down_marks, ends_ups, ups_in}
use Rattle.cluster_core.proofs.Routing.Works.{answer_is_plain, backend_is}

-- a frontend answered the command alone, in this step
pub record IsToldAlone (config : Config) (steps : List Event) (made : Mark) : Type 0 where
  pub at : IsAtItsNode config steps (made.ask).conn made.step
  pub alone : IsAlone (run_steps (start config) at.before) made.ask

pub data IsMadeSo (config : Config) (steps : List Event) (made : Mark) : Type 0 where
  is_taken : (counts : Counts) → made.kind ≡ Home counts → (taken : Taken config steps) → IsStepOf config steps made.ask taken
      → made.step ≡ length taken.before + 1 → IsMadeSo config steps made
  is_told : (how : How) → made.kind ≡ Told how → (how ≡ Here → IsToldAlone config steps made)
      → ((node : List ℕ) → how ≡ Unreached node → IsRefusedThere config steps (made.ask).conn made.step node) → IsMadeSo config steps made

no_name : (op : Op) → name_kind op ≡ None → is_of_name op ≡ false
unfolding is_of_name
no_name Create e = cc
no_name Delete e = cc
no_name op e = refl

home_there : (found : Option NodeState) (home : BackNode) → found ≡ Some (state.Back home) → as_back found ≡ Some home
unfolding as_back
home_there found home e = ap as_back e

master_there : (found : Option NodeState) (master : Master) → found ≡ Some (state.Master master) → as_master found ≡ Some master
unfolding as_master
master_there found master e = ap as_master e

same_input : {from name : List ℕ} {one other : LinkMsg} → From from one ≡ From name other → one ≡ other
same_input e = cc

-- no mark is there
abbrev HasNoMarks : World → Type 0
HasNoMarks world = world.marks ≡ []

module _ (config : Config) (are : AreNodes config.nodes) (steps : List Event) where
  -- what a node marks in a step
  module _ (before : List Event) (event : Event) (later : List Event) (parts : steps ≡ before ++ event ∷ later) (law : LawBehind config before)
      (node : List ℕ) (it : NodeState) (there : node_at (run_steps (start config) before) node ≡ Some it) where
    abbrev world : World
    world = run_steps (start config) before

    abbrev taken_so : (from : List ℕ) (message : LinkMsg) (rest : List LinkMsg) → event ≡ Deliver from node → on_link world.links from node ≡ message ∷ rest
        → Taken config steps
    taken_so from message rest is first = record {
      before = before;
      from = from;
      to = node;
      later = later;
      parts = parts ∙ ap (λ (e : Event). before ++ e ∷ later) is;
      message = message;
      rest = rest;
      comes = first;
    }

    worker_is : (input : NodeInput) → ComesBy world event node input → worker world event ≡ Some node
    worker_is _ (a_message from message rest is first) = ap (worker world) is
    worker_is _ (of_client input at of) = at

    front_is_there : (front : Front) → it ≡ state.Front front → front_at world node ≡ Some front
    front_is_there front is = ap as_front (there ∙ ap (λ i. Some i) is) ∙ a_front front

    -- the world behind the step
    abbrev behind : World
    behind = run_steps (start config) (before ++ event ∷ [])

    behind_end : (front : Front) (name : List ℕ) → as_front (Some (node_takes (state.Front front) (From name End)).state) ≡ Some (deliver front name End).front
    unfolding node_takes front_takes as_front
    behind_end front name = refl

    -- a frontend has a link as down before the step, or where it takes its End behind it
    down_by : (front : Front) (input : NodeInput) → it ≡ state.Front front → node_at behind node ≡ Some (node_takes it input).state → (other : List ℕ)
        → is_up (ups_in front input) other ≡ false → HasDown world behind node other
    down_by front (From name End) is then other down =
        goes_down (deliver front name End).front
        (ap as_front then ∙ ap (λ i. as_front (Some (node_takes i (From name End)).state)) is ∙ behind_end front name)
        (ap (λ u. is_up u other) (ends_ups front name) ∙ down)
    down_by front (From name Up) is then other down = was_down front (front_is_there front is) down
    down_by front (From name (Line line)) is then other down = was_down front (front_is_there front is) down
    down_by front (From name (Ask ask)) is then other down = was_down front (front_is_there front is) down
    down_by front (From name (Answer answer)) is then other down = was_down front (front_is_there front is) down
    down_by front (Opened conn) is then other down = was_down front (front_is_there front is) down
    down_by front (Piece conn bytes) is then other down = was_down front (front_is_there front is) down
    down_by front (Hung conn) is then other down = was_down front (front_is_there front is) down

    mark_is : (made : Mark) (input : NodeInput) → ComesBy world event node input → node_at behind node ≡ Some (node_takes it input).state
        → made.step ≡ length before + 1 → IsDownMark it input made → MarkIs it input made → IsMadeSo config steps made
    mark_is made _ (a_message from message rest is first) then step down (by_home home name ask counts at same none its kind) =
        is_taken counts kind (taken_so from message rest is first)
        (at_home ask (same_input same) (sym its) (no_name ask.op none)
        (backend_is config (λ conn. heard config conn before) world are law node home
        (home_there (node_at world node) home (there ∙ ap (λ i. Some i) at)))) step
    mark_is made _ (a_message from message rest is first) then step down (by_master master name line counts at same its kind) =
        is_taken counts kind (taken_so from message rest is first)
        (at_master line (same_input same) its
        (law.nodes.only node master (master_there (node_at world node) master (there ∙ ap (λ i. Some i) at)))) step
    mark_is made _ (of_client input comes of) then step down (by_home home name ask counts at same none its kind) = absurd (subst IsOfClient same of)
    mark_is made _ (of_client input comes of) then step down (by_master master name line counts at same its kind) = absurd (subst IsOfClient same of)
    mark_is made input comes then step down (by_front front how at kind so refuses) =
        is_told how kind (λ here. told_alone (so here))
        (λ other unreached.
        let has = refuses other unreached in
        record {
          at = its_node has.connection has.at;
          down = down_by front input at then other (subst (λ i. IsDownMark i input made) at down other (kind ∙ ap Told unreached));
        })
      where
        is_front : node_at world node ≡ Some (state.Front front)
        is_front = there ∙ ap (λ i. Some i) at

        its_client : (connection : Connection) → connection_at front (made.ask).conn ≡ Some connection → node_of (client_at world (made.ask).conn) ≡ Some node
        its_client connection has = run_own (start config) before (start_own config) node (state.Front front) is_front (made.ask).conn connection has

        its_node : (connection : Connection) → connection_at front (made.ask).conn ≡ Some connection → IsAtItsNode config steps (made.ask).conn made.step
        its_node connection has = record {
          before = before;
          event = event;
          later = later;
          parts = parts;
          step_is = step;
          node = node;
          client = its_client connection has;
          works = worker_is input comes;
        }

        told_alone : AnswersAlone front made.ask → IsToldAlone config steps made
        told_alone alone =
            record {
              at = its_node alone.connection alone.at;
              alone = record { node = node; front = front; at = is_front; client = its_client alone.connection alone.at; alone = alone };
            }

    -- what comes to it is plain
    plain_at : (front : Front) (input : NodeInput) → it ≡ state.Front front → ComesBy world event node input → IsPlainAt front input
    plain_at front _ same (a_message from (Answer answer) rest is first) =
        answer_is_plain config (λ conn. heard config conn before) world law from node answer rest first
    plain_at front _ same (a_message from End rest is first) = ups_in_order config before are node front (front_is_there front same)
    plain_at front _ same (a_message from Up rest is first) = tt
    plain_at front _ same (a_message from (Line line) rest is first) = tt
    plain_at front _ same (a_message from (Ask ask) rest is first) = tt
    plain_at front _ same (of_client (Opened conn) comes of) = tt
    plain_at front _ same (of_client (Piece conn bytes) comes of) = tt
    plain_at front _ same (of_client (Hung conn) comes of) = tt
    plain_at front _ same (of_client (From name message) comes of) = absurd of

    plain_by : (own : NodeState) (input : NodeInput) → it ≡ own → ComesBy world event node input → IsPlainFor own input
    plain_by (state.Front front) input same comes = plain_at front input same comes
    plain_by (state.Back home) input same comes = tt
    plain_by (state.Master master) input same comes = tt

    plain : (input : NodeInput) → ComesBy world event node input → IsPlainFor it input
    plain input comes = plain_by it input refl comes

  abbrev AllMade : List Mark → Type 0
  AllMade marks = All (IsMadeSo config steps) marks

  after_step : (before : List Event) (event : Event) (later : List Event) → steps ≡ before ++ event ∷ later → LawBehind config before → (next : World)
      → run_steps (start config) (before ++ event ∷ []) ≡ next → StepMarks (run_steps (start config) before) event next
      → AllMade (run_steps (start config) before).marks → AllMade next.marks
  after_step before event later parts law next same (no_marks none) all = subst AllMade (sym none) all
  after_step before event later parts law next same (works node it input there comes then more) all =
      let now : ℕ = (run_steps (start config) before).steps + 1 in
      let outs : List Out = (node_takes it input).outs in
      subst AllMade (sym more)
      (All-append (IsMadeSo config steps) (run_steps (start config) before).marks (marks_made now outs) all
      (λ k d h. mark_is before event later parts law node it there (get_or (marks_made now outs) k d) input comes
      (ap (λ w. node_at w node) same ∙ then)
      (marks_now now outs k d h ∙ ap (λ n. n + 1) (steps_made config before))
      (down_marks now it input (plain before event later parts law node it there input comes) k d h) (marks_are now it input k d h)))

  module _ (laws : (before later : List Event) → steps ≡ before ++ later → LawBehind config before) where
    one_more : (before : List Event) (event : Event) (later : List Event) → steps ≡ before ++ event ∷ later → AllMade (run_steps (start config) before).marks
        → AllMade (run_steps (start config) (before ++ event ∷ [])).marks
    one_more before event later parts all =
        let law = laws before (event ∷ later) parts in
        subst (λ (w : World). AllMade w.marks) (sym (one_more_step (start config) before event))
        (after_step before event later parts law (steps_by (run_steps (start config) before) event) (one_more_step (start config) before event)
        (step_marks (run_steps (start config) before) event) all)

    made_from : (before later : List Event) → steps ≡ before ++ later → AllMade (run_steps (start config) before).marks
        → AllMade (run_steps (start config) steps).marks
    made_from before [] parts all = subst (λ s. AllMade (run_steps (start config) s).marks) (sym (parts ∙ append-nil before)) all
    made_from before (event ∷ later) parts all =
        made_from (before ++ event ∷ []) later (parts ∙ sym (append_assoc before (event ∷ []) later)) (one_more before event later parts all)

    none_at_first : (first : World) → HasNoMarks first → AllMade (run_steps first []).marks
    unfolding run_steps
    none_at_first first none = subst AllMade (sym none) (All-nil (IsMadeSo config steps))

    -- each mark of the run was made so
    pub all_made : HasNoMarks (start config) → AllMade (run_steps (start config) steps).marks
    all_made none = made_from [] steps refl (none_at_first (start config) none)
