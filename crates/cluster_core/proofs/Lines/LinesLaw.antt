-- A backend sends RESERVE and DEACTIVATE only as it was asked: while an ask waits for the end of a resync, the backend says nothing of its command.
use Rattle.std.proofs.Common.{◌≡◌, ◌⊎◌, inl, inr, ℕ, true, nat_eq, is_some, List, [], ◌∷◌, ◌++◌, Some, refl, sym, ap, subst, ◌∙◌, append_assoc}
use Rattle.std.specs.List.{list_any}
use Rattle.std.specs.Cmp.Lexicographic.{pointwise}
use Rattle.back_node.specs.declared.node.BackNode.{BackNode}
use Rattle.back_node.specs.Takes.{node_takes}
use Rattle.imap_talk.specs.Heard.{Heard, nobody}
use Rattle.imap_talk.specs.Transcript.{Stop}
use Rattle.imap_types.specs.declared.op.Op.{Op}
use Rattle.link_msg.specs.declared.message.LinkMsg.{LinkMsg}
use Rattle.link_msg.specs.declared.message.LinkMsg.TheVariants.{Line}
use Rattle.mark_history.specs.Marked.{Tale}
use Rattle.mupdate_codec.specs.Whole.{command_in}
use Rattle.mur_base.specs.declared.point.AskId.{AskId}
use Rattle.mur_config.specs.declared.config.Config.{Config}
use Rattle.mur_config.specs.declared.node.Kind.{Kind}
use Rattle.mur_config.specs.declared.node.Kind.TheVariants.{Backend}
use Rattle.mur_config.specs.Nodes.{AreNodes, is_node_of_kind, is_of_kind}
use Rattle.name_flows.specs.declared.ask.NameAsk.{NameAsk}
use Rattle.schedule_text.specs.declared.event.Event.{Event}
use Rattle.cluster_core.specs.declared.world.World.{World}
use Rattle.cluster_core.specs.Flow.{run_steps, steps_of_run}
use Rattle.cluster_core.specs.Heard.{heard, heard_from}
use Rattle.cluster_core.specs.Headline.Backends.{IsBackend}
use Rattle.cluster_core.specs.Headline.Lines.{AreOfOthers, BeginsAsAsked, BeginsOnlyAsAsked, HasToBegin, Sends, TakesAsk, begun_by, HasToBegin as has_to}
use Rattle.cluster_core.specs.Numbers.{NumbersFitAll}
use Rattle.cluster_core.specs.World.{backends_of, home_at, start, steps_by}
use Rattle.cluster_core.proofs.Commands.Standing.{Fixed}
use Rattle.cluster_core.proofs.Connections.KeepsLaw.{ConnectionIs, IsUntold, KeepsLaw, fixed_of, is_closed, is_cut_off, is_elsewhere, is_nobody, is_open}
use Rattle.cluster_core.proofs.Keeps.Numbers.{asked_fit}
use Rattle.cluster_core.proofs.Lines.AtNode.{IsAtNode, at_node, rests, works}
use Rattle.cluster_core.proofs.Lines.OneStep.{HasWaiting, IsForOne, WaitedOrTaken, WaitsStill, for_taken, for_waited, it_comes, it_waited, line_tells}
use Rattle.cluster_core.proofs.Lines.OneStep.{none_of_others, waits_still}
use Rattle.cluster_core.proofs.Lines.Says.{not_empty, op_of}
use Rattle.cluster_core.proofs.OneServer.EachStep.{EachKeeps, LawBehind, kept_all, kept_behind}
use Rattle.cluster_core.proofs.Points.Waits.{AskedFit}
use Rattle.cluster_core.proofs.Routing.Makes.{has_home}
use Rattle.cluster_core.proofs.Runs.OneNodeLaw.{one_more_step}
use Rattle.cluster_core.proofs.Starts.Kinds.{backend_named, is_backend_node}

-- a backend of the configuration is one in each world
module _ (config : Config) (are : AreNodes config.nodes) (came : ℕ → Heard) (world : World) (law : KeepsLaw config came world) (node : List ℕ) where
  is_home : is_some (home_at world node) ≡ list_any (pointwise nat_eq node) (backends_of config.nodes)
  is_home = law.nodes.homes node ∙ ap (λ (names : List (List ℕ)). list_any (pointwise nat_eq node) names) law.nodes.backends

  of_kind : (kind : Kind) → kind ≡ Backend → is_of_kind Backend kind ≡ true
  unfolding is_of_kind
  of_kind Backend e = refl
  of_kind kind e = cc

  backend_there : IsBackend config node → is_some (home_at world node) ≡ true
  unfolding is_node_of_kind
  backend_there is =
      is_home ∙ sym (backend_named node config.nodes are.names) ∙ ap is_backend_node is.at ∙ of_kind is.node.kind is.kind

same_home : (one other : BackNode) → Some one ≡ Some other → one ≡ other
same_home one other e = cc

-- each ask that waits at a backend is of a command that it has still to begin
abbrev HaveToBegin : Config → List Event → Type 0
HaveToBegin config steps = (node : List ℕ) (home : BackNode) → home_at (run_steps (start config) steps) node ≡ Some home → (conn : ℕ) (ask : NameAsk)
    → HasWaiting home conn ask → HasToBegin config node (op_of ask.kind) ask.id steps

nobody_is : (fixed : Fixed) (conn : ℕ) (world : World) (story : Tale) (stop : Stop) (came : Heard) → came ≡ nobody
    → ConnectionIs fixed conn world story stop came → IsUntold fixed conn world story
nobody_is fixed conn world story _ _ e (is_nobody none nowhere untold) = untold
nobody_is fixed conn world story _ _ e (is_elsewhere node given at none untold) = untold
nobody_is fixed conn world story _ _ e (is_open bytes node front connection at begun standing) = cc
nobody_is fixed conn world story _ _ e (is_cut_off bytes node front connection at gone unanswered) = cc
nobody_is fixed conn world story _ _ e (is_closed stop bytes node front connection at gone) = cc

-- at the start none waits
none_waits : (config : Config) → LawBehind config [] → HaveToBegin config []
unfolding heard_from
none_waits config law node home there conn ask waiting =
    let untold = nobody_is (fixed_of config) conn (run_steps (start config) []) law.story (law.stops conn) (heard config conn []) refl (law.connections conn) in
    let no : ask ∷ [] ≡ [] = sym waiting ∙ (untold.nothing.shows node home there).at.waiting in cc

module _ (config : Config) (are : AreNodes config.nodes) (steps : List Event) (fit : NumbersFitAll config steps) (each : EachKeeps config steps) where
  law_at : (before later : List Event) → steps ≡ before ++ later → LawBehind config before
  law_at before later parts = ((kept_all config steps each).at before later parts).law

  module _ (before : List Event) (event : Event) (later : List Event) (parts : steps ≡ before ++ event ∷ later) (waiting : HaveToBegin config before) where
    abbrev world : World
    world = run_steps (start config) before

    law : LawBehind config before
    law = law_at before (event ∷ later) parts

    abbrev came : ℕ → Heard
    came = λ conn. heard config conn before

    fits_so : AskedFit world law.story
    fits_so = asked_fit config came world law (fit before (event ∷ later) parts)

    law_then : LawBehind config (before ++ event ∷ [])
    law_then = law_at (before ++ event ∷ []) later (parts ∙ sym (append_assoc before (event ∷ []) later))

    home_before : (node : List ℕ) (home : BackNode) → home_at (run_steps (start config) (before ++ event ∷ [])) node ≡ Some home
        → (was : BackNode) × (home_at world node ≡ Some was)
    home_before node home there =
        has_home (home_at world node)
        (is_home config are came world law node
        ∙ sym (is_home config are (λ conn. heard config conn (before ++ event ∷ [])) (run_steps (start config) (before ++ event ∷ [])) law_then node)
        ∙ ap is_some there)

    -- ---- what waits behind the step

    module _ (node : List ℕ) (was : BackNode) (there : home_at world node ≡ Some was) (conn : ℕ) (ask : NameAsk) where
      it_waits : WaitsStill world event node was conn ask → HasToBegin config node (op_of ask.kind) ask.id (before ++ event ∷ [])
      it_waits still = by still.since
        where
          by : WaitedOrTaken world event node was conn ask → HasToBegin config node (op_of ask.kind) ask.id (before ++ event ∷ [])
          by (it_waited so) = has_to.waits before event (waiting node was there conn ask so) still.says
          by (it_comes takes) = has_to.is_asked before event takes still.says

      still_waits : (home : BackNode) → home_at (steps_by world event) node ≡ Some home → HasWaiting home conn ask → IsAtNode world event node was
          → HasToBegin config node (op_of ask.kind) ask.id (before ++ event ∷ [])
      still_waits home then e (rests own all) =
          it_waits (record {
            since = it_waited (subst (λ (h : BackNode). HasWaiting h conn ask) (sym (same_home was home (sym own ∙ then))) e);
            says = λ to sent sends. subst (AreOfOthers ask.id) (sym (all to sent sends)) (none_of_others ask.id);
          })
      still_waits home then e (works from message rest is first own all) =
          it_waits (waits_still config came world law fits_so node was there from message rest first event is all conn ask
          (subst (λ (h : BackNode). HasWaiting h conn ask) (sym (same_home (node_takes was from message).state home (sym own ∙ then))) e))

    waits_on : HaveToBegin config (before ++ event ∷ [])
    waits_on node home then conn ask e =
        let was = home_before node home then in
        still_waits node was.0 was.1 conn ask home (subst (λ (w : World). home_at w node ≡ Some home) (one_more_step (start config) before event) then) e
        (at_node world node was.0 was.1 event)

    -- ---- a line that begins something

    module _ (node : List ℕ) (home : BackNode) (there : home_at world node ≡ Some home) (to : List ℕ) (ahead : List LinkMsg) (line : List ℕ)
        (behind_it : List LinkMsg) (sends : Sends world event node to (ahead ++ Line line ∷ behind_it)) (for_this : Op)
        (begins : begun_by (command_in line) ≡ Some for_this) where
      as_asked : (id : AskId) → IsForOne world event node home for_this id → TakesAsk world event node for_this id ⊎ HasToBegin config node for_this id before
      as_asked id (for_taken takes) = inl takes
      as_asked id (for_waited ask before_it own op_is) =
          inr (subst (λ o. HasToBegin config node o id before) op_is
          (subst (λ i. HasToBegin config node (op_of ask.kind) i before) own (waiting node home there id.conn ask before_it)))

      begins_by : IsAtNode world event node home → BeginsAsAsked config before event node to line (ahead ++ behind_it) for_this
      begins_by (rests own all) = absurd (not_empty ahead behind_it (Line line) (all to (ahead ++ Line line ∷ behind_it) sends))
      begins_by (works from message rest is first own all) =
          let tells =
          line_tells config came world law fits_so node home there from message rest first event is all to ahead line behind_it sends for_this begins in
          record { id = tells.id; tag = tells.tag; asked = as_asked tells.id tells.its; only = tells.only; elsewhere = tells.elsewhere }

      begins_so : BeginsAsAsked config before event node to line (ahead ++ behind_it) for_this
      begins_so = begins_by (at_node world node home there event)

  -- what waits, behind each step
  waiting_at : (before later : List Event) → steps ≡ before ++ later → HaveToBegin config before
  waiting_at before later parts =
      kept_behind config steps (λ some. (more : List Event) → steps ≡ some ++ more → HaveToBegin config some) each
      (λ more e. none_waits config each.first)
      (λ some event law waits more e.
      (let so : steps ≡ some ++ event ∷ more = e ∙ append_assoc some (event ∷ []) more in waits_on some event more so (waits (event ∷ more) so)))
      before later parts later parts

-- A BACKEND BEGINS ONLY WHAT IT WAS ASKED FOR
pub begins_only_as_asked : (config : Config) (events : List Event) → AreNodes config.nodes → NumbersFitAll config (steps_of_run config events)
    → EachKeeps config (steps_of_run config events) → BeginsOnlyAsAsked config events
begins_only_as_asked config events are fit each before event later parts node is to ahead line behind_it sends for_this begins =
    let steps = steps_of_run config events in
    let law = law_at config are steps fit each before (event ∷ later) parts in
    let its = has_home (home_at (run_steps (start config) before) node)
    (backend_there config are (λ conn. heard config conn before) (run_steps (start config) before) law node is) in
    begins_so config are steps fit each before event later parts (waiting_at config are steps fit each before (event ∷ later) parts) node its.0 its.1 to ahead
    line behind_it sends for_this begins
