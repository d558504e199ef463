-- HOW THE LINKS OF A RUN STAND, after whatever steps.
use Rattle.std.proofs.Common.{◌≡◌, ◌≢◌, ◌⊎◌, inl, inr, ℕ, ◌&&◌, ◌||◌, Bool, true, false, nat_eq, cond, List, [], ◌∷◌, ◌++◌, drop, take, Option, None, Some, refl, sym, ◌∙◌, ap, subst, append_assoc}
use Rattle.std.specs.List.{list_any, AllByRecursion}
use Rattle.std.specs.List.Sorted.{IsStrictlySortedBy}
use Rattle.std.specs.Ordering.{nat_cmp, is_eq}
use Rattle.std.specs.Cmp.Lexicographic.{pointwise, slice_cmp}
use Rattle.std.proofs.Math.Logic.{⊎_elim}
use Rattle.std.proofs.lemmas.Cmp.{nat_list_cmp_total}
use Rattle.std.proofs.lemmas.List.{append-nil}
use Rattle.std.proofs.lemmas.Option.{same_Some}
use Rattle.back_node.specs.declared.node.BackNode.{BackNode}
use Rattle.feed_links.proofs.Names.{order_kept}
use Rattle.feed_links.specs.Lines.{HasStreams, stream_of}
use Rattle.front_core.specs.declared.front.Front.{Front}
use Rattle.front_core.specs.Front.{awaited, connection_at, new_front, noting}
use Rattle.front_core.specs.Ups.{Ups, coming_up, going_down, is_up}
use Rattle.front_core.proofs.UpsLaws.{down_goes, others_coming, others_going}
use Rattle.front_core.proofs.WaitsUp.{WaitUp, awaited_up, bytes_stay, connect_stays, hang_stays, message_stays, none_waits}
use Rattle.link_msg.specs.declared.message.LinkMsg.{LinkMsg}
use Rattle.link_msg.specs.declared.message.LinkMsg.TheVariants.{Up, End, Line, Ask, Answer}
use Rattle.link_queue.specs.Broken.{breaking, is_broken, mending}
use Rattle.link_queue.specs.Links.{Links, on_link, same_link, without_first}
use Rattle.link_queue.proofs.BrokenLaws.{none_broken}
use Rattle.link_queue.proofs.Wires.{on_link-taken, same_itself, same_names}
use Rattle.master_core.specs.Boot.{booted}
use Rattle.master_core.specs.Linked.{node_says}
use Rattle.master_core.specs.declared.master.Master.{Master}
use Rattle.mupdate_codec.specs.declared.tag.Tag.{Tag}
use Rattle.mur_base.specs.Map.{IsInOrder, value_at, with_value}
use Rattle.mur_base.proofs.MapLaws.{names_apart, same_or_other, value_at-with_value, value_at-with_value-other}
use Rattle.mur_base.proofs.MapOrder.{with_entry-in_order}
use Rattle.mur_config.specs.declared.config.Config.{Config}
use Rattle.mur_config.specs.declared.node.Link.{Link}
use Rattle.mur_config.specs.declared.node.Node.{Node}
use Rattle.mur_config.specs.Nodes.{AreNodes, links_of, node_named}
use Rattle.node_step.specs.declared.input.NodeInput.{NodeInput}
use Rattle.node_step.specs.declared.input.NodeInput.TheVariants.{Opened, Piece, Hung, From}
use Rattle.node_step.specs.declared.node.NodeState.{NodeState}
use Rattle.node_step.specs.declared.node.NodeState.TheVariants as state
use Rattle.node_step.specs.NodeStep.{Acted, as_front, as_master, back_takes, front_takes, master_takes, takes as node_takes}
use Rattle.node_step.proofs.NodeKinds.{a_front, back_no_front, front_is, master_is}
use Rattle.schedule_text.specs.declared.event.Event.{Event}
use Rattle.schedule_text.specs.declared.event.Event.TheVariants.{Open, Data, Hang, Deliver, Cut, Join}
use Rattle.cluster_core.specs.declared.world.Client.{Client}
use Rattle.cluster_core.specs.declared.world.World.{World}
use Rattle.cluster_core.specs.Flow.{run_steps}
use Rattle.cluster_core.specs.Headline.OneNode.{OnlyLinksChange, are_both, relinks}
use Rattle.cluster_core.specs.Headline.OneStore.{HasCut}
use Rattle.cluster_core.specs.World.{acts, backends_of, client_at, client_does, comes_to, cuts_if, deliver_first, front_at, joins_if, master_at, master_of, may_cut, may_join, no_world, node_at, not_lost, opens, start, stepped, steps_by}
use Rattle.cluster_core.specs.World.{taken_from_link, takes, told_up, with_acted, with_client, with_cut, with_join, with_nodes, with_ups}
use Rattle.cluster_core.proofs.Feeds.Beside.{no_one}
use Rattle.cluster_core.proofs.Links.Stand.{IsDown, IsOver, LinksStand}
use Rattle.cluster_core.proofs.Links.Stand.IsDown.{is_ending, has_ended}
use Rattle.cluster_core.proofs.Links.Stand.IsOver.{is_over, over_soon}
use Rattle.cluster_core.proofs.Links.Streams.{IsNotFrom, order_stays, stream_ends, streams_stay}
use Rattle.cluster_core.proofs.Nodes.Comes.{a_master, master_does}
use Rattle.cluster_core.proofs.Nodes.Known.{front_self}
use Rattle.cluster_core.proofs.Nodes.LinksUp.{up_if, ups_on}
use Rattle.cluster_core.proofs.Runs.NeverMoved.{WorldIsQuiet, may_join_broken, never_moved, some_break, some_mend, start_quiet, step_quiet}
use Rattle.cluster_core.proofs.Runs.OneNodeLaw.{carry_all_sends, comes_broken, comes_lost, cut_works, join_works, one_more_step, same_broken}
use Rattle.cluster_core.proofs.Runs.QuietNodes.{IsQuiet}
use Rattle.cluster_core.proofs.Starts.Begins.{Starts, first_front, first_master, master_starts, starts}
use Rattle.cluster_core.proofs.Starts.Begins.Starts.{is_front, is_home, is_silent}
use Rattle.cluster_core.proofs.Starts.Fresh.{fresh_empty}

-- ---- as long as no step cuts a link, none is broken

-- this step cuts one
record Cuts (world : World) (event : Event) : Type 0 where
  one : List ℕ
  other : List ℕ
  kept : ℕ
  kept_back : ℕ
  is : event ≡ Cut one other kept kept_back
  may : may_cut world one other ≡ true

cuts_by : (world : World) (event : Event) → world.broken ≡ [] → relinks world event ≡ true → Cuts world event
cuts_by world (Cut one other kept kept_back) whole may =
    record { one = one; other = other; kept = kept; kept_back = kept_back; is = refl; may = may }
cuts_by world (Join one other) whole may =
    absurd (let no : false ≡ true = sym (none_broken one other) ∙ ap (λ b. is_broken b one other) (sym whole) ∙ may_join_broken world one other may in cc)
cuts_by world event whole may = cc

step_uncut : (world : World) (event : Event) (relinked : Bool) → relinks world event ≡ relinked → world.broken ≡ []
    → Cuts world event ⊎ ((steps_by world event).broken ≡ [])
step_uncut world event true e whole = inl (cuts_by world event whole e)
step_uncut world event false e whole = inr (same_broken world event e ∙ whole)

-- behind steps before these
steps_uncut : (config : Config) (before steps : List Event) → (run_steps (start config) before).broken ≡ []
    → HasCut config (before ++ steps) ⊎ ((run_steps (run_steps (start config) before) steps).broken ≡ [])
unfolding run_steps
steps_uncut config before [] whole = inr whole
steps_uncut config before (event ∷ steps) whole =
    let world : World = run_steps (start config) before in
    ⊎_elim
    (λ (cuts : Cuts world event). inl (record {
      before = before;
      one = cuts.one;
      other = cuts.other;
      kept = cuts.kept;
      kept_back = cuts.kept_back;
      later = steps;
      parts = ap (λ e. before ++ e ∷ steps) cuts.is;
      may = cuts.may;
    }))
    (λ (whole_then : (steps_by world event).broken ≡ []).
    (let there : steps_by world event ≡ run_steps (start config) (before ++ event ∷ []) = sym (one_more_step (start config) before event) in
    let later = steps_uncut config (before ++ event ∷ []) steps (ap (λ (w : World). w.broken) (sym there) ∙ whole_then) in
    subst (λ w. HasCut config (before ++ event ∷ steps) ⊎ ((run_steps w steps).broken ≡ [])) (sym there)
    (subst (λ l. HasCut config l ⊎ ((run_steps (run_steps (start config) (before ++ event ∷ [])) steps).broken ≡ [])) (append_assoc before (event ∷ []) steps)
    later)))
    (step_uncut world event (relinks world event) refl whole)

ups_whole : (world : World) (links : List Link) → world.broken ≡ [] → (with_ups world links).broken ≡ []
unfolding with_ups
ups_whole world [] whole = whole
ups_whole world (link ∷ links) whole =
    ups_whole (told_up world link) links (comes_broken world link.to (From link.from Up) (node_at world link.to) ∙ whole)

start_whole : (config : Config) → (start config).broken ≡ []
unfolding start
start_whole config = ups_whole (with_nodes config no_world config.nodes) (links_of config.nodes) (fresh_empty config).broken

pub uncut : (config : Config) (steps : List Event) → HasCut config steps ⊎ ((run_steps (start config) steps).broken ≡ [])
unfolding run_steps
uncut config steps = steps_uncut config [] steps (start_whole config)

-- ---- what a step makes of a frontend

-- which links are up behind what comes
abbrev noted : Ups → NodeInput → Ups
noted ups (From name Up) = coming_up ups name
noted ups (From name End) = going_down ups name
noted ups input = ups

-- what a frontend is that took this
record Took (input : NodeInput) (was now : Front) : Type 0 where
  ups : now.ups ≡ noted was.ups input
  wait : WaitUp now
  master : now.master ≡ was.master

noted_so : (front : Front) (from : List ℕ) (message : LinkMsg) → (noting front from message).ups ≡ noted front.ups (From from message)
unfolding noting
noted_so front from Up = refl
noted_so front from End = refl
noted_so front from (Line bytes) = refl
noted_so front from (Ask ask) = refl
noted_so front from (Answer answer) = refl

-- a frontend in whatever state takes it
abbrev TookAs : NodeInput → Front → NodeState → Type 0
TookAs input was (state.Front now) = Took input was now
TookAs input was (state.Back home) = ⊥
TookAs input was (state.Master master) = ⊥

front_took : (front : Front) (input : NodeInput) → WaitUp front → TookAs input front (front_takes front input).state
unfolding front_takes
front_took front (Opened conn) wait =
    let is = connect_stays front wait conn in record { ups = is.ups; wait = is.wait; master = (front_self front (Opened conn)).master }
front_took front (Piece conn bytes) wait =
    let is = bytes_stay front wait conn bytes in record { ups = is.ups; wait = is.wait; master = (front_self front (Piece conn bytes)).master }
front_took front (Hung conn) wait =
    let is = hang_stays front wait conn in record { ups = is.ups; wait = is.wait; master = (front_self front (Hung conn)).master }
front_took front (From name message) wait =
    let is = message_stays front name message wait in
    record { ups = is.ups ∙ noted_so front name message; wait = is.wait; master = (front_self front (From name message)).master }

-- ---- what a frontend of a run is

-- what its commands wait for is up
record FrontIs (config : Config) (front : Front) : Type 0 where
  wait : WaitUp front
  order : IsInOrder (slice_cmp nat_cmp) front.ups
  master_is : front.master ≡ master_of config

noted_order : (ups : Ups) (input : NodeInput) → IsInOrder (slice_cmp nat_cmp) ups → IsInOrder (slice_cmp nat_cmp) (noted ups input)
noted_order ups (From name Up) order = with_entry-in_order (slice_cmp nat_cmp) nat_list_cmp_total ups name tt order
noted_order ups (From name End) order = order_kept name ups order
noted_order ups (From name (Line bytes)) order = order
noted_order ups (From name (Ask ask)) order = order
noted_order ups (From name (Answer answer)) order = order
noted_order ups (Opened conn) order = order
noted_order ups (Piece conn bytes) order = order
noted_order ups (Hung conn) order = order

took_is : (config : Config) (input : NodeInput) (was now : Front) → FrontIs config was → Took input was now → FrontIs config now
took_is config input was now is took = record {
  wait = took.wait;
  order = subst (IsInOrder (slice_cmp nat_cmp)) (sym took.ups) (noted_order was.ups input is.order);
  master_is = took.master ∙ is.master_is;
}

-- ---- a world

abbrev FrontsAre : Config → World → Type 0
FrontsAre config world = (node : List ℕ) (front : Front) → front_at world node ≡ Some front → FrontIs config front

abbrev AreDown : World → Type 0
AreDown world = (node server : List ℕ) (front : Front) → front_at world node ≡ Some front → is_broken world.broken server node ≡ true
    → IsDown (on_link world.links server node) (is_up front.ups server)

-- whom a frontend asks
abbrev IsAsked : Config → List ℕ → Type 0
IsAsked config server = (list_any (pointwise nat_eq server) (backends_of config.nodes) ≡ true) ⊎ (server ≡ master_of config)

abbrev AreAllUp : Config → World → Type 0
AreAllUp config world = world.broken ≡ [] → (node server : List ℕ) (front : Front) → front_at world node ≡ Some front → IsAsked config server
    → is_up front.ups server ≡ true

-- streams of nodes whose links to the master are broken
abbrev AreOver : Config → World → Type 0
AreOver config world = (node : List ℕ) (front : Front) (master : Master) → front_at world node ≡ Some front → master_at world (master_of config) ≡ Some master
    → is_broken world.broken node (master_of config) ≡ true → IsOver (on_link world.links node (master_of config)) (stream_of master node)

abbrev AreOrdered : Config → World → Type 0
AreOrdered config world = (master : Master) → master_at world (master_of config) ≡ Some master → HasStreams master

record Stand (config : Config) (world : World) : Type 0 where
  both : (one other : List ℕ) → is_broken world.broken one other ≡ is_broken world.broken other one
  fronts : FrontsAre config world
  down : AreDown world
  all_up : AreAllUp config world
  over : AreOver config world
  ordered : AreOrdered config world

-- ---- something comes to a node

NotFront : NodeState → Type 0
NotFront (state.Front front) = ⊥
NotFront (state.Back home) = Unit {0}
NotFront (state.Master master) = Unit {0}

back_stays : (home : BackNode) (input : NodeInput) → NotFront (back_takes home input).state
unfolding back_takes NotFront
back_stays home (Opened conn) = tt
back_stays home (Piece conn bytes) = tt
back_stays home (Hung conn) = tt
back_stays home (From name message) = tt

master_stays : (master : Master) (input : NodeInput) → NotFront (master_takes master input).state
unfolding master_takes NotFront
master_stays master (Opened conn) = tt
master_stays master (Piece conn bytes) = tt
master_stays master (Hung conn) = tt
master_stays master (From name message) = tt

no_front_state : (it : NodeState) (front : Front) → NotFront it → it ≢ state.Front front
unfolding NotFront
no_front_state it front not is = subst NotFront is not

-- a frontend behind what a node took
record TakenBy (was : NodeState) (input : NodeInput) (now : Front) : Type 0 where
  front : Front
  is : was ≡ state.Front front
  took : WaitUp front → Took input front now

taken_by : (was : NodeState) (input : NodeInput) (now : Front) → (node_takes was input).state ≡ state.Front now → TakenBy was input now
unfolding node_takes
taken_by (state.Front front) input now is =
    record { front = front; is = refl; took = λ wait. subst (TookAs input front) is (front_took front input wait) }
taken_by (state.Back home) input now is = absurd (no_front_state (back_takes home input).state now (back_stays home input) is)
taken_by (state.Master master) input now is = absurd (no_front_state (master_takes master input).state now (master_stays master input) is)

-- a frontend is as it was, or it took it
data Became (world : World) (node : List ℕ) (input : NodeInput) (other : List ℕ) (now : Front) : Type 0 where
  as_was : other ≢ node → front_at world other ≡ Some now → Became world node input other now
  has_taken : (was : Front) → other ≡ node → front_at world node ≡ Some was → (WaitUp was → Took input was now) → Became world node input other now

acts_nodes : (world : World) (node : List ℕ) (acted : Acted) → (acts world node acted).nodes ≡ with_value (slice_cmp nat_cmp) world.nodes node acted.state
acts_nodes world node acted = (carry_all_sends node (with_acted world node acted) (not_lost world.broken node acted.outs)).nodes

became : (world : World) (node : List ℕ) (input : NodeInput) (it : NodeState) → node_at world node ≡ Some it → (other : List ℕ) (now : Front)
    → front_at (acts world node (node_takes it input)) other ≡ Some now → Became world node input other now
became world node input it there other now at =
    let acted = node_takes it input in
    let now_at : value_at (slice_cmp nat_cmp) (with_value (slice_cmp nat_cmp) world.nodes node acted.state) other ≡ Some (state.Front now) =
    ap (λ nodes. value_at (slice_cmp nat_cmp) nodes other) (sym (acts_nodes world node acted)) ∙ front_is (node_at (acts world node acted) other) now at in
    ⊎_elim
    (λ (e : other ≡ node).
    (let same : Some acted.state ≡ Some (state.Front now) =
    sym (value_at-with_value (slice_cmp nat_cmp) names_apart world.nodes node acted.state it there)
    ∙ subst (λ n. value_at (slice_cmp nat_cmp) (with_value (slice_cmp nat_cmp) world.nodes node acted.state) n ≡ Some (state.Front now)) e now_at in
    let taken = taken_by it input now (same_Some acted.state (state.Front now) same) in
    has_taken taken.front e (ap as_front there ∙ ap (λ s. as_front (Some s)) taken.is ∙ a_front taken.front) taken.took))
    (λ (ne : other ≢ node).
    as_was ne (ap as_front (sym (value_at-with_value-other (slice_cmp nat_cmp) names_apart world.nodes node other acted.state ne) ∙ now_at) ∙ a_front now))
    (same_or_other (slice_cmp nat_cmp) names_apart other node)

-- the master is as it was, or it took it

NotMaster : NodeState → Type 0
NotMaster (state.Front front) = Unit {0}
NotMaster (state.Back home) = Unit {0}
NotMaster (state.Master master) = ⊥

front_is_none : (front : Front) (input : NodeInput) → NotMaster (front_takes front input).state
unfolding front_takes NotMaster
front_is_none front (Opened conn) = tt
front_is_none front (Piece conn bytes) = tt
front_is_none front (Hung conn) = tt
front_is_none front (From name message) = tt

back_is_none : (home : BackNode) (input : NodeInput) → NotMaster (back_takes home input).state
unfolding back_takes NotMaster
back_is_none home (Opened conn) = tt
back_is_none home (Piece conn bytes) = tt
back_is_none home (Hung conn) = tt
back_is_none home (From name message) = tt

no_master_state : (it : NodeState) (master : Master) → NotMaster it → it ≢ state.Master master
unfolding NotMaster
no_master_state it master not is = subst NotMaster is not

its_state : (master : Master) (input : NodeInput) → (master_takes master input).state ≡ state.Master (master_does master input).master
unfolding master_takes
its_state master (Opened conn) = refl
its_state master (Piece conn bytes) = refl
its_state master (Hung conn) = refl
its_state master (From name message) = refl

-- the master behind what a node took
record DoneBy (was : NodeState) (input : NodeInput) (now : Master) : Type 0 where
  master : Master
  is : was ≡ state.Master master
  does : now ≡ (master_does master input).master

done_by : (was : NodeState) (input : NodeInput) (now : Master) → (node_takes was input).state ≡ state.Master now → DoneBy was input now
unfolding node_takes
done_by (state.Front front) input now is = absurd (no_master_state (front_takes front input).state now (front_is_none front input) is)
done_by (state.Back home) input now is = absurd (no_master_state (back_takes home input).state now (back_is_none home input) is)
done_by (state.Master master) input now is =
    record { master = master; is = refl; does = (let same : state.Master now ≡ state.Master (master_does master input).master = sym is ∙ its_state master input in cc) }

data BecameMaster (world : World) (node : List ℕ) (input : NodeInput) (name : List ℕ) (now : Master) : Type 0 where
  master_was : name ≢ node → master_at world name ≡ Some now → BecameMaster world node input name now
  master_took : (was : Master) → name ≡ node → master_at world node ≡ Some was → now ≡ (master_does was input).master
      → BecameMaster world node input name now

became_master : (world : World) (node : List ℕ) (input : NodeInput) (it : NodeState) → node_at world node ≡ Some it → (name : List ℕ) (now : Master)
    → master_at (acts world node (node_takes it input)) name ≡ Some now → BecameMaster world node input name now
became_master world node input it there name now at =
    let acted = node_takes it input in
    let now_at : value_at (slice_cmp nat_cmp) (with_value (slice_cmp nat_cmp) world.nodes node acted.state) name ≡ Some (state.Master now) =
    ap (λ nodes. value_at (slice_cmp nat_cmp) nodes name) (sym (acts_nodes world node acted)) ∙ master_is (node_at (acts world node acted) name) now at in
    ⊎_elim
    (λ (e : name ≡ node).
    (let same : Some acted.state ≡ Some (state.Master now) =
    sym (value_at-with_value (slice_cmp nat_cmp) names_apart world.nodes node acted.state it there)
    ∙ subst (λ n. value_at (slice_cmp nat_cmp) (with_value (slice_cmp nat_cmp) world.nodes node acted.state) n ≡ Some (state.Master now)) e now_at in
    let done = done_by it input now (same_Some acted.state (state.Master now) same) in
    master_took done.master e (ap as_master there ∙ ap (λ s. as_master (Some s)) done.is ∙ a_master done.master) done.does))
    (λ (ne : name ≢ node).
    master_was ne (ap as_master (sym (value_at-with_value-other (slice_cmp nat_cmp) names_apart world.nodes node name acted.state ne) ∙ now_at) ∙ a_master now))
    (same_or_other (slice_cmp nat_cmp) names_apart name node)

-- no End that comes
abbrev InputIsSaid : NodeInput → Type 0
InputIsSaid (From name message) = IsQuiet message
InputIsSaid input = Unit {0}

said_keeps : (ups : Ups) (input : NodeInput) (server : List ℕ) → InputIsSaid input → is_up ups server ≡ true → is_up (noted ups input) server ≡ true
said_keeps ups (From name Up) server is up = absurd is
said_keeps ups (From name End) server is up = absurd is
said_keeps ups (From name (Line bytes)) server is up = up
said_keeps ups (From name (Ask ask)) server is up = up
said_keeps ups (From name (Answer answer)) server is up = up
said_keeps ups (Opened conn) server is up = up
said_keeps ups (Piece conn bytes) server is up = up
said_keeps ups (Hung conn) server is up = up

-- what holds of a world to whose node something comes
record MayCome (config : Config) (world : World) (node : List ℕ) (input : NodeInput) : Type 0 where
  said : world.broken ≡ [] → InputIsSaid input
  both : (one other : List ℕ) → is_broken world.broken one other ≡ is_broken world.broken other one
  fronts : FrontsAre config world
  all_up : AreAllUp config world
  else_down : (other server : List ℕ) (front : Front) → other ≢ node → front_at world other ≡ Some front → is_broken world.broken server other ≡ true
      → IsDown (on_link world.links server other) (is_up front.ups server)
  here_down : (server : List ℕ) (front : Front) → front_at world node ≡ Some front → is_broken world.broken server node ≡ true
      → IsDown (on_link world.links server node) (is_up (noted front.ups input) server)
  ordered : AreOrdered config world
  else_over : node ≢ master_of config → AreOver config world
  here_over : node ≡ master_of config → (other : List ℕ) (front : Front) (master : Master) → front_at world other ≡ Some front
      → master_at world (master_of config) ≡ Some master → is_broken world.broken other (master_of config) ≡ true
      → IsOver (on_link world.links other (master_of config)) (stream_of (master_does master input).master other)

module _ (config : Config) (world : World) (node : List ℕ) (input : NodeInput) (may : MayCome config world node input) where
  abbrev me : List ℕ
  me = master_of config

  no_front_there : as_front None ≡ None
  unfolding as_front
  no_front_there = refl

  no_master_there : as_master None ≡ None
  unfolding as_master
  no_master_there = refl

  none_stands : node_at world node ≡ None → Stand config world
  none_stands none = record {
    both = may.both;
    fronts = may.fronts;
    all_up = may.all_up;
    down = λ other server front at broken. ⊎_elim
        (λ (e : other ≡ node).
        absurd (let no : None ≡ Some front = sym (ap as_front none ∙ no_front_there) ∙ ap (front_at world) (sym e) ∙ at in none_some front no))
        (λ (ne : other ≢ node). may.else_down other server front ne at broken)
        (same_or_other (slice_cmp nat_cmp) names_apart other node);
    over = λ other front master at is broken. ⊎_elim
        (λ (e : node ≡ me).
        absurd (let no : None ≡ Some master = sym (ap as_master none ∙ no_master_there) ∙ ap (master_at world) e ∙ is in no_master master no))
        (λ (ne : node ≢ me). may.else_over ne other front master at is broken)
        (same_or_other (slice_cmp nat_cmp) names_apart node me);
    ordered = may.ordered;
  }
    where
      no_master : (master : Master) → None ≡ Some master → ⊥
      no_master master e = cc

      none_some : (front : Front) → None ≡ Some front → ⊥
      none_some front e = cc

  module _ (it : NodeState) (there : node_at world node ≡ Some it) where
    abbrev then : World
    then = acts world node (node_takes it input)

    then_broken : then.broken ≡ world.broken
    then_broken = (carry_all_sends node (with_acted world node (node_takes it input)) (not_lost world.broken node (node_takes it input).outs)).broken

    front_by : (other : List ℕ) (now : Front) → Became world node input other now → FrontIs config now
    front_by other now (as_was ne at) = may.fronts other now at
    front_by other now (has_taken was e at took) =
        let is = may.fronts node was at in took_is config input was now is (took is.wait)

    down_by : (other server : List ℕ) (now : Front) → Became world node input other now → is_broken world.broken server other ≡ true
        → IsDown (on_link world.links server other) (is_up now.ups server)
    down_by other server now (as_was ne at) broken = may.else_down other server now ne at broken
    down_by other server now (has_taken was e at took) broken =
        subst (λ n. IsDown (on_link world.links server n) (is_up now.ups server)) (sym e)
        (subst (λ u. IsDown (on_link world.links server node) (is_up u server)) (sym (took (may.fronts node was at).wait).ups)
        (may.here_down server was at (subst (λ n. is_broken world.broken server n ≡ true) e broken)))

    up_by : world.broken ≡ [] → (other server : List ℕ) (now : Front) → Became world node input other now → IsAsked config server
        → is_up now.ups server ≡ true
    up_by whole other server now (as_was ne at) among = may.all_up whole other server now at among
    up_by whole other server now (has_taken was e at took) among =
        ap (λ u. is_up u server) (took (may.fronts node was at).wait).ups
        ∙ said_keeps was.ups input server (may.said whole) (may.all_up whole node server was at among)

    -- a frontend is one that was there
    was_front : (other : List ℕ) (now : Front) → Became world node input other now → (was : Front) × (front_at world other ≡ Some was)
    was_front other now (as_was ne at) = (now, at)
    was_front other now (has_taken was e at took) = (was, ap (front_at world) e ∙ at)

    over_by : (other : List ℕ) (front : Front) (now : Master) → front_at world other ≡ Some front → BecameMaster world node input me now
        → is_broken world.broken other me ≡ true → IsOver (on_link world.links other me) (stream_of now other)
    over_by other front now at (master_was ne is) broken = may.else_over (λ e. ne (sym e)) other front now at is broken
    over_by other front now at (master_took was e is does) broken =
        subst (λ (m : Master). IsOver (on_link world.links other me) (stream_of m other)) (sym does)
        (may.here_over (sym e) other front was at (ap (master_at world) e ∙ is) broken)

    ordered_by : (now : Master) → BecameMaster world node input me now → HasStreams now
    ordered_by now (master_was ne is) = may.ordered now is
    ordered_by now (master_took was e is does) = subst HasStreams (sym does) (order_stays was input (may.ordered was (ap (master_at world) e ∙ is)))

    some_stands : comes_to world node input (Some it) ≡ then → Stand config then
    some_stands is = record {
      both = λ one other. ap (λ b. is_broken b one other) then_broken ∙ may.both one other ∙ ap (λ b. is_broken b other one) (sym then_broken);
      fronts = λ other front at. front_by other front (became world node input it there other front at);
      all_up = λ whole other server front at among. up_by (sym then_broken ∙ whole) other server front (became world node input it there other front at) among;
      down = λ other server front at broken.
          (let was : is_broken world.broken server other ≡ true = ap (λ b. is_broken b server other) (sym then_broken) ∙ broken in
          subst (λ q. IsDown q (is_up front.ups server))
          (sym (ap (λ (w : World). on_link w.links server other) (sym is) ∙ comes_lost world node input (Some it) server other was))
          (down_by other server front (became world node input it there other front at) was));
      over = λ other front master at its broken.
          (let was : is_broken world.broken other me ≡ true = ap (λ b. is_broken b other me) (sym then_broken) ∙ broken in
          let there_before = was_front other front (became world node input it there other front at) in
          subst (λ q. IsOver q (stream_of master other))
          (sym (ap (λ (w : World). on_link w.links other me) (sym is) ∙ comes_lost world node input (Some it) other me was))
          (over_by other there_before.0 master there_before.1 (became_master world node input it there me master its) was));
      ordered = λ master its. ordered_by master (became_master world node input it there me master its);
    }

  stands_by : (found : Option NodeState) → node_at world node ≡ found → Stand config (comes_to world node input found)
  unfolding comes_to
  stands_by None there = none_stands there
  stands_by (Some it) there = some_stands it there refl

  comes_stand : Stand config (comes_to world node input (node_at world node))
  comes_stand = stands_by (node_at world node) refl

-- ---- an event

-- a client's acts tell of no link
abbrev IsOfClient : NodeInput → Type 0
IsOfClient (From name message) = ⊥
IsOfClient input = Unit {0}

client_noted : (ups : Ups) (input : NodeInput) → IsOfClient input → noted ups input ≡ ups
client_noted ups (Opened conn) is = refl
client_noted ups (Piece conn bytes) is = refl
client_noted ups (Hung conn) is = refl
client_noted ups (From name message) is = absurd is

client_not_from : (node : List ℕ) (input : NodeInput) → IsOfClient input → IsNotFrom node input
client_not_from node (Opened conn) is = tt
client_not_from node (Piece conn bytes) is = tt
client_not_from node (Hung conn) is = tt
client_not_from node (From name message) is = absurd is

client_said : (input : NodeInput) → IsOfClient input → InputIsSaid input
client_said (Opened conn) is = tt
client_said (Piece conn bytes) is = tt
client_said (Hung conn) is = tt
client_said (From name message) is = absurd is

client_may : (config : Config) (world : World) (node : List ℕ) (input : NodeInput) → IsOfClient input → Stand config world → MayCome config world node input
client_may config world node input is stand = record {
  said = λ _. client_said input is;
  both = stand.both;
  fronts = stand.fronts;
  all_up = stand.all_up;
  else_down = λ other server front ne at broken. stand.down other server front at broken;
  here_down = λ server front at broken.
      subst (λ u. IsDown (on_link world.links server node) (is_up u server)) (sym (client_noted front.ups input is)) (stand.down node server front at broken);
  ordered = stand.ordered;
  else_over = λ ne. stand.over;
  here_over = λ e other front master at its broken.
      subst (IsOver (on_link world.links other (master_of config))) (sym (streams_stay master other input (client_not_from other input is)))
      (stand.over other front master at its broken);
}

opens_stand : (config : Config) (world : World) (node : List ℕ) (conn : ℕ) (found : Option Client) → Stand config world
    → Stand config (opens world node conn found)
unfolding opens
opens_stand config world node conn (Some there) stand = stand
opens_stand config world node conn None stand =
    comes_stand config (with_client world node conn) node (Opened conn) (client_may config (with_client world node conn) node (Opened conn) tt
    (record { both = stand.both; fronts = stand.fronts; all_up = stand.all_up; down = stand.down; over = stand.over; ordered = stand.ordered }))

acts_stand : (config : Config) (world : World) (input : NodeInput) (found : Option Client) → IsOfClient input → Stand config world
    → Stand config (client_does world input found)
unfolding client_does
acts_stand config world input None is stand = stand
acts_stand config world input (Some client) is stand =
    comes_stand config world client.at input (client_may config world client.at input is stand)

-- a message is taken

-- behind the first message there is the End still, or that was it
taken_first : (message : LinkMsg) (rest : List LinkMsg) (up : Bool) → IsDown (message ∷ rest) up
    → ((now : Bool) → IsDown rest now) ⊎ ((message ≡ End) × (rest ≡ []))
taken_first message rest up (is_ending [] e) = inr (cc, cc)
taken_first message rest up (is_ending (first ∷ messages) e) = inl (λ now. is_ending messages (let same : rest ≡ messages ++ End ∷ [] = cc in same))
taken_first message rest up (has_ended e down) = absurd (none_there message rest e)
  where
    none_there : (message : LinkMsg) (rest : List LinkMsg) → message ∷ rest ≡ [] → ⊥
    none_there message rest e = cc

-- behind the first message to the master there is the End still, or that was it, and the stream ends
over_first : (master : Master) (node : List ℕ) (message : LinkMsg) (rest : List LinkMsg) → HasStreams master → IsOver (message ∷ rest) (stream_of master node)
    → IsOver rest (stream_of (node_says master node message).master node)
over_first master node message rest order (over_soon [] e) =
    let ended : message ≡ End = cc in
    is_over (let none : rest ≡ [] = cc in none) (ap (λ m. stream_of (node_says master node m).master node) ended ∙ stream_ends master node order)
over_first master node message rest order (over_soon (first ∷ messages) e) = over_soon messages (let same : rest ≡ messages ++ End ∷ [] = cc in same)
over_first master node message rest order (is_over e none) = absurd (nothing_there message rest e)
  where
    nothing_there : (message : LinkMsg) (rest : List LinkMsg) → message ∷ rest ≡ [] → ⊥
    nothing_there message rest e = cc

-- of the others' links nothing is noted
other_noted : (ups : Ups) (from server : List ℕ) (message : LinkMsg) → server ≢ from → is_up (noted ups (From from message)) server ≡ is_up ups server
other_noted ups from server Up ne = others_coming ups from server ne
other_noted ups from server End ne = others_going ups from server ne
other_noted ups from server (Line bytes) ne = refl
other_noted ups from server (Ask ask) ne = refl
other_noted ups from server (Answer answer) ne = refl

same_queue : (links : Links LinkMsg) (from to a b : List ℕ) (same : Bool) → same_link a b from to ≡ same → ((a ≡ from) × (b ≡ to) → ⊥)
    → on_link (without_first links from to) a b ≡ on_link links a b
same_queue links from to a b true h not = absurd (not (same_names a b from to h))
same_queue links from to a b false h not =
    on_link-taken links from to a b ∙ ap (λ s. cond s (drop 1 (on_link links a b)) (on_link links a b)) h

module _ (config : Config) (world : World) (from to : List ℕ) (message : LinkMsg) (rest : List LinkMsg)
    (first : on_link world.links from to ≡ message ∷ rest) (quiet : WorldIsQuiet (master_of config) world) (stand : Stand config world) where
  abbrev taken : World
  taken = taken_from_link world from to

  taken_rest : on_link taken.links from to ≡ rest
  taken_rest =
      on_link-taken world.links from to from to
      ∙ ap (λ s. cond s (drop 1 (on_link world.links from to)) (on_link world.links from to)) (same_itself from to) ∙ ap (λ q. drop 1 q) first

  this_down : (front : Front) → front_at world to ≡ Some front → is_broken world.broken from to ≡ true
      → IsDown (on_link taken.links from to) (is_up (noted front.ups (From from message)) from)
  this_down front at broken =
      subst (λ q. IsDown q (is_up (noted front.ups (From from message)) from)) (sym taken_rest)
      (⊎_elim
      (λ ending. ending (is_up (noted front.ups (From from message)) from))
      (λ over. has_ended over.1
      (ap (λ m. is_up (noted front.ups (From from m)) from) over.0 ∙ down_goes front.ups from (stand.fronts to front at).order))
      (taken_first message rest (is_up front.ups from)
      (subst (λ q. IsDown q (is_up front.ups from)) first (stand.down to from front at broken))))

  -- the stream of the node from which it comes
  this_over : to ≡ master_of config → (master : Master) (front : Front) → front_at world from ≡ Some front → master_at world (master_of config) ≡ Some master
      → is_broken world.broken from (master_of config) ≡ true
      → IsOver (on_link taken.links from (master_of config)) (stream_of (node_says master from message).master from)
  this_over e master front at its broken =
      subst (λ q. IsOver q (stream_of (node_says master from message).master from)) (sym (ap (on_link taken.links from) (sym e) ∙ taken_rest))
      (over_first master from message rest (stand.ordered master its)
      (subst (λ q. IsOver q (stream_of master from)) (ap (on_link world.links from) (sym e) ∙ first) (stand.over from front master at its broken)))

  message_may : MayCome config taken to (From from message)
  message_may = record {
    said = λ whole. (subst (AllByRecursion IsQuiet) first (quiet.calm whole from to)).0;
    both = stand.both;
    fronts = stand.fronts;
    all_up = stand.all_up;
    else_down = λ other server front ne at broken.
        subst (λ q. IsDown q (is_up front.ups server)) (sym (same_queue world.links from to server other (same_link server other from to) refl (λ is. ne is.1)))
        (stand.down other server front at broken);
    here_down = λ server front at broken. ⊎_elim
        (λ (e : server ≡ from).
        subst (λ s. IsDown (on_link taken.links s to) (is_up (noted front.ups (From from message)) s)) (sym e)
        (this_down front at (subst (λ s. is_broken world.broken s to ≡ true) e broken)))
        (λ (ne : server ≢ from).
        subst (λ q. IsDown q (is_up (noted front.ups (From from message)) server))
        (sym (same_queue world.links from to server to (same_link server to from to) refl (λ is. ne is.0)))
        (subst (IsDown (on_link world.links server to)) (sym (other_noted front.ups from server message ne)) (stand.down to server front at broken)))
        (same_or_other (slice_cmp nat_cmp) names_apart server from);
    ordered = stand.ordered;
    else_over = λ ne other front master at its broken.
        subst (λ q. IsOver q (stream_of master other))
        (sym (same_queue world.links from to other (master_of config) (same_link other (master_of config) from to) refl (λ is. ne (sym is.1))))
        (stand.over other front master at its broken);
    here_over = λ e other front master at its broken. ⊎_elim
        (λ (same : other ≡ from).
        subst (λ n. IsOver (on_link taken.links n (master_of config)) (stream_of (node_says master from message).master n)) (sym same)
        (this_over e master front (ap (front_at world) (sym same) ∙ at) its (ap (λ n. is_broken world.broken n (master_of config)) (sym same) ∙ broken)))
        (λ (ne : other ≢ from).
        subst (λ q. IsOver q (stream_of (node_says master from message).master other))
        (sym (same_queue world.links from to other (master_of config) (same_link other (master_of config) from to) refl (λ is. ne is.0)))
        (subst (IsOver (on_link world.links other (master_of config))) (sym (streams_stay master other (From from message) (λ same. ne (sym same))))
        (stand.over other front master at its broken)))
        (same_or_other (slice_cmp nat_cmp) names_apart other from);
  }

deliver_stands : (config : Config) (world : World) (from to : List ℕ) (queue : List LinkMsg) → on_link world.links from to ≡ queue
    → WorldIsQuiet (master_of config) world → Stand config world → Stand config (deliver_first world from to queue)
unfolding deliver_first
deliver_stands config world from to [] first quiet stand = stand
deliver_stands config world from to (message ∷ rest) first quiet stand =
    comes_stand config (taken_from_link world from to) to (From from message) (message_may config world from to message rest first quiet stand)

-- a link breaks

either_way : (a b c d : Bool) → ((a && b) || (c && d)) ≡ ((d && c) || (b && a))
either_way true true c d = by (d && c)
  where
    by : (t : Bool) → true ≡ (t || true)
    by true = refl
    by false = refl
either_way true false true true = refl
either_way true false true false = refl
either_way true false false true = refl
either_way true false false false = refl
either_way false true true true = refl
either_way false true true false = refl
either_way false true false true = refl
either_way false true false false = refl
either_way false false true true = refl
either_way false false true false = refl
either_way false false false true = refl
either_way false false false false = refl

both_ways : (one other from to : List ℕ) → are_both one other from to ≡ are_both one other to from
both_ways one other from to =
    either_way (is_eq (slice_cmp nat_cmp from one)) (is_eq (slice_cmp nat_cmp to other)) (is_eq (slice_cmp nat_cmp from other)) (is_eq (slice_cmp nat_cmp to one))

cut_down : (here there was up : Bool) (k l : ℕ) (queue : List LinkMsg) → ((here || there) || was) ≡ true → (was ≡ true → IsDown queue up)
    → IsDown (cond here (take k queue ++ End ∷ []) (cond there (take l queue ++ End ∷ []) queue)) up
cut_down true there was up k l queue is down = is_ending (take k queue) refl
cut_down false true was up k l queue is down = is_ending (take l queue) refl
cut_down false false was up k l queue is down = down is

cut_over : (here there was : Bool) (k l : ℕ) (queue : List LinkMsg) (stream : Option Tag) → ((here || there) || was) ≡ true → (was ≡ true → IsOver queue stream)
    → IsOver (cond here (take k queue ++ End ∷ []) (cond there (take l queue ++ End ∷ []) queue)) stream
cut_over true there was k l queue stream is over = over_soon (take k queue) refl
cut_over false true was k l queue stream is over = over_soon (take l queue) refl
cut_over false false was k l queue stream is over = over is

cut_changes : (world : World) (one other : List ℕ) (k l : ℕ) → may_cut world one other ≡ true
    → OnlyLinksChange (Cut one other k l) world (with_cut world one other k l)
unfolding cuts_if
cut_changes world one other k l e = cut_works world one other k l true e

cut_stands : (config : Config) (world : World) (one other : List ℕ) (k l : ℕ) (may : Bool) → may_cut world one other ≡ may → Stand config world
    → Stand config (cuts_if may world one other k l)
unfolding cuts_if
cut_stands config world one other k l true e stand =
    let now : OnlyLinksChange (Cut one other k l) world (with_cut world one other k l) = cut_changes world one other k l e in
    record {
      fronts = stand.fronts;
      all_up = λ none. absurd (some_break (breaking world.broken one other) other one none);
      both = λ from to. now.broken from to ∙ ap (λ t. t || is_broken world.broken from to) (both_ways one other from to)
          ∙ ap (λ t. are_both one other to from || t) (stand.both from to) ∙ sym (now.broken to from);
      down = λ node server front at broken.
          subst (λ q. IsDown q (is_up front.ups server)) (sym (now.queues server node))
          (cut_down (same_link server node one other) (same_link server node other one) (is_broken world.broken server node) (is_up front.ups server) k l
          (on_link world.links server node) (sym (now.broken server node) ∙ broken) (stand.down node server front at));
      over = λ node front master at its broken.
          (let me : List ℕ = master_of config in
          subst (λ q. IsOver q (stream_of master node)) (sym (now.queues node me))
          (cut_over (same_link node me one other) (same_link node me other one) (is_broken world.broken node me) k l
          (on_link world.links node me) (stream_of master node) (sym (now.broken node me) ∙ broken) (stand.over node front master at its)));
      ordered = stand.ordered;
    }
cut_stands config world one other k l false e stand = stand

-- one comes up

join_down : (here there was up : Bool) (queue : List LinkMsg) → cond (here || there) false was ≡ true → (was ≡ true → IsDown queue up)
    → IsDown ((queue ++ cond here (Up ∷ []) []) ++ cond there (Up ∷ []) []) up
join_down true there was up queue is down = cc
join_down false true was up queue is down = cc
join_down false false was up queue is down =
    subst (λ q. IsDown q up) (sym (append-nil (queue ++ []) ∙ append-nil queue)) (down is)

join_over : (here there was : Bool) (queue : List LinkMsg) (stream : Option Tag) → cond (here || there) false was ≡ true → (was ≡ true → IsOver queue stream)
    → IsOver ((queue ++ cond here (Up ∷ []) []) ++ cond there (Up ∷ []) []) stream
join_over true there was queue stream is over = cc
join_over false true was queue stream is over = cc
join_over false false was queue stream is over =
    subst (λ q. IsOver q stream) (sym (append-nil (queue ++ []) ∙ append-nil queue)) (over is)

join_changes : (world : World) (one other : List ℕ) → OnlyLinksChange (Join one other) world (with_join world one other)
unfolding joins_if
join_changes world one other = join_works world one other true

join_stands : (config : Config) (world : World) (one other : List ℕ) (may : Bool) → Stand config world → Stand config (joins_if may world one other)
unfolding joins_if
join_stands config world one other true stand =
    let now : OnlyLinksChange (Join one other) world (with_join world one other) = join_changes world one other in
    record {
      fronts = stand.fronts;
      all_up = λ none. absurd (some_mend (mending world.broken one other) other one none);
      both = λ from to. now.broken from to ∙ ap (λ t. cond t false (is_broken world.broken from to)) (both_ways one other from to)
          ∙ ap (λ t. cond (are_both one other to from) false t) (stand.both from to) ∙ sym (now.broken to from);
      down = λ node server front at broken.
          subst (λ q. IsDown q (is_up front.ups server)) (sym (now.queues server node))
          (join_down (same_link server node one other) (same_link server node other one) (is_broken world.broken server node) (is_up front.ups server)
          (on_link world.links server node) (sym (now.broken server node) ∙ broken) (stand.down node server front at));
      over = λ node front master at its broken.
          (let me : List ℕ = master_of config in
          subst (λ q. IsOver q (stream_of master node)) (sym (now.queues node me))
          (join_over (same_link node me one other) (same_link node me other one) (is_broken world.broken node me)
          (on_link world.links node me) (stream_of master node) (sym (now.broken node me) ∙ broken) (stand.over node front master at its)));
      ordered = stand.ordered;
    }
join_stands config world one other false stand = stand

-- whatever happens

takes_stand : (config : Config) (world : World) (event : Event) → WorldIsQuiet (master_of config) world → Stand config world → Stand config (takes world event)
unfolding takes
takes_stand config world (Open node conn) quiet stand = opens_stand config world node conn (client_at world conn) stand
takes_stand config world (Data conn bytes) quiet stand = acts_stand config world (Piece conn bytes) (client_at world conn) tt stand
takes_stand config world (Hang conn) quiet stand = acts_stand config world (Hung conn) (client_at world conn) tt stand
takes_stand config world (Deliver from to) quiet stand = deliver_stands config world from to (on_link world.links from to) refl quiet stand
takes_stand config world (Cut one other k l) quiet stand = cut_stands config world one other k l (may_cut world one other) refl stand
takes_stand config world (Join one other) quiet stand = join_stands config world one other (may_join world one other) stand
takes_stand config world event quiet stand = stand

step_stands : (config : Config) (world : World) (event : Event) → WorldIsQuiet (master_of config) world → Stand config world
    → Stand config (steps_by world event)
step_stands config world event quiet stand =
    takes_stand config (stepped world) event (record { nodes = quiet.nodes; links = quiet.links; whole = quiet.whole; calm = quiet.calm })
    (record { both = stand.both; fronts = stand.fronts; all_up = stand.all_up; down = stand.down; over = stand.over; ordered = stand.ordered })

run_stands : (config : Config) (world : World) (steps : List Event) → WorldIsQuiet (master_of config) world → Stand config world
    → Stand config (run_steps world steps)
unfolding run_steps
run_stands config world [] quiet stand = stand
run_stands config world (event ∷ steps) quiet stand =
    run_stands config (steps_by world event) steps (step_quiet (master_of config) world event quiet) (step_stands config world event quiet stand)

-- ---- the start

ups_order : (node : List ℕ) (ups : Ups) (links : List Link) → IsInOrder (slice_cmp nat_cmp) ups → IsInOrder (slice_cmp nat_cmp) (ups_on node ups links)
unfolding ups_on
ups_order node ups [] order = order
ups_order node ups (link ∷ links) order =
    ups_order node (up_if (is_eq (slice_cmp nat_cmp link.to node)) ups link.from) links (one_order (is_eq (slice_cmp nat_cmp link.to node)) ups link.from order)
  where
    one_order : (is : Bool) (ups : Ups) (from : List ℕ) → IsInOrder (slice_cmp nat_cmp) ups → IsInOrder (slice_cmp nat_cmp) (up_if is ups from)
    one_order true ups from order = with_entry-in_order (slice_cmp nat_cmp) nat_list_cmp_total ups from tt order
    one_order false ups from order = order

none_order : (let none : Ups = [] in IsInOrder (slice_cmp nat_cmp) none)
unfolding IsStrictlySortedBy
none_order = tt

first_is_new : (config : Config) (name : List ℕ) → ((first_front config name).connections ≡ [])
    × ((first_front config name).ups ≡ ups_on name [] (links_of config.nodes)) × ((first_front config name).master ≡ master_of config)
unfolding new_front
first_is_new config name = (refl, refl, refl)

-- a frontend at the start
record StartsUp (config : Config) (front : Front) : Type 0 where
  is : FrontIs config front
  up : (server : List ℕ) → IsAsked config server → is_up front.ups server ≡ true

starts_up : (config : Config) (are : AreNodes config.nodes) (name : List ℕ) (front : Front) (found : Option Node) → Starts config are name found
    → front_at (start config) name ≡ Some front → StartsUp config front
starts_up config are name front found (is_front node begins front_kind back_kind master_kind) at =
    let new = first_is_new config name in
    let same : first_front config name ≡ front = same_Some (first_front config name) front (sym begins.at ∙ at) in
    subst (StartsUp config) same (record {
      is = record {
        wait = none_waits (first_front config name) new.0;
        order = subst (IsInOrder (slice_cmp nat_cmp)) (sym new.1) (ups_order name [] (links_of config.nodes) none_order);
        master_is = new.2;
      };
      up = λ server. ⊎_elim
          (λ among. ap (λ u. is_up u server) new.1 ∙ begins.linked.to_backend server among)
          (λ e. ap (λ n. is_up (first_front config name).ups n) e ∙ ap (λ u. is_up u (master_of config)) new.1 ∙ begins.linked.to_master);
    })
starts_up config are name front found (is_home node begins front_kind back_kind master_kind) at =
    absurd (no_one (front_at (start config) name) front at (back_no_front (node_at (start config) name) _ begins.at))
starts_up config are name front found (is_silent other it begins no_front no_back front_kind back_kind masters) at =
    absurd (no_one (front_at (start config) name) front at (ap as_front begins.at ∙ no_front))

-- no node has a stream yet
first_streams : (config : Config) → (first_master config).streams ≡ []
unfolding booted
first_streams config = refl

no_streams_order : (let none : List (List ℕ × Tag) = [] in IsInOrder (slice_cmp nat_cmp) none)
unfolding IsStrictlySortedBy
no_streams_order = tt

start_ordered : (config : Config) → AreNodes config.nodes → AreOrdered config (start config)
start_ordered config are master at =
    let same : first_master config ≡ master = same_Some (first_master config) master (sym (ap as_master (master_starts config are).at ∙ a_master (first_master config)) ∙ at) in
    subst (IsInOrder (slice_cmp nat_cmp)) (sym (first_streams config) ∙ ap (λ (m : Master). m.streams) same) no_streams_order

start_stands : (config : Config) → AreNodes config.nodes → Stand config (start config)
start_stands config are = record {
  both = λ one other. not_broken one other ∙ sym (not_broken other one);
  fronts = λ name front at. (starts_up config are name front (node_named name config.nodes) (starts config are name) at).is;
  all_up = λ whole name server front at among. (starts_up config are name front (node_named name config.nodes) (starts config are name) at).up server among;
  down = λ node server front at broken. absurd (let no : false ≡ true = sym (not_broken server node) ∙ broken in false_true no);
  over = λ node front master at its broken. absurd (let no : false ≡ true = sym (not_broken node (master_of config)) ∙ broken in false_true no);
  ordered = start_ordered config are;
}
  where
    not_broken : (one other : List ℕ) → is_broken (start config).broken one other ≡ false
    not_broken one other = ap (λ b. is_broken b one other) (start_whole config) ∙ none_broken one other

    false_true : false ≡ true → ⊥
    false_true e = cc

-- ---- a run

-- a frontend has the nodes in order to which its links are up
pub ups_in_order : (config : Config) (steps : List Event) → AreNodes config.nodes → (node : List ℕ) (front : Front)
    → front_at (run_steps (start config) steps) node ≡ Some front → IsInOrder (slice_cmp nat_cmp) front.ups
ups_in_order config steps are node front at =
    ((run_stands config (start config) steps (start_quiet config are) (start_stands config are)).fronts node front at).order

pub links_stand : (config : Config) (steps : List Event) → AreNodes config.nodes → LinksStand config (run_steps (start config) steps)
links_stand config steps are =
    let world : World = run_steps (start config) steps in
    let quiet = never_moved config steps are in
    let stand = run_stands config (start config) steps (start_quiet config are) (start_stands config are) in
    record {
      from_master = λ node home. (quiet.whole node home).0;
      to_master = λ node home. (quiet.whole node home).1;
      both = stand.both;
      down = stand.down;
      master_down = stand.over;
      waits_up = λ node server front conn at asked.
          (let is = stand.fronts node front at in
          awaited_up front conn (connection_at front conn) server is.wait refl
          (ap (λ m. awaited m (connection_at front conn) server) is.master_is ∙ asked));
      all_up = λ whole node server front at among. stand.all_up whole node server front at (inl among);
      master_up = λ whole node front at. stand.all_up whole node (master_of config) front at (inr refl);
    }
