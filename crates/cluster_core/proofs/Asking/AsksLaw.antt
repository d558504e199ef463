-- In each step of a run an ask is one of a frontend, to the server to which its records send it, and a line of a frontend goes to the master, rightly.
use Rattle.std.proofs.Common.{◌≡◌, ◌≢◌, ℕ, Bool, true, false, cond, List, [], ◌∷◌, ◌++◌, Option, None, Some, refl, sym, ◌∙◌, ap, subst, All, append_assoc}
use Rattle.std.specs.Prelude.{slice_get}
use Rattle.std.specs.Ordering.{nat_cmp}
use Rattle.std.specs.Cmp.Lexicographic.{slice_cmp}
use Rattle.std.proofs.lemmas.List.{append-nil, append_cancel_left}
use Rattle.std.proofs.lemmas.List.Elements.{All-append, All-cons, All-nil}
use Rattle.front_core.specs.declared.front.Front.{Front}
use Rattle.front_core.proofs.OwnOuts.{AreLetOut, IsLetOut}
use Rattle.link_msg.specs.declared.message.LinkMsg.{LinkMsg}
use Rattle.link_msg.specs.declared.message.LinkMsg.TheVariants.{Up, End, Line, Ask, Answer}
use Rattle.link_msg.specs.declared.out.Out.{Out}
use Rattle.link_msg.specs.declared.out.Out.TheVariants.{Client as to_client, Close, Link as to_node, Mark as mark_out, Told as tell}
use Rattle.link_queue.specs.Links.{on_link, same_link}
use Rattle.link_queue.proofs.Wires.{on_link-sent, on_link-taken, same_names}
use Rattle.mur_base.specs.Map.{IsInOrder, value_at}
use Rattle.mur_base.proofs.MapLaws.{names_apart, value_at-with_value}
use Rattle.mur_config.specs.declared.config.Config.{Config}
use Rattle.mur_config.specs.declared.node.Kind.{Kind}
use Rattle.mur_config.specs.declared.node.Kind.TheVariants.{Master, Frontend, Backend}
use Rattle.mur_config.specs.declared.node.Node.{Node}
use Rattle.mur_config.specs.Nodes.{AreNodes}
use Rattle.node_step.specs.declared.input.NodeInput.{NodeInput}
use Rattle.node_step.specs.declared.input.NodeInput.TheVariants.{Opened, Piece, Hung, From}
use Rattle.node_step.specs.declared.node.NodeState.{NodeState}
use Rattle.node_step.specs.declared.node.NodeState.TheVariants as state
use Rattle.node_step.specs.NodeStep.{as_front, takes as node_takes}
use Rattle.node_step.proofs.NodeKinds.{a_front}
use Rattle.node_step.proofs.OwnOuts.{MayMark}
use Rattle.schedule_text.specs.declared.event.Event.{Event}
use Rattle.schedule_text.specs.declared.event.Event.TheVariants.{Open, Data, Hang, Deliver}
use Rattle.cluster_core.specs.declared.world.Client.{Client}
use Rattle.cluster_core.specs.declared.world.World.{World}
use Rattle.cluster_core.specs.Flow.{run_steps, steps_of_run}
use Rattle.cluster_core.specs.Headline.Asks.{AsksByRecords, AsksRightly, IsFirstBackend, IsRightlySent, taken_by}
use Rattle.cluster_core.specs.Headline.OneNode.{leaves_on, node_of, worker}
use Rattle.cluster_core.specs.World.{backends_of, carry, carry_all, client_at, client_does, comes_to, deliver_first, front_at, home_of, master_of, node_at, not_lost, opens, or_backend, start, stepped, steps_by, taken_from_link, takes, with_client, with_acted}
use Rattle.cluster_core.proofs.Asking.NodeAsks.{KnowsFirst, MovesNobody, node_asks, taken_in}
use Rattle.cluster_core.proofs.Links.StandLaw.{ups_in_order}
use Rattle.cluster_core.proofs.Runs.NeverMoved.{WorldIsQuiet, never_moved, quiet_moves_none}
use Rattle.cluster_core.proofs.Runs.NotLost.{let_left}
use Rattle.cluster_core.proofs.Runs.OneNodeLaw.{carry_all_sends, given_links, nothing_first, one_more_step, same_worker}
use Rattle.cluster_core.proofs.Runs.QuietNodes.{AnyClient}
use Rattle.cluster_core.proofs.Starts.Kinds.{first_backend}

-- ---- what outputs put on a link

-- behind what was on the link stands what was sent, and each message of that may be sent there
record HasSent (may : LinkMsg → Type 0) (before after : List LinkMsg) : Type 0 where
  more : List LinkMsg
  behind : after ≡ before ++ more
  all : All may more

sends_none : (may : LinkMsg → Type 0) (before after : List LinkMsg) → after ≡ before → HasSent may before after
sends_none may before after same = record { more = []; behind = same ∙ sym (append-nil before); all = All-nil may }

sends_both : (may : LinkMsg → Type 0) (one two three : List LinkMsg) → HasSent may one two → HasSent may two three → HasSent may one three
sends_both may one two three first second = record {
  more = first.more ++ second.more;
  behind = second.behind ∙ ap (λ q. q ++ second.more) first.behind ∙ append_assoc one first.more second.more;
  all = All-append may first.more second.more first.all second.all;
}

module _ (may : List ℕ → LinkMsg → Type 0) (marks : Type 0) (node server : List ℕ) where
  abbrev Goes : World → World → Type 0
  Goes before after = HasSent (may server) (on_link before.links node server) (on_link after.links node server)

  one_goes : (world : World) (other : List ℕ) (message : LinkMsg) (same : Bool) → same_link node server node other ≡ same → may other message
      → All (may server) (cond same (message ∷ []) [])
  one_goes world other message true h is =
      All-cons (may server) message [] (subst (λ o. may o message) (sym (same_names node server node other h).1) is) (All-nil (may server))
  one_goes world other message false h is = All-nil (may server)

  carry_goes : (world : World) (out : Out) → IsLetOut AnyClient may marks out → Goes world (carry node world out)
  unfolding carry
  carry_goes world (to_client conn bytes) is =
      sends_none (may server) _ _ (ap (λ l. on_link l node server) (given_links world conn bytes (client_at world conn)))
  carry_goes world (Close conn) is = sends_none (may server) _ _ refl
  carry_goes world (mark_out ask counts) is = sends_none (may server) _ _ refl
  carry_goes world (tell ask how) is = sends_none (may server) _ _ refl
  carry_goes world (to_node other message) is = record {
    more = cond (same_link node server node other) (message ∷ []) [];
    behind = on_link-sent world.links node other node server message;
    all = one_goes world other message (same_link node server node other) refl is;
  }

  carry_all_goes : (world : World) (outs : List Out) → AreLetOut AnyClient may marks outs → Goes world (carry_all node world outs)
  unfolding carry_all
  carry_all_goes world [] are = sends_none (may server) _ _ refl
  carry_all_goes world (out ∷ outs) are =
      sends_both (may server) _ _ _ (carry_goes world out are.0) (carry_all_goes (carry node world out) outs are.1)

-- ---- what comes to a node

-- each frontend knows the first backend
abbrev pub KnowFirst : List Node → World → Type 0
KnowFirst nodes world = (node : List ℕ) (it : NodeState) → node_at world node ≡ Some it → KnowsFirst nodes it

module _ (nodes : List Node) (master : List ℕ) where
  -- what the node sent to the server, by the message that it took and the frontend that it is then
  abbrev SendsRightly : Option LinkMsg → List ℕ → List ℕ → List LinkMsg → World → Type 0
  SendsRightly taken node server before after = HasSent (IsRightlySent nodes taken (front_at after node) server) before (on_link after.links node server)

  acted_at : (world : World) (node : List ℕ) (was : NodeState) (input : NodeInput) → node_at world node ≡ Some was
      → front_at (comes_to world node input (Some was)) node ≡ as_front (Some (node_takes was input).state)
  unfolding comes_to
  acted_at world node was input there =
      let now = (node_takes was input).state in
      ap (λ n. as_front (value_at (slice_cmp nat_cmp) n node))
      (carry_all_sends node (with_acted world node (node_takes was input)) (not_lost world.broken node (node_takes was input).outs)).nodes
      ∙ ap as_front (value_at-with_value (slice_cmp nat_cmp) names_apart world.nodes node now was there)

  comes_rightly : (world : World) (node server : List ℕ) (input : NodeInput) (found : Option NodeState) → node_at world node ≡ found
      → KnowFirst nodes world → MovesNobody input
      → SendsRightly (taken_in input) node server (on_link world.links node server) (comes_to world node input found)
  unfolding comes_to
  comes_rightly world node server input None there know none = sends_none _ _ _ refl
  comes_rightly world node server input (Some it) there know none =
      let may = IsRightlySent nodes (taken_in input) (as_front (Some (node_takes it input).state)) in
      subst (λ f. HasSent (IsRightlySent nodes (taken_in input) f server) (on_link world.links node server)
      (on_link (comes_to world node input (Some it)).links node server)) (sym (acted_at world node it input there))
      (carry_all_goes may (MayMark it) node server (with_acted world node (node_takes it input))
      (not_lost world.broken node (node_takes it input).outs)
      (let_left AnyClient may (MayMark it) world.broken node (node_takes it input).outs (node_asks nodes it input (know node it there) none)))

  -- ---- an event

  opens_rightly : (world : World) (node server : List ℕ) (conn : ℕ) (found : Option Client) → KnowFirst nodes world
      → SendsRightly None node server (on_link world.links node server) (opens world node conn found)
  unfolding opens
  opens_rightly world node server conn (Some there) know = sends_none _ _ _ refl
  opens_rightly world node server conn None know =
      comes_rightly (with_client world node conn) node server (Opened conn) (node_at world node) refl know tt

  client_rightly : (world : World) (node server : List ℕ) (input : NodeInput) (found : Option Client) → node_of found ≡ Some node
      → KnowFirst nodes world → MovesNobody input → SendsRightly (taken_in input) node server (on_link world.links node server) (client_does world input found)
  unfolding client_does
  client_rightly world node server input None is know none = cc
  client_rightly world node server input (Some client) is know none =
      let same : client.at ≡ node = cc in
      subst (λ n. SendsRightly (taken_in input) n server (on_link world.links n server) (client_does world input (Some client))) same
      (comes_rightly world client.at server input (node_at world client.at) refl know none)

  moved_to_none : (world : World) (from to : List ℕ) (message : LinkMsg) (rest : List LinkMsg) → on_link world.links from to ≡ message ∷ rest
      → WorldIsQuiet master world → MovesNobody (From from message)
  moved_to_none world from to (Answer answer) rest e quiet = λ server moved. quiet_moves_none master world from to answer rest server quiet e moved
  moved_to_none world from to Up rest e quiet = tt
  moved_to_none world from to End rest e quiet = tt
  moved_to_none world from to (Line line) rest e quiet = tt
  moved_to_none world from to (Ask ask) rest e quiet = tt

  deliver_rightly : (world : World) (from to server : List ℕ) (queue : List LinkMsg) → on_link world.links from to ≡ queue
      → KnowFirst nodes world → WorldIsQuiet master world
      → SendsRightly (slice_get queue 0) to server (leaves_on (Deliver from to) to server (on_link world.links to server)) (deliver_first world from to queue)
  unfolding deliver_first
  deliver_rightly world from to server [] e know quiet =
      sends_none _ _ _ (nothing_first world.links from to to server (same_link to server from to) refl e)
  deliver_rightly world from to server (message ∷ rest) e know quiet =
      let taken = taken_from_link world from to in
      subst (λ q. SendsRightly (Some message) to server q (comes_to taken to (From from message) (node_at taken to)))
      (on_link-taken world.links from to to server)
      (comes_rightly taken to server (From from message) (node_at taken to) refl know (moved_to_none world from to message rest e quiet))

  takes_rightly : (world : World) (event : Event) (node server : List ℕ) → worker world event ≡ Some node → KnowFirst nodes world → WorldIsQuiet master world
      → SendsRightly (taken_by event world) node server (leaves_on event node server (on_link world.links node server)) (takes world event)
  unfolding takes
  takes_rightly world (Open at conn) node server is know quiet =
      let same : at ≡ node = cc in
      subst (λ n. SendsRightly None n server (on_link world.links n server) (opens world at conn (client_at world conn))) same
      (opens_rightly world at server conn (client_at world conn) know)
  takes_rightly world (Data conn bytes) node server is know quiet = client_rightly world node server (Piece conn bytes) (client_at world conn) is know tt
  takes_rightly world (Hang conn) node server is know quiet = client_rightly world node server (Hung conn) (client_at world conn) is know tt
  takes_rightly world (Deliver from to) node server is know quiet =
      let same : to ≡ node = cc in
      subst (λ n. SendsRightly (taken_by (Deliver from to) world) n server
      (leaves_on (Deliver from to) n server (on_link world.links n server)) (takes world (Deliver from to))) same
      (deliver_rightly world from to server (on_link world.links from to) refl know quiet)
  takes_rightly world event node server is know quiet = cc

  same_taken : (world : World) (event : Event) → taken_by event (stepped world) ≡ taken_by event world
  same_taken world (Deliver from to) = refl
  same_taken world event = refl

  pub step_rightly : (world : World) (event : Event) → KnowFirst nodes world → WorldIsQuiet master world → AsksRightly nodes event world (steps_by world event)
  step_rightly world event know quiet node server sent is behind =
      let its = takes_rightly (stepped world) event node server (same_worker world event ∙ is) know (record { nodes = quiet.nodes; links = quiet.links; whole = quiet.whole; calm = quiet.calm }) in
      subst (λ taken. All (IsRightlySent nodes taken (front_at (steps_by world event) node) server) sent) (same_taken world event)
      (subst (All (IsRightlySent nodes (taken_by event (stepped world)) (front_at (steps_by world event) node) server))
      (append_cancel_left (leaves_on event node server (on_link world.links node server)) its.more sent (sym its.behind ∙ behind)) its.all)

-- ---- the first backend of a configuration

behind_other : (node : Node) (nodes : List Node) (name : List ℕ) → node.kind ≢ Backend → IsFirstBackend nodes name → IsFirstBackend (node ∷ nodes) name
behind_other node nodes name other its = record {
  before = node ∷ its.before;
  node = its.node;
  later = its.later;
  parts = ap (λ l. node ∷ l) its.parts;
  named = its.named;
  is_backend = its.is_backend;
  none_before = All-cons (λ (other : Node). other.kind ≢ Backend) node its.before other its.none_before;
}

first_by : (node : Node) (nodes : List Node) (rest : List (List ℕ)) (name : List ℕ) (kind : Kind) → node.kind ≡ kind
    → or_backend kind node.name (backends_of nodes) ≡ name ∷ rest
    → ((r : List (List ℕ)) → backends_of nodes ≡ name ∷ r → IsFirstBackend nodes name) → IsFirstBackend (node ∷ nodes) name
unfolding or_backend
first_by node nodes rest name Master k e later = behind_other node nodes name (λ b. (let no : Master ≡ Backend = sym k ∙ b in cc)) (later rest e)
first_by node nodes rest name Frontend k e later = behind_other node nodes name (λ b. (let no : Frontend ≡ Backend = sym k ∙ b in cc)) (later rest e)
first_by node nodes rest name Backend k e later =
    record { before = []; node = node; later = nodes; parts = refl; named = cc; is_backend = k; none_before = All-nil (λ (other : Node). other.kind ≢ Backend) }

first_among : (nodes : List Node) (rest : List (List ℕ)) (name : List ℕ) → backends_of nodes ≡ name ∷ rest → IsFirstBackend nodes name
unfolding backends_of
first_among [] rest name e = cc
first_among (node ∷ nodes) rest name e = first_by node nodes rest name node.kind refl e (λ r h. first_among nodes r name h)

is_first : (config : Config) → AreNodes config.nodes → IsFirstBackend config.nodes (home_of config)
is_first config are = let first = first_backend config.nodes are in first_among config.nodes first.rest (home_of config) first.is

-- ---- a run

pub know_first : (config : Config) (world : World) → AreNodes config.nodes
    → ((node : List ℕ) (front : Front) → front_at world node ≡ Some front → (front.first ≡ home_of config) × IsInOrder (slice_cmp nat_cmp) front.ups)
    → KnowFirst config.nodes world
know_first config world are is node (state.Front front) there =
    let its = is node front (ap as_front there ∙ a_front front) in
    (subst (IsFirstBackend config.nodes) (sym its.0) (is_first config are), its.1)
know_first config world are is node (state.Back home) there = tt
know_first config world are is node (state.Master master) there = tt

-- each frontend has the first backend of the configuration, behind each of these steps of a run
abbrev pub HaveFirst : Config → List Event → Type 0
HaveFirst config steps = (before later : List Event) → steps ≡ before ++ later → (node : List ℕ) (front : Front)
    → front_at (run_steps (start config) before) node ≡ Some front → front.first ≡ home_of config

pub asks_by_records : (config : Config) (events : List Event) → AreNodes config.nodes → HaveFirst config (steps_of_run config events)
    → AsksByRecords config events
asks_by_records config events are have before event later parts =
    let world = run_steps (start config) before in
    subst (AsksRightly config.nodes event world) (sym (one_more_step (start config) before event))
    (step_rightly config.nodes (master_of config) world event
    (know_first config world are (λ node front at. (have before (event ∷ later) parts node front at, ups_in_order config before are node front at)))
    (never_moved config before are))
