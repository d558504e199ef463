-- In each step of a run the node that works gives bytes to its own clients alone.
use Rattle.std.proofs.Common.{◌≡◌, ◌≢◌, ℕ, Bool, true, false, List, [], ◌∷◌, ◌++◌, Option, None, Some, refl, sym, ◌∙◌, ap, subst}
use Rattle.std.specs.Prelude.{⊤}
use Rattle.std.specs.List.{AllByRecursion}
use Rattle.std.specs.Ordering.{nat_cmp}
use Rattle.std.specs.Cmp.Lexicographic.{slice_cmp}
use Rattle.std.proofs.Math.Logic.{⊎_elim}
use Rattle.std.proofs.lemmas.Option.{same_Some}
use Rattle.back_node.proofs.Said.{none_owed_at_start}
use Rattle.cluster_core.specs.declared.layout.Layout.{Layout}
use Rattle.cluster_core.specs.declared.world.Client.{Client}
use Rattle.cluster_core.specs.World.{cuts_if, joins_if, may_cut, may_join, master_of, carry, carry_all, client_at, client_does, comes_to, deliver_first, first_state, given_more, no_world, node_at, not_lost, opens, place_of, start, stepped, steps_by, taken_from_link, takes, told_up, with_client, with_node, with_nodes, with_ups, with_acted}
use Rattle.front_core.specs.Front.{new_front}
use Rattle.front_core.proofs.OwnOuts.{AreLetOut, IsLetOut, MovesBy}
use Rattle.link_msg.specs.declared.message.LinkMsg.{LinkMsg}
use Rattle.link_msg.specs.declared.message.LinkMsg.TheVariants.{Up, End, Line, Ask, Answer}
use Rattle.link_msg.specs.declared.out.Out.{Out}
use Rattle.link_msg.specs.declared.out.Out.TheVariants.{Client as to_client, Close, Link as to_node, Mark as mark_out, Told as tell}
use Rattle.link_queue.specs.Links.{on_link}
use Rattle.master_core.specs.Boot.{booted}
use Rattle.mupdate_codec.specs.declared.tag.Tag.{Tag}
use Rattle.mur_base.proofs.MapLaws.{names_apart, numbers_apart, same_or_other, value_at-with_entry, value_at-with_entry-other, value_at-with_value-other}
use Rattle.mur_config.specs.declared.config.Config.{Config}
use Rattle.mur_config.specs.declared.node.Kind.{Kind}
use Rattle.mur_config.specs.declared.node.Kind.TheVariants.{Master as master_kind, Frontend, Backend as backend_kind}
use Rattle.mur_config.specs.declared.node.Link.{Link}
use Rattle.mur_config.specs.declared.node.Node.{Node}
use Rattle.mur_config.specs.Nodes.{links_of}
use Rattle.node_step.specs.declared.input.NodeInput.{NodeInput}
use Rattle.node_step.specs.declared.input.NodeInput.TheVariants.{Opened, Piece, Hung, From}
use Rattle.node_step.specs.declared.node.NodeState.{NodeState}
use Rattle.node_step.specs.declared.node.NodeState.TheVariants as state
use Rattle.node_step.specs.NodeStep.{takes as node_takes}
use Rattle.node_step.proofs.MasterOuts.{SpeaksFrom}
use Rattle.node_step.proofs.OwnOuts.{ComesFrom, HasOwn, LetsOut, MayBeAnswered, MayMark, MaySend, MovesOn, takes_lets}
use Rattle.schedule_text.specs.declared.event.Event.{Event}
use Rattle.schedule_text.specs.declared.event.Event.TheVariants.{Open, Data, Hang, Deliver, Cut, Join}
use Rattle.cluster_core.specs.declared.world.World.{World}
use Rattle.cluster_core.specs.Flow.{run_steps, steps_of_event}
use Rattle.cluster_core.specs.Headline.OneNode.{ServesItsOwn, ServesItsOwnBehind, ServesItsOwnEach, node_of}
use Rattle.cluster_core.proofs.Runs.NotLost.{let_left}
use Rattle.cluster_core.proofs.Runs.OneNodeLaw.{carry_all_sends, one_more_step}
use Rattle.cluster_core.proofs.Runs.OwnNodes.{OfEachNode, comes_of_each}

-- a client that is connected at this node
abbrev pub IsClientOf : World → List ℕ → ℕ → Type 0
IsClientOf world node conn = node_of (client_at world conn) ≡ Some node

-- whom it sends to is no matter here
abbrev pub Anyone : List ℕ → LinkMsg → Type 0
Anyone node message = ⊤

-- the connections of each node are those of its own clients
abbrev pub HaveOwnClients : World → Type 0
HaveOwnClients world = OfEachNode (λ node it. HasOwn (IsClientOf world node) Anyone it) world

-- ---- other clients are given nothing

-- the client of this connection is as it was
abbrev pub IsSame : ℕ → World → World → Type 0
IsSame other before after = client_at after other ≡ client_at before other

given_same : (world : World) (conn : ℕ) (bytes : List ℕ) (other : ℕ) (found : Option Client) → other ≢ conn
    → IsSame other world (given_more world conn bytes found)
unfolding given_more
given_same world conn bytes other None ne = refl
given_same world conn bytes other (Some client) ne =
    value_at-with_value-other nat_cmp numbers_apart world.clients conn other (record client { given = client.given ++ bytes }) ne

module _ (own : ℕ → Type 0) (may : List ℕ → LinkMsg → Type 0) (marks : Type 0) (node : List ℕ) (other : ℕ)
    (not_own : (conn : ℕ) → own conn → other ≢ conn) where
  carry_same : (world : World) (out : Out) → IsLetOut own may marks out → IsSame other world (carry node world out)
  unfolding carry
  carry_same world (to_client conn bytes) is = given_same world conn bytes other (client_at world conn) (not_own conn is)
  carry_same world (Close conn) is = refl
  carry_same world (mark_out ask counts) is = refl
  carry_same world (tell ask how) is = refl
  carry_same world (to_node name message) is = refl

  carry_all_same : (world : World) (outs : List Out) → AreLetOut own may marks outs → IsSame other world (carry_all node world outs)
  unfolding carry_all
  carry_all_same world [] are = refl
  carry_all_same world (out ∷ outs) are = carry_all_same (carry node world out) outs are.1 ∙ carry_same world out are.0

-- ---- what comes to a node

anyone_moves : (message : LinkMsg) → MovesBy Anyone message
anyone_moves (Answer answer) = λ server e ask. tt
anyone_moves Up = tt
anyone_moves End = tt
anyone_moves (Line line) = tt
anyone_moves (Ask ask) = tt

anyone_moves_on : (input : NodeInput) → MovesOn Anyone input
anyone_moves_on (Opened conn) = tt
anyone_moves_on (Piece conn bytes) = tt
anyone_moves_on (Hung conn) = tt
anyone_moves_on (From name message) = anyone_moves message

sends_anyone : (it : NodeState) (input : NodeInput) → MaySend Anyone it input
sends_anyone (state.Front front) input = (record { master = λ bytes. tt; named = λ ask server e. tt; made = λ ask e. tt }, anyone_moves_on input)
sends_anyone (state.Back home) input = λ bytes. tt
sends_anyone (state.Master master) input = tt

node_lets : (own : ℕ → Type 0) (it : NodeState) (input : NodeInput) → HasOwn own Anyone it → ComesFrom own Anyone input
    → LetsOut own Anyone (MayMark it) it (node_takes it input)
node_lets own it input has from = takes_lets own Anyone it input has from (sends_anyone it input)

-- what comes to a node changes no client but its own
pub comes_same : (world : World) (node : List ℕ) (input : NodeInput) (other : ℕ) (found : Option NodeState) → node_at world node ≡ found → HaveOwnClients world
    → ComesFrom (IsClientOf world node) Anyone input → node_of (client_at world other) ≢ Some node → IsSame other world (comes_to world node input found)
unfolding comes_to
comes_same world node input other None there each from ne = refl
comes_same world node input other (Some it) there each from ne =
    carry_all_same (IsClientOf world node) Anyone (MayMark it) node other (λ conn is e. ne (ap (λ c. node_of (client_at world c)) e ∙ is))
    (with_acted world node (node_takes it input)) (not_lost world.broken node (node_takes it input).outs)
    (let_left (IsClientOf world node) Anyone (MayMark it) world.broken node (node_takes it input).outs
    (node_lets (IsClientOf world node) it input (each node it there) from).outs)

-- who speaks is no matter either
pub anyone_speaks : (name : List ℕ) (message : LinkMsg) → SpeaksFrom Anyone name message
anyone_speaks name (Answer answer) = tt
anyone_speaks name Up = tt
anyone_speaks name End = tt
anyone_speaks name (Line line) = λ bytes. tt
anyone_speaks name (Ask ask) = λ answer. tt

-- ---- each node keeps to its own clients

module _ (own now : ℕ → Type 0) (more : (conn : ℕ) → own conn → now conn) where
  more_watchers : (watchers : List (ℕ × Tag)) → AllByRecursion (λ (e : ℕ × Tag). own e.0) watchers → AllByRecursion (λ (e : ℕ × Tag). now e.0) watchers
  more_watchers [] all = tt
  more_watchers (e ∷ watchers) all = (more e.0 all.0, more_watchers watchers all.1)

  more_own : (it : NodeState) → HasOwn own Anyone it → HasOwn now Anyone it
  more_own (state.Front front) has = λ conn connection at. more conn (has conn connection at)
  more_own (state.Back home) has = has
  more_own (state.Master master) has = record { watchers = more_watchers master.watchers has.watchers; streams = has.streams }

-- clients stay where they are
abbrev StayThere : World → World → Type 0
StayThere before after = (node : List ℕ) (conn : ℕ) → IsClientOf before node conn → IsClientOf after node conn

stays_own : (world next : World) → StayThere world next → OfEachNode (λ node it. HasOwn (IsClientOf world node) Anyone it) next → HaveOwnClients next
stays_own world next stay each node it there = more_own (IsClientOf world node) (IsClientOf next node) (stay node) it (each node it there)

comes_stay : (world : World) (node : List ℕ) (input : NodeInput) (found : Option NodeState) → StayThere world (comes_to world node input found)
unfolding comes_to
comes_stay world node input None any conn is = is
comes_stay world node input (Some it) any conn is =
    (carry_all_sends node (with_acted world node (node_takes it input)) (not_lost world.broken node (node_takes it input).outs)).clients conn ∙ is

pub comes_own : (world : World) (node : List ℕ) (input : NodeInput) → HaveOwnClients world → ComesFrom (IsClientOf world node) Anyone input
    → HaveOwnClients (comes_to world node input (node_at world node))
comes_own world node input each from =
    stays_own world (comes_to world node input (node_at world node)) (comes_stay world node input (node_at world node))
    (comes_of_each (λ any it. HasOwn (IsClientOf world any) Anyone it) world node input (node_at world node) refl each
    (λ it there. (node_lets (IsClientOf world node) it input (each node it there) from).has))

-- ---- a client that connects

pub joins_here : (world : World) (node : List ℕ) (conn : ℕ) → IsClientOf (with_client world node conn) node conn
joins_here world node conn = ap node_of (value_at-with_entry nat_cmp numbers_apart world.clients conn (record { at = node; given = [] }))

pub joins_same : (world : World) (node : List ℕ) (conn other : ℕ) → other ≢ conn → IsSame other world (with_client world node conn)
joins_same world node conn other ne = value_at-with_entry-other nat_cmp numbers_apart world.clients conn other (record { at = node; given = [] }) ne

-- one that is connected is another one
is_another : (world : World) (conn other : ℕ) (node : List ℕ) → client_at world conn ≡ None → IsClientOf world node other → other ≢ conn
is_another world conn other node none is e = (let no : None ≡ Some node = sym (ap node_of none) ∙ ap (λ c. node_of (client_at world c)) (sym e) ∙ is in cc)

pub joins_own : (world : World) (node : List ℕ) (conn : ℕ) → client_at world conn ≡ None → HaveOwnClients world → HaveOwnClients (with_client world node conn)
joins_own world node conn none each =
    stays_own world (with_client world node conn)
    (λ any other is. ap node_of (joins_same world node conn other (is_another world conn other any none is)) ∙ is) each

-- ---- an event

opens_own : (world : World) (node : List ℕ) (conn : ℕ) (found : Option Client) → client_at world conn ≡ found → HaveOwnClients world
    → HaveOwnClients (opens world node conn found)
unfolding opens
opens_own world node conn (Some there) at each = each
opens_own world node conn None at each =
    comes_own (with_client world node conn) node (Opened conn) (joins_own world node conn at each) (joins_here world node conn)

opens_same : (world : World) (node : List ℕ) (conn : ℕ) (found : Option Client) → client_at world conn ≡ found → HaveOwnClients world
    → (other : ℕ) (client : Client)
    → client_at world other ≡ Some client → Some node ≢ Some client.at → client_at (opens world node conn found) other ≡ Some client
unfolding opens
opens_same world node conn (Some there) at each other client is ne = is
opens_same world node conn None at each other client is ne =
    let apart = is_another world conn other client.at at (ap node_of is) in
    let same = joins_same world node conn other apart in
    comes_same (with_client world node conn) node (Opened conn) other (node_at world node) refl (joins_own world node conn at each) (joins_here world node conn)
    (λ e. ne (sym e ∙ ap node_of (same ∙ is)))
    ∙ same ∙ is

client_own : (world : World) (input : NodeInput) (found : Option Client) → ((client : Client) → found ≡ Some client
    → ComesFrom (IsClientOf world client.at) Anyone input)
    → HaveOwnClients world → HaveOwnClients (client_does world input found)
unfolding client_does
client_own world input None from each = each
client_own world input (Some client) from each = comes_own world client.at input each (from client refl)

client_same : (world : World) (input : NodeInput) (found : Option Client) → ((client : Client) → found ≡ Some client
    → ComesFrom (IsClientOf world client.at) Anyone input)
    → HaveOwnClients world → (other : ℕ) (client : Client) → client_at world other ≡ Some client → node_of found ≢ Some client.at
    → client_at (client_does world input found) other ≡ Some client
unfolding client_does
client_same world input None from each other client is ne = is
client_same world input (Some one) from each other client is ne =
    comes_same world one.at input other (node_at world one.at) refl each (from one refl) (λ e. ne (sym e ∙ ap node_of is)) ∙ is

deliver_own : (world : World) (from to : List ℕ) (queue : List LinkMsg) → HaveOwnClients world → HaveOwnClients (deliver_first world from to queue)
unfolding deliver_first
deliver_own world from to [] each = each
deliver_own world from to (message ∷ rest) each = comes_own (taken_from_link world from to) to (From from message) each (anyone_speaks from message)

deliver_same : (world : World) (from to : List ℕ) (queue : List LinkMsg) → HaveOwnClients world → (other : ℕ) (client : Client)
    → client_at world other ≡ Some client
    → Some to ≢ Some client.at → client_at (deliver_first world from to queue) other ≡ Some client
unfolding deliver_first
deliver_same world from to [] each other client is ne = is
deliver_same world from to (message ∷ rest) each other client is ne =
    comes_same (taken_from_link world from to) to (From from message) other (node_at world to) refl each (anyone_speaks from message) (λ e. ne
    (sym e ∙ ap node_of is)) ∙ is

-- a link breaks, or comes up

cut_own : (world : World) (one other : List ℕ) (k l : ℕ) (may : Bool) → HaveOwnClients world → HaveOwnClients (cuts_if may world one other k l)
unfolding cuts_if
cut_own world one other k l true each = each
cut_own world one other k l false each = each

cut_same : (world : World) (one other : List ℕ) (k l : ℕ) (may : Bool) (conn : ℕ) → client_at (cuts_if may world one other k l) conn ≡ client_at world conn
unfolding cuts_if
cut_same world one other k l true conn = refl
cut_same world one other k l false conn = refl

join_own : (world : World) (one other : List ℕ) (may : Bool) → HaveOwnClients world → HaveOwnClients (joins_if may world one other)
unfolding joins_if
join_own world one other true each = each
join_own world one other false each = each

join_same : (world : World) (one other : List ℕ) (may : Bool) (conn : ℕ) → client_at (joins_if may world one other) conn ≡ client_at world conn
unfolding joins_if
join_same world one other true conn = refl
join_same world one other false conn = refl

takes_own : (world : World) (event : Event) → HaveOwnClients world → HaveOwnClients (takes world event)
unfolding takes
takes_own world (Open node conn) each = opens_own world node conn (client_at world conn) refl each
takes_own world (Data conn bytes) each = client_own world (Piece conn bytes) (client_at world conn) (λ client is. ap node_of is) each
takes_own world (Hang conn) each = client_own world (Hung conn) (client_at world conn) (λ client is. ap node_of is) each
takes_own world (Deliver from to) each = deliver_own world from to (on_link world.links from to) each
takes_own world (Cut one other k l) each = cut_own world one other k l (may_cut world one other) each
takes_own world (Join one other) each = join_own world one other (may_join world one other) each
takes_own world event each = each

takes_same : (world : World) (event : Event) → HaveOwnClients world → ServesItsOwn event world (takes world event)
unfolding takes
takes_same world (Open node conn) each = λ other client is ne. opens_same world node conn (client_at world conn) refl each other client is ne
takes_same world (Data conn bytes) each = λ other client is ne.
    client_same world (Piece conn bytes) (client_at world conn) (λ one at. ap node_of at) each other client is ne
takes_same world (Hang conn) each = λ other client is ne.
    client_same world (Hung conn) (client_at world conn) (λ one at. ap node_of at) each other client is ne
takes_same world (Deliver from to) each = λ other client is ne. deliver_same world from to (on_link world.links from to) each other client is ne
takes_same world (Cut one other k l) each = λ conn client is ne. cut_same world one other k l (may_cut world one other) conn ∙ is
takes_same world (Join one other) each = λ conn client is ne. join_same world one other (may_join world one other) conn ∙ is
takes_same world event each = λ other client is ne. is

same_worker : (world after : World) (event : Event) → ServesItsOwn event (stepped world) after → ServesItsOwn event world after
same_worker world after (Open node conn) own = own
same_worker world after (Data conn bytes) own = own
same_worker world after (Hang conn) own = own
same_worker world after (Deliver from to) own = own
same_worker world after event own = own

step_same : (world : World) (event : Event) → HaveOwnClients world → ServesItsOwn event world (steps_by world event)
step_same world event each = same_worker world (steps_by world event) event (takes_same (stepped world) event each)

pub run_own : (world : World) (steps : List Event) → HaveOwnClients world → HaveOwnClients (run_steps world steps)
unfolding run_steps
run_own world [] each = each
run_own world (event ∷ steps) each = run_own (steps_by world event) steps (takes_own (stepped world) event each)

-- ---- the start

first_own : (config : Config) (node : Node) (kind : Kind) (own : ℕ → Type 0) → HasOwn own Anyone (first_state config node kind)
unfolding first_state booted new_front
first_own config node master_kind own = record { watchers = tt; streams = tt }
first_own config node Frontend own = λ conn connection at. cc
first_own config node backend_kind own = none_owed_at_start (MayBeAnswered Anyone) (place_of node) (master_of config)

node_own : (config : Config) (world : World) (node : Node) → HaveOwnClients world → HaveOwnClients (with_node config world node)
node_own config world node each other it there = ⊎_elim
    (λ (e : other ≡ node.name).
    (let same : first_state config node node.kind ≡ it = same_Some (first_state config node node.kind) it
    (sym (value_at-with_entry (slice_cmp nat_cmp) names_apart world.nodes node.name (first_state config node node.kind))
    ∙ subst (λ n. node_at (with_node config world node) n ≡ Some it) e there) in
    subst (HasOwn (IsClientOf world other) Anyone) same (first_own config node node.kind (IsClientOf world other))))
    (λ (ne : other ≢ node.name).
    each other it (sym (value_at-with_entry-other (slice_cmp nat_cmp) names_apart world.nodes node.name other (first_state config node node.kind) ne) ∙ there))
    (same_or_other (slice_cmp nat_cmp) names_apart other node.name)

nodes_own : (config : Config) (world : World) (nodes : List Node) → HaveOwnClients world → HaveOwnClients (with_nodes config world nodes)
unfolding with_nodes
nodes_own config world [] each = each
nodes_own config world (node ∷ nodes) each = nodes_own config (with_node config world node) nodes (node_own config world node each)

ups_own : (world : World) (links : List Link) → HaveOwnClients world → HaveOwnClients (with_ups world links)
unfolding with_ups
ups_own world [] each = each
ups_own world (link ∷ links) each = ups_own (told_up world link) links (comes_own world link.to (From link.from Up) each tt)

no_node : HaveOwnClients no_world
no_node node it there = cc

pub start_own : (config : Config) → HaveOwnClients (start config)
unfolding start
start_own config = ups_own (with_nodes config no_world config.nodes) (links_of config.nodes) (nodes_own config no_world config.nodes no_node)

-- ---- a run

serves_each : (world : World) (steps : List Event) → HaveOwnClients world → ServesItsOwnEach world steps
serves_each world steps each before event later parts =
    subst (λ w. ServesItsOwn event (run_steps world before) w) (sym (one_more_step world before event))
    (step_same (run_steps world before) event (run_own world before each))

-- in each of these steps of a run
pub serves_its_own_each : (config : Config) (steps : List Event) → ServesItsOwnEach (start config) steps
serves_its_own_each config steps = serves_each (start config) steps (start_own config)

-- and of an event behind a run
pub serves_its_own_behind : (layout : Layout) (world : World) (event : Event) → ServesItsOwnBehind layout world event
serves_its_own_behind layout world event = λ config steps are e.
    subst (λ w. ServesItsOwnEach w (steps_of_event layout world event)) (sym e)
    (serves_each (run_steps (start config) steps) (steps_of_event layout world event) (run_own (start config) steps (start_own config)))
