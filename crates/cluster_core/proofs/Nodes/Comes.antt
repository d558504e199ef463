-- What comes to a node is a step of what the node is; all other nodes are as they were. The entry of the step is written first.
use Rattle.std.proofs.Common.{◌≡◌, ◌≢◌, ℕ, List, [], Option, None, Some, refl, sym, ◌∙◌, ap, subst}
use Rattle.std.specs.Ordering.{nat_cmp}
use Rattle.std.specs.Cmp.Lexicographic.{slice_cmp}
use Rattle.std.proofs.Math.Logic.{⊎_elim}
use Rattle.back_node.specs.declared.node.BackNode.{BackNode}
use Rattle.back_node.specs.Acted.{BackActed}
use Rattle.back_node.specs.Takes.{node_takes as home_step}
use Rattle.front_core.specs.declared.front.Front.{Front}
use Rattle.front_core.specs.Front.{Stepped, connect, bytes_in, hang, deliver, still as front_still}
use Rattle.link_msg.specs.declared.out.Out.{Out}
use Rattle.many_links.specs.Murder.{with_node}
use Rattle.many_links.proofs.NodesLaw.{node_own, node_else}
use Rattle.master_core.specs.declared.master.Master.{Master}
use Rattle.master_core.specs.declared.sender.Sender.TheVariants.{Outside}
use Rattle.master_core.specs.Linked.{node_says}
use Rattle.master_core.specs.Outside.{Stepped as Served, connect as outside_connects, bytes_in as outside_says, still}
use Rattle.master_core.specs.Streams.{without}
use Rattle.mur_base.specs.Map.{value_at}
use Rattle.mur_base.proofs.MapLaws.{names_apart, same_or_other, value_at-with_value, value_at-with_value-other}
use Rattle.node_step.specs.declared.input.NodeInput.{NodeInput}
use Rattle.node_step.specs.declared.input.NodeInput.TheVariants.{Opened, Piece, Hung, From}
use Rattle.node_step.specs.declared.node.NodeState.{NodeState}
use Rattle.node_step.specs.declared.node.NodeState.TheVariants as state
use Rattle.node_step.specs.NodeStep.{as_front, as_back, as_master, front_takes, back_takes, master_takes, takes as node_takes}
use Rattle.node_step.proofs.NodeKinds.{front_is, back_is, master_is, a_front, a_back, no_back, no_front}
use Rattle.cluster_core.specs.declared.world.World.{World}
use Rattle.cluster_core.specs.World.{comes, comes_to, front_at, home_at, master_at, node_at, with_written, written}
use Rattle.cluster_core.proofs.Nodes.Carried.{acts_whole, is_made, made}

-- a client does it
abbrev pub IsOfClient : NodeInput → Type 0
IsOfClient (From name message) = ⊥
IsOfClient input = Unit {0}

-- the world after a step of a frontend, of a backend, of the master
abbrev pub with_front : World → List ℕ → Stepped → World
with_front world node next = made world node (state.Front next.front) next.outs

abbrev pub with_home : World → List ℕ → BackActed → World
with_home world node next = made world node (state.Back next.state) next.outs

abbrev pub with_master : World → List ℕ → Served → World
with_master world node next = made world node (state.Master next.master) next.outs

-- the world once the entry of what a node makes of an input is written
abbrev pub wrote : World → List ℕ → NodeState → NodeInput → World
wrote world node it input = with_written world node (node_takes it input).entry

-- where no link is broken all that it lets out is carried out
pub comes_by : (world : World) (node : List ℕ) (input : NodeInput) (it : NodeState) → world.broken ≡ [] → node_at world node ≡ Some it
    → comes world node input ≡ made (wrote world node it input) node (node_takes it input).state (node_takes it input).outs
unfolding comes_to
comes_by world node input it whole there = ap (comes_to world node input) there ∙ acts_whole world node (node_takes it input) whole

-- a node that isn't there
pub none_comes : (world : World) (node : List ℕ) (input : NodeInput) → node_at world node ≡ None → comes world node input ≡ world
unfolding comes_to
none_comes world node input none = ap (comes_to world node input) none

-- ---- a frontend, which writes nothing

abbrev pub front_does : Front → NodeInput → Stepped
front_does front (Opened conn) = connect front conn
front_does front (Piece conn bytes) = bytes_in front conn bytes
front_does front (Hung conn) = front_still (hang front conn)
front_does front (From name message) = deliver front name message

pub front_step : (world : World) (node : List ℕ) (front : Front) (input : NodeInput)
    → made (wrote world node (state.Front front) input) node (node_takes (state.Front front) input).state (node_takes (state.Front front) input).outs
    ≡ with_front world node (front_does front input)
unfolding node_takes front_takes written
front_step world node front (Opened conn) = refl
front_step world node front (Piece conn bytes) = refl
front_step world node front (Hung conn) = refl
front_step world node front (From name message) = refl

-- ---- a backend, of which clients want nothing

abbrev pub home_does : BackNode → NodeInput → BackActed
home_does home (From name message) = home_step home name message
home_does home input = record { state = home; entry = None; outs = [] }

pub back_step : (world : World) (node : List ℕ) (home : BackNode) (input : NodeInput)
    → made (wrote world node (state.Back home) input) node (node_takes (state.Back home) input).state (node_takes (state.Back home) input).outs
    ≡ with_home (wrote world node (state.Back home) input) node (home_does home input)
unfolding node_takes back_takes
back_step world node home (Opened conn) = refl
back_step world node home (Piece conn bytes) = refl
back_step world node home (Hung conn) = refl
back_step world node home (From name message) = refl

-- ---- the master

abbrev pub master_does : Master → NodeInput → Served
master_does master (Opened conn) = outside_connects master conn
master_does master (Piece conn bytes) = outside_says master conn bytes
master_does master (Hung conn) = still (without master (Outside conn))
master_does master (From name message) = node_says master name message

pub master_step : (world : World) (node : List ℕ) (master : Master) (input : NodeInput)
    → made (wrote world node (state.Master master) input) node (node_takes (state.Master master) input).state (node_takes (state.Master master) input).outs
    ≡ with_master (wrote world node (state.Master master) input) node (master_does master input)
unfolding node_takes master_takes
master_step world node master (Opened conn) = refl
master_step world node master (Piece conn bytes) = refl
master_step world node master (Hung conn) = refl
master_step world node master (From name message) = refl

-- nothing is written of what a client does
pub client_writes : (world : World) (node : List ℕ) (it : NodeState) (input : NodeInput) → IsOfClient input → wrote world node it input ≡ world
unfolding node_takes front_takes back_takes master_takes written
client_writes world node (state.Front front) (Opened conn) of = refl
client_writes world node (state.Front front) (Piece conn bytes) of = refl
client_writes world node (state.Front front) (Hung conn) of = refl
client_writes world node (state.Back home) (Opened conn) of = refl
client_writes world node (state.Back home) (Piece conn bytes) of = refl
client_writes world node (state.Back home) (Hung conn) of = refl
client_writes world node (state.Master master) (Opened conn) of = refl
client_writes world node (state.Master master) (Piece conn bytes) of = refl
client_writes world node (state.Master master) (Hung conn) of = refl
client_writes world node it (From name message) of = absurd of

-- ---- the nodes of the next world

module _ (world : World) (node : List ℕ) (it : NodeState) (outs : List Out) where
  abbrev next : World
  next = made world node it outs

  pub made_other : (any : List ℕ) → any ≢ node → node_at next any ≡ node_at world any
  made_other any ne =
      ap (λ n. value_at (slice_cmp nat_cmp) n any) (is_made world node it outs).nodes
      ∙ value_at-with_value-other (slice_cmp nat_cmp) names_apart world.nodes node any it ne

  module _ (was : NodeState) (there : node_at world node ≡ Some was) where
    pub made_here : node_at next node ≡ Some it
    made_here =
        ap (λ n. value_at (slice_cmp nat_cmp) n node) (is_made world node it outs).nodes
        ∙ value_at-with_value (slice_cmp nat_cmp) names_apart world.nodes node it was there

    -- how a node looks in some respect, where its step changes nothing of that
    pub looks_beside : {X : Type 0} (look : Option NodeState → Option X) → look (Some it) ≡ look (Some was) → (any : List ℕ)
        → look (node_at next any) ≡ look (node_at world any)
    looks_beside look same any = ⊎_elim
        (λ (e : any ≡ node). subst (λ n. look (node_at next n) ≡ look (node_at world n)) (sym e)
        (ap look made_here ∙ same ∙ sym (ap look there)))
        (λ (ne : any ≢ node). ap look (made_other any ne))
        (same_or_other (slice_cmp nat_cmp) names_apart any node)

pub a_master : (master : Master) → as_master (Some (state.Master master)) ≡ Some master
unfolding as_master
a_master master = refl

-- a node of another kind is no master, no frontend, no backend
pub front_no_master : (front later : Front) → as_master (Some (state.Front later)) ≡ as_master (Some (state.Front front))
unfolding as_master
front_no_master front later = refl

pub home_no_master : (home later : BackNode) → as_master (Some (state.Back later)) ≡ as_master (Some (state.Back home))
unfolding as_master
home_no_master home later = refl

pub master_no_front : (master later : Master) → as_front (Some (state.Master later)) ≡ as_front (Some (state.Master master))
unfolding as_front
master_no_front master later = refl

pub master_no_home : (master later : Master) → as_back (Some (state.Master later)) ≡ as_back (Some (state.Master master))
unfolding as_back
master_no_home master later = refl

-- what the nodes are after a step of one frontend
pub record FrontMoved (world : World) (node : List ℕ) (later : Front) (next : World) : Type 0 where
  pub own : front_at next node ≡ Some later
  pub fronts : (any : List ℕ) → any ≢ node → front_at next any ≡ front_at world any
  pub homes : (any : List ℕ) → home_at next any ≡ home_at world any
  pub masters : (any : List ℕ) → master_at next any ≡ master_at world any

pub front_moved : (world : World) (node : List ℕ) (was : Front) (next : Stepped) → front_at world node ≡ Some was
    → FrontMoved world node next.front (with_front world node next)
front_moved world node was next at =
    let there = front_is (node_at world node) was at in
    record {
      own = ap as_front (made_here world node (state.Front next.front) next.outs (state.Front was) there) ∙ a_front next.front;
      fronts = λ any ne. ap as_front (made_other world node (state.Front next.front) next.outs any ne);
      homes = looks_beside world node (state.Front next.front) next.outs (state.Front was) there as_back (no_back next.front ∙ sym (no_back was));
      masters = looks_beside world node (state.Front next.front) next.outs (state.Front was) there as_master (front_no_master was next.front);
    }

-- of one backend
pub record HomeMoved (world : World) (node : List ℕ) (later : BackNode) (next : World) : Type 0 where
  pub own : home_at next node ≡ Some later
  pub homes : (any : List ℕ) → any ≢ node → home_at next any ≡ home_at world any
  pub all : (any : List ℕ) → home_at next any ≡ with_node (home_at world) node later any
  pub fronts : (any : List ℕ) → front_at next any ≡ front_at world any
  pub masters : (any : List ℕ) → master_at next any ≡ master_at world any

pub home_moved : (world : World) (node : List ℕ) (was : BackNode) (next : BackActed) → home_at world node ≡ Some was
    → HomeMoved world node next.state (with_home world node next)
home_moved world node was next at =
    let there = back_is (node_at world node) was at in
    let own : home_at (with_home world node next) node ≡ Some next.state =
    ap as_back (made_here world node (state.Back next.state) next.outs (state.Back was) there) ∙ a_back next.state in
    let homes : (any : List ℕ) → any ≢ node → home_at (with_home world node next) any ≡ home_at world any =
    λ any ne. ap as_back (made_other world node (state.Back next.state) next.outs any ne) in
    record {
      own = own;
      homes = homes;
      all = λ any. ⊎_elim
          (λ (e : any ≡ node). subst (λ n. home_at (with_home world node next) n ≡ with_node (home_at world) node next.state n) (sym e)
          (own ∙ sym (node_own (home_at world) node next.state)))
          (λ (ne : any ≢ node). homes any ne ∙ sym (node_else (home_at world) node next.state any ne))
          (same_or_other (slice_cmp nat_cmp) names_apart any node);
      fronts = looks_beside world node (state.Back next.state) next.outs (state.Back was) there as_front (no_front next.state ∙ sym (no_front was));
      masters = looks_beside world node (state.Back next.state) next.outs (state.Back was) there as_master (home_no_master was next.state);
    }

-- of the master
pub record MasterMoved (world : World) (node : List ℕ) (later : Master) (next : World) : Type 0 where
  pub own : master_at next node ≡ Some later
  pub masters : (any : List ℕ) → any ≢ node → master_at next any ≡ master_at world any
  pub fronts : (any : List ℕ) → front_at next any ≡ front_at world any
  pub homes : (any : List ℕ) → home_at next any ≡ home_at world any

pub master_moved : (world : World) (node : List ℕ) (was : Master) (next : Served) → master_at world node ≡ Some was
    → MasterMoved world node next.master (with_master world node next)
master_moved world node was next at =
    let there = master_is (node_at world node) was at in
    record {
      own = ap as_master (made_here world node (state.Master next.master) next.outs (state.Master was) there) ∙ a_master next.master;
      masters = λ any ne. ap as_master (made_other world node (state.Master next.master) next.outs any ne);
      fronts = looks_beside world node (state.Master next.master) next.outs (state.Master was) there as_front (master_no_front was next.master);
      homes = looks_beside world node (state.Master next.master) next.outs (state.Master was) there as_back (master_no_home was next.master);
    }

-- the master is one node, and no frontend or backend
pub master_no_front_at : (world : World) (node : List ℕ) (master : Master) → master_at world node ≡ Some master → front_at world node ≡ None
unfolding as_front
master_no_front_at world node master at = ap as_front (master_is (node_at world node) master at)

pub master_no_home_at : (world : World) (node : List ℕ) (master : Master) → master_at world node ≡ Some master → home_at world node ≡ None
unfolding as_back
master_no_home_at world node master at = ap as_back (master_is (node_at world node) master at)
