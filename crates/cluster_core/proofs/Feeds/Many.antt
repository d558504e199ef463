-- What holds of the master, the backends and the one store holds after each step of a node.
use Rattle.std.proofs.Common.{◌≡◌, ◌⊎◌, ℕ, List, Some, refl, sym, ap, ◌∙◌}
use Rattle.back_node.specs.declared.node.BackNode.{BackNode}
use Rattle.back_node.specs.Acted.{BackActed}
use Rattle.cluster_core.specs.World.{master_of, front_at, home_at, taken_from_link}
use Rattle.front_core.specs.declared.front.Front.{Front}
use Rattle.front_core.specs.Front.{Stepped}
use Rattle.link_msg.specs.declared.message.LinkMsg.{LinkMsg}
use Rattle.link_queue.specs.Links.{Links, on_link, without_first}
use Rattle.many_links.specs.FrontEvents.{IsFront}
use Rattle.many_links.specs.ManyHold.{ManyHold}
use Rattle.many_links.specs.Murder.{Murder, after_front, after_home, after_master, put_all}
use Rattle.many_links.proofs.FrontLaw.{alike_hold, outs_keep_many, passing_keeps_many}
use Rattle.many_links.proofs.MasterLaw.{clients_keep_many}
use Rattle.master_core.specs.declared.master.Master.{Master}
use Rattle.master_core.specs.Outside.{Stepped as Served}
use Rattle.mur_config.specs.declared.config.Config.{Config}
use Rattle.mur_model.specs.declared.store.Store.{Store}
use Rattle.node_step.specs.declared.input.NodeInput.{NodeInput}
use Rattle.node_step.specs.declared.input.NodeInput.TheVariants.{Opened, Piece, Hung, From}
use Rattle.node_step.specs.declared.node.NodeState.TheVariants as state
use Rattle.name_links.specs.Serials.{Given}
use Rattle.cluster_core.specs.declared.world.World.{World}
use Rattle.cluster_core.proofs.Connections.KeepsLaw.{AreNodesOf, murder_of}
use Rattle.cluster_core.proofs.Nodes.Carried.{is_made}
use Rattle.cluster_core.proofs.Nodes.Comes.{IsOfClient, front_moved, home_moved, master_does, master_moved, with_front, with_home, with_master}

-- a murder that has the same master, backends and links
pub same_murder : (one other : Murder) (given : Given) (store : Store) → other.master ≡ one.master → ((name : List ℕ) → other.nodes name ≡ one.nodes name)
    → other.links ≡ one.links → ManyHold one given store → ManyHold other given store
same_murder one other given store master nodes links many =
    alike_hold one other given store
    (record {
      master = master;
      nodes = nodes;
      up = λ name node at. ap (λ (l : Links LinkMsg). on_link l name one.master.me) links;
      down = λ name node at. ap (λ (l : Links LinkMsg). on_link l one.master.me name) links;
    }) many

module _ (config : Config) (world : World) (master : Master) (given : Given) (store : Store) (nodes : AreNodesOf config world master)
    (many : ManyHold (murder_of world master) given store) where
  -- a frontend's node is no other
  pub front_is_one : (node : List ℕ) (front : Front) → front_at world node ≡ Some front → IsFront (murder_of world master) node
  front_is_one node front at = let had = nodes.fronts node front at in (had.no_home, λ e. had.no_master (e ∙ nodes.me))

  -- ---- a frontend takes a message of any node, or what a client does

  pub front_keeps_many : (node : List ℕ) (front : Front) (next : Stepped) → front_at world node ≡ Some front
      → ManyHold (murder_of (with_front world node next) master) given store
  front_keeps_many node front next at =
      let murder : Murder = murder_of world master in
      same_murder (after_front murder murder.links node next.outs) (murder_of (with_front world node next) master) given store refl
      ((front_moved world node front next at).homes) (is_made world node (state.Front next.front) next.outs).links
      (outs_keep_many murder given store node next.outs many (front_is_one node front at))

  -- the message is off its link by then
  pub passing_many : (from to : List ℕ) → IsFront (murder_of world master) from ⊎ IsFront (murder_of world master) to
      → ManyHold (murder_of (taken_from_link world from to) master) given store
  passing_many from to is = passing_keeps_many (murder_of world master) given store from to many is

  -- ---- a backend

  pub home_murder : (from node : List ℕ) (home : BackNode) (next : BackActed) (later : Store) → home_at world node ≡ Some home
      → ManyHold (after_home (murder_of world master) (without_first world.links from node) node next) given later
      → ManyHold (murder_of (with_home (taken_from_link world from node) node next) master) given later
  home_murder from node home next later at hold =
      same_murder (after_home (murder_of world master) (without_first world.links from node) node next)
      (murder_of (with_home (taken_from_link world from node) node next) master) given later refl
      ((home_moved (taken_from_link world from node) node home next at).all)
      (is_made (taken_from_link world from node) node (state.Back next.state) next.outs).links hold

  -- ---- the master

  abbrev name : List ℕ
  name = master_of config

  -- with these links
  pub master_murder : (links : Links LinkMsg) (next : Served) (given_then : Given) (later : Store) → ManyHold (after_master (murder_of world master) links next) given_then later
      → ManyHold (murder_of (with_master (record world { links = links }) name next) next.master) given_then later
  master_murder links next given_then later hold =
      same_murder (after_master (murder_of world master) links next) (murder_of (with_master (record world { links = links }) name next) next.master) given_then later refl
      ((master_moved (record world { links = links }) name master next nodes.is_there).homes)
      ((is_made (record world { links = links }) name (state.Master next.master) next.outs).links
      ∙ ap (λ me. put_all me links next.outs) (sym nodes.me)) hold

  -- what a client from outside does
  pub master_serves_many : (input : NodeInput) → IsOfClient input
      → ManyHold (murder_of (with_master world name (master_does master input)) (master_does master input).master) given store
  master_serves_many (Opened conn) is =
      master_murder world.links (master_does master (Opened conn)) given store ((clients_keep_many (murder_of world master) given store many).connects conn)
  master_serves_many (Piece conn bytes) is =
      master_murder world.links (master_does master (Piece conn bytes)) given store ((clients_keep_many (murder_of world master) given store many).says conn bytes)
  master_serves_many (Hung conn) is =
      master_murder world.links (master_does master (Hung conn)) given store ((clients_keep_many (murder_of world master) given store many).ends conn)
  master_serves_many (From from message) is = absurd is
