-- Before the first step nobody has connected to the master.
use Rattle.std.proofs.Common.{◌≡◌, ◌≢◌, ℕ, List, [], ◌∷◌, None, Some, refl, sym, ◌∙◌, subst}
use Rattle.std.specs.Prelude.{⊤}
use Rattle.std.specs.Cmp.Lexicographic.{slice_cmp}
use Rattle.std.specs.List.Sorted.{IsStrictlySortedBy}
use Rattle.std.specs.Ordering.{nat_cmp}
use Rattle.std.proofs.Math.Logic.{⊎_elim}
use Rattle.std.proofs.lemmas.Option.{same_Some}
use Rattle.cluster_core.specs.World.{backends_of, first_state, master_at, no_world, node_at, start, told_up, with_node, with_nodes, with_ups}
use Rattle.feed_links.specs.Spelled.{CanBeTold}
use Rattle.guest_links.specs.Happenings.{seen_after, sends, step_of}
use Rattle.guest_links.specs.Served.{HasWatchers, IsNoGuest}
use Rattle.guest_links.proofs.Ends.{nobody_at_first}
use Rattle.guest_links.proofs.Orders.{watchers_stay_in_order}
use Rattle.guest_links.proofs.ServedLaw.{each_step_serves}
use Rattle.guest_links.proofs.WatcherLaw.{step_told}
use Rattle.link_msg.specs.declared.message.LinkMsg.{LinkMsg}
use Rattle.link_msg.specs.declared.message.LinkMsg.TheVariants.{Up}
use Rattle.master_core.specs.declared.master.Master.{Master}
use Rattle.master_core.specs.Boot.{booted}
use Rattle.mur_base.proofs.MapLaws.{names_apart, same_or_other, value_at-with_entry, value_at-with_entry-other}
use Rattle.mur_config.specs.declared.config.Config.{Config}
use Rattle.mur_config.specs.declared.node.Kind.{Kind}
use Rattle.mur_config.specs.declared.node.Kind.TheVariants.{Master as master_kind, Frontend, Backend as backend_kind}
use Rattle.mur_config.specs.declared.node.Link.{Link}
use Rattle.mur_config.specs.declared.node.Node.{Node}
use Rattle.mur_config.specs.Nodes.{links_of}
use Rattle.node_step.specs.declared.input.NodeInput.TheVariants.{From}
use Rattle.node_step.specs.declared.node.NodeState.{NodeState}
use Rattle.node_step.specs.declared.node.NodeState.TheVariants as state
use Rattle.node_step.specs.NodeStep.{back_takes, front_takes, master_takes, takes as node_takes}
use Rattle.node_step.proofs.NodeKinds.{master_is}
use Rattle.node_record.specs.Table.{empty_table}
use Rattle.cluster_core.specs.declared.world.World.{World}
use Rattle.cluster_core.proofs.Runs.OwnNodes.{OfEachNode, comes_of_each}

pub record HasNobodyYet (master : Master) : Type 0 where
  pub order : HasWatchers master
  pub told : CanBeTold master.table
  pub nobody : (conn : ℕ) → IsNoGuest master conn

abbrev HasNoGuests : NodeState → Type 0
HasNoGuests (state.Front front) = ⊤
HasNoGuests (state.Back home) = ⊤
HasNoGuests (state.Master master) = HasNobodyYet master

abbrev HaveNoGuests : World → Type 0
HaveNoGuests world = OfEachNode (λ node it. HasNoGuests it) world

empty_told : CanBeTold empty_table
unfolding IsStrictlySortedBy
empty_told = record { order = tt; spelled = tt }

first_nobody : (config : Config) (node : Node) (kind : Kind) → HasNoGuests (first_state config node kind)
unfolding first_state booted
first_nobody config node master_kind =
    let first = nobody_at_first node.name (backends_of config.nodes) empty_table in
    record { order = first.order; told = empty_told; nobody = first.nobody }
first_nobody config node Frontend = tt
first_nobody config node backend_kind = tt

node_more : (config : Config) (world : World) (node : Node) → HaveNoGuests world → HaveNoGuests (with_node config world node)
node_more config world node each other it there = ⊎_elim
    (λ (e : other ≡ node.name).
    subst HasNoGuests (same_Some (first_state config node node.kind) it
    (sym (value_at-with_entry (slice_cmp nat_cmp) names_apart world.nodes node.name (first_state config node node.kind))
    ∙ subst (λ n. node_at (with_node config world node) n ≡ Some it) e there)) (first_nobody config node node.kind))
    (λ (ne : other ≢ node.name).
    each other it (sym (value_at-with_entry-other (slice_cmp nat_cmp) names_apart world.nodes node.name other (first_state config node node.kind) ne) ∙ there))
    (same_or_other (slice_cmp nat_cmp) names_apart other node.name)

nodes_more : (config : Config) (world : World) (nodes : List Node) → HaveNoGuests world → HaveNoGuests (with_nodes config world nodes)
unfolding with_nodes
nodes_more config world [] each = each
nodes_more config world (node ∷ nodes) each = nodes_more config (with_node config world node) nodes (node_more config world node each)

-- whatever a node says
says_still : (master : Master) (from : List ℕ) (message : LinkMsg) → HasNobodyYet master → HasNobodyYet (step_of master (sends from message)).master
unfolding seen_after
says_still master from message yet = record {
  order = watchers_stay_in_order master (sends from message) yet.order;
  told = step_told master (sends from message) yet.told;
  nobody = λ conn. (each_step_serves master conn None (sends from message) yet.order (yet.nobody conn)).is;
}

up_still : (it : NodeState) (from : List ℕ) → HasNoGuests it → HasNoGuests (node_takes it (From from Up)).state
unfolding node_takes front_takes back_takes master_takes step_of
up_still (state.Front front) from has = tt
up_still (state.Back home) from has = tt
up_still (state.Master master) from has = says_still master from Up has

ups_more : (world : World) (links : List Link) → HaveNoGuests world → HaveNoGuests (with_ups world links)
unfolding with_ups
ups_more world [] each = each
ups_more world (link ∷ links) each =
    ups_more (told_up world link) links
    (comes_of_each (λ node it. HasNoGuests it) world link.to (From link.from Up) (node_at world link.to) refl each
    (λ it there. up_still it link.from (each link.to it there)))

no_node : HaveNoGuests no_world
no_node node it there = cc

start_no_guests : (config : Config) → HaveNoGuests (start config)
unfolding start
start_no_guests config = ups_more (with_nodes config no_world config.nodes) (links_of config.nodes) (nodes_more config no_world config.nodes no_node)

pub start_nobody : (config : Config) (node : List ℕ) (master : Master) → master_at (start config) node ≡ Some master → HasNobodyYet master
start_nobody config node master at = start_no_guests config node (state.Master master) (master_is (node_at (start config) node) master at)
