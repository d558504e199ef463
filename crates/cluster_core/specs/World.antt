-- The cluster before its first step, and what an event that is one step does: something comes to one node, which changes its state, writes an
-- entry to its disk, if it has one to write, and then lets outputs out; or a link breaks or comes up.
use Rattle.std.specs.Prelude.{ℕ, ◌+◌, Bool, true, false, not, ◌&&◌, if◌then◌else◌, List, [], ◌∷◌, ◌++◌, map, Option, None, Some}
use Rattle.std.specs.Ordering.{nat_cmp, is_eq}
use Rattle.std.specs.Cmp.Lexicographic.{slice_cmp}
use Rattle.back_node.specs.declared.node.BackNode.{BackNode}
use Rattle.back_node.specs.Node.{new_node}
use Rattle.front_core.specs.declared.front.Front.{Front}
use Rattle.front_core.specs.Front.{new_front}
use Rattle.node_step.specs.declared.input.NodeInput.{NodeInput}
use Rattle.node_step.specs.declared.input.NodeInput.TheVariants.{Opened, Piece, Hung, From}
use Rattle.link_msg.specs.declared.message.LinkMsg.{LinkMsg}
use Rattle.link_msg.specs.declared.message.LinkMsg.TheVariants.{Up, End}
use Rattle.link_msg.specs.declared.out.Out.{Out}
use Rattle.link_msg.specs.declared.out.Out.TheVariants.{Client as to_client, Close, Link as to_node, Mark as mark, Told as tell}
use Rattle.master_core.specs.Boot.{booted as master_booted}
use Rattle.mur_base.specs.declared.home.Location.{Location}
use Rattle.mur_base.specs.Map.{value_at, with_entry, with_value}
use Rattle.mur_base.specs.declared.point.AskId.{AskId}
use Rattle.mur_config.specs.declared.config.Config.{Config}
use Rattle.mur_config.specs.declared.node.Kind.{Kind}
use Rattle.mur_config.specs.declared.node.Kind.TheVariants.{Master as master_kind, Frontend, Backend as backend_kind}
use Rattle.master_core.specs.declared.master.Master.{Master}
use Rattle.mur_config.specs.declared.node.Link.{Link}
use Rattle.mur_config.specs.declared.node.Node.{Node}
use Rattle.mur_config.specs.Nodes.{links_of}
use Rattle.mur_model.specs.declared.setting.Setting.{Setting}
use Rattle.node_record.specs.Table.{empty_table}
use Rattle.node_step.specs.declared.node.NodeState.{NodeState}
use Rattle.node_step.specs.declared.node.NodeState.TheVariants as state
use Rattle.node_step.specs.NodeStep.{Acted, as_front, as_back, as_master, takes as node_takes}
use Rattle.schedule_text.specs.declared.event.Event.{Event}
use Rattle.schedule_text.specs.declared.event.Event.TheVariants.{Open, Data, Hang, Deliver, Cut, Join}
use Rattle.cluster_core.specs.declared.world.Client.{Client}
use Rattle.mark_history.specs.declared.mark.MarkKind.{MarkKind}
use Rattle.mark_history.specs.declared.mark.MarkKind.TheVariants.{Home, Told}
use Rattle.cluster_core.specs.declared.layout.Layout.{Layout}
use Rattle.cluster_core.specs.declared.world.World.{World}
use Rattle.link_queue.specs.Broken.{Broken, breaking, is_broken, mending}
use Rattle.link_queue.specs.Links.{Links, cut_short, on_link, sent, without_first}

-- the cluster at one moment: how its nodes are linked, and what its steps change
pub record ClusterState : Type 0 where
  pub layout : Layout
  pub world : World

-- before any node
abbrev pub no_world : World
no_world = record { nodes = []; disks = []; clients = []; broken = []; links = []; marks = []; steps = 0 }

-- the disks of nodes, each as the entries that it has
abbrev pub Disks : Type 0
Disks = List (List ℕ × List (List ℕ))

abbrev pub first_name : List (List ℕ) → List ℕ
first_name [] = []
first_name (name ∷ names) = name

unfoldable pub or_backend : Kind → List ℕ → List (List ℕ) → List (List ℕ)
or_backend master_kind name names = names
or_backend Frontend name names = names
or_backend backend_kind name names = name ∷ names

-- the backends in their order
unfoldable pub backends_of : List Node → List (List ℕ)
backends_of [] = []
backends_of (node ∷ nodes) = or_backend node.kind node.name (backends_of nodes)

-- the first backend makes a mailbox that has no name above it
abbrev pub home_of : Config → List ℕ
home_of config = first_name (backends_of config.nodes)

unfoldable pub or_master : Kind → List ℕ → List ℕ → List ℕ
or_master master_kind name other = name
or_master Frontend name other = other
or_master backend_kind name other = other

unfoldable pub master_among : List Node → List ℕ
master_among [] = []
master_among (node ∷ nodes) = or_master node.kind node.name (master_among nodes)

-- the name of the master
abbrev pub master_of : Config → List ℕ
master_of config = master_among config.nodes

abbrev pub setting_of : Config → Setting
setting_of config = record { users = config.users; date = config.date }

-- the place of what a backend keeps
abbrev pub place_of : Node → Location
place_of node = record { server = node.name; partition = node.partition }

-- a node as it begins, by its kind: without connections, mailboxes or records
unfoldable pub first_state : Config → Node → Kind → NodeState
first_state config node master_kind = state.Master (master_booted node.name (backends_of config.nodes) empty_table)
first_state config node Frontend = state.Front (new_front node.name (home_of config) (master_of config) (setting_of config))
first_state config node backend_kind = state.Back (new_node (place_of node) (master_of config))

-- the master and a backend begin with a disk without entries; a frontend has none
unfoldable pub with_disk : Disks → List ℕ → Kind → Disks
with_disk disks name master_kind = with_entry (slice_cmp nat_cmp) disks name []
with_disk disks name Frontend = disks
with_disk disks name backend_kind = with_entry (slice_cmp nat_cmp) disks name []

-- a node more
abbrev pub with_node : Config → World → Node → World
with_node config world node = record world {
  nodes = with_entry (slice_cmp nat_cmp) world.nodes node.name (first_state config node node.kind);
  disks = with_disk world.disks node.name node.kind;
}

unfoldable pub with_nodes : Config → World → List Node → World
with_nodes config world [] = world
with_nodes config world (node ∷ nodes) = with_nodes config (with_node config world node) nodes

abbrev pub client_at : World → ℕ → Option Client
client_at world conn = value_at nat_cmp world.clients conn

abbrev pub node_at : World → List ℕ → Option NodeState
node_at world node = value_at (slice_cmp nat_cmp) world.nodes node

-- the entries of a node's disk, if it has one
abbrev pub disk_at : World → List ℕ → Option (List (List ℕ))
disk_at world node = value_at (slice_cmp nat_cmp) world.disks node

-- the frontend, the backend of a name
abbrev pub front_at : World → List ℕ → Option Front
front_at world node = as_front (node_at world node)

abbrev pub home_at : World → List ℕ → Option BackNode
home_at world node = as_back (node_at world node)

-- the master of a name
abbrev pub master_at : World → List ℕ → Option Master
master_at world node = as_master (node_at world node)

-- a client is given bytes
unfoldable pub given_more : World → ℕ → List ℕ → Option Client → World
given_more world conn bytes None = world
given_more world conn bytes (Some client) =
    record world { clients = with_value nat_cmp world.clients conn (record client { given = client.given ++ bytes }) }

-- this step says so of a command
abbrev pub marked : World → AskId → MarkKind → World
marked world ask kind = record world { marks = world.marks ++ (record { step = world.steps; ask = ask; kind = kind }) ∷ [] }

-- an output of a node in this step is carried out
unfoldable pub carry : List ℕ → World → Out → World
carry node world (to_client conn bytes) = given_more world conn bytes (client_at world conn)
carry node world (Close conn) = world
carry node world (to_node other message) = record world { links = sent world.links node other message }
carry node world (mark ask counts) = marked world ask (Home counts)
carry node world (tell ask how) = marked world ask (Told how)

unfoldable pub carry_all : List ℕ → World → List Out → World
carry_all node world [] = world
carry_all node world (out ∷ outs) = carry_all node (carry node world out) outs

-- a node in another state
abbrev pub with_state : World → List ℕ → NodeState → World
with_state world node it = record world { nodes = with_value (slice_cmp nat_cmp) world.nodes node it }

-- an entry stands behind those of a node's disk
unfoldable pub written_on : Disks → List ℕ → List ℕ → Option (List (List ℕ)) → Disks
written_on disks node entry None = disks
written_on disks node entry (Some entries) = with_value (slice_cmp nat_cmp) disks node (entries ++ entry ∷ [])

-- so does what a step has to write
unfoldable pub written : Disks → List ℕ → Option (List ℕ) → Disks
written disks node None = disks
written disks node (Some entry) = written_on disks node entry (value_at (slice_cmp nat_cmp) disks node)

abbrev pub with_written : World → List ℕ → Option (List ℕ) → World
with_written world node entry = record world { disks = written world.disks node entry }

-- a message that is sent on a broken link is lost
unfoldable pub is_lost : Broken → List ℕ → Out → Bool
is_lost broken node (to_node other message) = is_broken broken node other
is_lost broken node (to_client conn bytes) = false
is_lost broken node (Close conn) = false
is_lost broken node (mark ask counts) = false
is_lost broken node (tell ask how) = false

-- an output is carried out, unless it is lost
abbrev pub carry_or_lose : List ℕ → World → Out → World
carry_or_lose node world out = if is_lost world.broken node out then world else carry node world out

-- what a node lets out, but for what is lost
unfoldable pub not_lost : Broken → List ℕ → List Out → List Out
not_lost broken node [] = []
not_lost broken node (out ∷ outs) =
    if is_lost broken node out then not_lost broken node outs else out ∷ not_lost broken node outs

-- the entry of a node's step is written, and the node is in its new state
abbrev pub with_acted : World → List ℕ → Acted → World
with_acted world node acted = with_state (with_written world node acted.entry) node acted.state

-- the step of a node: once its entry is written, its outputs are carried out
abbrev pub acts : World → List ℕ → Acted → World
acts world node acted = carry_all node (with_acted world node acted) (not_lost world.broken node acted.outs)

-- something comes to a node, if it is there
unfoldable pub comes_to : World → List ℕ → NodeInput → Option NodeState → World
comes_to world node input None = world
comes_to world node input (Some it) = acts world node (node_takes it input)

abbrev pub comes : World → List ℕ → NodeInput → World
comes world node input = comes_to world node input (node_at world node)

-- a node is told that a link to it is up, which is no step
abbrev pub told_up : World → Link → World
told_up world link = comes world link.to (From link.from Up)

unfoldable pub with_ups : World → List Link → World
with_ups world [] = world
with_ups world (link ∷ links) = with_ups (told_up world link) links

-- every node, each of its links whole and up; no connection, no step, and nothing on its way but the UPDATE of each frontend
unfoldable pub start : Config → World
start config = with_ups (with_nodes config no_world config.nodes) (links_of config.nodes)

-- which node is the master, how the nodes are linked, which are backends, and the names of all: no step changes it
abbrev pub layout_of : Config → Layout
layout_of config = record { master = master_of config; pairs = links_of config.nodes; backends = backends_of config.nodes; names = map (λ node. node.name) config.nodes }

abbrev pub begun : Config → ClusterState
begun config = record { layout = layout_of config; world = start config }

abbrev pub with_client : World → List ℕ → ℕ → World
with_client world node conn = record world { clients = with_entry nat_cmp world.clients conn (record { at = node; given = [] }) }

-- a connection is opened, unless there is one of its number
unfoldable pub opens : World → List ℕ → ℕ → Option Client → World
opens world node conn (Some there) = world
opens world node conn None = comes (with_client world node conn) node (Opened conn)

-- what a client does comes to the node to which it is connected
unfoldable pub client_does : World → NodeInput → Option Client → World
client_does world input None = world
client_does world input (Some client) = comes world client.at input

abbrev pub taken_from_link : World → List ℕ → List ℕ → World
taken_from_link world from to = record world { links = without_first world.links from to }

-- the first message from one node to another is taken, if there is one
unfoldable pub deliver_first : World → List ℕ → List ℕ → List LinkMsg → World
deliver_first world from to [] = world
deliver_first world from to (message ∷ rest) = comes (taken_from_link world from to) to (From from message)

-- ---- a link breaks, and comes up

-- a link joins a frontend and a backend, two backends, or a frontend and the master; those of the master with backends don't break
unfoldable pub are_parted : NodeState → NodeState → Bool
are_parted (state.Front front) (state.Back home) = true
are_parted (state.Back home) (state.Front front) = true
are_parted (state.Front front) (state.Master master) = true
are_parted (state.Master master) (state.Front front) = true
are_parted (state.Back home) (state.Back other) = true
are_parted one other = false

unfoldable pub may_part : Option NodeState → Option NodeState → Bool
may_part (Some one) (Some other) = are_parted one other
may_part one other = false

-- a link may break that isn't broken
unfoldable pub may_cut : World → List ℕ → List ℕ → Bool
may_cut world one other = may_part (node_at world one) (node_at world other) && not (is_eq (slice_cmp nat_cmp one other)) && not (is_broken world.broken one other)

-- of each direction so many messages stay, and End comes behind them
abbrev pub cut_links : Links LinkMsg → List ℕ → List ℕ → ℕ → ℕ → Links LinkMsg
cut_links links one other kept kept_back = cut_short (cut_short links one other kept End) other one kept_back End

abbrev pub with_cut : World → List ℕ → List ℕ → ℕ → ℕ → World
with_cut world one other kept kept_back = record world {
  links = cut_links world.links one other kept kept_back;
  broken = breaking (breaking world.broken one other) other one;
}

unfoldable pub cuts_if : Bool → World → List ℕ → List ℕ → ℕ → ℕ → World
cuts_if true world one other kept kept_back = with_cut world one other kept kept_back
cuts_if false world one other kept kept_back = world

unfoldable pub is_nothing : List LinkMsg → Bool
is_nothing [] = true
is_nothing (message ∷ rest) = false

-- a broken link may come up once both nodes took their End
unfoldable pub may_join : World → List ℕ → List ℕ → Bool
may_join world one other = is_broken world.broken one other && is_nothing (on_link world.links one other) && is_nothing (on_link world.links other one)

-- both nodes are sent Up
abbrev pub with_join : World → List ℕ → List ℕ → World
with_join world one other = record world {
  links = sent (sent world.links one other Up) other one Up;
  broken = mending (mending world.broken one other) other one;
}

unfoldable pub joins_if : Bool → World → List ℕ → List ℕ → World
joins_if true world one other = with_join world one other
joins_if false world one other = world

-- an event whose step has begun; those of disks and crashes change nothing
unfoldable pub takes : World → Event → World
takes world (Open node conn) = opens world node conn (client_at world conn)
takes world (Data conn bytes) = client_does world (Piece conn bytes) (client_at world conn)
takes world (Hang conn) = client_does world (Hung conn) (client_at world conn)
takes world (Deliver from to) = deliver_first world from to (on_link world.links from to)
takes world (Cut one other kept kept_back) = cuts_if (may_cut world one other) world one other kept kept_back
takes world (Join one other) = joins_if (may_join world one other) world one other
takes world event = world

abbrev pub stepped : World → World
stepped world = record world { steps = world.steps + 1 }

-- an event that is one step
abbrev pub steps_by : World → Event → World
steps_by world event = takes (stepped world) event
