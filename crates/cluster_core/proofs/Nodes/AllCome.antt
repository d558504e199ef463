-- What comes to a node, in a world in which nothing that it lets out is lost: so a step of what the node is makes of the nodes, and of all links.
use Rattle.std.proofs.Common.{◌≡◌, ℕ, List, [], ◌∷◌, Option, None, Some, ap, ◌∙◌}
use Rattle.back_node.specs.declared.node.BackNode.{BackNode}
use Rattle.cluster_core.specs.World.{client_at, front_at, home_at, master_at, node_at, taken_from_link, with_client}
use Rattle.cluster_core.specs.declared.world.Client.{Client}
use Rattle.cluster_core.specs.declared.world.World.{World}
use Rattle.front_core.specs.declared.front.Front.{Front}
use Rattle.link_msg.specs.declared.message.LinkMsg.{LinkMsg}
use Rattle.link_queue.specs.Links.{on_link}
use Rattle.master_core.specs.declared.master.Master.{Master}
use Rattle.node_step.proofs.NodeKinds.{front_is, back_is, master_is}
use Rattle.node_step.specs.NodeStep.{takes as node_takes}
use Rattle.node_step.specs.declared.input.NodeInput.{NodeInput}
use Rattle.node_step.specs.declared.input.NodeInput.TheVariants.{Opened, Piece, Hung, From}
use Rattle.node_step.specs.declared.node.NodeState.{NodeState}
use Rattle.node_step.specs.declared.node.NodeState.TheVariants as state
use Rattle.schedule_text.specs.declared.event.Event.{Event}
use Rattle.schedule_text.specs.declared.event.Event.TheVariants.{Open, Data, Hang, Deliver}
use Rattle.cluster_core.proofs.Nodes.Carried.{made}
use Rattle.cluster_core.proofs.Nodes.Comes.{back_step, front_does, front_step, home_does, master_does, master_step, with_front, with_home, with_master, wrote}

-- all that it lets out is carried out
unfoldable pub all_come_to : World → List ℕ → NodeInput → Option NodeState → World
all_come_to world node input None = world
all_come_to world node input (Some it) = made (wrote world node it input) node (node_takes it input).state (node_takes it input).outs

abbrev pub all_come : World → List ℕ → NodeInput → World
all_come world node input = all_come_to world node input (node_at world node)

pub all_come_by : (world : World) (node : List ℕ) (input : NodeInput) (it : NodeState) → node_at world node ≡ Some it
    → all_come world node input ≡ made (wrote world node it input) node (node_takes it input).state (node_takes it input).outs
unfolding all_come_to
all_come_by world node input it there = ap (all_come_to world node input) there

pub none_all_come : (world : World) (node : List ℕ) (input : NodeInput) → node_at world node ≡ None → all_come world node input ≡ world
unfolding all_come_to
none_all_come world node input none = ap (all_come_to world node input) none

pub front_all_come : (world : World) (node : List ℕ) (input : NodeInput) (front : Front) → front_at world node ≡ Some front
    → all_come world node input ≡ with_front world node (front_does front input)
front_all_come world node input front at =
    all_come_by world node input (state.Front front) (front_is (node_at world node) front at) ∙ front_step world node front input

pub home_all_come : (world : World) (node : List ℕ) (input : NodeInput) (home : BackNode) → home_at world node ≡ Some home
    → all_come world node input ≡ with_home (wrote world node (state.Back home) input) node (home_does home input)
home_all_come world node input home at =
    all_come_by world node input (state.Back home) (back_is (node_at world node) home at) ∙ back_step world node home input

pub master_all_come : (world : World) (node : List ℕ) (input : NodeInput) (master : Master) → master_at world node ≡ Some master
    → all_come world node input ≡ with_master (wrote world node (state.Master master) input) node (master_does master input)
master_all_come world node input master at =
    all_come_by world node input (state.Master master) (master_is (node_at world node) master at) ∙ master_step world node master input

-- ---- what an event brings to a node

unfoldable pub all_open : World → List ℕ → ℕ → Option Client → World
all_open world node conn (Some there) = world
all_open world node conn None = all_come (with_client world node conn) node (Opened conn)

unfoldable pub all_of_client : World → NodeInput → Option Client → World
all_of_client world input None = world
all_of_client world input (Some client) = all_come world client.at input

unfoldable pub all_first : World → List ℕ → List ℕ → List LinkMsg → World
all_first world from to [] = world
all_first world from to (message ∷ rest) = all_come (taken_from_link world from to) to (From from message)

unfoldable pub all_takes : World → Event → World
all_takes world (Open node conn) = all_open world node conn (client_at world conn)
all_takes world (Data conn bytes) = all_of_client world (Piece conn bytes) (client_at world conn)
all_takes world (Hang conn) = all_of_client world (Hung conn) (client_at world conn)
all_takes world (Deliver from to) = all_first world from to (on_link world.links from to)
all_takes world event = world
