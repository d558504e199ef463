-- After every step the clients are in the order of their connections.
use Rattle.std.proofs.Common.{ℕ, List, [], ◌∷◌, ◌++◌, Option, None, Some, sym, subst}
use Rattle.std.specs.Ordering.{nat_cmp}
use Rattle.std.specs.List.Sorted.{IsStrictlySortedBy}
use Rattle.std.proofs.lemmas.Cmp.{nat_cmp_total}
use Rattle.node_step.specs.declared.input.NodeInput.{NodeInput}
use Rattle.node_step.specs.declared.input.NodeInput.TheVariants.{Opened, Piece, Hung, From}
use Rattle.node_step.specs.declared.node.NodeState.{NodeState}
use Rattle.node_step.specs.NodeStep.{takes as node_takes}
use Rattle.link_msg.specs.declared.message.LinkMsg.{LinkMsg}
use Rattle.link_msg.specs.declared.message.LinkMsg.TheVariants.{Up}
use Rattle.link_msg.specs.declared.out.Out.{Out}
use Rattle.link_msg.specs.declared.out.Out.TheVariants.{Client as to_client, Close, Link as to_node, Mark as mark, Told as tell}
use Rattle.mur_base.specs.Map.{IsInOrder}
use Rattle.mur_base.proofs.MapOrder.{with_entry-in_order, with_value-in_order}
use Rattle.mur_config.specs.declared.config.Config.{Config}
use Rattle.mur_config.specs.declared.node.Link.{Link}
use Rattle.mur_config.specs.declared.node.Node.{Node}
use Rattle.mur_config.specs.Nodes.{links_of}
use Rattle.schedule_text.specs.declared.event.Event.{Event}
use Rattle.schedule_text.specs.declared.event.Event.TheVariants.{Open, Data, Hang, Deliver, Cut, Join}
use Rattle.cluster_core.specs.declared.world.Client.{Client}
use Rattle.cluster_core.specs.declared.world.World.{World}
use Rattle.cluster_core.specs.Flow.{run_steps}
use Rattle.link_queue.specs.Links.{on_link}
use Rattle.cluster_core.specs.World.{may_cut, may_join, not_lost, no_world, start, with_node, with_nodes, client_at, node_at, given_more, carry, carry_all, with_acted}
use Rattle.cluster_core.specs.World.{comes_to, with_client, opens, client_does, taken_from_link, deliver_first, takes, stepped, steps_by, told_up, with_ups}
use Rattle.cluster_core.proofs.Nodes.Relinks.{cut_relinks, join_relinks}

abbrev pub IsOrdered : World → Type 0
IsOrdered world = IsInOrder nat_cmp world.clients

given_more-ordered : (world : World) (conn : ℕ) (bytes : List ℕ) (client : Option Client) → IsOrdered world → IsOrdered (given_more world conn bytes client)
unfolding given_more
given_more-ordered world conn bytes None is = is
given_more-ordered world conn bytes (Some client) is =
    with_value-in_order nat_cmp world.clients conn (record client { given = client.given ++ bytes }) is

carry-ordered : (node : List ℕ) (world : World) (out : Out) → IsOrdered world → IsOrdered (carry node world out)
unfolding carry
carry-ordered node world (to_client conn bytes) is = given_more-ordered world conn bytes (client_at world conn) is
carry-ordered node world (Close conn) is = is
carry-ordered node world (to_node other message) is = is
carry-ordered node world (mark ask counts) is = is
carry-ordered node world (tell ask how) is = is

carry_all-ordered : (node : List ℕ) (world : World) (outs : List Out) → IsOrdered world → IsOrdered (carry_all node world outs)
unfolding carry_all
carry_all-ordered node world [] is = is
carry_all-ordered node world (out ∷ outs) is = carry_all-ordered node (carry node world out) outs (carry-ordered node world out is)

comes_to-ordered : (world : World) (node : List ℕ) (input : NodeInput) (found : Option NodeState) → IsOrdered world → IsOrdered (comes_to world node input found)
unfolding comes_to
comes_to-ordered world node input None is = is
comes_to-ordered world node input (Some it) is =
    carry_all-ordered node (with_acted world node (node_takes it input)) (not_lost world.broken node (node_takes it input).outs) is

opens-ordered : (world : World) (node : List ℕ) (conn : ℕ) (there : Option Client) → IsOrdered world → IsOrdered (opens world node conn there)
unfolding opens
opens-ordered world node conn (Some there) is = is
opens-ordered world node conn None is =
    comes_to-ordered (with_client world node conn) node (Opened conn) (node_at world node)
    (with_entry-in_order nat_cmp nat_cmp_total world.clients conn (record { at = node; given = [] }) is)

client_does-ordered : (world : World) (input : NodeInput) (there : Option Client) → IsOrdered world → IsOrdered (client_does world input there)
unfolding client_does
client_does-ordered world input None is = is
client_does-ordered world input (Some client) is = comes_to-ordered world client.at input (node_at world client.at) is

deliver_first-ordered : (world : World) (from to : List ℕ) (queue : List LinkMsg) → IsOrdered world → IsOrdered (deliver_first world from to queue)
unfolding deliver_first
deliver_first-ordered world from to [] is = is
deliver_first-ordered world from to (message ∷ rest) is = comes_to-ordered (taken_from_link world from to) to (From from message) (node_at world to) is

takes-ordered : (world : World) (event : Event) → IsOrdered world → IsOrdered (takes world event)
unfolding takes
takes-ordered world (Open node conn) is = opens-ordered world node conn (client_at world conn) is
takes-ordered world (Data conn bytes) is = client_does-ordered world (Piece conn bytes) (client_at world conn) is
takes-ordered world (Hang conn) is = client_does-ordered world (Hung conn) (client_at world conn) is
takes-ordered world (Deliver from to) is = deliver_first-ordered world from to (on_link world.links from to) is
takes-ordered world (Cut one other kept kept_back) is =
    subst (IsInOrder nat_cmp) (sym (cut_relinks (may_cut world one other) world one other kept kept_back).clients) is
takes-ordered world (Join one other) is = subst (IsInOrder nat_cmp) (sym (join_relinks (may_join world one other) world one other).clients) is
takes-ordered world event is = is

run_steps-ordered : (world : World) (events : List Event) → IsOrdered world → IsOrdered (run_steps world events)
unfolding run_steps
run_steps-ordered world [] is = is
run_steps-ordered world (event ∷ events) is = run_steps-ordered (steps_by world event) events (takes-ordered (stepped world) event is)

with_nodes-ordered : (config : Config) (world : World) (nodes : List Node) → IsOrdered world
    → IsOrdered (with_nodes config world nodes)
unfolding with_nodes
with_nodes-ordered config world [] is = is
with_nodes-ordered config world (node ∷ nodes) is =
    with_nodes-ordered config (with_node config world node) nodes is

with_ups-ordered : (world : World) (links : List Link) → IsOrdered world → IsOrdered (with_ups world links)
unfolding with_ups
with_ups-ordered world [] is = is
with_ups-ordered world (link ∷ links) is =
    with_ups-ordered (told_up world link) links (comes_to-ordered world link.to (From link.from Up) (node_at world link.to) is)

start-ordered : (config : Config) → IsOrdered (start config)
unfolding start IsStrictlySortedBy
start-ordered config =
    with_ups-ordered (with_nodes config no_world config.nodes) (links_of config.nodes) (with_nodes-ordered config no_world config.nodes tt)

pub clients_in_order : (config : Config) (events : List Event) → IsOrdered (run_steps (start config) events)
clients_in_order config events = run_steps-ordered (start config) events (start-ordered config)
