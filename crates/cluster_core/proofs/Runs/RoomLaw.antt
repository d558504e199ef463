-- No count of a run is above the steps and the bytes that its events bring.
use Rattle.std.proofs.Math.Logic.{⊎_elim}
use Rattle.std.proofs.Common.{◌≡◌, ◌≢◌, ℕ, ◌+◌, ◌<◌, ◌≤◌, ◌^◌, Bool, true, false, List, [], ◌∷◌, Option, None, Some, refl, sym, ◌∙◌, ap, subst, arith, ◌-◌, Result, Ok, Err, OnOk}
use Rattle.std.specs.Option.{IfSome}
use Rattle.std.specs.Ordering.{nat_cmp}
use Rattle.std.specs.Cmp.Lexicographic.{slice_cmp}
use Rattle.front_core.specs.declared.front.Front.{Front}
use Rattle.front_core.specs.Front.{new_front}
use Rattle.front_core.specs.Room.{HasCommands, HasRoomFor}
use Rattle.node_step.specs.declared.input.NodeInput.{NodeInput}
use Rattle.node_step.specs.declared.input.NodeInput.TheVariants.{Opened, Piece, Hung, From}
use Rattle.link_msg.specs.declared.message.LinkMsg.{LinkMsg}
use Rattle.link_msg.specs.declared.message.LinkMsg.TheVariants.{Up}
use Rattle.mur_base.specs.Map.{value_at}
use Rattle.mur_base.proofs.MapLaws.{names_apart, same_or_other, value_at-with_entry, value_at-with_entry-other, value_at-with_value, value_at-with_value-other}
use Rattle.mur_config.specs.declared.config.Config.{Config}
use Rattle.mur_config.specs.declared.node.Kind.{Kind}
use Rattle.mur_config.specs.declared.node.Kind.TheVariants.{Master, Frontend, Backend as backend_kind}
use Rattle.mur_config.specs.declared.node.Link.{Link}
use Rattle.mur_config.specs.declared.node.Node.{Node}
use Rattle.mur_config.specs.Nodes.{links_of}
use Rattle.mur_model.specs.declared.setting.Setting.{Setting}
use Rattle.node_step.specs.declared.node.NodeState.{NodeState}
use Rattle.node_step.specs.declared.node.NodeState.TheVariants as state
use Rattle.node_step.specs.NodeStep.{as_front, takes as node_takes}
use Rattle.node_step.specs.Room.{FrontHasRoom, HasRoomToTake}
use Rattle.node_step.proofs.Counts.{HasCommandsAt, bytes_of, takes_counts, room_to_take, room_to_open, room_to_hang}
use Rattle.schedule_text.specs.declared.event.Event.{Event}
use Rattle.schedule_text.specs.declared.event.Event.TheVariants.{Open, Data, Hang, Deliver, Cut, Join, Flow, Heal}
use Rattle.schedule_text.specs.Brings.{steps_of, bytes_brought}
use Rattle.cluster_core.specs.declared.world.Client.{Client}
use Rattle.cluster_core.specs.declared.world.World.{World}
use Rattle.cluster_core.specs.World.{cuts_if, joins_if, may_cut, may_join, not_lost, no_world, start, told_up, with_ups, first_state, with_node, with_nodes, client_at, node_at, front_at, with_state, acts, comes_to, with_client, opens, home_of, master_of, setting_of, client_does, taken_from_link, deliver_first, takes, stepped, steps_by, with_acted}
use Rattle.link_queue.specs.Links.{on_link}
use Rattle.cluster_core.specs.Room.{HaveCommands, HasRoom}
use Rattle.cluster_core.proofs.Runs.InTime.{comes_add, takes_adds}
use Rattle.cluster_core.proofs.Runs.OneNodeLaw.{carry_all_sends}

pub more_commands : (world : World) (m n : ℕ) → m ≤ n → HaveCommands world m → HaveCommands world n
more_commands world m n h have q front is conn connection at = omega (arith, h, have q front is conn connection at)

same_nodes : (world other : World) (n : ℕ) → other.nodes ≡ world.nodes → HaveCommands world n → HaveCommands other n
same_nodes world other n e have q front is = have q front (ap (λ nodes. as_front (value_at (slice_cmp nat_cmp) nodes q)) (sym e) ∙ is)

changed_commands : (world : World) (node : List ℕ) (old new : NodeState) (m n : ℕ) → node_at world node ≡ Some old → m ≤ n → HaveCommands world m
    → HasCommandsAt new n → HaveCommands (with_state world node new) n
changed_commands world node old new m n there h have has q front is =
    ⊎_elim
    (λ (e : q ≡ node). has front (sym (ap as_front (value_at-with_value (slice_cmp nat_cmp) names_apart world.nodes node new old there))
    ∙ subst (λ k. front_at (with_state world node new) k ≡ Some front) e is))
    (λ (ne : q ≢ node). more_commands world m n h have q front
    (sym (ap as_front (value_at-with_value-other (slice_cmp nat_cmp) names_apart world.nodes node q new ne)) ∙ is))
    (same_or_other (slice_cmp nat_cmp) names_apart q node)

at_node : (world : World) (node : List ℕ) (it : NodeState) (n : ℕ) → node_at world node ≡ Some it → HaveCommands world n → HasCommandsAt it n
at_node world node it n there have = λ front is. have node front (ap as_front there ∙ is)

comes_commands : (world : World) (node : List ℕ) (input : NodeInput) (n : ℕ) (found : Option NodeState) → node_at world node ≡ found → HaveCommands world n
    → HaveCommands (comes_to world node input found) (n + bytes_of input)
unfolding comes_to
comes_commands world node input n None there have = more_commands world n (n + bytes_of input) (omega arith) have
comes_commands world node input n (Some it) there have =
    let acted = node_takes it input in
    same_nodes (with_acted world node acted) (acts world node acted) (n + bytes_of input) (carry_all_sends node _
    (not_lost world.broken node acted.outs)).nodes
    (changed_commands world node it acted.state n (n + bytes_of input) there (omega arith) have
    (takes_counts it input n (at_node world node it n there have)))

opens_commands : (world : World) (node : List ℕ) (conn n : ℕ) (found : Option Client) → HaveCommands world n
    → HaveCommands (opens world node conn found) (n + 0)
unfolding opens
opens_commands world node conn n (Some client) have = more_commands world n (n + 0) (omega arith) have
opens_commands world node conn n None have = comes_commands (with_client world node conn) node (Opened conn) n (node_at world node) refl have

client_commands : (world : World) (input : NodeInput) (n : ℕ) (found : Option Client) → HaveCommands world n
    → HaveCommands (client_does world input found) (n + bytes_of input)
unfolding client_does
client_commands world input n None have = more_commands world n (n + bytes_of input) (omega arith) have
client_commands world input n (Some client) have = comes_commands world client.at input n (node_at world client.at) refl have

first_commands : (world : World) (from to : List ℕ) (queue : List LinkMsg) (n : ℕ) → HaveCommands world n
    → HaveCommands (deliver_first world from to queue) (n + 0)
unfolding deliver_first
first_commands world from to [] n have = more_commands world n (n + 0) (omega arith) have
first_commands world from to (message ∷ rest) n have =
    comes_commands (taken_from_link world from to) to (From from message) n (node_at world to) refl have

cut_commands : (world : World) (one other : List ℕ) (k l n : ℕ) (may : Bool) → HaveCommands world n → HaveCommands (cuts_if may world one other k l) (n + 0)
unfolding cuts_if
cut_commands world one other k l n true have = more_commands world n (n + 0) (omega arith) have
cut_commands world one other k l n false have = more_commands world n (n + 0) (omega arith) have

join_commands : (world : World) (one other : List ℕ) (n : ℕ) (may : Bool) → HaveCommands world n → HaveCommands (joins_if may world one other) (n + 0)
unfolding joins_if
join_commands world one other n true have = more_commands world n (n + 0) (omega arith) have
join_commands world one other n false have = more_commands world n (n + 0) (omega arith) have

takes_commands : (world : World) (event : Event) (n : ℕ) → HaveCommands world n → HaveCommands (takes world event) (n + bytes_brought event)
unfolding takes bytes_brought
takes_commands world (Open node conn) n have = opens_commands world node conn n (client_at world conn) have
takes_commands world (Data conn bytes) n have = client_commands world (Piece conn bytes) n (client_at world conn) have
takes_commands world (Hang conn) n have = client_commands world (Hung conn) n (client_at world conn) have
takes_commands world (Deliver from to) n have = first_commands world from to (on_link world.links from to) n have
takes_commands world (Cut one other k l) n have = cut_commands world one other k l n (may_cut world one other) have
takes_commands world (Join one other) n have = join_commands world one other n (may_join world one other) have
takes_commands world event n have = more_commands world n (n + 0) (omega arith) have

pub step_commands : (world : World) (event : Event) (n : ℕ) → HaveCommands world n → HaveCommands (steps_by world event) (n + bytes_brought event)
step_commands world event n have = takes_commands (stepped world) event n have

-- an event that is one step counts one
pub step_steps : (world : World) (event : Event) → (steps_by world event).steps ≡ world.steps + 1
step_steps world event = (takes_adds (stepped world) event).same_step

-- no connection at first
new_commands : (me home master : List ℕ) (setting : Setting) → HasCommands (new_front me home master setting) 0
unfolding new_front
new_commands me home master setting conn connection there = cc

first_commands_of : (config : Config) (node : Node) (kind : Kind) → HasCommandsAt (first_state config node kind) 0
unfolding first_state as_front
first_commands_of config node Master front e = cc
first_commands_of config node Frontend front e =
    let same : new_front node.name (home_of config) (master_of config) (setting_of config) ≡ front = cc in
    subst (λ f. HasCommands f 0) same (new_commands node.name (home_of config) (master_of config) (setting_of config))
first_commands_of config node backend_kind front e = cc

node_commands : (config : Config) (world : World) (node : Node) → HaveCommands world 0 → HaveCommands (with_node config world node) 0
node_commands config world node have q front is =
    let new = first_state config node node.kind in
    ⊎_elim
    (λ (e : q ≡ node.name). first_commands_of config node node.kind front
    (sym (ap as_front (value_at-with_entry (slice_cmp nat_cmp) names_apart world.nodes node.name new))
    ∙ subst (λ k. front_at (with_node config world node) k ≡ Some front) e is))
    (λ (ne : q ≢ node.name). have q front (sym (ap as_front (value_at-with_entry-other (slice_cmp nat_cmp) names_apart world.nodes node.name q new ne)) ∙ is))
    (same_or_other (slice_cmp nat_cmp) names_apart q node.name)

nodes_commands : (config : Config) (world : World) (nodes : List Node) → HaveCommands world 0
    → HaveCommands (with_nodes config world nodes) 0
unfolding with_nodes
nodes_commands config world [] have = have
nodes_commands config world (node ∷ nodes) have =
    nodes_commands config (with_node config world node) nodes (node_commands config world node have)

nobody_yet : (q : List ℕ) (front : Front) → as_front None ≡ Some front → HasCommands front 0
unfolding as_front
nobody_yet q front is = cc

-- a node that is told that a link to it is up counts nothing
ups_commands : (world : World) (links : List Link) → HaveCommands world 0 → HaveCommands (with_ups world links) 0
unfolding with_ups
ups_commands world [] have = have
ups_commands world (link ∷ links) have =
    ups_commands (told_up world link) links
    (more_commands (told_up world link) (0 + 0) 0 (omega arith) (comes_commands world link.to (From link.from Up) 0 (node_at world link.to) refl have))

pub start_commands : (config : Config) → HaveCommands (start config) 0
unfolding start
start_commands config =
    ups_commands (with_nodes config no_world config.nodes) (links_of config.nodes) (nodes_commands config no_world config.nodes nobody_yet)

nodes_steps : (config : Config) (world : World) (nodes : List Node) → (with_nodes config world nodes).steps ≡ world.steps
unfolding with_nodes
nodes_steps config world [] = refl
nodes_steps config world (node ∷ nodes) = nodes_steps config (with_node config world node) nodes

ups_steps : (world : World) (links : List Link) → (with_ups world links).steps ≡ world.steps
unfolding with_ups
ups_steps world [] = refl
ups_steps world (link ∷ links) =
    ups_steps (told_up world link) links ∙ (comes_add world link.to (From link.from Up) (node_at world link.to)).same_step

pub start_steps : (config : Config) → (start config).steps ≡ 0
unfolding start
start_steps config = ups_steps (with_nodes config no_world config.nodes) (links_of config.nodes) ∙ nodes_steps config no_world config.nodes

-- what single events require, from the room for them
pub one_step : (event : Event) → 1 ≤ steps_of event
unfolding steps_of
one_step (Flow count) = omega arith
one_step Heal = omega arith
one_step event = omega arith

pub step_fits : (world : World) (event : Event) → HasRoom world event → world.steps + 1 < 2 ^ 64
step_fits world event room = omega (arith, room.steps, one_step event)

fits_at : (world : World) (node : List ℕ) (input : NodeInput) (most : ℕ) (found : Option NodeState) → node_at world node ≡ found → HaveCommands world most
    → most + bytes_of input < 2 ^ 64 → IfSome found (λ it. HasRoomToTake it input)
fits_at world node input most None there have fits = tt
fits_at world node input most (Some it) there have fits = room_to_take it input most (at_node world node it most there have) fits

pub open_fits : (conn : ℕ) (found : Option NodeState) → IfSome found (λ it. HasRoomToTake it (Opened conn))
open_fits conn None = tt
open_fits conn (Some it) = room_to_open it conn

pub bytes_fit : (world : World) (conn : ℕ) (bytes : List ℕ) (found : Option Client) → HasRoom world (Data conn bytes)
    → IfSome found (λ client. IfSome (node_at world client.at) (λ it. HasRoomToTake it (Piece conn bytes)))
unfolding bytes_brought
bytes_fit world conn bytes None room = tt
bytes_fit world conn bytes (Some client) room =
    fits_at world client.at (Piece conn bytes) room.most (node_at world client.at) refl room.commands room.fits

hang_fits_at : (conn : ℕ) (found : Option NodeState) → IfSome found (λ it. HasRoomToTake it (Hung conn))
hang_fits_at conn None = tt
hang_fits_at conn (Some it) = room_to_hang it conn

pub hang_fits : (world : World) (conn : ℕ) (found : Option Client)
    → IfSome found (λ client. IfSome (node_at world client.at) (λ it. HasRoomToTake it (Hung conn)))
hang_fits world conn None = tt
hang_fits world conn (Some client) = hang_fits_at conn (node_at world client.at)

pub message_fits : (world : World) (from to sender : List ℕ) (message : LinkMsg) → HasRoom world (Deliver from to)
    → IfSome (node_at world to) (λ it. HasRoomToTake it (From sender message))
unfolding bytes_brought
message_fits world from to sender message room =
    fits_at world to (From sender message) room.most (node_at world to) refl room.commands (omega (arith, room.fits))

-- a flow has room for a delivery, and for the others behind it
pub turn_room : (world : World) (from to : List ℕ) (left : ℕ) → HasRoom world (Flow left) → HasRoom world (Deliver from to)
unfolding steps_of bytes_brought
turn_room world from to left room = record {
  most = room.most;
  commands = room.commands;
  fits = room.fits;
  steps = omega (arith, room.steps);
}

pub later_room : (world : World) (from to : List ℕ) (left : ℕ) → left ≢ 0 → HasRoom world (Flow left)
    → HasRoom (steps_by world (Deliver from to)) (Flow (left - 1))
unfolding steps_of bytes_brought
later_room world from to left some room = record {
  most = room.most;
  commands = more_commands (steps_by world (Deliver from to)) (room.most + bytes_brought (Deliver from to)) room.most (omega arith)
      (step_commands world (Deliver from to) room.most room.commands);
  fits = room.fits;
  steps = omega (arith, room.steps, some, step_steps world (Deliver from to));
}

pub later_room_by : {X E : Type 0} (result : Result X E) (world next : World) (from to : List ℕ) (left : ℕ) → left ≢ 0 → HasRoom world (Flow left)
    → OnOk result (next ≡ steps_by world (Deliver from to)) → OnOk result (HasRoom next (Flow (left - 1)))
later_room_by (Err fault) world next from to left some room is = tt
later_room_by (Ok done) world next from to left some room is =
    subst (λ w. HasRoom w (Flow (left - 1))) (sym is) (later_room world from to left some room)

-- what comes up counts no command
pub ups_have_room : (found : Option NodeState) (from : List ℕ) → IfSome found (λ it. HasRoomToTake it (From from Up))
unfolding HasRoomToTake FrontHasRoom HasRoomFor
ups_have_room None from = tt
ups_have_room (Some (state.Front front)) from = tt
ups_have_room (Some (state.Back home)) from = tt
ups_have_room (Some (state.Master master)) from = tt
