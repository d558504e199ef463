-- A step counts at most as many commands of a connection more as bytes came.
use Rattle.std.proofs.Common.{◌≡◌, ℕ, ◌+◌, ◌<◌, ◌^◌, length, Some, refl, subst, arith}
use Rattle.back_node.specs.declared.node.BackNode.{BackNode}
use Rattle.front_core.specs.declared.front.Front.{Front}
use Rattle.front_core.specs.Front.{connect, bytes_in, hang, deliver}
use Rattle.front_core.specs.Room.{HasCommands}
use Rattle.front_core.proofs.Counts.{bytes_in_counts, deliver_counts, hang_counts, connect_counts, has_room_at, has_room_for}
use Rattle.master_core.specs.declared.master.Master.{Master}
use Rattle.node_step.specs.declared.input.NodeInput.{NodeInput}
use Rattle.node_step.specs.declared.input.NodeInput.TheVariants.{Opened, Piece, Hung, From}
use Rattle.node_step.specs.declared.node.NodeState.{NodeState}
use Rattle.node_step.specs.declared.node.NodeState.TheVariants as node
use Rattle.node_step.specs.NodeStep.{as_front, front_takes, back_takes, master_takes, takes}
use Rattle.node_step.specs.Room.{FrontHasRoom, HasRoomToTake}

-- no connection of the node, where it is a frontend, has more commands than so many
abbrev pub HasCommandsAt : NodeState → ℕ → Type 0
HasCommandsAt it most = (front : Front) → as_front (Some it) ≡ Some front → HasCommands front most

-- how many bytes come
abbrev pub bytes_of : NodeInput → ℕ
bytes_of (Opened conn) = 0
bytes_of (Piece conn bytes) = length bytes
bytes_of (Hung conn) = 0
bytes_of (From name message) = 0

front_has : (front : Front) (most : ℕ) → HasCommands front most → HasCommandsAt (node.Front front) most
unfolding as_front
front_has front most has next e = let same : front ≡ next = cc in subst (λ f. HasCommands f most) same has

no_more : (front : Front) (most : ℕ) → HasCommands front most → HasCommands front (most + 0)
no_more front most has conn connection at = omega (arith, has conn connection at)

front_counts : (front : Front) (input : NodeInput) (most : ℕ) → HasCommands front most → HasCommandsAt (front_takes front input).state (most + bytes_of input)
unfolding front_takes
front_counts front (Opened conn) most has =
    front_has (connect front conn).front (most + 0) (no_more (connect front conn).front most (connect_counts front conn most has))
front_counts front (Piece conn bytes) most has = front_has (bytes_in front conn bytes).front (most + length bytes) (bytes_in_counts front conn bytes most has)
front_counts front (Hung conn) most has = front_has (hang front conn) (most + 0) (no_more (hang front conn) most (hang_counts front conn most has))
front_counts front (From name message) most has =
    front_has (deliver front name message).front (most + 0) (no_more (deliver front name message).front most (deliver_counts front name message most has))

back_counts : (home : BackNode) (input : NodeInput) (most : ℕ) → HasCommandsAt (back_takes home input).state most
unfolding back_takes as_front
back_counts home (Opened conn) most next e = cc
back_counts home (Piece conn bytes) most next e = cc
back_counts home (Hung conn) most next e = cc
back_counts home (From name message) most next e = cc

master_counts : (master : Master) (input : NodeInput) (most : ℕ) → HasCommandsAt (master_takes master input).state most
unfolding master_takes as_front
master_counts master (Opened conn) most next e = cc
master_counts master (Piece conn bytes) most next e = cc
master_counts master (Hung conn) most next e = cc
master_counts master (From name message) most next e = cc

its_own : (front : Front) (most : ℕ) → HasCommandsAt (node.Front front) most → HasCommands front most
unfolding as_front
its_own front most has = has front refl

pub takes_counts : (it : NodeState) (input : NodeInput) (most : ℕ) → HasCommandsAt it most → HasCommandsAt (takes it input).state (most + bytes_of input)
unfolding takes as_front
takes_counts (node.Front front) input most has = front_counts front input most (its_own front most has)
takes_counts (node.Back home) input most has = back_counts home input (most + bytes_of input)
takes_counts (node.Master master) input most has = master_counts master input (most + bytes_of input)

front_room : (front : Front) (input : NodeInput) (most : ℕ) → HasCommands front most → most + bytes_of input < 2 ^ 64 → FrontHasRoom front input
unfolding FrontHasRoom
front_room front (Opened conn) most has fits = tt
front_room front (Piece conn bytes) most has fits = has_room_at front conn most (length bytes) has fits
front_room front (Hung conn) most has fits = tt
front_room front (From name message) most has fits = has_room_for front message most has (omega (arith, fits))

-- so there is room for a step
pub room_to_take : (it : NodeState) (input : NodeInput) (most : ℕ) → HasCommandsAt it most → most + bytes_of input < 2 ^ 64 → HasRoomToTake it input
unfolding HasRoomToTake
room_to_take (node.Front front) input most has fits = front_room front input most (its_own front most has) fits
room_to_take (node.Back home) input most has fits = tt
room_to_take (node.Master master) input most has fits = tt

pub room_to_open : (it : NodeState) (conn : ℕ) → HasRoomToTake it (Opened conn)
unfolding HasRoomToTake FrontHasRoom
room_to_open (node.Front front) conn = tt
room_to_open (node.Back home) conn = tt
room_to_open (node.Master master) conn = tt

pub room_to_hang : (it : NodeState) (conn : ℕ) → HasRoomToTake it (Hung conn)
unfolding HasRoomToTake FrontHasRoom
room_to_hang (node.Front front) conn = tt
room_to_hang (node.Back home) conn = tt
room_to_hang (node.Master master) conn = tt
