-- No node but a backend and the master marks a command, and these do so only where a node says something to them.
use Rattle.std.proofs.Common.{ℕ, List, [], ◌∷◌}
use Rattle.std.specs.Prelude.{⊤}
use Rattle.std.specs.List.{AllByRecursion}
use Rattle.front_core.specs.declared.front.Front.{Front}
use Rattle.front_core.specs.Front.{ways_of}
use Rattle.front_core.proofs.OwnOuts.{AreLetOut, HasConnections, MayAsk, MovesBy, bytes_own, connect_own, message_own}
use Rattle.link_msg.specs.declared.message.LinkMsg.{LinkMsg}
use Rattle.link_msg.specs.declared.message.LinkMsg.TheVariants.{Up, End, Line, Ask, Answer}
use Rattle.link_msg.specs.declared.out.Out.{Out}
use Rattle.link_msg.specs.declared.out.Out.TheVariants.{Client, Close, Link, Mark, Told}
use Rattle.master_core.specs.Outside.{connect as outside_connects, bytes_in as outside_says}
use Rattle.master_core.proofs.OutsideAlone.{AreItsOwn, IsItsOwn, bytes_alone, connects_alone}
use Rattle.node_step.specs.declared.input.NodeInput.{NodeInput}
use Rattle.node_step.specs.declared.input.NodeInput.TheVariants.{Opened, Piece, Hung, From}
use Rattle.node_step.specs.declared.node.NodeState.{NodeState}
use Rattle.node_step.specs.declared.node.NodeState.TheVariants as node
use Rattle.node_step.specs.NodeStep.{back_takes, front_takes, master_takes, takes}

abbrev pub IsUnmarked : Out → Type 0
IsUnmarked (Mark ask counts) = ⊥
IsUnmarked out = ⊤

abbrev pub AreUnmarked : List Out → Type 0
AreUnmarked outs = AllByRecursion IsUnmarked outs

-- ---- a frontend

abbrev AnyClient : ℕ → Type 0
AnyClient conn = ⊤

abbrev Anyone : List ℕ → LinkMsg → Type 0
Anyone node message = ⊤

one_unmarked : (out : Out) → (AreLetOut AnyClient Anyone ⊥ (out ∷ [])) → IsUnmarked out
one_unmarked (Client conn bytes) is = tt
one_unmarked (Close conn) is = tt
one_unmarked (Link name message) is = tt
one_unmarked (Mark ask counts) is = is.0
one_unmarked (Told ask how) is = tt

all_unmarked : (outs : List Out) → AreLetOut AnyClient Anyone ⊥ outs → AreUnmarked outs
all_unmarked [] are = tt
all_unmarked (out ∷ outs) are = (one_unmarked out (are.0, tt), all_unmarked outs are.1)

any_has : (front : Front) → HasConnections AnyClient front
any_has front conn connection at = tt

asks_any : (front : Front) → MayAsk Anyone (ways_of front)
asks_any front = record { master = λ bytes. tt; named = λ ask server e. tt; made = λ ask e. tt }

moves_any : (message : LinkMsg) → MovesBy Anyone message
moves_any (Answer answer) = λ server e ask. tt
moves_any Up = tt
moves_any End = tt
moves_any (Line line) = tt
moves_any (Ask ask) = tt

front_unmarked : (front : Front) (input : NodeInput) → AreUnmarked (front_takes front input).outs
unfolding front_takes
front_unmarked front (Opened conn) = all_unmarked _ (connect_own AnyClient Anyone front (any_has front) conn tt).outs
front_unmarked front (Piece conn bytes) = all_unmarked _ (bytes_own AnyClient Anyone front (any_has front) (asks_any front) conn bytes).outs
front_unmarked front (Hung conn) = tt
front_unmarked front (From name message) =
    all_unmarked _ (message_own AnyClient Anyone front (any_has front) (asks_any front) name message (moves_any message)).outs

-- ---- the master, for what a client does

own_unmarked : (conn : ℕ) (out : Out) → IsItsOwn conn out → IsUnmarked out
own_unmarked conn (Client own bytes) is = tt
own_unmarked conn (Close own) is = tt
own_unmarked conn (Link name message) is = absurd is
own_unmarked conn (Mark ask counts) is = absurd is
own_unmarked conn (Told ask how) is = absurd is

all_own : (conn : ℕ) (outs : List Out) → AreItsOwn conn outs → AreUnmarked outs
unfolding AreItsOwn
all_own conn [] are = tt
all_own conn (out ∷ outs) are = (own_unmarked conn out are.0, all_own conn outs are.1)

-- ---- whichever node

-- a client acts
abbrev pub IsOfClient : NodeInput → Type 0
IsOfClient (From name message) = ⊥
IsOfClient input = ⊤

-- a frontend, or a node at which a client acts
abbrev pub MarksNone : NodeState → NodeInput → Type 0
MarksNone (node.Front front) input = ⊤
MarksNone (node.Back home) input = IsOfClient input
MarksNone (node.Master master) input = IsOfClient input

pub takes_unmarked : (it : NodeState) (input : NodeInput) → MarksNone it input → AreUnmarked (takes it input).outs
unfolding takes back_takes master_takes
takes_unmarked (node.Front front) input of = front_unmarked front input
takes_unmarked (node.Back home) (Opened conn) of = tt
takes_unmarked (node.Back home) (Piece conn bytes) of = tt
takes_unmarked (node.Back home) (Hung conn) of = tt
takes_unmarked (node.Back home) (From name message) of = absurd of
takes_unmarked (node.Master master) (Opened conn) of = all_own conn (outside_connects master conn).outs (connects_alone master conn).own
takes_unmarked (node.Master master) (Piece conn bytes) of = all_own conn (outside_says master conn bytes).outs (bytes_alone master conn bytes).own
takes_unmarked (node.Master master) (Hung conn) of = tt
takes_unmarked (node.Master master) (From name message) of = absurd of
