-- The command of a connection is in one place: of all that is on its way over all links just one message is about the connection, but for what is left of
-- commands before this one, no backend but the one of the place has a flow or a waiting ask of it, and its barrier is where the place says.
use Rattle.std.specs.Prelude.{◌≡◌, ℕ, List, None, Some}
use Rattle.back_node.specs.declared.node.BackNode.{BackNode}
use Rattle.feed_core.specs.declared.replica.Replica.{Replica}
use Rattle.front_core.proofs.OneConnection.Places.{IsPlaced, of_connection}
use Rattle.link_msg.specs.declared.message.LinkMsg.{LinkMsg}
use Rattle.link_queue.specs.Links.{Links, on_link}
use Rattle.mur_base.specs.declared.point.AskId.{AskId}
use Rattle.name_commands.specs.Places.{TalkShows}
use Rattle.name_commands.specs.Whose.{is_of_connection}
use Rattle.route_links.specs.Barriers.{IsBarrierAt}
use Rattle.many_links.specs.Murder.{Nodes}
use Rattle.cluster_core.proofs.Commands.Place.{Place, at_backend, at_barrier, its_message, Place as place}

-- the backend of a place is there, and has this place of its own
abbrev pub IsThere : Nodes → Place → Type 0
IsThere nodes place.nowhere = Unit {0}
IsThere nodes (place.is_asked server ask) = (node : BackNode) × (nodes server ≡ Some node)
IsThere nodes (place.is_answered server answer) = (node : BackNode) × (nodes server ≡ Some node)
IsThere nodes (place.is_dropped server) = (node : BackNode) × (nodes server ≡ Some node)
IsThere nodes (place.is_at me at) = (node : BackNode) × (nodes me.server ≡ Some node) × (node.flows.me ≡ me)
IsThere nodes (place.is_barred at) = Unit {0}

-- at each backend and on its links with the master
abbrev pub ShowsAt : List ℕ → Links LinkMsg → ℕ → Place → List ℕ → BackNode → Type 0
ShowsAt master links conn here name node =
    TalkShows (is_of_connection conn) node (on_link links name master) (on_link links master name) (at_backend name here)

abbrev pub ShowEach : List ℕ → Nodes → Links LinkMsg → ℕ → Place → Type 0
ShowEach master nodes links conn here = (name : List ℕ) (node : BackNode) → nodes name ≡ Some node → ShowsAt master links conn here name node

-- the command of this number, of a connection of this frontend
pub record IsInPlace (master : List ℕ) (nodes : Nodes) (links : Links LinkMsg) (front : List ℕ) (replica : Replica) (id : AskId) (here : Place) : Type 0 where
  pub message : IsPlaced id.command (of_connection id.conn) links (its_message master front id here)
  pub shows : ShowEach master nodes links id.conn here
  pub barrier : IsBarrierAt id (at_barrier here) (on_link links front master) (on_link links master front) replica
  pub there : IsThere nodes here

-- a connection that no frontend has is in none
pub record IsInNone (master : List ℕ) (nodes : Nodes) (links : Links LinkMsg) (conn : ℕ) : Type 0 where
  pub message : IsPlaced 0 (of_connection conn) links None
  pub shows : ShowEach master nodes links conn place.nowhere
