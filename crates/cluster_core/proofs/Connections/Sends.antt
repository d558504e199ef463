-- What a frontend's sending of an ask, or of a NOOP, makes of the place of its command, and of those of others; and whom it may ask.
use Rattle.std.proofs.Common.{◌≡◌, ◌≢◌, ℕ, List, Option, None, Some, refl, sym, ap, subst}
use Rattle.std.specs.Ordering.{nat_cmp}
use Rattle.std.specs.Cmp.Lexicographic.{slice_cmp}
use Rattle.std.specs.Option.{IsSome}
use Rattle.back_node.specs.declared.node.BackNode.{BackNode}
use Rattle.feed_core.specs.declared.replica.Replica.{Replica}
use Rattle.front_core.specs.Ups.{Ups}
use Rattle.link_msg.specs.declared.ask.FrontAsk.{FrontAsk}
use Rattle.link_msg.specs.declared.message.LinkMsg.TheVariants.{Ask}
use Rattle.link_queue.specs.Broken.{Broken}
use Rattle.many_links.specs.Murder.{Nodes}
use Rattle.mur_base.specs.Map.{value_at}
use Rattle.mur_base.specs.declared.point.AskId.{AskId}
use Rattle.node_step.specs.NodeStep.{as_back}
use Rattle.route_links.specs.Answered.{IsNumbered, noop_of}
use Rattle.route_links.specs.Barriers.{Place as barrier}
use Rattle.cluster_core.specs.declared.world.World.{World}
use Rattle.cluster_core.specs.World.{home_at}
use Rattle.cluster_core.proofs.Commands.Place.{Place, Place as place}
use Rattle.cluster_core.proofs.Commands.Standing.{Fixed}
use Rattle.cluster_core.proofs.Connections.AsksFirst.{Reaches}
use Rattle.cluster_core.proofs.Connections.ConnectionLaw.{IsInPlaceOf, PlacesStay}
use Rattle.cluster_core.proofs.Connections.KeepsLaw.{NamesBackends}
use Rattle.cluster_core.proofs.Places.FrontSends.{sends_ask, sends_noop}
use Rattle.cluster_core.proofs.Places.FrontWorlds.{ask_stays, noop_stays, with_sent}
use Rattle.cluster_core.proofs.Places.Stays.{IsFrontend}

-- a frontend with this replica: each record names a backend, and so does what it asks without one
pub record MayAsk (fixed : Fixed) (nodes : Nodes) (front : List ℕ) (replica : Replica) : Type 0 where
  pub frontend : IsFrontend fixed.master nodes front
  pub knows : NamesBackends nodes replica.records
  pub first : IsSome (nodes fixed.first)

-- the command that was nowhere is here then, and those of every other connection are where they were
pub record SendsSo (fixed : Fixed) (world next : World) (front : List ℕ) (replica : Replica) (id : AskId) (here : Place) : Type 0 where
  pub own : IsInPlaceOf fixed world front replica id place.nowhere → IsInPlaceOf fixed next front replica id here
  pub others : (other : ℕ) → other ≢ id.conn → PlacesStay fixed other world next

pub the_backend : (found : Option BackNode) → IsSome found → (node : BackNode) × (found ≡ Some node)
the_backend None is = cc
the_backend (Some node) is = (node, refl)

-- the ask goes out
pub asks_so : (fixed : Fixed) (world : World) (front server : List ℕ) (replica : Replica) (ask : FrontAsk) → IsFrontend fixed.master (home_at world) front
    → IsSome (home_at world server)
    → SendsSo fixed world (with_sent world front server (Ask ask)) front replica ask.id (place.is_asked server ask)
asks_so fixed world front server replica ask frontend is =
    let there = the_backend (home_at world server) is in
    record {
      own = λ none. sends_ask fixed.master (home_at world) world.links front replica ask.id server there.0 ask frontend there.1 refl none;
      others = λ other ne. ask_stays fixed world front server there.0 ask other frontend there.1 ne;
    }

-- the NOOP goes out
pub bars_so : (fixed : Fixed) (world : World) (front : List ℕ) (replica : Replica) (id : AskId) → IsFrontend fixed.master (home_at world) front → IsNumbered id
    → SendsSo fixed world (with_sent world front fixed.master (noop_of id)) front replica id (place.is_barred barrier.asked)
bars_so fixed world front replica id frontend numbered = record {
  own = λ none. sends_noop fixed.master (home_at world) world.links front replica id frontend numbered none;
  others = λ other ne. noop_stays fixed world front id other frontend numbered ne;
}

-- the backends of a world in which the nodes are the same
pub homes_alike : (world next : World) → next.nodes ≡ world.nodes → home_at next ≡ home_at world
homes_alike world next e = ap (λ nodes. λ node. as_back (value_at (slice_cmp nat_cmp) nodes node)) e

pub may_ask_later : (fixed : Fixed) (world next : World) (front : List ℕ) (replica : Replica) → next.nodes ≡ world.nodes
    → MayAsk fixed (home_at world) front replica → MayAsk fixed (home_at next) front replica
may_ask_later fixed world next front replica e may =
    subst (λ nodes. MayAsk fixed nodes front replica) (sym (homes_alike world next e)) may

pub reaches_later : (fixed : Fixed) (world next : World) (ups : Ups) → next.nodes ≡ world.nodes → next.broken ≡ world.broken
    → Reaches fixed.master (home_at world) world.broken ups → Reaches fixed.master (home_at next) next.broken ups
reaches_later fixed world next ups e same reaches =
    subst (λ nodes. Reaches fixed.master nodes next.broken ups) (sym (homes_alike world next e))
    (subst (λ (b : Broken). Reaches fixed.master (home_at world) b ups) (sym same) reaches)
