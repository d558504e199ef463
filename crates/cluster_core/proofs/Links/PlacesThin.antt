-- Where a command is in a world of which messages on broken links are gone: it is where it was; or it was in an ask or in an answer that is gone; or its NOOP or
-- OK is gone.
use Rattle.std.proofs.Common.{◌≡◌, ℕ, Bool, true, false, cond, List, [], ◌∷◌, Option, None, Some, filter, refl, sym, ◌∙◌, ap, subst}
use Rattle.std.proofs.lemmas.Option.{same_Some}
use Rattle.std.specs.Option.{IsSome}
use Rattle.std.specs.Cmp.Lexicographic.{slice_cmp}
use Rattle.std.specs.Ordering.{nat_cmp}
use Rattle.cluster_core.specs.World.{home_at, master_of}
use Rattle.cluster_core.specs.declared.world.World.{World}
use Rattle.feed_core.specs.declared.replica.Replica.{Replica}
use Rattle.front_core.proofs.OneConnection.Places.{IsPlaced, is_about, of_connection, same_about}
use Rattle.link_msg.specs.declared.message.LinkMsg.{LinkMsg}
use Rattle.link_msg.specs.declared.message.LinkMsg.TheVariants.{Answer as answer_of, Ask as ask_of, End}
use Rattle.link_queue.proofs.Placed.{Carried}
use Rattle.link_queue.proofs.Wires.{same_itself}
use Rattle.link_queue.specs.Broken.{Broken, is_broken}
use Rattle.link_queue.specs.Links.{on_link, same_link}
use Rattle.many_links.specs.Murder.{Nodes}
use Rattle.mur_base.specs.Map.{value_at}
use Rattle.mur_base.specs.declared.point.AskId.{AskId}
use Rattle.mur_config.specs.declared.config.Config.{Config}
use Rattle.name_commands.specs.Places.{NamePlace as name_at, answer_message, flow_message}
use Rattle.node_record.specs.Table.{MailboxTable}
use Rattle.node_step.specs.NodeStep.{as_back}
use Rattle.route_links.specs.Answered.{noop_of, ok_of}
use Rattle.route_links.specs.Barriers.{HasNoBarrier, IsBarrierAt, Place as Barrier, Place as barrier}
use Rattle.cluster_core.proofs.Commands.InPlace.{IsInNone, IsInPlace}
use Rattle.cluster_core.proofs.Commands.Place.{Place, at_barrier, carried, its_message, Place as place}
use Rattle.cluster_core.proofs.Commands.Standing.{Fixed}
use Rattle.cluster_core.proofs.Connections.ConnectionLaw.{IsInNoneOf, IsInPlaceOf}
use Rattle.cluster_core.proofs.Links.BarriersThin.{noop_gone, ok_gone, still_asks, still_awaits, still_none}
use Rattle.cluster_core.proofs.Links.Stand.{LinksStand}
use Rattle.cluster_core.proofs.Links.Thinned.{IsFoundThen, IsThinned, found_then, parts_of}
use Rattle.cluster_core.proofs.Links.Unbarred.{IsCarriedBetween, in_answer, in_ask}
use Rattle.cluster_core.proofs.Places.FrontWorlds.{in_none_alike, in_place_alike}
use Rattle.cluster_core.proofs.Places.Stays.{HomesAlike, shows_alike}

-- which links are broken: none of the master with a backend, and each in both directions
pub record BreaksApart (master : List ℕ) (homes : Nodes) (broken : Broken) : Type 0 where
  pub from_master : (node : List ℕ) → IsSome (homes node) → is_broken broken master node ≡ false
  pub to_master : (node : List ℕ) → IsSome (homes node) → is_broken broken node master ≡ false
  pub both : (one other : List ℕ) → is_broken broken one other ≡ is_broken broken other one

pub breaks_apart : (config : Config) (world : World) → LinksStand config world → BreaksApart (master_of config) (home_at world) world.broken
breaks_apart config world links = record { from_master = links.from_master; to_master = links.to_master; both = links.both }

-- in a world with these nodes, and with the same links broken
pub apart_before : (master : List ℕ) (world next : World) → next.nodes ≡ world.nodes → next.broken ≡ world.broken → BreaksApart master (home_at next) next.broken
    → BreaksApart master (home_at world) world.broken
apart_before master world next nodes broken apart =
    let homes : (node : List ℕ) → IsSome (home_at world node) → IsSome (home_at next node) =
    λ node home. subst (λ n. IsSome (as_back (value_at (slice_cmp nat_cmp) n node))) (sym nodes) home in
    record {
      from_master = λ node home. ap (λ (b : Broken). is_broken b master node) (sym broken) ∙ apart.from_master node (homes node home);
      to_master = λ node home. ap (λ (b : Broken). is_broken b node master) (sym broken) ∙ apart.to_master node (homes node home);
      both = λ one other. ap (λ (b : Broken). is_broken b one other) (sym broken) ∙ apart.both one other ∙ ap (λ (b : Broken). is_broken b other one) broken;
    }

-- an End is about no command
ends_about : (first conn : ℕ) → is_about first (of_connection conn) End ≡ false
unfolding same_about
ends_about first conn = refl

-- ---- where a command is

-- it is where it was, or its message is gone
pub data PlaceThen (fixed : Fixed) (next : World) (front : List ℕ) (replica : Replica) (id : AskId) (here : Place) : Type 0 where
  is_still : IsInPlaceOf fixed next front replica id here → PlaceThen fixed next front replica id here
  is_gone : (server : List ℕ) → IsCarriedBetween server here → is_broken next.broken server front ≡ true
      → IsInPlaceOf fixed next front replica id (place.is_dropped server) → IsInPlaceOf fixed next front replica id place.nowhere
      → PlaceThen fixed next front replica id here
  is_unbarred : (at : Barrier) → here ≡ place.is_barred at → is_broken next.broken fixed.master front ≡ true
      → IsInPlaceOf fixed next front replica id (place.is_barred barrier.nowhere) → IsInPlaceOf fixed next front replica id place.nowhere
      → PlaceThen fixed next front replica id here

lost_between : (broken : Broken) (a b : List ℕ) (message : LinkMsg) (it : Carried LinkMsg) → Some (record { from = a; to = b; message = message }) ≡ Some it
    → is_broken broken it.from it.to ≡ true → is_broken broken a b ≡ true
lost_between broken a b message it e lost =
    subst (λ (k : Carried LinkMsg). is_broken broken k.from k.to ≡ true) (sym (same_Some _ _ e)) lost

-- its barrier is none
abbrev NotBarred : Place → Type 0
NotBarred (place.is_barred at) = ⊥
NotBarred here = Unit {0}

module _ (fixed : Fixed) (world next : World) (apart : BreaksApart fixed.master (home_at world) world.broken) (thin : IsThinned world next) where
  homes : (any : List ℕ) → home_at next any ≡ home_at world any
  homes any = ap (λ n. as_back (value_at (slice_cmp nat_cmp) n any)) thin.nodes

  pub thin_alike : HomesAlike fixed.master (home_at world) world.links next.links
  thin_alike = λ name node at.
      (thin.whole name fixed.master (apart.to_master name (subst IsSome (sym at) refl)), thin.whole fixed.master name (apart.from_master name (subst IsSome (sym at) refl)))

  none_lost : (a b : List ℕ) (message : LinkMsg) (it : Carried LinkMsg) → Some (record { from = a; to = b; message = message }) ≡ Some it
      → is_broken world.broken it.from it.to ≡ true → is_broken world.broken a b ≡ false → ⊥
  none_lost a b message it e lost whole = (let no : true ≡ false = sym (lost_between world.broken a b message it e lost) ∙ whole in cc)

  module _ (front : List ℕ) (replica : Replica) (id : AskId) where
    abbrev its : LinkMsg → Bool
    its = is_about id.command (of_connection id.conn)

    abbrev up : List LinkMsg
    up = on_link world.links front fixed.master

    abbrev down : List LinkMsg
    down = on_link world.links fixed.master front

    abbrev next_up : List LinkMsg
    next_up = on_link next.links front fixed.master

    abbrev next_down : List LinkMsg
    next_down = on_link next.links fixed.master front

    -- with the backends of the next world
    on_next : (here : Place) → IsInPlace fixed.master (home_at world) next.links front replica id here → IsInPlaceOf fixed next front replica id here
    on_next here is = in_place_alike (home_at world) (home_at next) homes fixed.master next.links front replica id here is

    none_still : HasNoBarrier id up down → HasNoBarrier id next_up next_down
    none_still none =
        still_none id its (ends_about id.command id.conn) up down next_up next_down replica (thin.short front fixed.master) (thin.short fixed.master front) none

    -- a command of this frontend of which nothing is on its way
    empty_barrier : IsPlaced id.command (of_connection id.conn) next.links None → HasNoBarrier id next_up next_down → (at : Barrier)
        → IsInPlaceOf fixed world front replica id (place.is_barred at) → IsInPlaceOf fixed next front replica id (place.is_barred barrier.nowhere)
    empty_barrier none gone at is =
        on_next (place.is_barred barrier.nowhere) (record {
          message = none;
          shows = shows_alike fixed.master (home_at world) id.conn (place.is_barred barrier.nowhere) world.links next.links thin_alike is.shows;
          barrier = gone;
          there = tt;
        })

    nowhere_then : IsPlaced id.command (of_connection id.conn) next.links None → HasNoBarrier id next_up next_down → (at : Barrier)
        → IsInPlaceOf fixed world front replica id (place.is_barred at) → IsInPlaceOf fixed next front replica id place.nowhere
    nowhere_then none gone at is =
        on_next place.nowhere (record {
          message = none;
          shows = shows_alike fixed.master (home_at world) id.conn place.nowhere world.links next.links thin_alike is.shows;
          barrier = gone;
          there = tt;
        })

    -- one in an ask or in an answer that is gone
    gone_now : (server : List ℕ) (here : Place) → IsCarriedBetween server here → is_broken world.broken server front ≡ true
        → IsPlaced id.command (of_connection id.conn) next.links None → IsInPlaceOf fixed world front replica id here → PlaceThen fixed next front replica id here
    gone_now server here (in_ask ask) cut none is =
        is_gone server (in_ask ask) (ap (λ (b : Broken). is_broken b server front) thin.broken ∙ cut)
        (on_next (place.is_dropped server) (record {
          message = none;
          shows = shows_alike fixed.master (home_at world) id.conn (place.is_dropped server) world.links next.links thin_alike is.shows;
          barrier = none_still is.barrier;
          there = is.there;
        }))
        (on_next place.nowhere (record {
          message = none;
          shows = shows_alike fixed.master (home_at world) id.conn place.nowhere world.links next.links thin_alike is.shows;
          barrier = none_still is.barrier;
          there = tt;
        }))
    gone_now server here (in_answer answer) cut none is =
        is_gone server (in_answer answer) (ap (λ (b : Broken). is_broken b server front) thin.broken ∙ cut)
        (on_next (place.is_dropped server) (record {
          message = none;
          shows = shows_alike fixed.master (home_at world) id.conn (place.is_dropped server) world.links next.links thin_alike is.shows;
          barrier = none_still is.barrier;
          there = is.there;
        }))
        (on_next place.nowhere (record {
          message = none;
          shows = shows_alike fixed.master (home_at world) id.conn place.nowhere world.links next.links thin_alike is.shows;
          barrier = none_still is.barrier;
          there = tt;
        }))

    by_place : (here : Place) (it : Carried LinkMsg) → NotBarred here → its_message fixed.master front id here ≡ Some it → is_broken world.broken it.from it.to ≡ true
        → IsPlaced id.command (of_connection id.conn) next.links None → IsInPlaceOf fixed world front replica id here → PlaceThen fixed next front replica id here
    by_place place.nowhere it not e lost none is = cc
    by_place (place.is_asked server ask) it not e lost none is =
        gone_now server (place.is_asked server ask) (in_ask ask)
        (apart.both server front ∙ lost_between world.broken front server (ask_of ask) it e lost) none is
    by_place (place.is_answered server answer) it not e lost none is =
        gone_now server (place.is_answered server answer) (in_answer answer) (lost_between world.broken server front (answer_of answer) it e lost) none is
    by_place (place.is_dropped server) it not e lost none is = cc
    by_place (place.is_at me name_at.nowhere) it not e lost none is = cc
    by_place (place.is_at me (name_at.waits ask)) it not e lost none is = cc
    by_place (place.is_at me (name_at.sends name flow)) it not e lost none is =
        absurd (none_lost me.server fixed.master (flow_message me name flow) it e lost (apart.to_master me.server (subst IsSome (sym is.there.1) refl)))
    by_place (place.is_at me (name_at.hears name flow heard)) it not e lost none is =
        absurd (none_lost fixed.master me.server (answer_message flow heard) it e lost (apart.from_master me.server (subst IsSome (sym is.there.1) refl)))
    by_place (place.is_barred at) it not e lost none is = absurd not

    none_barred : (here : Place) → NotBarred here → IsBarrierAt id (at_barrier here) up down replica → HasNoBarrier id up down
    none_barred place.nowhere not is = is
    none_barred (place.is_asked server ask) not is = is
    none_barred (place.is_answered server answer) not is = is
    none_barred (place.is_dropped server) not is = is
    none_barred (place.is_at me at) not is = is
    none_barred (place.is_barred at) not is = absurd not

    has_none : (here : Place) → NotBarred here → HasNoBarrier id next_up next_down → IsBarrierAt id (at_barrier here) next_up next_down replica
    has_none place.nowhere not is = is
    has_none (place.is_asked server ask) not is = is
    has_none (place.is_answered server answer) not is = is
    has_none (place.is_dropped server) not is = is
    has_none (place.is_at me at) not is = is
    has_none (place.is_barred at) not is = absurd not

    still_in : (here : Place) → IsInPlaceOf fixed world front replica id here → IsPlaced id.command (of_connection id.conn) next.links (its_message fixed.master front id here)
        → IsBarrierAt id (at_barrier here) next_up next_down replica → PlaceThen fixed next front replica id here
    still_in here is message barrier =
        is_still (on_next here (record {
          message = message;
          shows = shows_alike fixed.master (home_at world) id.conn here world.links next.links thin_alike is.shows;
          barrier = barrier;
          there = is.there;
        }))

    FoundThen : Option (Carried LinkMsg) → Type 0
    FoundThen found = IsFoundThen its next.links (is_broken world.broken) found

    by_found : (here : Place) → NotBarred here → IsInPlaceOf fixed world front replica id here → FoundThen (its_message fixed.master front id here)
        → PlaceThen fixed next front replica id here
    unfolding FoundThen
    by_found here not is (IsFoundThen.still_found message) =
        still_in here is message (has_none here not (none_still (none_barred here not is.barrier)))
    by_found here not is (IsFoundThen.is_lost it e lost none) = by_place here it not e lost none is

    -- what is on a link, of what is on its way there alone
    on_it : (a b : List ℕ) (message : LinkMsg) (queue : List LinkMsg) → filter its queue ≡ cond (same_link a b a b) (message ∷ []) [] → filter its queue ≡ message ∷ []
    on_it a b message queue e = e ∙ ap (λ s. cond s (message ∷ []) []) (same_itself a b)

    by_noop : IsInPlaceOf fixed world front replica id (place.is_barred barrier.asked) → FoundThen (carried front fixed.master (noop_of id))
        → PlaceThen fixed next front replica id (place.is_barred barrier.asked)
    unfolding FoundThen
    by_noop is (IsFoundThen.still_found message) =
        still_in (place.is_barred barrier.asked) is message
        (still_asks id its (ends_about id.command id.conn) up down next_up next_down replica (thin.short front fixed.master) (thin.short fixed.master front) is.barrier
        (on_it front fixed.master (noop_of id) up (is.message front fixed.master)) (on_it front fixed.master (noop_of id) next_up (message front fixed.master)))
    by_noop is (IsFoundThen.is_lost it e lost none) =
        let gone : HasNoBarrier id next_up next_down =
        noop_gone id its (ends_about id.command id.conn) up down next_up next_down replica (thin.short front fixed.master) (thin.short fixed.master front) is.barrier
        (on_it front fixed.master (noop_of id) up (is.message front fixed.master)) (none front fixed.master) in
        is_unbarred barrier.asked refl
        (ap (λ (b : Broken). is_broken b fixed.master front) thin.broken ∙ apart.both fixed.master front
        ∙ lost_between world.broken front fixed.master (noop_of id) it e lost)
        (empty_barrier none gone barrier.asked is) (nowhere_then none gone barrier.asked is)

    by_ok : (table : MailboxTable) → IsInPlaceOf fixed world front replica id (place.is_barred (barrier.answered table)) → FoundThen (carried fixed.master front (ok_of id))
        → PlaceThen fixed next front replica id (place.is_barred (barrier.answered table))
    unfolding FoundThen
    by_ok table is (IsFoundThen.still_found message) =
        still_in (place.is_barred (barrier.answered table)) is message
        (still_awaits id its (ends_about id.command id.conn) up down next_up next_down replica (thin.short front fixed.master) (thin.short fixed.master front) table
        is.barrier (on_it fixed.master front (ok_of id) down (is.message fixed.master front)) (on_it fixed.master front (ok_of id) next_down (message fixed.master front)))
    by_ok table is (IsFoundThen.is_lost it e lost none) =
        let gone : HasNoBarrier id next_up next_down =
        ok_gone id its (ends_about id.command id.conn) up down next_up next_down replica (thin.short front fixed.master) (thin.short fixed.master front) table is.barrier
        (on_it fixed.master front (ok_of id) down (is.message fixed.master front)) (none fixed.master front) in
        is_unbarred (barrier.answered table) refl
        (ap (λ (b : Broken). is_broken b fixed.master front) thin.broken ∙ lost_between world.broken fixed.master front (ok_of id) it e lost)
        (empty_barrier none gone (barrier.answered table) is) (nowhere_then none gone (barrier.answered table) is)

    by_none : IsInPlaceOf fixed world front replica id (place.is_barred barrier.nowhere) → FoundThen None
        → PlaceThen fixed next front replica id (place.is_barred barrier.nowhere)
    unfolding FoundThen
    by_none is (IsFoundThen.still_found message) = still_in (place.is_barred barrier.nowhere) is message (none_still is.barrier)
    by_none is (IsFoundThen.is_lost it e lost none) = cc

    found_of : (here : Place) → IsInPlaceOf fixed world front replica id here → FoundThen (its_message fixed.master front id here)
    unfolding FoundThen
    found_of here is =
        found_then its world.links next.links (is_broken world.broken) (parts_of world next thin) thin.whole (its_message fixed.master front id here) is.message

    pub place_then : (here : Place) → IsInPlaceOf fixed world front replica id here → PlaceThen fixed next front replica id here
    place_then place.nowhere is = by_found place.nowhere tt is (found_of place.nowhere is)
    place_then (place.is_asked server ask) is = by_found (place.is_asked server ask) tt is (found_of (place.is_asked server ask) is)
    place_then (place.is_answered server answer) is = by_found (place.is_answered server answer) tt is (found_of (place.is_answered server answer) is)
    place_then (place.is_dropped server) is = by_found (place.is_dropped server) tt is (found_of (place.is_dropped server) is)
    place_then (place.is_at me at) is = by_found (place.is_at me at) tt is (found_of (place.is_at me at) is)
    place_then (place.is_barred barrier.nowhere) is = by_none is (found_of (place.is_barred barrier.nowhere) is)
    place_then (place.is_barred barrier.asked) is = by_noop is (found_of (place.is_barred barrier.asked) is)
    place_then (place.is_barred (barrier.answered table)) is = by_ok table is (found_of (place.is_barred (barrier.answered table)) is)

  -- a connection that no frontend has
  pub none_then : (conn : ℕ) → IsInNoneOf fixed world conn → IsInNoneOf fixed next conn
  none_then conn is =
      in_none_alike (home_at world) (home_at next) homes fixed.master next.links conn
      (by_found_none (found_then (is_about 0 (of_connection conn)) world.links next.links (is_broken world.broken) (parts_of world next thin) thin.whole None is.message))
    where
      by_found_none : IsFoundThen (is_about 0 (of_connection conn)) next.links (is_broken world.broken) None → IsInNone fixed.master (home_at world) next.links conn
      by_found_none (IsFoundThen.still_found message) = record {
        message = message;
        shows = shows_alike fixed.master (home_at world) conn place.nowhere world.links next.links thin_alike is.shows;
      }
      by_found_none (IsFoundThen.is_lost it e lost none) = cc
