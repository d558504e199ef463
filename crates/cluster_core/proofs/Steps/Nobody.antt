-- A message to a node that is neither the master, nor a backend, nor the command's frontend is taken: it is about no command in a place, and each stays.
use Rattle.std.proofs.Common.{◌≡◌, ◌≢◌, inr, ℕ, false, List, None, Some, refl, sym, ap, subst, ◌∙◌}
use Rattle.back_node.specs.declared.node.BackNode.{BackNode}
use Rattle.feed_core.specs.declared.replica.Replica.{Replica}
use Rattle.front_core.proofs.OneConnection.Places.{is_about, isnt_about, left_taken, of_connection, others_taken}
use Rattle.link_msg.specs.declared.message.LinkMsg.{LinkMsg}
use Rattle.link_msg.specs.declared.message.LinkMsg.TheVariants.{Ask, Answer}
use Rattle.link_queue.specs.Links.{on_link}
use Rattle.many_links.specs.Murder.{Murder, taken}
use Rattle.many_links.proofs.Carried.{taken_else}
use Rattle.mur_base.specs.declared.point.AskId.{AskId}
use Rattle.name_commands.specs.Places.{answer_message, flow_message, NamePlace as name_at}
use Rattle.name_commands.specs.Whose.{is_of_connection}
use Rattle.route_links.specs.Answered.{noop_of, ok_of}
use Rattle.route_links.specs.Barriers.{IsBarrierAt, Place as barrier}
use Rattle.cluster_core.proofs.Commands.InPlace.{IsInNone, IsInPlace, IsThere, ShowEach}
use Rattle.cluster_core.proofs.Commands.Place.{Place, at_backend, at_barrier, its_message, Place as place}
use Rattle.cluster_core.proofs.Steps.Heads.{are_same, here_at, its_first, none_on_its_way}
use Rattle.cluster_core.proofs.Steps.Murders.{IsFirstOn, IsIn, IsNowhere, shows_on}

-- the node is neither the master nor a backend
pub record IsNobody (murder : Murder) (to : List ℕ) : Type 0 where
  pub no_master : to ≢ murder.master.me
  pub no_home : murder.nodes to ≡ None

abbrev pub ToNobodyStays : Type 0
ToNobodyStays = (murder : Murder) (from to : List ℕ) (message : LinkMsg) (front : List ℕ) (replica : Replica) (id : AskId) (here : Place)
    → IsNobody murder to → to ≢ front → IsFirstOn murder from to message → IsIn murder front replica id here
    → IsInPlace murder.master.me murder.nodes (taken murder from to) front replica id here

-- a connection that no frontend has
abbrev pub ToNobodyStaysNone : Type 0
ToNobodyStaysNone = (murder : Murder) (from to : List ℕ) (message : LinkMsg) (conn : ℕ) → IsNobody murder to → IsFirstOn murder from to message
    → IsNowhere murder conn → IsInNone murder.master.me murder.nodes (taken murder from to) conn

module _ (murder : Murder) (from to : List ℕ) (message : LinkMsg) (nobody : IsNobody murder to) (first : IsFirstOn murder from to message) where
  abbrev me : List ℕ
  me = murder.master.me

  no_backend : (q : List ℕ) (its : BackNode) → murder.nodes q ≡ Some its → q ≢ to
  no_backend q its at same = let no : None ≡ Some its = sym nobody.no_home ∙ ap murder.nodes (sym same) ∙ at in cc

  shown_then : (conn : ℕ) (here : Place) → ShowEach me murder.nodes murder.links conn here → ShowEach me murder.nodes (taken murder from to) conn here
  shown_then conn here shows = λ q its at.
      shows_on (is_of_connection conn) its (on_link murder.links q me) (on_link murder.links me q) (on_link (taken murder from to) q me)
      (on_link (taken murder from to) me q) (at_backend q here) (at_backend q here)
      (taken_else murder.links from to q me (inr (λ e. nobody.no_master (sym e)))) (taken_else murder.links from to me q (inr (no_backend q its at))) refl
      (shows q its at)

  module _ (front : List ℕ) (replica : Replica) (id : AskId) (apart : to ≢ front) where
    not_its : (here : Place) → IsThere murder.nodes here → its_message me front id here ≡ here_at from to message → ⊥
    not_its place.nowhere there e = cc
    not_its (place.is_asked server ask) there e = no_backend server there.0 there.1 (are_same front server from to (Ask ask) message e).to_is
    not_its (place.is_answered server answer) there e = apart (sym (are_same server front from to (Answer answer) message e).to_is)
    not_its (place.is_dropped server) there e = cc
    not_its (place.is_at at name_at.nowhere) there e = cc
    not_its (place.is_at at (name_at.waits ask)) there e = cc
    not_its (place.is_at at (name_at.sends mailbox flow)) there e =
        nobody.no_master (sym (are_same at.server me from to (flow_message at mailbox flow) message e).to_is)
    not_its (place.is_at at (name_at.hears mailbox flow it)) there e =
        no_backend at.server there.0 there.1 (are_same me at.server from to (answer_message flow it) message e).to_is
    not_its (place.is_barred barrier.nowhere) there e = cc
    not_its (place.is_barred barrier.asked) there e = nobody.no_master (sym (are_same front me from to (noop_of id) message e).to_is)
    not_its (place.is_barred (barrier.answered table)) there e = apart (sym (are_same me front from to (ok_of id) message e).to_is)

    other : (here : Place) → IsIn murder front replica id here → is_about id.command (of_connection id.conn) message ≡ false
    other here is = isnt_about id.command (of_connection id.conn) message (λ own on.
        not_its here is.there (its_first murder front replica id here from to message first own on is).0)

    stays : (here : Place) → IsIn murder front replica id here → IsInPlace me murder.nodes (taken murder from to) front replica id here
    stays here is = record {
      message = left_taken id.command murder.links from to message first.rest (of_connection id.conn) (its_message me front id here) first.first (other here is)
          is.message;
      shows = shown_then id.conn here is.shows;
      barrier = subst (λ (u : List LinkMsg). IsBarrierAt id (at_barrier here) u (on_link (taken murder from to) me front) replica)
          (sym (taken_else murder.links from to front me (inr (λ e. nobody.no_master (sym e)))))
          (subst (λ (d : List LinkMsg). IsBarrierAt id (at_barrier here) (on_link murder.links front me) d replica)
          (sym (taken_else murder.links from to me front (inr (λ e. apart (sym e))))) is.barrier);
      there = is.there;
    }

pub to_nobody_stays : ToNobodyStays
to_nobody_stays murder from to message front replica id here nobody apart first is =
    stays murder from to message nobody first front replica id apart here is

pub to_nobody_stays_none : ToNobodyStaysNone
to_nobody_stays_none murder from to message conn nobody first is = record {
  message = others_taken murder.links from to message first.rest (of_connection conn) first.first
      (λ own. none_on_its_way murder conn from to message first own is) 0 None is.message;
  shows = shown_then murder from to message nobody first conn place.nowhere is.shows;
}
