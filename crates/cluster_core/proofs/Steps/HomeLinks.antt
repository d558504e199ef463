-- A backend takes the first message of a link: what is on each link then, and where a command is.
use Rattle.std.proofs.Common.{◌≡◌, ◌≢◌, ◌⊎◌, inl, inr, ℕ, List, ◌++◌, Some, refl, sym, ap, subst, ◌∙◌}
use Rattle.std.specs.Ordering.{nat_cmp}
use Rattle.std.specs.Cmp.Lexicographic.{slice_cmp}
use Rattle.feed_core.specs.declared.replica.Replica.{Replica}
use Rattle.link_msg.specs.declared.message.LinkMsg.{LinkMsg}
use Rattle.link_queue.specs.Links.{Links, on_link}
use Rattle.mur_base.specs.declared.home.Location.{Location}
use Rattle.mur_base.specs.declared.point.AskId.{AskId}
use Rattle.mur_base.proofs.MapLaws.{names_apart, same_or_other}
use Rattle.back_node.specs.declared.node.BackNode.{BackNode}
use Rattle.back_node.specs.Acted.{BackActed}
use Rattle.feed_links.specs.Lines.{messages_to}
use Rattle.many_links.specs.Murder.{Murder, Nodes, put_all, taken, with_node}
use Rattle.many_links.proofs.Carried.{puts_own, puts_else, taken_else}
use Rattle.many_links.proofs.NodesLaw.{each_node, node_else, node_own}
use Rattle.name_commands.specs.Places.{TalkShows}
use Rattle.name_commands.specs.Whose.{is_of_connection}
use Rattle.route_links.specs.Barriers.{IsBarrierAt, Place as Barrier}
use Rattle.cluster_core.proofs.Commands.InPlace.{IsInNone, IsInPlace, IsThere, ShowEach, ShowsAt}
use Rattle.cluster_core.proofs.Commands.Place.{Place, at_backend, Place as place}
use Rattle.cluster_core.proofs.Steps.Murders.{shows_on}

-- behind the step of a backend that takes the message
abbrev pub links_then : Murder → List ℕ → List ℕ → BackActed → Links LinkMsg
links_then murder name from next = put_all name (taken murder from name) next.outs

abbrev pub IsInThen : Murder → List ℕ → List ℕ → BackActed → List ℕ → Replica → AskId → Place → Type 0
IsInThen murder name from next front replica id here =
    IsInPlace murder.master.me (with_node murder.nodes name next.state) (links_then murder name from next) front replica id here

abbrev pub IsNowhereThen : Murder → List ℕ → List ℕ → BackActed → ℕ → Type 0
IsNowhereThen murder name from next conn =
    IsInNone murder.master.me (with_node murder.nodes name next.state) (links_then murder name from next) conn

module _ (murder : Murder) (name : List ℕ) (apart : name ≢ murder.master.me) (from : List ℕ) (next : BackActed) where
  abbrev me : List ℕ
  me = murder.master.me

  abbrev left : Links LinkMsg
  left = taken murder from name

  abbrev then : Links LinkMsg
  then = links_then murder name from next

  abbrev nodes : Nodes
  nodes = with_node murder.nodes name next.state

  apart_too : me ≢ name
  apart_too e = apart (sym e)

  -- ---- links

  pub up_then : on_link then name me ≡ on_link murder.links name me ++ messages_to me next.outs
  up_then =
      puts_own name left next.outs me ∙ ap (λ (l : List LinkMsg). l ++ messages_to me next.outs) (taken_else murder.links from name name me (inr apart_too))

  pub down_left : on_link then me name ≡ on_link left me name
  down_left = puts_else name left next.outs me name apart_too

  pub others_up : (q : List ℕ) → q ≢ name → on_link then q me ≡ on_link murder.links q me
  others_up q ne = puts_else name left next.outs q me ne ∙ taken_else murder.links from name q me (inr apart_too)

  pub others_down : (q : List ℕ) → q ≢ name → on_link then me q ≡ on_link murder.links me q
  others_down q ne = puts_else name left next.outs me q apart_too ∙ taken_else murder.links from name me q (inr ne)

  -- what the master has sent it, where the message is another's, and where it is the master's
  pub down_other : from ≢ me → on_link left me name ≡ on_link murder.links me name
  down_other ne = taken_else murder.links from name me name (inl (λ e. ne (sym e)))

  -- ---- parts of a place

  -- what is shown at it, and at each other backend as before
  pub shows_then : (conn : ℕ) (here later : Place) → ((q : List ℕ) → q ≢ name → at_backend q later ≡ at_backend q here)
      → ShowEach me murder.nodes murder.links conn here
      → TalkShows (is_of_connection conn) next.state (on_link murder.links name me ++ messages_to me next.outs) (on_link left me name) (at_backend name later)
      → ShowEach me nodes then conn later
  shows_then conn here later others shows own =
      each_node murder.nodes name next.state (λ q its. ShowsAt me then conn later q its)
      (shows_on (is_of_connection conn) next.state (on_link murder.links name me ++ messages_to me next.outs) (on_link left me name) (on_link then name me)
      (on_link then me name) (at_backend name later) (at_backend name later) up_then down_left refl own)
      (λ q its ne at. shows_on (is_of_connection conn) its (on_link murder.links q me) (on_link murder.links me q) (on_link then q me) (on_link then me q)
      (at_backend q here) (at_backend q later) (others_up q ne) (others_down q ne) (others q ne) (shows q its at))

  -- the barrier is on the links of a frontend
  pub barrier_then : (front : List ℕ) (replica : Replica) (id : AskId) (here later : Barrier) → front ≢ name → later ≡ here
      → IsBarrierAt id here (on_link murder.links front me) (on_link murder.links me front) replica
      → IsBarrierAt id later (on_link then front me) (on_link then me front) replica
  barrier_then front replica id here later ne same is =
      subst (λ (b : Barrier). IsBarrierAt id b (on_link then front me) (on_link then me front) replica) (sym same)
      (subst (λ (u : List LinkMsg). IsBarrierAt id here u (on_link then me front) replica) (sym (others_up front ne))
      (subst (λ (d : List LinkMsg). IsBarrierAt id here (on_link murder.links front me) d replica) (sym (others_down front ne)) is))

  -- its backend is there still
  is_there : (server : List ℕ) (its : BackNode) → murder.nodes server ≡ Some its → (it : BackNode) × (nodes server ≡ Some it)
  is_there server its at = by (same_or_other (slice_cmp nat_cmp) names_apart server name)
    where
      by : (server ≡ name) ⊎ (server ≢ name) → (it : BackNode) × (nodes server ≡ Some it)
      by (inl same) = (next.state, ap nodes same ∙ node_own murder.nodes name next.state)
      by (inr ne) = (its, node_else murder.nodes name next.state server ne ∙ at)

  pub its_own_there : (at : Location) → at.server ≡ name → next.state.flows.me ≡ at → (it : BackNode) × (nodes at.server ≡ Some it) × (it.flows.me ≡ at)
  its_own_there at same is = (next.state, ap nodes same ∙ node_own murder.nodes name next.state, is)

  module _ (node : BackNode) (there : murder.nodes name ≡ Some node) (stays : next.state.flows.me ≡ node.flows.me) where
    with_place : (at : Location) (its : BackNode) → murder.nodes at.server ≡ Some its → its.flows.me ≡ at
        → (it : BackNode) × (nodes at.server ≡ Some it) × (it.flows.me ≡ at)
    with_place at its found is = by (same_or_other (slice_cmp nat_cmp) names_apart at.server name)
      where
        by : (at.server ≡ name) ⊎ (at.server ≢ name) → (it : BackNode) × (nodes at.server ≡ Some it) × (it.flows.me ≡ at)
        by (inl same) =
            let one : Some node ≡ Some its = sym there ∙ ap murder.nodes (sym same) ∙ found in
            let alike : node ≡ its = cc in
            its_own_there at same (stays ∙ ap (λ (n : BackNode). n.flows.me) alike ∙ is)
        by (inr ne) = (its, node_else murder.nodes name next.state at.server ne ∙ found, is)

    pub there_then : (here : Place) → IsThere murder.nodes here → IsThere nodes here
    there_then place.nowhere is = tt
    there_then (place.is_asked server ask) is = is_there server is.0 is.1
    there_then (place.is_answered server answer) is = is_there server is.0 is.1
    there_then (place.is_dropped server) is = is_there server is.0 is.1
    there_then (place.is_at at p) is = with_place at is.0 is.1 is.2
    there_then (place.is_barred b) is = tt
