-- Where other links carry what they did, the commands of a connection are where they were. A frontend is neither the master nor a backend, so none of its links
-- is one between a backend and the master.
use Rattle.std.proofs.Common.{◌≡◌, ◌≢◌, ◌⊎◌, inl, inr, ℕ, Bool, true, false, cond, List, [], ◌∷◌, ◌++◌, None, Some, refl, sym, ◌∙◌, ap, subst, append-nil}
use Rattle.std.specs.Ordering.{nat_cmp}
use Rattle.std.specs.Cmp.Lexicographic.{slice_cmp}
use Rattle.back_node.specs.declared.node.BackNode.{BackNode}
use Rattle.feed_core.specs.declared.replica.Replica.{Replica}
use Rattle.front_core.proofs.OneConnection.Places.{PlacesStay as MessagesStay, of_connection}
use Rattle.link_msg.specs.declared.message.LinkMsg.{LinkMsg}
use Rattle.link_queue.specs.Links.{Links, on_link, same_link, sent, without_first}
use Rattle.link_queue.proofs.Wires.{on_link-sent, same_itself, same_names}
use Rattle.many_links.proofs.Carried.{taken_else}
use Rattle.many_links.specs.Murder.{Nodes}
use Rattle.mur_base.proofs.MapLaws.{names_apart, same_or_other}
use Rattle.mur_base.specs.declared.point.AskId.{AskId}
use Rattle.name_commands.specs.Places.{NamePlace, TalkShows}
use Rattle.name_commands.specs.Whose.{Whose}
use Rattle.route_links.specs.Barriers.{IsBarrierAt, Place as Barrier}
use Rattle.cluster_core.proofs.Commands.InPlace.{IsInNone, IsInPlace, ShowEach}
use Rattle.cluster_core.proofs.Commands.Place.{Place, at_barrier, Place as place}

-- ---- what stays

-- a frontend is neither the master nor a backend, and the master is no backend
pub record IsFrontend (master : List ℕ) (nodes : Nodes) (front : List ℕ) : Type 0 where
  pub no_master : front ≢ master
  pub no_home : nodes front ≡ None
  pub master_no_home : nodes master ≡ None

-- the commands of a connection are where they were, whosever they are
pub record KeepsPlaces (master : List ℕ) (nodes : Nodes) (conn : ℕ) (links next : Links LinkMsg) : Type 0 where
  pub in_place : (front : List ℕ) (replica : Replica) (command : ℕ) (here : Place)
      → IsInPlace master nodes links front replica (record { conn = conn; command = command }) here
      → IsInPlace master nodes next front replica (record { conn = conn; command = command }) here
  pub in_none : IsInNone master nodes links conn → IsInNone master nodes next conn

pub keeps_same : (master : List ℕ) (nodes : Nodes) (conn : ℕ) (links : Links LinkMsg) → KeepsPlaces master nodes conn links links
keeps_same master nodes conn links = record { in_place = λ front replica command here is. is; in_none = λ is. is }

-- a link carries what it did
abbrev pub IsAlike : Links LinkMsg → Links LinkMsg → List ℕ → List ℕ → Type 0
IsAlike links next from to = on_link next from to ≡ on_link links from to

-- and so do the links between two nodes in both directions
abbrev pub AreAlike : Links LinkMsg → Links LinkMsg → List ℕ → List ℕ → Type 0
AreAlike links next one other = IsAlike links next one other × IsAlike links next other one

-- those between each backend and the master
abbrev pub HomesAlike : List ℕ → Nodes → Links LinkMsg → Links LinkMsg → Type 0
HomesAlike master nodes links next = (name : List ℕ) (node : BackNode) → nodes name ≡ Some node → AreAlike links next name master

pub talk_alike : (whose : Whose) (node : BackNode) (up down up_next down_next : List LinkMsg) (at : NamePlace) → up_next ≡ up → down_next ≡ down
    → TalkShows whose node up down at → TalkShows whose node up_next down_next at
talk_alike whose node up down up_next down_next at one two is =
    subst (λ l. TalkShows whose node up_next l at) (sym two) (subst (λ l. TalkShows whose node l down at) (sym one) is)

pub shows_alike : (master : List ℕ) (nodes : Nodes) (conn : ℕ) (here : Place) (links next : Links LinkMsg) → HomesAlike master nodes links next
    → ShowEach master nodes links conn here → ShowEach master nodes next conn here
shows_alike master nodes conn here links next alike shows = λ name node at.
    talk_alike _ node (on_link links name master) (on_link links master name) (on_link next name master) (on_link next master name) _
    (alike name node at).0 (alike name node at).1 (shows name node at)

pub barrier_alike : (id : AskId) (at : Barrier) (up down up_next down_next : List LinkMsg) (replica : Replica) → up_next ≡ up → down_next ≡ down
    → IsBarrierAt id at up down replica → IsBarrierAt id at up_next down_next replica
barrier_alike id at up down up_next down_next replica one two is =
    subst (λ l. IsBarrierAt id at up_next l replica) (sym two) (subst (λ l. IsBarrierAt id at l down replica) (sym one) is)

-- the barriers of a connection are where they were, at each frontend
abbrev pub BarriersStay : List ℕ → ℕ → Links LinkMsg → Links LinkMsg → Type 0
BarriersStay master conn links next = (front : List ℕ) (replica : Replica) (command : ℕ) (at : Barrier)
    → IsBarrierAt (record { conn = conn; command = command }) at (on_link links front master) (on_link links master front) replica
    → IsBarrierAt (record { conn = conn; command = command }) at (on_link next front master) (on_link next master front) replica

pub keeps_by : (master : List ℕ) (nodes : Nodes) (conn : ℕ) (links next : Links LinkMsg) → MessagesStay (of_connection conn) links next
    → HomesAlike master nodes links next → BarriersStay master conn links next → KeepsPlaces master nodes conn links next
keeps_by master nodes conn links next messages homes barriers = record {
  in_place = λ front replica command here is. record {
    message = messages command _ is.message;
    shows = shows_alike master nodes conn here links next homes is.shows;
    barrier = barriers front replica command (at_barrier here) is.barrier;
    there = is.there;
  };
  in_none = λ is. record { message = messages 0 None is.message; shows = shows_alike master nodes conn place.nowhere links next homes is.shows };
}

-- ---- links

-- a message is sent on one link
pub sent_there : (links : Links LinkMsg) (from to : List ℕ) (message : LinkMsg)
    → on_link (sent links from to message) from to ≡ on_link links from to ++ message ∷ []
sent_there links from to message =
    on_link-sent links from to from to message ∙ ap (λ (b : Bool). on_link links from to ++ cond b (message ∷ []) []) (same_itself from to)

pub sent_else : (links : Links LinkMsg) (from to a b : List ℕ) (message : LinkMsg) → (a ≢ from) ⊎ (b ≢ to) → IsAlike links (sent links from to message) a b
sent_else links from to a b message ne = on_link-sent links from to a b message ∙ by ne (same_link a b from to) refl
  where
    by : (a ≢ from) ⊎ (b ≢ to) → (same : Bool) → same_link a b from to ≡ same → on_link links a b ++ cond same (message ∷ []) [] ≡ on_link links a b
    by apart false h = append-nil (on_link links a b)
    by (inl apart) true h = absurd (apart (same_names a b from to h).0)
    by (inr apart) true h = absurd (apart (same_names a b from to h).1)

-- ---- a frontend's links

-- a backend has another name than a node that is none
pub home_apart : (nodes : Nodes) (name other : List ℕ) (node : BackNode) → nodes name ≡ Some node → nodes other ≡ None → name ≢ other
home_apart nodes name other node at none e = (let no : None ≡ Some node = sym none ∙ (sym (ap nodes e) ∙ at) in cc)

pub homes_sent : (master : List ℕ) (nodes : Nodes) (links : Links LinkMsg) (front to : List ℕ) (message : LinkMsg) → IsFrontend master nodes front
    → HomesAlike master nodes links (sent links front to message)
homes_sent master nodes links front to message frontend = λ name node at. (
  sent_else links front to name master message (inl (home_apart nodes name front node at frontend.no_home)),
  sent_else links front to master name message (inl (λ e. frontend.no_master (sym e))),
)

pub homes_taken : (master : List ℕ) (nodes : Nodes) (links : Links LinkMsg) (from front : List ℕ) → IsFrontend master nodes front
    → HomesAlike master nodes links (without_first links from front)
homes_taken master nodes links from front frontend = λ name node at. (
  taken_else links from front name master (inr (λ e. frontend.no_master (sym e))),
  taken_else links from front master name (inr (home_apart nodes name front node at frontend.no_home)),
)

-- two names are the same, or not
pub same_name_or : (one other : List ℕ) → (one ≡ other) ⊎ (one ≢ other)
same_name_or one other = same_or_other (slice_cmp nat_cmp) names_apart one other
