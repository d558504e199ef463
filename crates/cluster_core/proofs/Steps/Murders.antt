-- The place of a command among the master, the backends and all links; who its frontend is; and the first message of a link.
use Rattle.std.proofs.Common.{◌≡◌, ◌≢◌, ℕ, Bool, true, cond, nat_eq, List, ◌∷◌, None, Some, sym, ap, subst, ◌∙◌}
use Rattle.std.specs.Cmp.Lexicographic.{pointwise}
use Rattle.feed_core.specs.declared.replica.Replica.{Replica}
use Rattle.feed_links.proofs.Names.{same_name, other_name}
use Rattle.link_msg.specs.declared.message.LinkMsg.{LinkMsg}
use Rattle.link_queue.specs.Links.{Links, on_link}
use Rattle.mur_base.specs.declared.home.Location.{Location}
use Rattle.mur_base.specs.declared.point.AskId.{AskId}
use Rattle.mur_model.specs.declared.store.Store.{Store}
use Rattle.back_node.specs.declared.node.BackNode.{BackNode}
use Rattle.name_links.specs.Serials.{Given}
use Rattle.many_links.specs.ManyHold.{ManyHold}
use Rattle.many_links.specs.Murder.{Murder, Nodes}
use Rattle.name_commands.specs.Places.{NamePlace, TalkShows, NamePlace as name_at}
use Rattle.name_commands.specs.Whose.{Whose}
use Rattle.cluster_core.proofs.Commands.InPlace.{IsInNone, IsInPlace, IsThere, ShowEach}
use Rattle.cluster_core.proofs.Commands.Place.{Place, at_backend, Place as place}

-- a frontend's command is in this place
abbrev pub IsIn : Murder → List ℕ → Replica → AskId → Place → Type 0
IsIn murder front replica id here = IsInPlace murder.master.me murder.nodes murder.links front replica id here

abbrev pub IsNowhere : Murder → ℕ → Type 0
IsNowhere murder conn = IsInNone murder.master.me murder.nodes murder.links conn

-- a frontend is neither the master nor a backend
pub record IsFront (murder : Murder) (front : List ℕ) : Type 0 where
  pub no_master : front ≢ murder.master.me
  pub no_home : murder.nodes front ≡ None

-- the first message from one node to another
pub record IsFirstOn (murder : Murder) (from to : List ℕ) (message : LinkMsg) : Type 0 where
  pub rest : List LinkMsg
  pub first : on_link murder.links from to ≡ message ∷ rest

-- ---- a backend is no frontend, and not the master

pub no_front : (murder : Murder) (front name : List ℕ) (node : BackNode) → IsFront murder front → murder.nodes name ≡ Some node → front ≢ name
no_front murder front name node is there same =
    let no : None ≡ Some node = sym is.no_home ∙ ap murder.nodes same ∙ there in cc

pub no_master : (murder : Murder) (given : Given) (store : Store) (name : List ℕ) (node : BackNode) → ManyHold murder given store
    → murder.nodes name ≡ Some node → name ≢ murder.master.me
no_master murder given store name node holds there = (holds.each name node there).apart

-- ---- a place at one backend

pub at_own : (me : Location) (name : List ℕ) (at : NamePlace) → me.server ≡ name → at_backend name (place.is_at me at) ≡ at
at_own me name at e = ap (λ (b : Bool). cond b at name_at.nowhere) (subst (λ n. pointwise nat_eq me.server n ≡ true) e (same_name me.server))

pub at_other : (me : Location) (name other : List ℕ) (at : NamePlace) → me.server ≡ name → other ≢ name
    → at_backend other (place.is_at me at) ≡ name_at.nowhere
at_other me name other at e ne = ap (λ (b : Bool). cond b at name_at.nowhere) (other_name me.server other (λ same. ne (sym same ∙ e)))

-- the backend of the place is this one
pub its_me : (murder : Murder) (name : List ℕ) (node : BackNode) → murder.nodes name ≡ Some node → (me : Location) (at : NamePlace) → me.server ≡ name
    → IsThere murder.nodes (place.is_at me at) → me ≡ node.flows.me
its_me murder name node is me at server there =
    let one : Some node ≡ Some there.0 = sym is ∙ ap murder.nodes (sym server) ∙ there.1 in
    let alike : node ≡ there.0 = cc in
    sym there.2 ∙ ap (λ (n : BackNode). n.flows.me) (sym alike)

-- ---- what shows a place, with other links or another place that are the same

pub shows_on : (whose : Whose) (node : BackNode) (up down its_up its_down : List LinkMsg) (at its_at : NamePlace) → its_up ≡ up → its_down ≡ down → its_at ≡ at
    → TalkShows whose node up down at → TalkShows whose node its_up its_down its_at
shows_on whose node up down its_up its_down at its_at u d p shows =
    subst (λ (l : List LinkMsg). TalkShows whose node l its_down its_at) (sym u)
    (subst (λ (l : List LinkMsg). TalkShows whose node up l its_at) (sym d) (subst (λ (q : NamePlace). TalkShows whose node up down q) (sym p) shows))

-- ---- nodes that are the same at each name

module _ (master : List ℕ) (nodes others : Nodes) (same : (name : List ℕ) → others name ≡ nodes name) (links : Links LinkMsg) where
  shows_alike : (conn : ℕ) (here : Place) → ShowEach master nodes links conn here → ShowEach master others links conn here
  shows_alike conn here shows = λ name node at. shows name node (sym (same name) ∙ at)

  there_alike : (here : Place) → IsThere nodes here → IsThere others here
  there_alike place.nowhere there = tt
  there_alike (place.is_asked server ask) there = (there.0, same server ∙ there.1)
  there_alike (place.is_answered server answer) there = (there.0, same server ∙ there.1)
  there_alike (place.is_dropped server) there = (there.0, same server ∙ there.1)
  there_alike (place.is_at me at) there = (there.0, same me.server ∙ there.1, there.2)
  there_alike (place.is_barred at) there = tt

  pub in_place_alike : (front : List ℕ) (replica : Replica) (id : AskId) (here : Place) → IsInPlace master nodes links front replica id here
      → IsInPlace master others links front replica id here
  in_place_alike front replica id here is = record {
    message = is.message;
    shows = shows_alike id.conn here is.shows;
    barrier = is.barrier;
    there = there_alike here is.there;
  }

  pub in_none_alike : (conn : ℕ) → IsInNone master nodes links conn → IsInNone master others links conn
  in_none_alike conn is = record { message = is.message; shows = shows_alike conn place.nowhere is.shows }
