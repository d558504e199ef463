-- The start: no node has anything, and the link of each backend with the master just came up, so that the backend's LIST is on its way. Whatever
-- frontends sent is on links of theirs.
use Rattle.std.specs.Prelude.{◌≡◌, ◌≢◌, ℕ, nat_eq, true, is_some, List, [], ◌∷◌, map, None, Some}
use Rattle.std.specs.List.{list_any, AllByRecursion}
use Rattle.std.specs.Cmp.Lexicographic.{pointwise}
use Rattle.link_msg.specs.declared.message.LinkMsg.TheVariants.{Up}
use Rattle.link_queue.specs.Links.{on_link}
use Rattle.master_core.specs.Boot.{booted}
use Rattle.mur_base.specs.declared.home.Location.{Location}
use Rattle.mur_model.specs.Store.{empty_store}
use Rattle.node_record.specs.Table.{empty_table}
use Rattle.back_node.specs.declared.node.BackNode.{BackNode}
use Rattle.back_node.specs.Acted.{BackActed}
use Rattle.back_node.specs.Node.{new_node}
use Rattle.back_node.specs.Takes.{node_takes}
use Rattle.feed_links.specs.Lines.{messages_to}
use Rattle.name_links.specs.Spelled.{IsPlaceText}
use Rattle.many_links.specs.Murder.{Murder, after_home}
use Rattle.many_links.specs.ManyHold.{ManyHold}

-- a new backend is told that its link with the master is up
abbrev pub told_up : Location → List ℕ → BackActed
told_up place me = node_takes (new_node place me) me Up

pub record HasBegun (murder : Murder) (me : List ℕ) (backends : List (List ℕ)) (name : List ℕ) (node : BackNode) : Type 0 where
  pub place : Location
  pub spelled : IsPlaceText place
  pub named : place.server ≡ name
  pub backend : list_any (pointwise nat_eq name) backends ≡ true
  pub apart : name ≢ me
  pub state : node ≡ (told_up place me).state
  pub up : on_link murder.links name me ≡ messages_to me (told_up place me).outs
  pub down : on_link murder.links me name ≡ []

pub record IsStart (murder : Murder) (me : List ℕ) (backends : List (List ℕ)) : Type 0 where
  pub master : murder.master ≡ booted me backends empty_table
  pub begun : (name : List ℕ) (node : BackNode) → murder.nodes name ≡ Some node → HasBegun murder me backends name node

-- it holds then, and the store is empty
abbrev pub ManyBegin : Type 0
ManyBegin = (murder : Murder) (me : List ℕ) (backends : List (List ℕ)) → IsStart murder me backends → ManyHold murder [] empty_store

-- ---- there is one: the backends of these places are told, one after another, that their link with the master is up

abbrev pub no_murder : List ℕ → List (List ℕ) → Murder
no_murder me backends = record { master = booted me backends empty_table; nodes = λ name. None; links = [] }

abbrev pub tell_one : List ℕ → Murder → Location → Murder
tell_one me murder place = after_home murder murder.links place.server (told_up place me)

unfoldable pub tell_all : List ℕ → Murder → List Location → Murder
tell_all me murder [] = murder
tell_all me murder (place ∷ places) = tell_all me (tell_one me murder place) places

abbrev pub servers_of : List Location → List (List ℕ)
servers_of places = map (λ (place : Location). place.server) places

-- each can be told, none is the master's, and no two are at one server
abbrev pub AreServers : List ℕ → List Location → Type 0
AreServers me [] = Unit {0}
AreServers me (place ∷ places) =
    IsPlaceText place × (place.server ≢ me) × AllByRecursion (λ (other : Location). other.server ≢ place.server) places × AreServers me places

pub record AreTold (me : List ℕ) (places : List Location) (murder : Murder) : Type 0 where
  pub first : IsStart murder me (servers_of places)
  pub each : AllByRecursion (λ (place : Location). is_some (murder.nodes place.server) ≡ true) places

abbrev pub ThereIsAStart : Type 0
ThereIsAStart = (me : List ℕ) (places : List Location) → AreServers me places → AreTold me places (tell_all me (no_murder me (servers_of places)) places)
