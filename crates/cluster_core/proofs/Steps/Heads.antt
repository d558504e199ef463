-- The first message of a link that is about a connection, and isn't left of a command that is over, tells the place of its command. Between a backend and the
-- master nothing is left of such commands.
use Rattle.std.proofs.Common.{◌≡◌, ℕ, Bool, true, false, cond, nat_eq, List, ◌∷◌, filter, Option, None, Some, refl, sym, ap, subst, ◌∙◌}
use Rattle.std.specs.Cmp.Lexicographic.{pointwise, same_text}
use Rattle.back_node.specs.declared.node.BackNode.{BackNode}
use Rattle.feed_core.specs.declared.replica.Replica.{Replica}
use Rattle.front_core.proofs.OneConnection.Places.{IsPlaced, about, first_of, is_over, none_over, of_connection, on_of}
use Rattle.link_msg.specs.declared.message.LinkMsg.{LinkMsg}
use Rattle.link_queue.specs.Links.{on_link, without_first}
use Rattle.link_queue.proofs.Placed.{Carried}
use Rattle.mur_base.specs.declared.home.Location.{Location}
use Rattle.mur_base.specs.declared.point.AskId.{AskId}
use Rattle.many_links.specs.Murder.{Murder}
use Rattle.name_commands.specs.Places.{NamePlace, answer_message, downs_at, flow_message, ups_at, NamePlace as name_at}
use Rattle.name_commands.specs.Whose.{Whose, is_of_connection, is_own_message}
use Rattle.name_commands.proofs.Own.{kept}
use Rattle.cluster_core.proofs.Commands.InPlace.{IsThere}
use Rattle.cluster_core.proofs.Commands.Place.{Place, at_backend, flow_carried, its_message, Place as place}
use Rattle.cluster_core.proofs.Places.FrontHears.{found_about}
use Rattle.cluster_core.proofs.Steps.Murders.{IsFirstOn, IsIn, IsNowhere, its_me}
use Rattle.cluster_core.proofs.Steps.Outs.{own_it}

-- ---- a connection that no frontend has

abbrev pub NoneOnItsWay : Type 0
NoneOnItsWay = (murder : Murder) (conn : ℕ) (from to : List ℕ) (message : LinkMsg) → IsFirstOn murder from to message → about message ≡ of_connection conn
    → IsNowhere murder conn → ⊥

-- ---- what is on its way is the message of a place

abbrev pub here_at : List ℕ → List ℕ → LinkMsg → Option (Carried LinkMsg)
here_at from to message = Some (record { from = from; to = to; message = message })

pub record AreSame (from to its_from its_to : List ℕ) (message its : LinkMsg) : Type 0 where
  pub from_is : from ≡ its_from
  pub to_is : to ≡ its_to
  pub message_is : message ≡ its

just : (one other : Carried LinkMsg) → Some one ≡ Some other → one ≡ other
just one other e = cc

pub are_same : (from to its_from its_to : List ℕ) (message its : LinkMsg) → here_at from to message ≡ here_at its_from its_to its
    → AreSame from to its_from its_to message its
are_same from to its_from its_to message its e =
    let same = just (record { from = from; to = to; message = message }) (record { from = its_from; to = its_to; message = its }) e in record {
      from_is = ap (λ (c : Carried LinkMsg). c.from) same;
      to_is = ap (λ (c : Carried LinkMsg). c.to) same;
      message_is = ap (λ (c : Carried LinkMsg). c.message) same;
    }

-- what is first is the message of the place, and without it there is none
pub its_first : (murder : Murder) (front : List ℕ) (replica : Replica) (id : AskId) (here : Place) (from to : List ℕ) (message : LinkMsg)
    → IsFirstOn murder from to message → about message ≡ of_connection id.conn → is_over id.command message ≡ false → IsIn murder front replica id here
    → (its_message murder.master.me front id here ≡ here_at from to message)
    × IsPlaced id.command (of_connection id.conn) (without_first murder.links from to) None
its_first murder front replica id here from to message first own on is =
    first_of id.command murder.links from to message first.rest (of_connection id.conn) (its_message murder.master.me front id here) first.first own on is.message

pub none_on_its_way : NoneOnItsWay
none_on_its_way murder conn from to message first own is =
    let some : None ≡ here_at from to message =
    (first_of 0 murder.links from to message first.rest (of_connection conn) None first.first own (none_over message) is.message).0 in cc

-- ---- between a backend and the master

-- nothing is left there of a command that is over: of all lines about the connection just that of the place is on its way
module _ (murder : Murder) (front : List ℕ) (replica : Replica) (id : AskId) (here : Place) (name : List ℕ) (node : BackNode)
    (there : murder.nodes name ≡ Some node) (message : LinkMsg) (own : about message ≡ of_connection id.conn) (is : IsIn murder front replica id here) where
  abbrev me : List ℕ
  me = murder.master.me

  abbrev whose : Whose
  whose = is_of_connection id.conn

  not_in_place : (from to : List ℕ) → its_message me front id here ≡ here_at from to message → is_over id.command message ≡ false
  not_in_place from to found =
      on_of id.command (of_connection id.conn) message (found_about id.command murder.links from to message (of_connection id.conn)
      (subst (λ (it : Option (Carried LinkMsg)). IsPlaced id.command (of_connection id.conn) murder.links it) found is.message))

  -- where it is first of those about the connection
  own_first : (queue rest : List LinkMsg) (found : List LinkMsg) → queue ≡ message ∷ rest → filter (is_own_message whose) queue ≡ found
      → message ∷ filter (is_own_message whose) rest ≡ found
  own_first queue rest found e shown =
      sym (kept (is_own_message whose) message rest (own_it id.conn message own)) ∙ sym (ap (λ (l : List LinkMsg). filter (is_own_message whose) l) e) ∙ shown

  -- from the master
  down_place : (at : Location) (more : List LinkMsg) (place_there : NamePlace) → at.server ≡ name → message ∷ more ≡ downs_at place_there
      → flow_carried me at place_there ≡ here_at me name message
  down_place at more name_at.nowhere server e = cc
  down_place at more (name_at.waits ask) server e = cc
  down_place at more (name_at.sends mailbox flow) server e = cc
  down_place at more (name_at.hears mailbox flow it) server e =
      let same : message ≡ answer_message flow it = cc in
      ap (λ (s : List ℕ). here_at me s (answer_message flow it)) server ∙ ap (here_at me name) (sym same)

  down_by : (p : Place) (more : List LinkMsg) → message ∷ more ≡ downs_at (at_backend name p) → its_message me front id p ≡ here_at me name message
  down_by place.nowhere more e = cc
  down_by (place.is_asked server ask) more e = cc
  down_by (place.is_answered server answer) more e = cc
  down_by (place.is_dropped server) more e = cc
  down_by (place.is_at at place_there) more e = by (pointwise nat_eq at.server name) refl e
    where
      by : (same : Bool) → pointwise nat_eq at.server name ≡ same → message ∷ more ≡ downs_at (cond same place_there name_at.nowhere)
          → flow_carried me at place_there ≡ here_at me name message
      by true h k = down_place at more place_there (same_text at.server name (sym h)) k
      by false h k = cc
  down_by (place.is_barred b) more e = cc

  pub line_down_on : IsFirstOn murder me name message → is_over id.command message ≡ false
  line_down_on first =
      not_in_place me name (down_by here (filter (is_own_message whose) first.rest)
      (own_first (on_link murder.links me name) first.rest (downs_at (at_backend name here)) first.first (is.shows name node there).down_is))

  -- and from the backend
  up_place : (at : Location) (more : List LinkMsg) (place_there : NamePlace) → at.server ≡ name → at ≡ node.flows.me
      → message ∷ more ≡ ups_at node.flows.me place_there → flow_carried me at place_there ≡ here_at name me message
  up_place at more name_at.nowhere server mine e = cc
  up_place at more (name_at.waits ask) server mine e = cc
  up_place at more (name_at.hears mailbox flow it) server mine e = cc
  up_place at more (name_at.sends mailbox flow) server mine e =
      let same : message ≡ flow_message node.flows.me mailbox flow = cc in
      ap (λ (s : List ℕ). here_at s me (flow_message at mailbox flow)) server
      ∙ ap (λ (l : Location). here_at name me (flow_message l mailbox flow)) mine ∙ ap (here_at name me) (sym same)

  up_by : (p : Place) (more : List LinkMsg) → IsThere murder.nodes p → message ∷ more ≡ ups_at node.flows.me (at_backend name p)
      → its_message me front id p ≡ here_at name me message
  up_by place.nowhere more it e = cc
  up_by (place.is_asked server ask) more it e = cc
  up_by (place.is_answered server answer) more it e = cc
  up_by (place.is_dropped server) more it e = cc
  up_by (place.is_at at place_there) more it e = by (pointwise nat_eq at.server name) refl e
    where
      by : (same : Bool) → pointwise nat_eq at.server name ≡ same → message ∷ more ≡ ups_at node.flows.me (cond same place_there name_at.nowhere)
          → flow_carried me at place_there ≡ here_at name me message
      by true h k =
          let server = same_text at.server name (sym h) in
          up_place at more place_there server (its_me murder name node there at place_there server it) k
      by false h k = cc
  up_by (place.is_barred b) more it e = cc

  pub line_up_on : IsFirstOn murder name me message → is_over id.command message ≡ false
  line_up_on first =
      not_in_place name me (up_by here (filter (is_own_message whose) first.rest) is.there
      (own_first (on_link murder.links name me) first.rest (ups_at node.flows.me (at_backend name here)) first.first (is.shows name node there).up_is))
