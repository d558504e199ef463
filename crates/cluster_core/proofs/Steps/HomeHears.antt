-- A backend takes a line of the master: each command that it isn't about stays where it is, or waited for the end of a resync and is tested.
use Rattle.std.proofs.Common.{◌≡◌, ◌≢◌, ℕ, Bool, true, false, cond, nat_eq, List, ◌∷◌, Option, None, Some, refl, sym, ap, subst, arith, ◌∙◌}
use Rattle.std.specs.Cmp.Lexicographic.{pointwise, same_text}
use Rattle.back_links.specs.OneTalk.{HasTalk}
use Rattle.back_node.specs.declared.node.BackNode.{BackNode}
use Rattle.back_node.specs.Acted.{BackActed}
use Rattle.back_node.specs.Takes.{node_takes}
use Rattle.feed_core.specs.declared.replica.Replica.{Replica}
use Rattle.front_core.proofs.OneConnection.Places.{about, is_about, left_taken, of_connection, own_about}
use Rattle.link_msg.specs.declared.answer.AnswerBody.{AnswerBody}
use Rattle.link_msg.specs.declared.message.LinkMsg.{LinkMsg}
use Rattle.link_queue.specs.Links.{on_link}
use Rattle.many_links.specs.Murder.{Murder, taken}
use Rattle.many_links.proofs.Carried.{taken_first}
use Rattle.mur_base.specs.declared.home.Location.{Location}
use Rattle.mur_base.specs.declared.point.AskId.{AskId}
use Rattle.mur_model.specs.declared.store.Store.{Store}
use Rattle.name_commands.specs.BackSteps.{LeavesOrTests, LeavesOrTests as leaves}
use Rattle.name_commands.specs.Moves.{LeavesCommand, Move, MovesCommand, tested_move}
use Rattle.name_commands.specs.Places.{FlowsTell, NamePlace, TalkShows, NamePlace as name_at}
use Rattle.name_commands.specs.Whose.{is_of_connection}
use Rattle.name_commands.proofs.AnswerSteps.{other_answers_leave}
use Rattle.name_flows.specs.declared.ask.NameAsk.{NameAsk}
use Rattle.name_flows.specs.Asked.{refusal}
use Rattle.name_links.specs.Serials.{Given}
use Rattle.cluster_core.proofs.Commands.InPlace.{IsThere}
use Rattle.cluster_core.proofs.Commands.Place.{Place, at_backend, Place as place}
use Rattle.cluster_core.proofs.Steps.Heads.{line_down_on}
use Rattle.cluster_core.proofs.Steps.HomeNamed.{stays_with_master}
use Rattle.cluster_core.proofs.Steps.HomeSteps.{HomeTakes, IsMovedThen, NoneThen, OtherLinesStayNone, OtherLinesStayOrTest, StaysOrIsTested, is_tested, stays}
use Rattle.cluster_core.proofs.Steps.Murders.{its_me, IsFront, IsIn, IsNowhere, at_other}
use Rattle.cluster_core.proofs.Steps.Outs.{not_about_it}
use Rattle.cluster_core.proofs.Steps.HomeMoves.{SendsFrom, TellsFront, talk, moves_to, left_so, left_none}

-- ---- a message of the master

module _ (murder : Murder) (given : Given) (store : Store) (name : List ℕ) (node : BackNode) (message : LinkMsg)
    (takes : HomeTakes murder given store name node murder.master.me message) where
  abbrev me : List ℕ
  me = murder.master.me

  abbrev next : BackActed
  next = node_takes node me message

  abbrev up : List LinkMsg
  up = on_link murder.links name me

  abbrev down : List LinkMsg
  down = takes.first.rest

  -- it was the first
  pub first_down : (P : List LinkMsg → Type 0) → P (on_link murder.links me name) → P (message ∷ down)
  first_down P p = subst P takes.first.first p

  pub then_down : (P : List LinkMsg → Type 0) → P down → P (on_link (taken murder me name) me name)
  then_down P p = subst P (sym (taken_first murder.links me name message down takes.first.first)) p

  pub hearing : HasTalk murder.master name node up (message ∷ down) given
  hearing = first_down (λ d. HasTalk murder.master name node up d given) (talk murder given store name node me message takes)

  pub master_me : next.state.flows.me ≡ node.flows.me
  master_me = stays_with_master murder.master name node up down given message hearing

  -- what another line makes of a place here
  other_line : (conn : ℕ) (at : NamePlace) → FlowsTell node.flows → about message ≢ of_connection conn
      → TalkShows (is_of_connection conn) node up (on_link murder.links me name) at → LeavesOrTests (is_of_connection conn) me node message up down at
  other_line conn at tells other shows =
      other_answers_leave (is_of_connection conn) murder.master name node up down given message at hearing tells (not_about_it conn message other)
      (first_down (λ d. TalkShows (is_of_connection conn) node up d at) shows)

  leaves_so : (conn : ℕ) (at : NamePlace) → LeavesCommand (is_of_connection conn) me next up down at
      → LeavesCommand (is_of_connection conn) me next up (on_link (taken murder me name) me name) at
  leaves_so conn at it = then_down (λ d. LeavesCommand (is_of_connection conn) me next up d at) it

  pub moves_so : (conn : ℕ) (it : Move) → MovesCommand (is_of_connection conn) me node next up down it
      → MovesCommand (is_of_connection conn) me node next up (on_link (taken murder me name) me name) it
  moves_so conn it moved = then_down (λ d. MovesCommand (is_of_connection conn) me node next up d it) moved

-- where a command waits here, its place is here
record WaitsHere (name : List ℕ) (here : Place) (ask : NameAsk) : Type 0 where
  me : Location
  here_is : here ≡ place.is_at me (name_at.waits ask)
  server : me.server ≡ name

waits_at : (name : List ℕ) (here : Place) (ask : NameAsk) → at_backend name here ≡ name_at.waits ask → WaitsHere name here ask
waits_at name place.nowhere ask e = cc
waits_at name (place.is_asked server it) ask e = cc
waits_at name (place.is_answered server answer) ask e = cc
waits_at name (place.is_dropped server) ask e = cc
waits_at name (place.is_at me at) ask e = by (pointwise nat_eq me.server name) refl e
  where
    by : (same : Bool) → pointwise nat_eq me.server name ≡ same → cond same at name_at.nowhere ≡ name_at.waits ask
        → WaitsHere name (place.is_at me at) ask
    by true h f = record { me = me; here_is = ap (λ p. place.is_at me p) f; server = same_text me.server name (sym h) }
    by false h f = cc
waits_at name (place.is_barred b) ask e = cc

module _ (murder : Murder) (given : Given) (store : Store) (name : List ℕ) (node : BackNode) (message : LinkMsg)
    (takes : HomeTakes murder given store name node murder.master.me message) (front : List ℕ) (replica : Replica) (id : AskId) (is_front : IsFront murder front)
    (other : is_about id.command (of_connection id.conn) message ≡ false) where
  -- of the master nothing comes that is left of an earlier command
  not_its_own : (here : Place) → IsIn murder front replica id here → about message ≢ of_connection id.conn
  not_its_own here is own =
      let on = line_down_on murder front replica id here name node takes.there message own is takes.first in
      let no : true ≡ false = sym (own_about id.command (of_connection id.conn) message own on) ∙ other in cc

  tested_at : (ask : NameAsk) (it : Move) → TellsFront front it → SendsFrom id.command it → IsIn murder front replica id (place.is_at node.flows.me (name_at.waits ask))
      → MovesCommand (is_of_connection id.conn) murder.master.me node (node_takes node murder.master.me message) (on_link murder.links name murder.master.me)
      takes.first.rest it
      → IsMovedThen murder name murder.master.me node (node_takes node murder.master.me message) front replica id it
  tested_at ask it tells from_it is moved =
      moves_to murder given store name node murder.master.me message takes front replica id (place.is_at node.flows.me (name_at.waits ask)) is_front is
      (master_me murder given store name node message takes)
      (left_taken id.command murder.links murder.master.me name message takes.first.rest (of_connection id.conn) None takes.first.first other is.message)
      (λ q ne. at_other node.flows.me name q (name_at.waits ask) (talk murder given store name node murder.master.me message takes).each.named ne)
      refl it tells from_it (moves_so murder given store name node message takes id.conn it moved)

  tested_front : (ask : NameAsk) (body : Option AnswerBody) → ask.front ≡ front → TellsFront front (tested_move ask body)
  tested_front ask (Some body) e = e
  tested_front ask None e = tt

  tested_from : (ask : NameAsk) (body : Option AnswerBody) → ask.id ≡ id → SendsFrom id.command (tested_move ask body)
  tested_from ask (Some body) e = tt
  tested_from ask None e = omega (arith, ap (λ (i : AskId). i.command) e)

  stays_or : (here : Place) → IsIn murder front replica id here
      → LeavesOrTests (is_of_connection id.conn) murder.master.me node message (on_link murder.links name murder.master.me) takes.first.rest (at_backend name here)
      → StaysOrIsTested murder name node (node_takes node murder.master.me message) front replica id here
  stays_or here is (leaves.is_left it) =
      stays (left_so murder given store name node murder.master.me message takes front replica id here is_front is
      (master_me murder given store name node message takes) other (leaves_so murder given store name node message takes id.conn (at_backend name here) it))
  stays_or here is (leaves.is_tested ask flows at over up master moved) =
      let waits = waits_at name here ask at in
      let its = its_me murder name node takes.there waits.me (name_at.waits ask) waits.server (subst (λ (h : Place). IsThere murder.nodes h) waits.here_is is.there) in
      let here_is : here ≡ place.is_at node.flows.me (name_at.waits ask) = waits.here_is ∙ ap (λ m. place.is_at m (name_at.waits ask)) its in
      is_tested ask flows here_is over up master
      (λ front_is own_is. tested_at ask (tested_move ask (refusal flows node.home.held ask.name ask.kind))
      (tested_front ask (refusal flows node.home.held ask.name ask.kind) front_is) (tested_from ask (refusal flows node.home.held ask.name ask.kind) own_is)
      (subst (λ (h : Place). IsIn murder front replica id h) here_is is) moved)

pub other_lines_stay_or_test : OtherLinesStayOrTest
other_lines_stay_or_test murder given store name node message front replica id here takes tells is_front other is =
    stays_or murder given store name node message takes front replica id is_front other here is
    (other_line murder given store name node message takes id.conn (at_backend name here) tells
    (not_its_own murder given store name node message takes front replica id is_front other here is) (is.shows name node takes.there))

none_left : (murder : Murder) (given : Given) (store : Store) (name : List ℕ) (node : BackNode) (message : LinkMsg) (conn : ℕ)
    → (takes : HomeTakes murder given store name node murder.master.me message) → about message ≢ of_connection conn → IsNowhere murder conn
    → LeavesOrTests (is_of_connection conn) murder.master.me node message (on_link murder.links name murder.master.me) takes.first.rest name_at.nowhere
    → NoneThen murder name murder.master.me (node_takes node murder.master.me message) conn
none_left murder given store name node message conn takes other is (leaves.is_left it) =
    left_none murder given store name node murder.master.me message takes conn is other
    (leaves_so murder given store name node message takes conn name_at.nowhere it)
none_left murder given store name node message conn takes other is (leaves.is_tested ask flows at over up master moved) = cc

pub other_lines_stay_none : OtherLinesStayNone
other_lines_stay_none murder given store name node message conn takes tells other is =
    none_left murder given store name node message conn takes other is
    (other_line murder given store name node message takes conn name_at.nowhere tells other (is.shows name node takes.there))
