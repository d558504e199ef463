-- A backend takes a message of another node than the master: each command that it isn't about stays where it is.
use Rattle.std.proofs.Common.{◌≡◌, ◌≢◌, ℕ, Bool, true, false, List, refl, sym, subst, ◌∙◌}
use Rattle.back_links.specs.BackEvents.{IsFitting}
use Rattle.back_node.specs.declared.node.BackNode.{BackNode}
use Rattle.back_node.specs.Takes.{node_takes}
use Rattle.front_core.proofs.OneConnection.Places.{ask_on, is_about, of_connection, own_about}
use Rattle.link_msg.specs.declared.message.LinkMsg.{LinkMsg}
use Rattle.link_msg.specs.declared.message.LinkMsg.TheVariants.{Up, End, Line, Ask, Answer}
use Rattle.link_queue.specs.Links.{Links, on_link}
use Rattle.many_links.specs.Murder.{Murder, taken}
use Rattle.mur_model.specs.declared.store.Store.{Store}
use Rattle.name_commands.specs.Moves.{LeavesCommand}
use Rattle.name_commands.specs.Places.{NamePlace, TalkShows, NamePlace as name_at}
use Rattle.name_commands.specs.Whose.{Whose, asks_for, is_of_connection, is_own_message}
use Rattle.name_commands.proofs.AskSteps.{other_asks_leave}
use Rattle.name_links.specs.Serials.{Given}
use Rattle.cluster_core.proofs.Commands.Place.{at_backend}
use Rattle.cluster_core.proofs.Steps.HomeLinks.{down_other}
use Rattle.cluster_core.proofs.Steps.HomeNamed.{stays_with_others}
use Rattle.cluster_core.proofs.Steps.HomeSteps.{HomeTakes, OthersStay, OthersStayNone}
use Rattle.cluster_core.proofs.Steps.Outs.{about_it, not_about_it}
use Rattle.cluster_core.proofs.Steps.HomeMoves.{apart, talk, left_so, left_none}

asks_not : (whose : Whose) (message : LinkMsg) → is_own_message whose message ≡ false → asks_for whose message ≡ false
asks_not whose Up e = refl
asks_not whose End e = refl
asks_not whose (Line bytes) e = refl
asks_not whose (Ask ask) e = e
asks_not whose (Answer answer) e = refl

pub asks_other : (first conn : ℕ) (message : LinkMsg) → is_about first (of_connection conn) message ≡ false → asks_for (is_of_connection conn) message ≡ false
asks_other first conn Up e = refl
asks_other first conn End e = refl
asks_other first conn (Line bytes) e = refl
asks_other first conn (Answer answer) e = refl
asks_other first conn (Ask ask) e = by (is_of_connection conn ask.id) refl
  where
    by : (own : Bool) → is_of_connection conn ask.id ≡ own → own ≡ false
    by true h =
        let no : true ≡ false = sym (own_about first (of_connection conn) (Ask ask) (about_it conn (Ask ask) h) (ask_on first ask)) ∙ e in cc
    by false h = refl

-- ---- a message of another node than the master

module _ (murder : Murder) (given : Given) (store : Store) (name : List ℕ) (node : BackNode) (from : List ℕ) (message : LinkMsg)
    (takes : HomeTakes murder given store name node from message) (ne : from ≢ murder.master.me) where
  abbrev me : List ℕ
  me = murder.master.me

  abbrev left : Links LinkMsg
  left = taken murder from name

  down_is : on_link left me name ≡ on_link murder.links me name
  down_is = down_other murder name (apart murder given store name node from message takes) from (node_takes node from message) ne

  -- the master has sent what it had
  pub as_before : (P : List LinkMsg → Type 0) → P (on_link murder.links me name) → P (on_link left me name)
  as_before P p = subst P (sym down_is) p

  pub others_me : (node_takes node from message).state.flows.me ≡ node.flows.me
  others_me =
      stays_with_others murder.master name node (on_link murder.links name me) (on_link murder.links me name) given from message
      (talk murder given store name node from message takes) ne

  leaves_one : (conn : ℕ) (at : NamePlace) → IsFitting message → asks_for (is_of_connection conn) message ≡ false
      → TalkShows (is_of_connection conn) node (on_link murder.links name me) (on_link murder.links me name) at
      → LeavesCommand (is_of_connection conn) me (node_takes node from message) (on_link murder.links name me) (on_link left me name) at
  leaves_one conn at fits other shows =
      as_before (λ d. LeavesCommand (is_of_connection conn) me (node_takes node from message) (on_link murder.links name me) d at)
      (other_asks_leave (is_of_connection conn) murder.master name node (on_link murder.links name me) (on_link murder.links me name) given from message at
      (talk murder given store name node from message takes) ne fits other shows)

pub others_stay : OthersStay
others_stay murder given store name node from message front replica id here takes ne fits is_front other is =
    left_so murder given store name node from message takes front replica id here is_front is
    (others_me murder given store name node from message takes ne) other
    (leaves_one murder given store name node from message takes ne id.conn (at_backend name here) fits (asks_other id.command id.conn message other)
    (is.shows name node takes.there))

pub others_stay_none : OthersStayNone
others_stay_none murder given store name node from message conn takes ne fits other is =
    left_none murder given store name node from message takes conn is other
    (leaves_one murder given store name node from message takes ne conn name_at.nowhere fits (asks_not (is_of_connection conn) message (not_about_it conn message other))
    (is.shows name node takes.there))
