-- What a frontend sends brings its own command to a server or to the barrier, and leaves the commands of all other connections where they are.
use Rattle.std.proofs.Common.{◌≡◌, ◌≢◌, inl, inr, ℕ, false, List, [], ◌∷◌, ◌++◌, Some, sym, ◌∙◌, ap, subst, arith}
use Rattle.std.proofs.Math.Logic.{⊎_elim}
use Rattle.ask_routes.specs.Barrier.{noop_line}
use Rattle.back_node.specs.declared.node.BackNode.{BackNode}
use Rattle.feed_core.specs.declared.replica.Replica.{Replica}
use Rattle.front_core.proofs.OneConnection.Places.{about, about_command, ask_on, is_over, line_on, of_connection, other_whom, others_sent, sent_alone}
use Rattle.link_msg.specs.declared.ask.FrontAsk.{FrontAsk}
use Rattle.link_msg.specs.declared.message.LinkMsg.{LinkMsg}
use Rattle.link_msg.specs.declared.message.LinkMsg.TheVariants.{Ask}
use Rattle.link_queue.specs.Links.{Links, on_link, sent}
use Rattle.many_links.specs.Murder.{Nodes}
use Rattle.mur_base.specs.declared.point.AskId.{AskId}
use Rattle.route_links.proofs.BarrierLaw.{begins, sends_other}
use Rattle.route_links.proofs.Tags.{noop_tells}
use Rattle.route_links.specs.Answered.{IsNumbered, noop_of}
use Rattle.route_links.specs.Barriers.{Place as barrier}
use Rattle.cluster_core.proofs.Commands.InPlace.{IsInPlace}
use Rattle.cluster_core.proofs.Commands.Place.{Place as place}
use Rattle.cluster_core.proofs.Places.Stays.{BarriersStay, IsFrontend, KeepsPlaces, barrier_alike, home_apart, homes_sent, keeps_by, same_name_or, sent_else, sent_there, shows_alike}

-- ---- what holds

-- it asks a server that is there: its command, which was nowhere, is in the ask
abbrev pub SendsAsk : Type 0
SendsAsk = (master : List ℕ) (nodes : Nodes) (links : Links LinkMsg) (front : List ℕ) (replica : Replica) (id : AskId) (server : List ℕ) (node : BackNode)
    (ask : FrontAsk) → IsFrontend master nodes front → nodes server ≡ Some node → ask.id ≡ id → IsInPlace master nodes links front replica id place.nowhere
    → IsInPlace master nodes (sent links front server (Ask ask)) front replica id (place.is_asked server ask)

-- the commands of other connections stay
abbrev pub AskLeavesOthers : Type 0
AskLeavesOthers = (master : List ℕ) (nodes : Nodes) (links : Links LinkMsg) (front server : List ℕ) (node : BackNode) (ask : FrontAsk) (conn : ℕ)
    → IsFrontend master nodes front → nodes server ≡ Some node → conn ≢ (ask.id).conn
    → KeepsPlaces master nodes conn links (sent links front server (Ask ask))

-- it sends the NOOP of its command, which was nowhere: that is at the barrier
abbrev pub SendsNoop : Type 0
SendsNoop = (master : List ℕ) (nodes : Nodes) (links : Links LinkMsg) (front : List ℕ) (replica : Replica) (id : AskId) → IsFrontend master nodes front
    → IsNumbered id → IsInPlace master nodes links front replica id place.nowhere
    → IsInPlace master nodes (sent links front master (noop_of id)) front replica id (place.is_barred barrier.asked)

-- the commands of other connections stay
abbrev pub NoopLeavesOthers : Type 0
NoopLeavesOthers = (master : List ℕ) (nodes : Nodes) (links : Links LinkMsg) (front : List ℕ) (id : AskId) (conn : ℕ) → IsFrontend master nodes front
    → IsNumbered id → conn ≢ id.conn → KeepsPlaces master nodes conn links (sent links front master (noop_of id))

-- ---- an ask

ask_barriers : (master : List ℕ) (links : Links LinkMsg) (front server : List ℕ) (ask : FrontAsk) (conn : ℕ) → front ≢ master → master ≢ server
    → BarriersStay master conn links (sent links front server (Ask ask))
ask_barriers master links front server ask conn no_master no_home = λ other replica command at is.
    barrier_alike _ at (on_link links other master) (on_link links master other) _ _ replica
    (sent_else links front server other master (Ask ask) (inr no_home))
    (sent_else links front server master other (Ask ask) (inl (λ e. no_master (sym e)))) is

pub sends_ask : SendsAsk
sends_ask master nodes links front replica id server node ask frontend at own is = record {
  message = sent_alone id.command links front server (Ask ask) (of_connection id.conn) (ap (λ (i : AskId). of_connection i.conn) own) (ask_on id.command ask)
      is.message;
  shows = shows_alike master nodes id.conn place.nowhere links (sent links front server (Ask ask))
      (homes_sent master nodes links front server (Ask ask) frontend) is.shows;
  barrier = ask_barriers master links front server ask id.conn frontend.no_master
      (λ e. home_apart nodes server master node at frontend.master_no_home (sym e)) front replica id.command barrier.nowhere is.barrier;
  there = (node, at);
}

pub ask_leaves_others : AskLeavesOthers
ask_leaves_others master nodes links front server node ask conn frontend at ne =
    keeps_by master nodes conn links (sent links front server (Ask ask))
    (others_sent links front server (Ask ask) (of_connection conn) (other_whom (ask.id).conn conn (λ e. ne (sym e))))
    (homes_sent master nodes links front server (Ask ask) frontend)
    (ask_barriers master links front server ask conn frontend.no_master (λ e. home_apart nodes server master node at frontend.master_no_home (sym e)))

-- ---- a NOOP

pub about_noop : (id : AskId) → IsNumbered id → about (noop_of id) ≡ of_connection id.conn
about_noop id numbered = ap about_command (noop_tells id numbered)

-- it isn't over
pub noop_on : (id : AskId) → IsNumbered id → is_over id.command (noop_of id) ≡ false
noop_on id numbered = line_on id.command (noop_line id) id (noop_tells id numbered) (omega arith)

noop_down : (master : List ℕ) (links : Links LinkMsg) (front other : List ℕ) (id : AskId) → front ≢ master
    → on_link (sent links front master (noop_of id)) master other ≡ on_link links master other
noop_down master links front other id ne = sent_else links front master master other (noop_of id) (inl (λ e. ne (sym e)))

pub sends_noop : SendsNoop
sends_noop master nodes links front replica id frontend numbered is = record {
  message = sent_alone id.command links front master (noop_of id) (of_connection id.conn) (about_noop id numbered) (noop_on id numbered) is.message;
  shows = shows_alike master nodes id.conn place.nowhere links (sent links front master (noop_of id))
      (homes_sent master nodes links front master (noop_of id) frontend) is.shows;
  barrier = barrier_alike id barrier.asked (on_link links front master ++ noop_of id ∷ []) (on_link links master front) _ _ replica
      (sent_there links front master (noop_of id)) (noop_down master links front front id frontend.no_master)
      (begins id (on_link links front master) (on_link links master front) replica is.barrier);
  there = tt;
}

noop_barriers : (master : List ℕ) (links : Links LinkMsg) (front : List ℕ) (id : AskId) (conn : ℕ) → front ≢ master → IsNumbered id → conn ≢ id.conn
    → BarriersStay master conn links (sent links front master (noop_of id))
noop_barriers master links front id conn no_master numbered ne = λ other replica command at is. ⊎_elim
    (λ (e : other ≡ front). barrier_alike _ at (on_link links other master ++ noop_of id ∷ []) (on_link links master other) _ _ replica
    (subst (λ f. on_link (sent links front master (noop_of id)) f master ≡ on_link links f master ++ noop_of id ∷ []) (sym e)
    (sent_there links front master (noop_of id)))
    (noop_down master links front other id no_master)
    (sends_other (record { conn = conn; command = command }) id at (on_link links other master) (on_link links master other) replica numbered
    (λ same. ne (sym (ap (λ (i : AskId). i.conn) same))) is))
    (λ (apart : other ≢ front). barrier_alike _ at (on_link links other master) (on_link links master other) _ _ replica
    (sent_else links front master other master (noop_of id) (inl apart)) (noop_down master links front other id no_master) is)
    (same_name_or other front)

pub noop_leaves_others : NoopLeavesOthers
noop_leaves_others master nodes links front id conn frontend numbered ne =
    keeps_by master nodes conn links (sent links front master (noop_of id))
    (others_sent links front master (noop_of id) (of_connection conn)
    (λ e. other_whom id.conn conn (λ same. ne (sym same)) (sym (about_noop id numbered) ∙ e)))
    (homes_sent master nodes links front master (noop_of id) frontend)
    (noop_barriers master links front id conn frontend.no_master numbered ne)
