-- What a frontend takes ends the place of the command that it is about, and leaves the commands of all other connections where they are.
use Rattle.std.proofs.Common.{◌≡◌, ◌≢◌, ◌⊎◌, inl, inr, ℕ, true, false, List, ◌∷◌, None, Some, refl, sym, ◌∙◌, ap, subst}
use Rattle.std.proofs.Math.Logic.{⊎_elim}
use Rattle.ask_routes.specs.Barrier.{barrier_answered}
use Rattle.feed_core.specs.declared.replica.Replica.{Replica}
use Rattle.feed_links.specs.Replicas.{IsNoNews, hears, replica_of}
use Rattle.front_core.proofs.OneConnection.Places.{about, answer_on, first_of, is_about, is_over, left_taken, not_about, of_connection, other_whom, others_taken, over_about}
use Rattle.link_msg.specs.declared.answer.BackAnswer.{BackAnswer}
use Rattle.link_msg.specs.declared.message.LinkMsg.{LinkMsg}
use Rattle.link_msg.specs.declared.message.LinkMsg.TheVariants.{Up, End, Line, Ask, Answer}
use Rattle.link_queue.specs.Links.{Links, on_link, without_first}
use Rattle.many_links.proofs.Carried.{taken_else, taken_first}
use Rattle.many_links.specs.Murder.{Nodes}
use Rattle.mur_base.specs.declared.point.AskId.{AskId}
use Rattle.node_record.specs.Table.{MailboxTable}
use Rattle.route_links.proofs.BarrierLaw.{decides}
use Rattle.route_links.specs.Barriers.{IsBarrierAt, Place as Barrier, Place as barrier}
use Rattle.route_links.specs.Events.{IsDecided}
use Rattle.cluster_core.proofs.Commands.InPlace.{IsInNone, IsInPlace, ShowEach}
use Rattle.cluster_core.proofs.Commands.Place.{Place, at_barrier, carried, Place as place}
use Rattle.cluster_core.proofs.Places.FrontFirst.{IsIdle, about_ok, answer_tells, idle_is_nobodys, news_are_nobodys, none_comes, ok_tells}
use Rattle.cluster_core.proofs.Places.FrontHears.{an_ok_is_no_news, heard_past}
use Rattle.cluster_core.proofs.Places.Stays.{IsFrontend, KeepsPlaces, barrier_alike, home_apart, homes_taken, same_name_or, shows_alike}

-- ---- what holds

-- a message is taken that is not about a command, or is left of an earlier one: on a link of another frontend or another node than the master, that is where it was
abbrev pub TakesElsewhere : Type 0
TakesElsewhere = (master : List ℕ) (nodes : Nodes) (links : Links LinkMsg) (from to : List ℕ) (message : LinkMsg) (rest : List LinkMsg) (front : List ℕ)
    (replica : Replica) (id : AskId) (here : Place) → IsFrontend master nodes to → on_link links from to ≡ message ∷ rest
    → is_about id.command (of_connection id.conn) message ≡ false → (from ≢ master) ⊎ (front ≢ to) → IsInPlace master nodes links front replica id here
    → IsInPlace master nodes (without_first links from to) front replica id here

-- and on the link of its frontend from the master too, where the replica hears the message
abbrev pub TakesOfMaster : Type 0
TakesOfMaster = (master : List ℕ) (nodes : Nodes) (links : Links LinkMsg) (front : List ℕ) (message : LinkMsg) (rest : List LinkMsg) (replica : Replica)
    (id : AskId) (here : Place) → IsFrontend master nodes front → on_link links master front ≡ message ∷ rest
    → is_about id.command (of_connection id.conn) message ≡ false → IsInPlace master nodes links front replica id here
    → IsInPlace master nodes (without_first links master front) front (hears replica message) id here

-- whatever it takes, a connection that is in none stays so
abbrev pub NoneStays : Type 0
NoneStays = (master : List ℕ) (nodes : Nodes) (links : Links LinkMsg) (from to : List ℕ) (message : LinkMsg) (rest : List LinkMsg) (conn : ℕ)
    → IsFrontend master nodes to → on_link links from to ≡ message ∷ rest → IsInNone master nodes links conn
    → IsInNone master nodes (without_first links from to) conn

-- an answer is taken: its command, which was in it, is nowhere
pub record IsAnswered (master : List ℕ) (nodes : Nodes) (links : Links LinkMsg) (from to : List ℕ) (answer : BackAnswer) (front : List ℕ)
    (replica : Replica) (id : AskId) (here : Place) : Type 0 where
  pub at : front ≡ to
  pub here_is : here ≡ place.is_answered from answer
  pub over : IsInPlace master nodes (without_first links from to) front replica id place.nowhere

abbrev pub TakesAnswer : Type 0
TakesAnswer = (master : List ℕ) (nodes : Nodes) (links : Links LinkMsg) (from to : List ℕ) (answer : BackAnswer) (rest : List LinkMsg) (front : List ℕ)
    (replica : Replica) (id : AskId) (here : Place) → IsFrontend master nodes to → on_link links from to ≡ Answer answer ∷ rest
    → (answer.id).conn ≡ id.conn → IsInPlace master nodes links front replica id here
    → IsAnswered master nodes links from to answer front replica id here

abbrev pub AnswerLeavesOthers : Type 0
AnswerLeavesOthers = (master : List ℕ) (nodes : Nodes) (links : Links LinkMsg) (from to : List ℕ) (answer : BackAnswer) (rest : List LinkMsg) (conn : ℕ)
    → IsFrontend master nodes to → on_link links from to ≡ Answer answer ∷ rest → conn ≢ (answer.id).conn
    → KeepsPlaces master nodes conn links (without_first links from to)

-- the OK is taken: its command, which waited for it, is nowhere, and the replica has all of the table of the step in which the master took the NOOP
pub record IsCleared (master : List ℕ) (nodes : Nodes) (links : Links LinkMsg) (to : List ℕ) (told : AskId) (front : List ℕ) (replica : Replica)
    (id : AskId) (here : Place) : Type 0 where
  pub own : told ≡ id
  pub at : front ≡ to
  pub table : MailboxTable
  pub here_is : here ≡ place.is_barred (barrier.answered table)
  pub has_all : replica ≡ replica_of table
  pub over : IsInPlace master nodes (without_first links master to) front replica id place.nowhere

abbrev pub TakesOk : Type 0
TakesOk = (master : List ℕ) (nodes : Nodes) (links : Links LinkMsg) (to bytes : List ℕ) (told : AskId) (rest : List LinkMsg) (front : List ℕ)
    (replica : Replica) (id : AskId) (here : Place) → IsFrontend master nodes to → on_link links master to ≡ Line bytes ∷ rest
    → barrier_answered bytes ≡ Some told → told.conn ≡ id.conn → is_over id.command (Line bytes) ≡ false
    → IsInPlace master nodes links front replica id here → IsCleared master nodes links to told front replica id here

-- the OK of a command that is over is taken: the one that waits now is where it was
abbrev pub LateOkStays : Type 0
LateOkStays = (master : List ℕ) (nodes : Nodes) (links : Links LinkMsg) (to bytes : List ℕ) (told : AskId) (rest : List LinkMsg) (front : List ℕ)
    (replica : Replica) (id : AskId) (here : Place) → IsFrontend master nodes to → on_link links master to ≡ Line bytes ∷ rest
    → barrier_answered bytes ≡ Some told → is_over id.command (Line bytes) ≡ true → IsInPlace master nodes links front replica id here
    → IsInPlace master nodes (without_first links master to) front replica id here

abbrev pub OkLeavesOthers : Type 0
OkLeavesOthers = (master : List ℕ) (nodes : Nodes) (links : Links LinkMsg) (to bytes : List ℕ) (told : AskId) (rest : List LinkMsg) (conn : ℕ)
    → IsFrontend master nodes to → on_link links master to ≡ Line bytes ∷ rest → barrier_answered bytes ≡ Some told → conn ≢ told.conn
    → KeepsPlaces master nodes conn links (without_first links master to)

-- another line of the master is taken: each command of the frontend is where it was, with the replica that hears the line, and so are those of other
-- frontends, with theirs
abbrev pub TakesNews : Type 0
TakesNews = (master : List ℕ) (nodes : Nodes) (links : Links LinkMsg) (front bytes : List ℕ) (rest : List LinkMsg) (replica : Replica) (id : AskId)
    (here : Place) → IsFrontend master nodes front → on_link links master front ≡ Line bytes ∷ rest → barrier_answered bytes ≡ None
    → IsInPlace master nodes links front replica id here
    → IsInPlace master nodes (without_first links master front) front (hears replica (Line bytes)) id here

abbrev pub NewsLeaveOthers : Type 0
NewsLeaveOthers = (master : List ℕ) (nodes : Nodes) (links : Links LinkMsg) (to bytes : List ℕ) (rest : List LinkMsg) (front : List ℕ) (replica : Replica)
    (id : AskId) (here : Place) → IsFrontend master nodes to → on_link links master to ≡ Line bytes ∷ rest → barrier_answered bytes ≡ None
    → front ≢ to → IsInPlace master nodes links front replica id here
    → IsInPlace master nodes (without_first links master to) front replica id here

-- a message is taken that no command waits for
abbrev pub IdleLeavesAll : Type 0
IdleLeavesAll = (master : List ℕ) (nodes : Nodes) (links : Links LinkMsg) (from to : List ℕ) (message : LinkMsg) (rest : List LinkMsg) (conn : ℕ)
    → IsFrontend master nodes to → on_link links from to ≡ message ∷ rest → IsIdle master from message
    → KeepsPlaces master nodes conn links (without_first links from to)

-- ---- a barrier behind it

-- on the links of another frontend, or of another node than the master
barrier_elsewhere : (master : List ℕ) (links : Links LinkMsg) (from to front : List ℕ) (id : AskId) (at : Barrier) (replica : Replica) → to ≢ master
    → (from ≢ master) ⊎ (front ≢ to) → IsBarrierAt id at (on_link links front master) (on_link links master front) replica
    → IsBarrierAt id at (on_link (without_first links from to) front master) (on_link (without_first links from to) master front) replica
barrier_elsewhere master links from to front id at replica no_master apart is =
    barrier_alike id at (on_link links front master) (on_link links master front) _ _ replica
    (taken_else links from to front master (inr (λ e. no_master (sym e))))
    (taken_else links from to master front (⊎_elim (λ ne. inl (λ e. ne (sym e))) (λ ne. inr ne) apart)) is

-- on the link from the master
barrier_here : (master : List ℕ) (links : Links LinkMsg) (front : List ℕ) (message : LinkMsg) (rest : List LinkMsg) (id : AskId) (at : Barrier)
    (replica : Replica) → front ≢ master → on_link links master front ≡ message ∷ rest
    → IsBarrierAt id at (on_link links front master) rest replica
    → IsBarrierAt id at (on_link (without_first links master front) front master) (on_link (without_first links master front) master front) replica
barrier_here master links front message rest id at replica no_master first is =
    barrier_alike id at (on_link links front master) rest _ _ replica (taken_else links master front front master (inl no_master))
    (taken_first links master front message rest first) is

-- ---- a message about another connection, or about nobody

pub takes_elsewhere : TakesElsewhere
takes_elsewhere master nodes links from to message rest front replica id here frontend first ne apart is = record {
  message = left_taken id.command links from to message rest (of_connection id.conn) _ first ne is.message;
  shows = shows_alike master nodes id.conn here links (without_first links from to) (homes_taken master nodes links from to frontend) is.shows;
  barrier = barrier_elsewhere master links from to front id (at_barrier here) replica frontend.no_master apart is.barrier;
  there = is.there;
}

pub takes_of_master : TakesOfMaster
takes_of_master master nodes links front message rest replica id here frontend first ne is = record {
  message = left_taken id.command links master front message rest (of_connection id.conn) _ first ne is.message;
  shows = shows_alike master nodes id.conn here links (without_first links master front) (homes_taken master nodes links master front frontend) is.shows;
  barrier = barrier_here master links front message rest id (at_barrier here) (hears replica message) frontend.no_master first
      (heard_past master front links id here (on_link links front master) rest message replica ne is.message
      (subst (λ l. IsBarrierAt id (at_barrier here) (on_link links front master) l replica) first is.barrier));
  there = is.there;
}

pub none_stays : NoneStays
none_stays master nodes links from to message rest conn frontend first is = record {
  message = others_taken links from to message rest (of_connection conn) first (none_comes master nodes links from to message rest conn first is) 0 None
      is.message;
  shows = shows_alike master nodes conn place.nowhere links (without_first links from to) (homes_taken master nodes links from to frontend) is.shows;
}

-- where the message is no news of the master's table
unheard : (master : List ℕ) (nodes : Nodes) (links : Links LinkMsg) (from to : List ℕ) (message : LinkMsg) (rest : List LinkMsg) (front : List ℕ)
    (replica : Replica) (id : AskId) (here : Place) → IsFrontend master nodes to → on_link links from to ≡ message ∷ rest
    → is_about id.command (of_connection id.conn) message ≡ false → (from ≢ master) ⊎ IsNoNews message → IsInPlace master nodes links front replica id here
    → IsInPlace master nodes (without_first links from to) front replica id here
unheard master nodes links from to message rest front replica id here frontend first ne (inl apart) is =
    takes_elsewhere master nodes links from to message rest front replica id here frontend first ne (inl apart) is
unheard master nodes links from to message rest front replica id here frontend first ne (inr no_news) is =
    ⊎_elim
    (λ (own : front ≡ to). ⊎_elim
    (λ (e : from ≡ master).
    let at_master : on_link links master to ≡ message ∷ rest = subst (λ f. on_link links f to ≡ message ∷ rest) e first in
    subst (λ f. IsInPlace master nodes (without_first links f to) front replica id here) (sym e)
    (subst (λ f. IsInPlace master nodes (without_first links master to) f replica id here) (sym own)
    (subst (λ r. IsInPlace master nodes (without_first links master to) to r id here) (no_news replica)
    (takes_of_master master nodes links to message rest replica id here frontend at_master ne
    (subst (λ f. IsInPlace master nodes links f replica id here) own is)))))
    (λ (apart : from ≢ master). takes_elsewhere master nodes links from to message rest front replica id here frontend first ne (inl apart) is)
    (same_name_or from master))
    (λ (apart : front ≢ to). takes_elsewhere master nodes links from to message rest front replica id here frontend first ne (inr apart) is)
    (same_name_or front to)

unheard_keeps : (master : List ℕ) (nodes : Nodes) (links : Links LinkMsg) (from to : List ℕ) (message : LinkMsg) (rest : List LinkMsg) (conn : ℕ)
    → IsFrontend master nodes to → on_link links from to ≡ message ∷ rest → about message ≢ of_connection conn → (from ≢ master) ⊎ IsNoNews message
    → KeepsPlaces master nodes conn links (without_first links from to)
unheard_keeps master nodes links from to message rest conn frontend first ne nothing = record {
  in_place = λ front replica command here is.
      unheard master nodes links from to message rest front replica (record { conn = conn; command = command }) here frontend first
      (not_about command (of_connection conn) message ne) nothing is;
  in_none = none_stays master nodes links from to message rest conn frontend first;
}

-- ---- an answer

answered_over : (master : List ℕ) (nodes : Nodes) (links : Links LinkMsg) (from to : List ℕ) (answer : BackAnswer) (rest : List LinkMsg) (front : List ℕ)
    (replica : Replica) (id : AskId) (here : Place) → IsFrontend master nodes to → on_link links from to ≡ Answer answer ∷ rest
    → (answer.id).conn ≡ id.conn → here ≡ place.is_answered from answer → IsInPlace master nodes links front replica id (place.is_answered from answer)
    → IsInPlace master nodes (without_first links from to) front replica id place.nowhere
answered_over master nodes links from to answer rest front replica id here frontend first own here_is is = record {
  message = (first_of id.command links from to (Answer answer) rest (of_connection id.conn) (carried from front (Answer answer)) first (ap of_connection own)
      (answer_on id.command answer) is.message).1;
  shows = shows_alike master nodes id.conn place.nowhere links (without_first links from to) (homes_taken master nodes links from to frontend) is.shows;
  barrier = barrier_elsewhere master links from to front id barrier.nowhere replica frontend.no_master
      (inl (home_apart nodes from master is.there.0 is.there.1 frontend.master_no_home)) is.barrier;
  there = tt;
}

pub takes_answer : TakesAnswer
takes_answer master nodes links from to answer rest front replica id here frontend first own is =
    let tells = answer_tells master nodes links from to answer rest front replica id here frontend first own is in
    record {
      at = tells.0;
      here_is = tells.1;
      over = answered_over master nodes links from to answer rest front replica id here frontend first own tells.1
          (subst (λ h. IsInPlace master nodes links front replica id h) tells.1 is);
    }

pub answer_leaves_others : AnswerLeavesOthers
answer_leaves_others master nodes links from to answer rest conn frontend first ne =
    unheard_keeps master nodes links from to (Answer answer) rest conn frontend first
    (other_whom (answer.id).conn conn (λ e. ne (sym e))) (inr (λ any. refl))

-- ---- an OK

cleared_by : (master : List ℕ) (nodes : Nodes) (links : Links LinkMsg) (front bytes : List ℕ) (rest : List LinkMsg) (replica : Replica) (id : AskId)
    (here : Place) (table : MailboxTable) → IsFrontend master nodes front → on_link links master front ≡ Line bytes ∷ rest → barrier_answered bytes ≡ Some id
    → here ≡ place.is_barred (barrier.answered table) → is_over id.command (Line bytes) ≡ false → IsInPlace master nodes links front replica id here
    → IsDecided id (barrier.answered table) (on_link links front master) rest replica
    → IsCleared master nodes links front id front replica id here
cleared_by master nodes links front bytes rest replica id here table frontend first ok here_is on is decided = record {
  own = refl;
  at = refl;
  table = decided.table;
  here_is = here_is ∙ ap place.is_barred decided.at_is;
  has_all = decided.has_all;
  over = record {
    message = (first_of id.command links master front (Line bytes) rest (of_connection id.conn) _ first (about_ok bytes id ok) on is.message).1;
    shows = shows_alike master nodes id.conn place.nowhere links (without_first links master front) (homes_taken master nodes links master front frontend)
        (subst (ShowEach master nodes links id.conn) here_is is.shows);
    barrier = barrier_here master links front (Line bytes) rest id barrier.nowhere replica frontend.no_master first decided.over;
    there = tt;
  };
}

ok_taken : (master : List ℕ) (nodes : Nodes) (links : Links LinkMsg) (front bytes : List ℕ) (rest : List LinkMsg) (replica : Replica) (id : AskId)
    (here : Place) (table : MailboxTable) → IsFrontend master nodes front → on_link links master front ≡ Line bytes ∷ rest → barrier_answered bytes ≡ Some id
    → here ≡ place.is_barred (barrier.answered table) → is_over id.command (Line bytes) ≡ false → IsInPlace master nodes links front replica id here
    → IsCleared master nodes links front id front replica id here
ok_taken master nodes links front bytes rest replica id here table frontend first ok here_is on is =
    cleared_by master nodes links front bytes rest replica id here table frontend first ok here_is on is
    (decides id (barrier.answered table) (on_link links front master) rest (Line bytes) replica ok
    (subst (λ h. IsBarrierAt id (at_barrier h) (on_link links front master) (Line bytes ∷ rest) replica) here_is
    (subst (λ l. IsBarrierAt id (at_barrier here) (on_link links front master) l replica) first is.barrier)))

pub takes_ok : TakesOk
takes_ok master nodes links to bytes told rest front replica id here frontend first ok own on is =
    let tells = ok_tells master nodes links to bytes told rest front replica id here frontend first ok own on is in
    subst (λ f. IsCleared master nodes links to told f replica id here) (sym tells.at)
    (subst (λ t. IsCleared master nodes links to t to replica id here) (sym tells.own)
    (ok_taken master nodes links to bytes rest replica id here tells.table frontend first (ok ∙ ap Some tells.own) tells.here_is on
    (subst (λ f. IsInPlace master nodes links f replica id here) tells.at is)))

pub late_ok_stays : LateOkStays
late_ok_stays master nodes links to bytes told rest front replica id here frontend first ok over is =
    unheard master nodes links master to (Line bytes) rest front replica id here frontend first (over_about id.command (of_connection id.conn) (Line bytes) over)
    (inr (an_ok_is_no_news bytes told ok)) is

pub ok_leaves_others : OkLeavesOthers
ok_leaves_others master nodes links to bytes told rest conn frontend first ok ne =
    unheard_keeps master nodes links master to (Line bytes) rest conn frontend first
    (λ e. other_whom told.conn conn (λ same. ne (sym same)) (sym (about_ok bytes told ok) ∙ e)) (inr (an_ok_is_no_news bytes told ok))

-- ---- another line of the master

pub takes_news : TakesNews
takes_news master nodes links front bytes rest replica id here frontend first none is =
    takes_of_master master nodes links front (Line bytes) rest replica id here frontend first
    (news_are_nobodys master nodes links master front bytes rest front replica id here frontend first none is) is

pub news_leave_others : NewsLeaveOthers
news_leave_others master nodes links to bytes rest front replica id here frontend first none apart is =
    takes_elsewhere master nodes links master to (Line bytes) rest front replica id here frontend first
    (news_are_nobodys master nodes links master to bytes rest front replica id here frontend first none is) (inr apart) is

-- ---- a message that no command waits for

idle_no_news : (master from : List ℕ) (message : LinkMsg) → IsIdle master from message → (from ≢ master) ⊎ IsNoNews message
idle_no_news master from Up idle = inr (λ any. refl)
idle_no_news master from End idle = inr (λ any. refl)
idle_no_news master from (Ask ask) idle = inr (λ any. refl)
idle_no_news master from (Line bytes) idle = inl idle
idle_no_news master from (Answer answer) idle = absurd idle

pub idle_leaves_all : IdleLeavesAll
idle_leaves_all master nodes links from to message rest conn frontend first idle = record {
  in_place = λ front replica command here is.
      unheard master nodes links from to message rest front replica (record { conn = conn; command = command }) here frontend first
      (idle_is_nobodys master nodes links from to message rest front replica (record { conn = conn; command = command }) here frontend first idle is)
      (idle_no_news master from message idle) is;
  in_none = none_stays master nodes links from to message rest conn frontend first;
}
