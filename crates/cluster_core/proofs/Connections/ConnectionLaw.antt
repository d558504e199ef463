-- What holds of a connection: what its client was told is a front of what the one store replied, and at most one command waits,
-- in one place.
use Rattle.std.proofs.Common.{◌≡◌, ◌≢◌, ◌⊎◌, inl, inr, ℕ, ◌≤◌, Bool, true, false, nat_eq, List, [], ◌++◌, length, Option, Some, refl, sym, ◌∙◌, ap, subst, arith}
use Rattle.std.proofs.Math.Logic.{⊎_elim}
use Rattle.std.proofs.lemmas.Bool.{cases_eq}
use Rattle.std.proofs.lemmas.Bool.Decides.{nat_tests}
use Rattle.feed_core.specs.declared.replica.Replica.{Replica}
use Rattle.front_core.specs.declared.connection.Connection.{Connection}
use Rattle.front_core.specs.declared.connection.Stage.TheVariants.{Reading}
use Rattle.imap_reply.specs.Greeting.{greeting}
use Rattle.imap_talk.specs.SessionEnds.{has_ended}
use Rattle.imap_talk.specs.Transcript.{Stop, replies_till}
use Rattle.imap_talk.specs.Transcript.Stop.{silent}
use Rattle.imap_talk.proofs.TranscriptGrows.{AreAnswered}
use Rattle.imap_talk.specs.declared.inputs.Input.{Input}
use Rattle.imap_types.specs.declared.request.Answer.{Answer}
use Rattle.link_queue.specs.Broken.{is_broken}
use Rattle.mark_history.specs.Marked.{Tale, last_mark, talk_told}
use Rattle.mark_history.specs.declared.mark.Mark.{Mark}
use Rattle.mur_base.specs.declared.point.AskId.{AskId}
use Rattle.mur_model.specs.declared.session.Sess.{Sess}
use Rattle.mur_model.specs.History.{TalkGoesOn, with_session}
use Rattle.mur_model.proofs.HistoryGrows.{same_talk, talks_follow}
use Rattle.route_links.specs.Barriers.{Place as Barrier, Place as barrier}
use Rattle.cluster_core.specs.declared.world.Client.{Client}
use Rattle.cluster_core.specs.declared.world.World.{World}
use Rattle.cluster_core.specs.World.{client_at, home_at}
use Rattle.cluster_core.proofs.Commands.AllReached.{AreMarkedSo}
use Rattle.cluster_core.proofs.Commands.InPlace.{IsInNone, IsInPlace}
use Rattle.cluster_core.proofs.Commands.Moving.{IsSeenBy}
use Rattle.cluster_core.proofs.Commands.Place.{Place, Place as place}
use Rattle.cluster_core.proofs.Commands.Standing.{Fixed, Stands, next_id}

-- the command of this number is in this place, in a world
abbrev pub IsInPlaceOf : Fixed → World → List ℕ → Replica → AskId → Place → Type 0
IsInPlaceOf fixed world front replica id here = IsInPlace fixed.master (home_at world) world.links front replica id here

abbrev pub IsInNoneOf : Fixed → World → ℕ → Type 0
IsInNoneOf fixed world conn = IsInNone fixed.master (home_at world) world.links conn

-- what the last mark of a command is whose barrier was answered
abbrev pub marked_at : (ℕ → List ℕ → Bool) → List Mark → AskId → Barrier → Type 0
marked_at moving marks id (barrier.answered table) = IsSeenBy moving marks id table
marked_at moving marks id other = Unit {0}

abbrev pub IsMarkedAt : (ℕ → List ℕ → Bool) → List Mark → AskId → Place → Type 0
IsMarkedAt moving marks id (place.is_barred at) = marked_at moving marks id at
IsMarkedAt moving marks id other = Unit {0}

-- a step leaves the command of a connection where it is
pub record PlacesStay (fixed : Fixed) (conn : ℕ) (before after : World) : Type 0 where
  pub in_place : (front : List ℕ) (replica : Replica) (command : ℕ) (here : Place)
      → IsInPlaceOf fixed before front replica (record { conn = conn; command = command }) here
      → IsInPlaceOf fixed after front replica (record { conn = conn; command = command }) here
  pub in_none : IsInNoneOf fixed before conn → IsInNoneOf fixed after conn

-- and its marks
abbrev pub MarksStay : ℕ → List Mark → List Mark → Type 0
MarksStay conn before after = (command : ℕ)
    → last_mark (record { conn = conn; command = command }) after ≡ last_mark (record { conn = conn; command = command }) before

-- what a step of one connection keeps of a world
pub record KeepsOthers (fixed : Fixed) (conn : ℕ) (world next : World) : Type 0 where
  pub nodes : next.nodes ≡ world.nodes
  pub broken : next.broken ≡ world.broken
  pub steps : next.steps ≡ world.steps
  pub clients : (other : ℕ) → other ≢ conn → client_at next other ≡ client_at world other
  pub places : (other : ℕ) → other ≢ conn → PlacesStay fixed other world next
  pub marks : (other : ℕ) → other ≢ conn → MarksStay other world.marks next.marks

pub keeps_all : (fixed : Fixed) (conn : ℕ) (world : World) → KeepsOthers fixed conn world world
keeps_all fixed conn world = record {
  nodes = refl;
  broken = refl;
  steps = refl;
  clients = λ other ne. refl;
  places = λ other ne. record { in_place = λ front replica command here is. is; in_none = λ is. is };
  marks = λ other ne command. refl;
}

pub keeps_on : (fixed : Fixed) (conn : ℕ) (one two three : World) → KeepsOthers fixed conn one two → KeepsOthers fixed conn two three
    → KeepsOthers fixed conn one three
keeps_on fixed conn one two three first second = record {
  nodes = second.nodes ∙ first.nodes;
  broken = second.broken ∙ first.broken;
  steps = second.steps ∙ first.steps;
  clients = λ other ne. second.clients other ne ∙ first.clients other ne;
  places = λ other ne. record {
    in_place = λ front replica command here is.
        (second.places other ne).in_place front replica command here ((first.places other ne).in_place front replica command here is);
    in_none = λ is. (second.places other ne).in_none ((first.places other ne).in_none is);
  };
  marks = λ other ne command. second.marks other ne command ∙ first.marks other ne command;
}

-- what a step of one connection keeps of a tale
pub record GoesOnAt (conn : ℕ) (story next : Tale) : Type 0 where
  pub requests : next.talk.requests ≡ story.talk.requests
  pub said : (other : ℕ) → other ≢ conn → next.talk.answers other ≡ story.talk.answers other
  -- no reply of the one store is taken back
  pub grows : length (story.talk.answers conn) ≤ length (next.talk.answers conn)
  pub told : (other : ℕ) → other ≢ conn → next.told other ≡ story.told other
  pub sessions : (other : ℕ) → other ≢ conn → next.course.sessions other ≡ story.course.sessions other
  pub before : (other : ℕ) → other ≢ conn → next.before other ≡ story.before other
  pub more : TalkGoesOn (talk_told story) (talk_told next)

pub same_story : (conn : ℕ) (story : Tale) → GoesOnAt conn story story
same_story conn story = record {
  requests = refl;
  said = λ other ne. refl;
  grows = omega arith;
  told = λ other ne. refl;
  sessions = λ other ne. refl;
  before = λ other ne. refl;
  more = same_talk (talk_told story);
}

pub stories_follow : (conn : ℕ) (one two three : Tale) → GoesOnAt conn one two → GoesOnAt conn two three → GoesOnAt conn one three
stories_follow conn one two three first second = record {
  requests = second.requests ∙ first.requests;
  said = λ other ne. second.said other ne ∙ first.said other ne;
  grows = omega (arith, first.grows, second.grows);
  told = λ other ne. second.told other ne ∙ first.told other ne;
  sessions = λ other ne. second.sessions other ne ∙ first.sessions other ne;
  before = λ other ne. second.before other ne ∙ first.before other ne;
  more = talks_follow (talk_told one) (talk_told two) (talk_told three) first.more second.more;
}

-- to no connection did the one store reply less
abbrev pub SaysOn : Tale → Tale → Type 0
SaysOn story next = (conn : ℕ) → length (story.talk.answers conn) ≤ length (next.talk.answers conn)

pub says_same : (story : Tale) → SaysOn story story
says_same story conn = omega arith

pub says_then : (one two three : Tale) → SaysOn one two → SaysOn two three → SaysOn one three
says_then one two three first second conn = omega (arith, first conn, second conn)

pub says_on : (conn : ℕ) (story next : Tale) → GoesOnAt conn story next → SaysOn story next
says_on conn story next on other = ⊎_elim
    (λ (same : other ≡ conn). subst (λ c. length (story.talk.answers c) ≤ length (next.talk.answers c)) (sym same) on.grows)
    (λ (ne : other ≢ conn). omega (arith, ap length (on.said other ne)))
    (cases_eq other conn)

-- up to where it stops
abbrev pub client_till : Stop → List ℕ → List Input → List Answer → Client
client_till stop front inputs told = record { at = front; given = greeting ++ replies_till stop inputs told }

abbrev pub client_with : List ℕ → List Input → List Answer → Client
client_with front inputs told = client_till silent front inputs told

-- a command is dropped only with a link that is broken
abbrev pub IsDroppedAt : List ℕ → World → List ℕ → Place → Type 0
IsDroppedAt master world front (place.is_dropped server) = is_broken world.broken server front ≡ true
IsDroppedAt master world front (place.is_barred barrier.nowhere) = is_broken world.broken master front ≡ true
IsDroppedAt master world front other = Unit {0}

-- where the master's OK is on its way, and the store has replied, the session before that reply is the frontend's
abbrev pub CanRestore : Tale → ℕ → Connection → Place → Type 0
CanRestore story conn connection (place.is_barred (barrier.answered table)) =
    (story.talk.answers conn ≡ story.told conn) ⊎ (story.before conn ≡ connection.session)
CanRestore story conn connection other = Unit {0}

-- so it is of a connection with this session, by a tale that says the same of it
pub restores_as : (story later : Tale) (conn : ℕ) (one other : Connection) (here : Place) → later.talk.answers conn ≡ story.talk.answers conn
    → later.told conn ≡ story.told conn → later.before conn ≡ story.before conn → other.session ≡ one.session → CanRestore story conn one here
    → CanRestore later conn other here
restores_as story later conn one other place.nowhere said told before session is = tt
restores_as story later conn one other (place.is_asked server ask) said told before session is = tt
restores_as story later conn one other (place.is_answered server answer) said told before session is = tt
restores_as story later conn one other (place.is_dropped server) said told before session is = tt
restores_as story later conn one other (place.is_at me at) said told before session is = tt
restores_as story later conn one other (place.is_barred barrier.nowhere) said told before session is = tt
restores_as story later conn one other (place.is_barred barrier.asked) said told before session is = tt
restores_as story later conn one other (place.is_barred (barrier.answered table)) said told before session is = ⊎_elim
    (λ (e : story.talk.answers conn ≡ story.told conn). inl (said ∙ e ∙ sym told))
    (λ (e : story.before conn ≡ one.session). inr (before ∙ e ∙ sym session))
    is

-- a connection of a frontend with this replica, in the middle of a step, in which it reads
pub record IsReading (fixed : Fixed) (front : List ℕ) (replica : Replica) (conn : ℕ) (inputs : List Input) (connection : Connection) (world : World)
    (story : Tale) : Type 0 where
  pub stage_is : connection.stage ≡ Reading
  pub waiting_is : connection.waiting ≡ []
  pub session_is : connection.session ≡ story.course.sessions conn
  pub goes_on : has_ended (story.course.sessions conn) ≡ false
  pub count : connection.answered ≡ length (story.told conn)
  pub answered : AreAnswered inputs (story.told conn)
  pub said : story.talk.answers conn ≡ story.told conn
  pub client : client_at world conn ≡ Some (client_with front inputs (story.told conn))
  pub nothing : IsInPlaceOf fixed world front replica (next_id conn (story.told conn)) place.nowhere

-- and whatever it is at
pub record IsStanding (fixed : Fixed) (front : List ℕ) (replica : Replica) (conn : ℕ) (inputs : List Input) (held : Option (List ℕ))
    (connection : Connection) (world : World) (story : Tale) : Type 0 where
  pub count : connection.answered ≡ length (story.told conn)
  pub client : client_at world conn ≡ Some (client_with front inputs (story.told conn))
  pub here : Place
  pub placed : IsInPlaceOf fixed world front replica (next_id conn (story.told conn)) here
  pub marked : IsMarkedAt story.talk.moving world.marks (next_id conn (story.told conn)) here
  pub dropped : IsDroppedAt fixed.master world front here
  pub restores : CanRestore story conn connection here
  pub stands : Stands fixed front conn inputs held connection (story.told conn) (story.talk.answers conn) (story.course.sessions conn) here

-- a world and a tale that a step of one connection made of another
pub record IsMade (fixed : Fixed) (conn : ℕ) (before : World) (told : Tale) (world : World) (story : Tale) : Type 0 where
  pub others : KeepsOthers fixed conn before world
  pub goes_on : GoesOnAt conn told story
  pub store : story.course.store ≡ told.course.store
  pub is_told : AreMarkedSo fixed.setting world.broken world.steps world.marks story

pub record ReadsOn (fixed : Fixed) (front : List ℕ) (replica : Replica) (conn : ℕ) (inputs : List Input) (connection : Connection) (before : World)
    (told : Tale) (world : World) : Type 0 where
  pub story : Tale
  pub made : IsMade fixed conn before told world story
  pub reading : IsReading fixed front replica conn inputs connection world story

pub record StandsOn (fixed : Fixed) (front : List ℕ) (replica : Replica) (conn : ℕ) (inputs : List Input) (held : Option (List ℕ))
    (connection : Connection) (before : World) (told : Tale) (world : World) : Type 0 where
  pub story : Tale
  pub made : IsMade fixed conn before told world story
  pub standing : IsStanding fixed front replica conn inputs held connection world story

pub session_at : (sessions : ℕ → Sess) (conn : ℕ) (session : Sess) → with_session sessions conn session conn ≡ session
unfolding with_session
session_at sessions conn session = let same : nat_eq conn conn ≡ true = grind (arith, nat_tests) in rw same refl

pub session_of_other : (sessions : ℕ → Sess) (conn : ℕ) (session : Sess) (other : ℕ) → other ≢ conn → with_session sessions conn session other ≡ sessions other
unfolding with_session
session_of_other sessions conn session other ne = let apart : nat_eq other conn ≡ false = grind (arith, nat_tests) in rw apart refl
