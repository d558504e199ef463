-- A connection is as it was behind a step of another one: `connection_stays` says so by `StaysAt`, which asks that every frontend has the connection as it
-- was, that its client, its marks and the tale of it are the same, and that its command is where it was. `fixed_places` gives that from `PlacesStay` where
-- each frontend's replica is as it was.
use Rattle.std.proofs.Common.{◌≡◌, ◌≢◌, ℕ, ◌+◌, Bool, true, false, List, length, Option, None, Some, refl, sym, ◌∙◌, ap, subst}
use Rattle.std.proofs.Math.Logic.{⊎_elim}
use Rattle.std.proofs.lemmas.Bool.{cases_eq}
use Rattle.feed_core.specs.declared.replica.Replica.{Replica}
use Rattle.front_core.specs.Ending.{EndsOnlyLast}
use Rattle.front_core.proofs.OneConnection.Readings.{inputs_in}
use Rattle.front_core.specs.declared.front.Front.{Front}
use Rattle.front_core.specs.Front.{connection_at}
use Rattle.imap_talk.specs.Heard.{Heard, client, has_closed}
use Rattle.imap_talk.specs.Inputs.{requests_in}
use Rattle.imap_talk.specs.Transcript.{Stop}
use Rattle.imap_talk.specs.Transcript.Stop.{is_lost}
use Rattle.imap_talk.proofs.TranscriptGrows.{AreAnswered}
use Rattle.imap_talk.specs.declared.inputs.Input.{Input}
use Rattle.imap_types.specs.declared.request.Answer.{Answer}
use Rattle.front_core.specs.declared.connection.Connection.{Connection}
use Rattle.link_queue.specs.Broken.{Broken, is_broken}
use Rattle.imap_wire.specs.Frames.{begun}
use Rattle.mark_history.specs.Marked.{Tale, last_mark}
use Rattle.mark_history.specs.declared.mark.Mark.{Mark}
use Rattle.mur_base.specs.declared.point.AskId.{AskId}
use Rattle.route_links.specs.Barriers.{Place as Barrier, Place as barrier}
use Rattle.cluster_core.specs.declared.world.World.{World}
use Rattle.cluster_core.specs.World.{client_at, front_at}
use Rattle.cluster_core.proofs.Commands.Place.{Place, Place as place}
use Rattle.cluster_core.proofs.Commands.Standing.{Fixed, IsLeft, Stands, next_id}
use Rattle.cluster_core.proofs.Connections.ConnectionLaw.{IsDroppedAt, IsInNoneOf, IsInPlaceOf, IsMarkedAt, MarksStay, PlacesStay, client_till, client_with, marked_at, restores_as}
use Rattle.cluster_core.proofs.Connections.KeepsLaw.{ConnectionIs, IsGone, IsUntold}
use Rattle.cluster_core.proofs.Connections.KeepsLaw.ConnectionIs.{is_nobody, is_elsewhere, is_open, is_cut_off, is_closed}

-- a frontend, as far as one connection goes
pub data SameFront (conn : ℕ) : Option Front → Option Front → Type 0 where
  both_none : SameFront conn None None
  both : (front next : Front) → connection_at next conn ≡ connection_at front conn → SameFront conn (Some front) (Some next)

-- its command is where it was, by the replica that its frontend has then
abbrev pub StaysInPlace : Fixed → ℕ → World → World → Type 0
StaysInPlace fixed conn world next = (node : List ℕ) (was now : Front) → front_at world node ≡ Some was → front_at next node ≡ Some now
    → (command : ℕ) (here : Place) → IsInPlaceOf fixed world node was.replica (record { conn = conn; command = command }) here
    → IsInPlaceOf fixed next node now.replica (record { conn = conn; command = command }) here

-- what another connection's step leaves of a connection
pub record StaysAt (fixed : Fixed) (conn : ℕ) (world next : World) (story later : Tale) : Type 0 where
  pub fronts : (node : List ℕ) → SameFront conn (front_at world node) (front_at next node)
  pub client : client_at next conn ≡ client_at world conn
  pub in_place : StaysInPlace fixed conn world next
  pub in_none : IsInNoneOf fixed world conn → IsInNoneOf fixed next conn
  pub marks : MarksStay conn world.marks next.marks
  pub told : later.told conn ≡ story.told conn
  pub said : later.talk.answers conn ≡ story.talk.answers conn
  pub session : later.course.sessions conn ≡ story.course.sessions conn
  pub before : later.before conn ≡ story.before conn
  pub moving : later.talk.moving ≡ story.talk.moving
  pub broken : next.broken ≡ world.broken

abbrev pub ReplicasStay : World → World → Type 0
ReplicasStay world next = (node : List ℕ) (was now : Front) → front_at world node ≡ Some was → front_at next node ≡ Some now → now.replica ≡ was.replica

pub fixed_places : (fixed : Fixed) (conn : ℕ) (world next : World) → PlacesStay fixed conn world next → ReplicasStay world next
    → StaysInPlace fixed conn world next
fixed_places fixed conn world next places replicas node was now at after command here is =
    subst (λ r. IsInPlaceOf fixed next node r (record { conn = conn; command = command }) here) (sym (replicas node was now at after))
    (places.in_place node was.replica command here is)

module _ (moving : ℕ → List ℕ → Bool) (id : AskId) (before after : List Mark) (same : last_mark id after ≡ last_mark id before) where
  barrier_marked : (at : Barrier) → marked_at moving before id at → marked_at moving after id at
  barrier_marked barrier.nowhere is = tt
  barrier_marked barrier.asked is = tt
  barrier_marked (barrier.answered table) is = record { step = is.step; saw = same ∙ is.saw; moves = is.moves }

  pub marked_stays : (here : Place) → IsMarkedAt moving before id here → IsMarkedAt moving after id here
  marked_stays place.nowhere is = tt
  marked_stays (place.is_asked server ask) is = tt
  marked_stays (place.is_answered server answer) is = tt
  marked_stays (place.is_dropped server) is = tt
  marked_stays (place.is_at me at) is = tt
  marked_stays (place.is_barred at) is = barrier_marked at is

-- a link that is broken stays so
pub dropped_stays : (master : List ℕ) (world next : World) (node : List ℕ) → next.broken ≡ world.broken → (here : Place)
    → IsDroppedAt master world node here → IsDroppedAt master next node here
dropped_stays master world next node same place.nowhere is = tt
dropped_stays master world next node same (place.is_asked server ask) is = tt
dropped_stays master world next node same (place.is_answered server answer) is = tt
dropped_stays master world next node same (place.is_dropped server) is = ap (λ (b : Broken). is_broken b server node) same ∙ is
dropped_stays master world next node same (place.is_at me at) is = tt
dropped_stays master world next node same (place.is_barred barrier.nowhere) is = ap (λ (b : Broken). is_broken b master node) same ∙ is
dropped_stays master world next node same (place.is_barred barrier.asked) is = tt
dropped_stays master world next node same (place.is_barred (barrier.answered table)) is = tt

pub record FrontNow (conn : ℕ) (now : Option Front) (was : Front) : Type 0 where
  pub front : Front
  pub is : now ≡ Some front
  pub same : connection_at front conn ≡ connection_at was conn

pub front_now : (conn : ℕ) (one now : Option Front) (front : Front) → SameFront conn one now → one ≡ Some front → FrontNow conn now front
front_now conn one now front both_none e = cc
front_now conn one now front (both was next same) e = let is : was ≡ front = cc in
    record { front = next; is = refl; same = same ∙ ap (λ f. connection_at f conn) is }

front_was : (conn : ℕ) (one now : Option Front) (front : Front) → SameFront conn one now → now ≡ Some front → FrontNow conn one front
front_was conn one now front both_none e = cc
front_was conn one now front (both was next same) e = let is : next ≡ front = cc in
    record { front = was; is = refl; same = sym same ∙ ap (λ f. connection_at f conn) is }

pub no_front : (conn : ℕ) (one now : Option Front) → SameFront conn one now → one ≡ None → now ≡ None
no_front conn one now both_none e = refl
no_front conn one now (both was next same) e = cc

pub untold_stays : (fixed : Fixed) (conn : ℕ) (world next : World) (story later : Tale) → StaysAt fixed conn world next story later
    → IsUntold fixed conn world story → IsUntold fixed conn next later
untold_stays fixed conn world next story later stays untold = record {
  told = stays.told ∙ untold.told;
  said = stays.said ∙ untold.said;
  session = stays.session ∙ untold.session;
  nothing = stays.in_none untold.nothing;
}

-- a command by its number, where its client was told as much
abbrev IsThere : Fixed → List ℕ → ℕ → World → Replica → Place → (ℕ → List ℕ → Bool) → List Answer → Type 0
IsThere fixed node conn world replica here moving told =
    IsInPlaceOf fixed world node replica (next_id conn told) here × IsMarkedAt moving world.marks (next_id conn told) here

there_stays : (fixed : Fixed) (conn : ℕ) (world next : World) (story later : Tale) (node : List ℕ) (was now : Front) (here : Place)
    → StaysAt fixed conn world next story later → front_at world node ≡ Some was → front_at next node ≡ Some now
    → IsInPlaceOf fixed world node was.replica (next_id conn (story.told conn)) here
    → IsMarkedAt story.talk.moving world.marks (next_id conn (story.told conn)) here → IsThere fixed node conn next now.replica here later.talk.moving (later.told conn)
there_stays fixed conn world next story later node was now here stays at after placed marked =
    subst (λ m. IsThere fixed node conn next now.replica here m (later.told conn)) (sym stays.moving)
    (subst (IsThere fixed node conn next now.replica here story.talk.moving) (sym stays.told) (
      stays.in_place node was now at after (length (story.told conn) + 1) here placed,
      marked_stays story.talk.moving (next_id conn (story.told conn)) world.marks next.marks (stays.marks (length (story.told conn) + 1)) here marked,
    ))

gone_stays : (fixed : Fixed) (conn : ℕ) (world next : World) (story later : Tale) → StaysAt fixed conn world next story later
    → (node : List ℕ) (front now : Front) (inputs : List Input) (stop : Stop) (connection : Connection) → front_at world node ≡ Some front
    → front_at next node ≡ Some now → IsGone fixed node front.replica conn inputs stop connection world story
    → IsGone fixed node now.replica conn inputs stop connection next later
gone_stays fixed conn world next story later stays node front now inputs stop connection at is gone =
    let there = there_stays fixed conn world next story later node front now gone.here stays at is gone.placed gone.marked in
    record {
      stage_is = gone.stage_is;
      count = gone.count ∙ ap length (sym stays.told);
      lasts = subst EndsOnlyLast (sym stays.told) gone.lasts;
      client = stays.client ∙ gone.client ∙ ap (λ t. Some (client_till stop node inputs t)) (sym stays.told);
      here = gone.here;
      placed = there.0;
      marked = there.1;
      left = subst (λ t. IsLeft fixed node conn (requests_in inputs) t (later.talk.answers conn) (later.course.sessions conn) gone.here) (sym stays.told)
          (subst (λ s. IsLeft fixed node conn (requests_in inputs) (story.told conn) s (later.course.sessions conn) gone.here) (sym stays.said)
          (subst (λ s. IsLeft fixed node conn (requests_in inputs) (story.told conn) (story.talk.answers conn) s gone.here) (sym stays.session) gone.left));
      cut = λ lost none. gone.cut lost (sym stays.broken ∙ none);
    }

pub connection_stays : (fixed : Fixed) (conn : ℕ) (world next : World) (story later : Tale) (stop : Stop) (heard : Heard)
    → StaysAt fixed conn world next story later
    → ConnectionIs fixed conn world story stop heard → ConnectionIs fixed conn next later stop heard
connection_stays fixed conn world next story later stop heard stays (is_nobody none fronts untold) =
    is_nobody (stays.client ∙ none)
    (λ node front at. let was = front_was conn (front_at world node) (front_at next node) front (stays.fronts node) at in sym was.same
    ∙ fronts node was.front was.is)
    (untold_stays fixed conn world next story later stays untold)
connection_stays fixed conn world next story later stop heard stays (is_elsewhere node given at none untold) =
    is_elsewhere node given (stays.client ∙ at) (no_front conn (front_at world node) (front_at next node) (stays.fronts node) none)
    (untold_stays fixed conn world next story later stays untold)
connection_stays fixed conn world next story later stop heard stays (is_open bytes node front connection at reader standing) =
    let now = front_now conn (front_at world node) (front_at next node) front (stays.fronts node) at.at in
    let there = there_stays fixed conn world next story later node front now.front standing.here stays at.at now.is standing.placed standing.marked in
    is_open bytes node now.front connection (record { at = now.is; has = now.same ∙ at.has }) reader
    (record {
      count = standing.count ∙ ap length (sym stays.told);
      client = stays.client ∙ standing.client ∙ ap (λ t. Some (client_with node (inputs_in fixed.setting bytes) t)) (sym stays.told);
      here = standing.here;
      placed = there.0;
      marked = there.1;
      dropped = dropped_stays fixed.master world next node stays.broken standing.here standing.dropped;
      restores = restores_as story later conn connection connection standing.here stays.said stays.told stays.before refl standing.restores;
      stands = subst (λ t. Stands fixed node conn (inputs_in fixed.setting bytes) (begun bytes) connection t (later.talk.answers conn)
          (later.course.sessions conn) standing.here) (sym stays.told)
          (subst (λ s. Stands fixed node conn (inputs_in fixed.setting bytes) (begun bytes) connection (story.told conn) s (later.course.sessions conn)
          standing.here) (sym stays.said)
          (subst (λ s. Stands fixed node conn (inputs_in fixed.setting bytes) (begun bytes) connection (story.told conn) (story.talk.answers conn) s
          standing.here) (sym stays.session) standing.stands));
    })
connection_stays fixed conn world next story later stop heard stays (is_cut_off bytes node front connection at gone next_is) =
    let now = front_now conn (front_at world node) (front_at next node) front (stays.fronts node) at.at in
    is_cut_off bytes node now.front connection (record { at = now.is; has = now.same ∙ at.has })
    (gone_stays fixed conn world next story later stays node front now.front (inputs_in fixed.setting bytes) is_lost connection at.at now.is gone)
    (record {
      passed = next_is.passed;
      request = next_is.request;
      more = next_is.more;
      parts = next_is.parts;
      answered = subst (AreAnswered next_is.passed) (sym stays.told) next_is.answered;
    })
connection_stays fixed conn world next story later stop heard stays (is_closed shut bytes node front connection at gone) =
    let now = front_now conn (front_at world node) (front_at next node) front (stays.fronts node) at.at in
    is_closed shut bytes node now.front connection (record { at = now.is; has = now.same ∙ at.has })
    (gone_stays fixed conn world next story later stays node front now.front (inputs_in fixed.setting bytes) shut connection at.at now.is gone)

-- each connection, where just one does anything
pub each_stays : (fixed : Fixed) (world next : World) (story later : Tale) (stops now : ℕ → Stop) (heard after : ℕ → Heard) (conn : ℕ) (own : Heard)
    → ((other : ℕ) → ConnectionIs fixed other world story (stops other) (heard other)) → ((other : ℕ) → other ≢ conn → after other ≡ heard other)
    → ((other : ℕ) → other ≢ conn → now other ≡ stops other)
    → ((other : ℕ) → other ≢ conn → StaysAt fixed other world next story later) → after conn ≡ own → ConnectionIs fixed conn next later (now conn) own
    → (other : ℕ) → ConnectionIs fixed other next later (now other) (after other)
each_stays fixed world next story later stops now heard after conn own were others same_stops stays is mine other = ⊎_elim
    (λ (same : other ≡ conn). subst (λ c. ConnectionIs fixed c next later (now c) (after c)) (sym same)
    (subst (λ h. ConnectionIs fixed conn next later (now conn) h) (sym is) mine))
    (λ (ne : other ≢ conn). subst (λ h. ConnectionIs fixed other next later (now other) h) (sym (others other ne))
    (subst (λ s. ConnectionIs fixed other next later s (heard other)) (sym (same_stops other ne))
    (connection_stays fixed other world next story later (stops other) (heard other) (stays other ne) (were other))))
    (cases_eq other conn)

pub same_front : (conn : ℕ) (one now : Option Front) → now ≡ one → SameFront conn one now
same_front conn None now e = subst (λ f. SameFront conn None f) (sym e) both_none
same_front conn (Some front) now e = subst (λ f. SameFront conn (Some front) f) (sym e) (both front front refl)

pub is_not_closed : (heard : Heard) (bytes : List ℕ) → heard ≡ client bytes false → has_closed heard ≡ true → ⊥
unfolding has_closed
is_not_closed heard bytes e shut = (let both : false ≡ true = sym (ap has_closed e) ∙ shut in cc)
