-- The first message of a link, if it isn't left of a command that is over, tells whose command it is of, what the connection of that is at, and where the command
-- is. Wherever it is behind the step, its connection goes on so. That of a LIST is told in ListWaits.
use Rattle.std.proofs.Common.{◌≡◌, ℕ, ◌≢◌, ◌+◌, Bool, true, false, List, [], ◌∷◌, ◌++◌, length, None, Some, refl, sym, ◌∙◌, ap, subst}
use Rattle.asking_core.specs.declared.waiting.At.{At}
use Rattle.asking_core.specs.declared.waiting.At.TheVariants.{Home, Barrier as at_master}
use Rattle.front_core.specs.Ending.{EndsOnlyLast}
use Rattle.front_core.proofs.OneConnection.Places.{about, first_of, is_over, none_over, of_connection}
use Rattle.front_core.proofs.OneConnection.Readings.{inputs_in, reading_of}
use Rattle.front_core.specs.declared.connection.Connection.{Connection}
use Rattle.front_core.specs.declared.connection.Stage.TheVariants.{Ended}
use Rattle.front_core.specs.declared.front.Front.{Front}
use Rattle.imap_talk.proofs.InputLaws.{requests-append}
use Rattle.imap_talk.proofs.RequestsOf.{answered_lengths, next_request, requests_of}
use Rattle.imap_talk.proofs.TranscriptGrows.{AreAnswered}
use Rattle.imap_talk.specs.Heard.{Heard, client, frames_heard}
use Rattle.imap_talk.specs.Inputs.{requests_in}
use Rattle.imap_talk.specs.Transcript.{Stop}
use Rattle.imap_talk.specs.Transcript.Stop.{is_lost, silent}
use Rattle.imap_talk.specs.declared.inputs.Input.{Input}
use Rattle.imap_talk.specs.declared.inputs.Input.TheVariants.{Asks}
use Rattle.imap_types.specs.declared.command.Command.{Command}
use Rattle.imap_types.specs.declared.command.Tag.{Tag}
use Rattle.imap_types.specs.declared.request.Answer.{Answer}
use Rattle.imap_types.specs.declared.request.Request.{Request}
use Rattle.imap_types.specs.declared.request.Request.TheVariants.{Command as a_command}
use Rattle.imap_wire.specs.Frames.{begun}
use Rattle.link_msg.specs.declared.answer.BackAnswer.{BackAnswer}
use Rattle.link_msg.specs.declared.ask.FrontAsk.{FrontAsk}
use Rattle.link_msg.specs.declared.message.LinkMsg.{LinkMsg}
use Rattle.link_queue.proofs.Placed.{Carried}
use Rattle.link_queue.specs.Broken.{Broken}
use Rattle.link_queue.specs.Links.{on_link}
use Rattle.mark_history.specs.Marked.{Tale}
use Rattle.mark_history.specs.declared.mark.Mark.{Mark}
use Rattle.mur_base.specs.declared.home.Location.{Location}
use Rattle.mur_base.specs.declared.point.AskId.{AskId}
use Rattle.mur_model.specs.History.{numbered}
use Rattle.mur_model.specs.declared.session.Turn.{Turn}
use Rattle.name_commands.specs.Moves.{Move, is_answered, is_kept, is_sent}
use Rattle.name_commands.specs.Places.{IsNumbered, NamePlace, NamePlace as name_at}
use Rattle.point_links.specs.Commands.{ClientCommand}
use Rattle.route_links.specs.Barriers.{Place as Barrier, Place as barrier}
use Rattle.cluster_core.specs.declared.world.World.{World}
use Rattle.cluster_core.specs.declared.world.Client.{Client}
use Rattle.cluster_core.specs.World.{client_at, front_at}
use Rattle.cluster_core.proofs.Commands.AllReached.{AreMarkedSo}
use Rattle.cluster_core.proofs.Commands.Knows.{Brings, Undecided}
use Rattle.cluster_core.proofs.Commands.Knows.Knows.{is_decided, undecided}
use Rattle.cluster_core.proofs.Commands.Place.{Place, its_message, Place as place}
use Rattle.cluster_core.proofs.Commands.Standing.{Fixed, HasBegunSo, IsLeft, LeftListing, LeftWaiting, Lists, Stands, Waiting, WaitsAt, next_id}
use Rattle.cluster_core.proofs.Commands.Standing.IsLeft.{nothing, left_listing, left_waiting}
use Rattle.cluster_core.proofs.Commands.Standing.Stands.{reads, waits, lists, faulted, finished}
use Rattle.cluster_core.proofs.Connections.ConnectionLaw.{CanRestore, IsDroppedAt, IsInPlaceOf, IsMarkedAt, client_till, client_with}
use Rattle.cluster_core.proofs.Connections.KeepsLaw.{ConnectionIs, IsAt, IsGone, IsUnanswered}
use Rattle.cluster_core.proofs.Connections.KeepsLaw.ConnectionIs.{is_nobody, is_elsewhere, is_open, is_cut_off, is_closed}
use Rattle.cluster_core.proofs.Points.Acts.{IsOpen, KnowsOf}
use Rattle.cluster_core.proofs.Steps.HomeSteps.{moved_to}

-- ---- the connection of a message

-- a connection that has ended: its client has closed it, or its command was lost
pub data EndedSo (inputs : List Input) (told : List Answer) : Stop → Bool → Type 0 where
  closed_so : (stop : Stop) → EndedSo inputs told stop true
  cut_so : IsUnanswered inputs told → EndedSo inputs told is_lost false

pub ended_is : (fixed : Fixed) (conn : ℕ) (node : List ℕ) (front : Front) (connection : Connection) (world : World) (story : Tale) (bytes : List ℕ) (stop : Stop)
    (shut : Bool) → EndedSo (inputs_in fixed.setting bytes) (story.told conn) stop shut → IsAt world conn node front connection
    → IsGone fixed node front.replica conn (inputs_in fixed.setting bytes) stop connection world story → ConnectionIs fixed conn world story stop (client bytes shut)
ended_is fixed conn node front connection world story bytes _ _ (closed_so stop) at gone = is_closed stop bytes node front connection at gone
ended_is fixed conn node front connection world story bytes _ _ (cut_so unanswered) at gone = is_cut_off bytes node front connection at gone unanswered

-- as its client was told no more
pub unanswered_still : (inputs : List Input) (was now : List Answer) → now ≡ was → IsUnanswered inputs was → IsUnanswered inputs now
unanswered_still inputs was now same is = subst (IsUnanswered inputs) (sym same) is

pub ended_still : (inputs : List Input) (was now : List Answer) (stop : Stop) (shut : Bool) → now ≡ was → EndedSo inputs was stop shut → EndedSo inputs now stop shut
ended_still inputs was now _ _ same (closed_so stop) = closed_so stop
ended_still inputs was now _ _ same (cut_so unanswered) = cut_so (unanswered_still inputs was now same unanswered)

-- a connection whose command waits: its client has it open, or it has ended
pub data WhoWaits (fixed : Fixed) (conn : ℕ) (node : List ℕ) (connection : Connection) (world : World) (story : Tale) (stop : Stop) (heard : Heard) (here : Place)
    : Type 0 where
  open_waits : (bytes : List ℕ) → stop ≡ silent → heard ≡ client bytes false → HasBegunSo connection (reading_of fixed.setting bytes)
      → client_at world conn ≡ Some (client_with node (inputs_in fixed.setting bytes) (story.told conn))
      → Waiting fixed node conn (inputs_in fixed.setting bytes) (begun bytes) connection (story.told conn) (story.talk.answers conn)
      (story.course.sessions conn) here
      → WhoWaits fixed conn node connection world story stop heard here
  ended_waits : (bytes : List ℕ) (shut : Bool) → heard ≡ client bytes shut → EndedSo (inputs_in fixed.setting bytes) (story.told conn) stop shut
      → connection.stage ≡ Ended → EndsOnlyLast (story.told conn)
      → client_at world conn ≡ Some (client_till stop node (inputs_in fixed.setting bytes) (story.told conn)) → (stop ≡ is_lost → world.broken ≢ [])
      → LeftWaiting fixed node conn (requests_in (inputs_in fixed.setting bytes)) (story.told conn) (story.talk.answers conn)
      (story.course.sessions conn) here
      → WhoWaits fixed conn node connection world story stop heard here

-- a connection whose LIST waits
pub data WhoLists (fixed : Fixed) (conn : ℕ) (node : List ℕ) (connection : Connection) (world : World) (story : Tale) (stop : Stop) (heard : Heard) (here : Place)
    : Type 0 where
  open_lists : (bytes : List ℕ) → stop ≡ silent → heard ≡ client bytes false → HasBegunSo connection (reading_of fixed.setting bytes)
      → client_at world conn ≡ Some (client_with node (inputs_in fixed.setting bytes) (story.told conn))
      → Lists fixed (inputs_in fixed.setting bytes) (begun bytes) connection (story.told conn) (story.talk.answers conn) (story.course.sessions conn) here
      → WhoLists fixed conn node connection world story stop heard here
  ended_lists : (bytes : List ℕ) (shut : Bool) → heard ≡ client bytes shut → EndedSo (inputs_in fixed.setting bytes) (story.told conn) stop shut
      → connection.stage ≡ Ended → EndsOnlyLast (story.told conn)
      → client_at world conn ≡ Some (client_till stop node (inputs_in fixed.setting bytes) (story.told conn)) → (stop ≡ is_lost → world.broken ≢ [])
      → LeftListing fixed (requests_in (inputs_in fixed.setting bytes)) (story.told conn) (story.talk.answers conn) (story.course.sessions conn) here
      → WhoLists fixed conn node connection world story stop heard here

-- what waits is a command that needs a mailbox, or a LIST
pub data Whose (fixed : Fixed) (conn : ℕ) (node : List ℕ) (connection : Connection) (world : World) (story : Tale) (stop : Stop) (heard : Heard) (here : Place)
    : Type 0 where
  of_command : WhoWaits fixed conn node connection world story stop heard here → Whose fixed conn node connection world story stop heard here
  of_list : WhoLists fixed conn node connection world story stop heard here → Whose fixed conn node connection world story stop heard here

-- the message is its command's
pub record TellsPlace (fixed : Fixed) (conn : ℕ) (world : World) (story : Tale) (stop : Stop) (heard : Heard) (from to : List ℕ) (message : LinkMsg) : Type 0 where
  pub node : List ℕ
  pub front : Front
  pub connection : Connection
  pub at : IsAt world conn node front connection
  pub count : connection.answered ≡ length (story.told conn)
  pub here : Place
  pub is_found : its_message fixed.master node (next_id conn (story.told conn)) here ≡ Some (record { from = from; to = to; message = message })
  pub placed : IsInPlaceOf fixed world node front.replica (next_id conn (story.told conn)) here
  pub marked : IsMarkedAt story.talk.moving world.marks (next_id conn (story.told conn)) here
  pub who : Whose fixed conn node connection world story stop heard here

abbrev pub FirstTells : Type 0
FirstTells = (fixed : Fixed) (conn : ℕ) (world : World) (story : Tale) (stop : Stop) (heard : Heard) (from to : List ℕ) (message : LinkMsg) (rest : List LinkMsg)
    → on_link world.links from to ≡ message ∷ rest → about message ≡ of_connection conn → is_over (length (story.told conn) + 1) message ≡ false
    → ConnectionIs fixed conn world story stop heard → TellsPlace fixed conn world story stop heard from to message

not_nowhere : (it : Carried LinkMsg) → None ≡ Some it → ⊥
not_nowhere it e = cc

-- a command that is in a message is somewhere
found_somewhere : (master node : List ℕ) (id : AskId) (here : Place) (it : Carried LinkMsg) → its_message master node id here ≡ Some it → here ≡ place.nowhere → ⊥
found_somewhere master node id here it found e = not_nowhere it (sym (ap (its_message master node id) e) ∙ found)

-- where the command is somewhere, it waits
module _ (fixed : Fixed) (conn : ℕ) (node : List ℕ) (connection : Connection) (world : World) (story : Tale) (bytes : List ℕ) (here : Place)
    (somewhere : here ≡ place.nowhere → ⊥) where
  pub waits_open : HasBegunSo connection (reading_of fixed.setting bytes)
      → client_at world conn ≡ Some (client_with node (inputs_in fixed.setting bytes) (story.told conn))
      → Stands fixed node conn (inputs_in fixed.setting bytes) (begun bytes) connection (story.told conn) (story.talk.answers conn)
      (story.course.sessions conn) here
      → Whose fixed conn node connection world story silent (client bytes false) here
  waits_open reader given (reads a b c d f g none) = absurd (somewhere none)
  waits_open reader given (waits waiting) = of_command (open_waits bytes refl refl reader given waiting)
  waits_open reader given (lists waiting) = of_list (open_lists bytes refl refl reader given waiting)
  waits_open reader given (faulted a b c d f none) = absurd (somewhere none)
  waits_open reader given (finished passed more request before last a b c d f g none) = absurd (somewhere none)

  pub waits_ended : (stop : Stop) (shut : Bool) → EndedSo (inputs_in fixed.setting bytes) (story.told conn) stop shut → connection.stage ≡ Ended
      → EndsOnlyLast (story.told conn) → client_at world conn ≡ Some (client_till stop node (inputs_in fixed.setting bytes) (story.told conn))
      → (stop ≡ is_lost → world.broken ≢ [])
      → IsLeft fixed node conn (requests_in (inputs_in fixed.setting bytes)) (story.told conn) (story.talk.answers conn) (story.course.sessions conn) here
      → Whose fixed conn node connection world story stop (client bytes shut) here
  waits_ended stop shut ended stage lasts given cut (nothing rest a b none) = absurd (somewhere none)
  waits_ended stop shut ended stage lasts given cut (left_waiting waiting) = of_command (ended_waits bytes shut refl ended stage lasts given cut waiting)
  waits_ended stop shut ended stage lasts given cut (left_listing waiting) = of_list (ended_lists bytes shut refl ended stage lasts given cut waiting)

ended_tells : (fixed : Fixed) (conn : ℕ) (world : World) (story : Tale) (stop : Stop) (shut : Bool) (from to : List ℕ) (message : LinkMsg) (rest : List LinkMsg)
    → on_link world.links from to ≡ message ∷ rest → about message ≡ of_connection conn → is_over (length (story.told conn) + 1) message ≡ false
    → (bytes node : List ℕ) (front : Front) (connection : Connection)
    → EndedSo (inputs_in fixed.setting bytes) (story.told conn) stop shut → IsAt world conn node front connection
    → IsGone fixed node front.replica conn (inputs_in fixed.setting bytes) stop connection world story
    → TellsPlace fixed conn world story stop (client bytes shut) from to message
ended_tells fixed conn world story stop shut from to message rest first own on bytes node front connection ended at gone =
    let id : AskId = next_id conn (story.told conn) in
    let tells = first_of id.command world.links from to message rest (of_connection conn) (its_message fixed.master node id gone.here) first own on
    gone.placed.message in
    record {
      node = node;
      front = front;
      connection = connection;
      at = at;
      count = gone.count;
      here = gone.here;
      is_found = tells.0;
      placed = gone.placed;
      marked = gone.marked;
      who = waits_ended fixed conn node connection world story bytes gone.here (found_somewhere fixed.master node id gone.here _ tells.0) stop shut ended gone.stage_is
          gone.lasts gone.client gone.cut gone.left;
    }

pub first_tells : FirstTells
first_tells fixed conn world story _ _ from to message rest first own on (is_nobody none fronts untold) =
    absurd (not_nowhere _ (first_of 0 world.links from to message rest (of_connection conn) None first own (none_over message) untold.nothing.message).0)
first_tells fixed conn world story _ _ from to message rest first own on (is_elsewhere node given at none untold) =
    absurd (not_nowhere _ (first_of 0 world.links from to message rest (of_connection conn) None first own (none_over message) untold.nothing.message).0)
first_tells fixed conn world story _ _ from to message rest first own on (is_open bytes node front connection at reader standing) =
    let id : AskId = next_id conn (story.told conn) in
    let tells = first_of id.command world.links from to message rest (of_connection conn) (its_message fixed.master node id standing.here) first own on
    standing.placed.message in
    record {
      node = node;
      front = front;
      connection = connection;
      at = at;
      count = standing.count;
      here = standing.here;
      is_found = tells.0;
      placed = standing.placed;
      marked = standing.marked;
      who = waits_open fixed conn node connection world story bytes standing.here (found_somewhere fixed.master node id standing.here _ tells.0) reader standing.client standing.stands;
    }
first_tells fixed conn world story _ _ from to message rest first own on (is_cut_off bytes node front connection at gone unanswered) =
    ended_tells fixed conn world story is_lost false from to message rest first own on bytes node front connection (cut_so unanswered) at gone
first_tells fixed conn world story _ _ from to message rest first own on (is_closed stop bytes node front connection at gone) =
    ended_tells fixed conn world story stop true from to message rest first own on bytes node front connection (closed_so stop) at gone

-- ---- the command that waits

-- so it is behind a step: in this place, and its frontend waits for the same node
pub record IsThen (fixed : Fixed) (conn : ℕ) (node : List ℕ) (front : Front) (world : World) (story : Tale) (tag : Tag) (c : ClientCommand) (here : Place)
    (next : World) (later : Tale) (there : Place) : Type 0 where
  pub fronts : front_at next node ≡ front_at world node
  pub clients : client_at next conn ≡ client_at world conn
  pub broken : next.broken ≡ world.broken
  pub told : later.told conn ≡ story.told conn
  pub placed : IsInPlaceOf fixed next node front.replica (next_id conn (later.told conn)) there
  pub marked : IsMarkedAt later.talk.moving next.marks (next_id conn (later.told conn)) there
  pub dropped : IsDroppedAt fixed.master next node there
  pub restores : (connection : Connection) → connection.session ≡ c.was → CanRestore later conn connection there
  pub whom : (at : At) → WaitsAt at here → WaitsAt at there
  pub knows : KnowsOf fixed node conn tag c later there

-- wherever it is then, its connection goes on so
pub record CommandWaits (fixed : Fixed) (conn : ℕ) (node : List ℕ) (front : Front) (world : World) (story : Tale) (stop : Stop) (heard : Heard) (here : Place)
    : Type 0 where
  pub tag : Tag
  pub c : ClientCommand
  pub setting_is : c.setting ≡ fixed.setting
  pub its : c.id ≡ next_id conn (story.told conn)
  pub asked : numbered (requests_of fixed.setting (frames_heard heard)) (length (story.told conn) + 1) ≡ Some (a_command tag c.it)
  pub knows : KnowsOf fixed node conn tag c story here
  pub goes_on : (next : World) (later : Tale) (there : Place) → IsThen fixed conn node front world story tag c here next later there
      → ConnectionIs fixed conn next later stop heard

abbrev pub EachCommandWaits : Type 0
EachCommandWaits = (fixed : Fixed) (conn : ℕ) (node : List ℕ) (front : Front) (connection : Connection) (world : World) (story : Tale) (stop : Stop) (heard : Heard)
    (here : Place) → IsAt world conn node front connection → connection.answered ≡ length (story.told conn)
    → WhoWaits fixed conn node connection world story stop heard here → CommandWaits fixed conn node front world story stop heard here

-- what comes behind the inputs that are answered is its request
pub asks_next : (inputs passed rest : List Input) (request : Request) (told : List Answer) (tag : Tag) (it : Command)
    → inputs ≡ passed ++ Asks request ∷ rest → AreAnswered passed told → request ≡ a_command tag it
    → numbered (requests_in inputs) (length told + 1) ≡ Some (a_command tag it)
unfolding requests_in
asks_next inputs passed rest request told tag it parts answered is =
    subst (λ r. numbered r (length told + 1) ≡ Some (a_command tag it))
    (sym (ap requests_in parts ∙ requests-append passed (Asks request ∷ rest) ∙ ap (λ r. requests_in passed ++ r ∷ requests_in rest) is))
    (next_request (requests_in passed) (requests_in rest) (a_command tag it) (length told) (answered_lengths passed told answered))

pub client_then : (fixed : Fixed) (conn : ℕ) (node : List ℕ) (world next : World) (inputs : List Input) (stop : Stop) (was now : List Answer)
    → client_at next conn ≡ client_at world conn → now ≡ was → client_at world conn ≡ Some (client_till stop node inputs was)
    → client_at next conn ≡ Some (client_till stop node inputs now)
client_then fixed conn node world next inputs stop was now same told is = same ∙ is ∙ ap (λ t. Some (client_till stop node inputs t)) (sym told)

pub each_command_waits : EachCommandWaits
unfolding frames_heard
each_command_waits fixed conn node front connection world story stop heard here at count (open_waits bytes silent_is e reader given waiting) =
    subst (λ s. CommandWaits fixed conn node front world story s heard here) (sym silent_is)
    (subst (λ h. CommandWaits fixed conn node front world story silent h here) (sym e)
    (record {
      tag = waiting.tag;
      c = waiting.c;
      setting_is = waiting.of.setting_is;
      its = waiting.of.its;
      asked = asks_next (inputs_in fixed.setting bytes) waiting.passed connection.waiting waiting.request (story.told conn) waiting.tag waiting.c.it
          waiting.parts waiting.answered waiting.is;
      knows = waiting.knows;
      goes_on = λ next later there then. is_open bytes node front connection (record { at = then.fronts ∙ at.at; has = at.has }) reader
          (record {
            count = count ∙ ap length (sym then.told);
            client = client_then fixed conn node world next (inputs_in fixed.setting bytes) silent (story.told conn) (later.told conn) then.clients then.told given;
            here = there;
            placed = then.placed;
            marked = then.marked;
            dropped = then.dropped;
            restores = then.restores connection (sym waiting.of.was_is);
            stands = waits (record {
              passed = waiting.passed;
              request = waiting.request;
              tag = waiting.tag;
              c = waiting.c;
              of = record {
                setting_is = waiting.of.setting_is;
                its = waiting.of.its ∙ ap (next_id conn) (sym then.told);
                was_is = waiting.of.was_is;
              };
              stage = waiting.stage;
              at = then.whom waiting.c.waiting.at waiting.at;
              parts = waiting.parts;
              lasts = waiting.lasts;
              answered = subst (AreAnswered waiting.passed) (sym then.told) waiting.answered;
              is = waiting.is;
              last = waiting.last;
              knows = then.knows;
            });
          });
    }))
each_command_waits fixed conn node front connection world story stop heard here at count (ended_waits bytes shut e ended stage lasts given cut waiting) =
    subst (λ h. CommandWaits fixed conn node front world story stop h here) (sym e)
    (record {
      tag = waiting.tag;
      c = waiting.c;
      setting_is = waiting.of.setting_is;
      its = waiting.of.its;
      asked = waiting.next;
      knows = waiting.knows;
      goes_on = λ next later there then.
          ended_is fixed conn node front connection next later bytes stop shut
          (ended_still (inputs_in fixed.setting bytes) (story.told conn) (later.told conn) stop shut then.told ended)
          (record { at = then.fronts ∙ at.at; has = at.has })
          (record {
            stage_is = stage;
            count = count ∙ ap length (sym then.told);
            lasts = subst EndsOnlyLast (sym then.told) lasts;
            client = client_then fixed conn node world next (inputs_in fixed.setting bytes) stop (story.told conn) (later.told conn) then.clients then.told given;
            here = there;
            placed = then.placed;
            marked = then.marked;
            cut = λ lost none. cut lost (sym then.broken ∙ none);
            left = left_waiting (record {
              tag = waiting.tag;
              c = waiting.c;
              of = record {
                setting_is = waiting.of.setting_is;
                its = waiting.of.its ∙ ap (next_id conn) (sym then.told);
                was_is = waiting.of.was_is;
              };
              next = subst (λ (t : List Answer). numbered (requests_in (inputs_in fixed.setting bytes)) (length t + 1) ≡ Some (a_command waiting.tag waiting.c.it))
                  (sym then.told) waiting.next;
              knows = then.knows;
            });
          });
    })

-- the next command of each client that is connected to a frontend has numbers of 64 bits
abbrev pub AskedFit : World → Tale → Type 0
AskedFit world story = (conn : ℕ) (node : List ℕ) (front : Front) (connection : Connection) → IsAt world conn node front connection
    → (client : Client) → client_at world conn ≡ Some client → client.at ≡ node → IsNumbered (next_id conn (story.told conn))

-- the client of a command that waits is connected to its frontend
pub record IsClientOf (conn : ℕ) (node : List ℕ) (world : World) : Type 0 where
  pub client : Client
  pub is : client_at world conn ≡ Some client
  pub at : client.at ≡ node

pub its_client : (fixed : Fixed) (conn : ℕ) (node : List ℕ) (connection : Connection) (world : World) (story : Tale) (stop : Stop) (heard : Heard) (here : Place)
    → Whose fixed conn node connection world story stop heard here → IsClientOf conn node world
its_client fixed conn node connection world story stop heard here who = by who
  where
    connected : (its : Client) → client_at world conn ≡ Some its → its.at ≡ node → IsClientOf conn node world
    connected its given at = record { client = its; is = given; at = at }

    by : Whose fixed conn node connection world story stop heard here → IsClientOf conn node world
    by (of_command (open_waits bytes silent_is e reader given waiting)) = connected _ given refl
    by (of_command (ended_waits bytes shut e ended stage lasts given cut waiting)) = connected _ given refl
    by (of_list (open_lists bytes silent_is e reader given waiting)) = connected _ given refl
    by (of_list (ended_lists bytes shut e ended stage lasts given cut waiting)) = connected _ given refl

-- so has a command that waits
pub waits_fit : (fixed : Fixed) (conn : ℕ) (node : List ℕ) (front : Front) (connection : Connection) (world : World) (story : Tale) (stop : Stop) (heard : Heard) (here : Place)
    → AskedFit world story → IsAt world conn node front connection → Whose fixed conn node connection world story stop heard here
    → IsNumbered (next_id conn (story.told conn))
waits_fit fixed conn node front connection world story stop heard here fit at who =
    let its = its_client fixed conn node connection world story stop heard here who in fit conn node front connection at its.client its.is its.at

-- ---- a command at a place that no answer comes of is open

abbrev pub BringsNothing : Place → Type 0
BringsNothing (place.is_answered server answer) = ⊥
BringsNothing (place.is_dropped server) = ⊥
BringsNothing (place.is_at me (name_at.hears name flow it)) = ⊥
BringsNothing (place.is_barred (barrier.answered table)) = ⊥
BringsNothing here = Unit {0}

no_brings : (master first front : List ℕ) (c : ClientCommand) (here : Place) (turn : Turn) → BringsNothing here → Brings master first front c here turn → ⊥
no_brings master first front c place.nowhere turn none brings = brings
no_brings master first front c (place.is_asked server ask) turn none brings = brings
no_brings master first front c (place.is_answered server answer) turn none brings = none
no_brings master first front c (place.is_dropped server) turn none brings = none
no_brings master first front c (place.is_at me name_at.nowhere) turn none brings = brings
no_brings master first front c (place.is_at me (name_at.waits ask)) turn none brings = brings
no_brings master first front c (place.is_at me (name_at.sends name flow)) turn none brings = brings
no_brings master first front c (place.is_at me (name_at.hears name flow it)) turn none brings = none
no_brings master first front c (place.is_barred barrier.nowhere) turn none brings = brings
no_brings master first front c (place.is_barred barrier.asked) turn none brings = brings
no_brings master first front c (place.is_barred (barrier.answered table)) turn none brings = none

pub record IsOpenAt (fixed : Fixed) (front : List ℕ) (conn : ℕ) (broken : Broken) (now : ℕ) (marks : List Mark) (story : Tale) (tag : Tag) (c : ClientCommand) (here : Place)
    : Type 0 where
  pub is_open : IsOpen fixed conn broken now marks story tag c
  pub tells : Undecided fixed.master fixed.first front c here

abbrev pub IsOpenWhereNothingComes : Type 0
IsOpenWhereNothingComes = (fixed : Fixed) (front : List ℕ) (conn : ℕ) (broken : Broken) (now : ℕ) (marks : List Mark) (story : Tale) (tag : Tag) (c : ClientCommand) (here : Place)
    → AreMarkedSo fixed.setting broken now marks story → c.setting ≡ fixed.setting → c.id ≡ next_id conn (story.told conn)
    → numbered (story.talk.requests conn) (length (story.told conn) + 1) ≡ Some (a_command tag c.it)
    → KnowsOf fixed front conn tag c story here → BringsNothing here → IsOpenAt fixed front conn broken now marks story tag c here

pub is_open_there : IsOpenWhereNothingComes
is_open_there fixed front conn broken now marks story tag c here is_told setting_is its asked (undecided said_is was_is tells) none = record {
  is_open = record { is_told = is_told; setting_is = setting_is; its = its; was_is = was_is; asked = asked; said = said_is };
  tells = tells;
}
is_open_there fixed front conn broken now marks story tag c here is_told setting_is its asked (is_decided turn said_is session_is ends_so brings) none =
    absurd (no_brings fixed.master fixed.first front c here turn none brings)

-- ---- whom its frontend waits for

pub whom_answered : (server : List ℕ) (ask : FrontAsk) (answer : BackAnswer) (at : At) → WaitsAt at (place.is_asked server ask) → WaitsAt at (place.is_answered server answer)
whom_answered server ask answer at is = is

-- at a backend, wherever its place of its own
pub whom_moved : (name : List ℕ) (me : Location) (was : NamePlace) (move : Move) (at : At) → me.server ≡ name → WaitsAt at (place.is_at me was)
    → WaitsAt at (moved_to name me move)
whom_moved name me was (is_answered front id body) at named is = is ∙ ap Home named
whom_moved name me was (is_kept ask) at named is = is
whom_moved name me was (is_sent mailbox flow) at named is = is

pub whom_begun : (name : List ℕ) (me : Location) (ask : FrontAsk) (move : Move) (at : At) → me.server ≡ name → WaitsAt at (place.is_asked name ask)
    → WaitsAt at (moved_to name me move)
whom_begun name me ask (is_answered front id body) at named is = is
whom_begun name me ask (is_kept kept) at named is = is ∙ ap Home (sym named)
whom_begun name me ask (is_sent mailbox flow) at named is = is ∙ ap Home (sym named)

pub whom_barred : (one other : Barrier) (at : At) → WaitsAt at (place.is_barred one) → WaitsAt at (place.is_barred other)
whom_barred one other (Home server) is = is
whom_barred one other (at_master cause) is = is
