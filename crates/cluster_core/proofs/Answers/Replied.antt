-- The client of a command that waited is given its reply: behind it the inputs that waited come, or the connection has ended.
use Rattle.std.proofs.Common.{◌≡◌, ℕ, ◌+◌, true, false, List, [], ◌∷◌, ◌++◌, length, Option, Some, refl, sym, ◌∙◌, ap, subst, append_assoc, arith, length-append}
use Rattle.std.specs.Ordering.{nat_cmp}
use Rattle.cluster_core.specs.declared.world.Client.{Client}
use Rattle.feed_core.specs.declared.replica.Replica.{Replica}
use Rattle.front_core.proofs.OneConnection.Readings.{FaultsLast}
use Rattle.front_core.specs.declared.connection.Connection.{Connection}
use Rattle.front_core.specs.Answered.{ends_with, reading_again, reads_on, told_so}
use Rattle.front_core.specs.Taken.{Turned, inputs_come, next_of}
use Rattle.imap_reply.specs.Greeting.{greeting}
use Rattle.imap_reply.specs.ReplyText.{reply_text}
use Rattle.imap_talk.specs.SessionEnds.{has_ended}
use Rattle.imap_talk.specs.Transcript.{ends, replies_to}
use Rattle.imap_talk.specs.Transcript.Stop.{silent}
use Rattle.imap_talk.specs.declared.inputs.Input.{Input}
use Rattle.imap_talk.specs.declared.inputs.Input.TheVariants.{Asks}
use Rattle.imap_talk.proofs.RequestsOf.{replies_stop}
use Rattle.imap_talk.proofs.TranscriptGrows.{AreAnswered, Grows, end_told, request_answered}
use Rattle.imap_types.specs.declared.command.Command.{Command}
use Rattle.imap_types.specs.declared.command.Tag.{Tag}
use Rattle.imap_types.specs.declared.reply.Reply.{Reply}
use Rattle.imap_types.specs.declared.request.Answer.{Answer}
use Rattle.link_msg.specs.declared.how.How.{How}
use Rattle.mark_history.specs.Marked.{Tale}
use Rattle.mark_history.specs.declared.mark.MarkKind.TheVariants.{Told}
use Rattle.mur_base.specs.declared.point.AskId.{AskId}
use Rattle.mur_base.proofs.MapLaws.{numbers_apart, value_at-with_value}
use Rattle.mur_model.specs.declared.session.Sess.{Sess}
use Rattle.front_core.specs.Ups.{Ups}
use Rattle.cluster_core.specs.declared.world.World.{World}
use Rattle.cluster_core.specs.World.{carry_all, client_at, home_at}
use Rattle.cluster_core.proofs.Commands.AllReached.{AreMarkedSo}
use Rattle.cluster_core.proofs.Commands.Place.{Place, Place as place}
use Rattle.cluster_core.proofs.Commands.Standing.{Fixed, IsNext, Waiting, next_id}
use Rattle.cluster_core.proofs.Commands.Standing.Stands.{finished}
use Rattle.cluster_core.proofs.Connections.ConnectionLaw.{IsInPlaceOf, IsMade, ReadsOn, StandsOn, client_with}
use Rattle.cluster_core.proofs.Connections.FrameLaw.{ways_for}
use Rattle.cluster_core.proofs.Connections.Nowhere.{nowhere_too}
use Rattle.cluster_core.proofs.Connections.Said.{answer_carried, carry_all-append, last_carried}
use Rattle.cluster_core.proofs.Answers.Given.{told_keeps, told_world}
use Rattle.cluster_core.proofs.Answers.Tells.{IsTold}

-- the command behind the next one of a connection whose client was told so much
abbrev pub id_behind : ℕ → List Answer → AskId
id_behind conn told = record { conn = conn; command = length told + 1 + 1 }

-- the inputs that waited come to a connection that reads, and it stands behind them (see FrameLaw)
abbrev pub InputsCome : Fixed → List ℕ → Ups → Replica → ℕ → List Input → Option (List ℕ) → World → Tale → Type 0
InputsCome fixed front ups replica conn inputs held before story = (passed new : List Input) (connection : Connection) (world : World)
    → passed ++ new ≡ inputs → FaultsLast new held → ReadsOn fixed front replica conn passed connection before story world
    → StandsOn fixed front replica conn inputs held (inputs_come fixed.setting (ways_for fixed ups replica) conn connection new).connection before story
    (carry_all front world (inputs_come fixed.setting (ways_for fixed ups replica) conn connection new).outs)

-- the message for which the command of a connection waited at this place was taken, and so it is nowhere
pub record IsHeard (fixed : Fixed) (front : List ℕ) (replica : Replica) (conn : ℕ) (inputs : List Input) (held : Option (List ℕ))
    (connection : Connection) (world : World) (story : Tale) (here : Place) : Type 0 where
  pub count : connection.answered ≡ length (story.told conn)
  pub client : client_at world conn ≡ Some (client_with front inputs (story.told conn))
  pub nothing : IsInPlaceOf fixed world front replica (next_id conn (story.told conn)) place.nowhere
  pub is_told : AreMarkedSo fixed.setting world.broken world.steps world.marks story
  pub waiting : Waiting fixed front conn inputs held connection (story.told conn) (story.talk.answers conn) (story.course.sessions conn) here

-- Whatever request it was that waited, for that or for a message that comes no more: the next command is nowhere. What is left of this one may be on its way.
pub record IsHeardFor (fixed : Fixed) (front : List ℕ) (replica : Replica) (conn : ℕ) (inputs : List Input) (held : Option (List ℕ))
    (connection : Connection) (world : World) (story : Tale) (tag : Tag) (it : Command) : Type 0 where
  pub count : connection.answered ≡ length (story.told conn)
  pub client : client_at world conn ≡ Some (client_with front inputs (story.told conn))
  pub nothing : IsInPlaceOf fixed world front replica (id_behind conn (story.told conn)) place.nowhere
  pub is_told : AreMarkedSo fixed.setting world.broken world.steps world.marks story
  pub next : IsNext inputs held connection (story.told conn) tag it

pub heard_for : (fixed : Fixed) (front : List ℕ) (replica : Replica) (conn : ℕ) (inputs : List Input) (held : Option (List ℕ)) (connection : Connection)
    (world : World) (story : Tale) (here : Place) (heard : IsHeard fixed front replica conn inputs held connection world story here)
    → IsHeardFor fixed front replica conn inputs held connection world story (heard.waiting).tag (heard.waiting).c.it
heard_for fixed front replica conn inputs held connection world story here heard = record {
  count = heard.count;
  client = heard.client;
  nothing = nowhere_too fixed.master (home_at world) world.links front replica (next_id conn (story.told conn)) (length (story.told conn) + 1 + 1)
      (omega arith) heard.nothing;
  is_told = heard.is_told;
  next = record {
    passed = (heard.waiting).passed;
    request = (heard.waiting).request;
    parts = (heard.waiting).parts;
    answered = (heard.waiting).answered;
    is = (heard.waiting).is;
    last = (heard.waiting).last;
  };
}

module _ (fixed : Fixed) (front : List ℕ) (ups : Ups) (replica : Replica) (conn : ℕ) (inputs : List Input) (held : Option (List ℕ)) (connection : Connection)
    (world : World) (story : Tale) (tag : Tag) (it : Command) (heard : IsHeardFor fixed front replica conn inputs held connection world story tag it)
    (how : How) (reply : Reply) (session : Sess)
    (told : IsTold fixed.setting world story conn how (record { tag = tag; reply = reply }) session) where
  abbrev answer : Answer
  answer = record { tag = tag; reply = reply }

  abbrev text : List ℕ
  text = reply_text tag reply

  abbrev was : Client
  was = client_with front inputs (story.told conn)

  abbrev later : Connection
  later = record connection { session = session }

  abbrev next : World
  next = told_world world conn was text (next_of conn connection) how

  made : IsMade fixed conn world story next told.later
  made = record {
    others = told_keeps fixed world conn was text (next_of conn connection) how refl;
    goes_on = told.goes_on;
    store = told.store;
    is_told = subst (λ n. AreMarkedSo fixed.setting world.broken world.steps
        (world.marks ++ (record { step = world.steps; ask = record { conn = conn; command = n + 1 }; kind = Told how }) ∷ []) told.later)
        (sym heard.count) told.is_told;
  }

  counted : connection.answered + 1 ≡ length (told.later.told conn)
  counted = ap (λ n. n + 1) heard.count ∙ sym (ap length told.told ∙ length-append (story.told conn) (answer ∷ []))

  -- the client was given the replies up to its command's
  stops : replies_to inputs (story.told conn) ≡ replies_to (heard.next).passed (story.told conn)
  stops =
      ap (λ f. replies_to f (story.told conn)) (heard.next).parts
      ∙ sym (replies_stop (heard.next).passed (story.told conn) (heard.next).request connection.waiting (heard.next).answered)

  given : (all : List Input) → replies_to all (story.told conn ++ answer ∷ []) ≡ replies_to (heard.next).passed (story.told conn) ++ text
      → client_at next conn ≡ Some (client_with front all (told.later.told conn))
  given all is =
      value_at-with_value nat_cmp numbers_apart world.clients conn (record was { given = was.given ++ text }) was heard.client
      ∙ ap (λ g. Some (record { at = front; given = g }))
      (append_assoc greeting (replies_to inputs (story.told conn)) text ∙ ap (λ t. greeting ++ (t ++ text)) stops
      ∙ ap (λ t. greeting ++ t) (sym is) ∙ ap (λ a. greeting ++ replies_to all a) (sym told.told))

  nowhere_then : IsInPlaceOf fixed next front replica (next_id conn (told.later.told conn)) place.nowhere
  nowhere_then =
      subst (λ n. IsInPlaceOf fixed next front replica (record { conn = conn; command = n + 1 }) place.nowhere)
      (sym (ap length told.told ∙ length-append (story.told conn) (answer ∷ []))) heard.nothing

  -- ---- it reads again

  module _ (lasts : has_ended session ≡ false) (stays : ends reply ≡ false) where
    abbrev passed : List Input
    passed = (heard.next).passed ++ Asks (heard.next).request ∷ []

    grown : Grows (heard.next).passed passed (story.told conn) (story.told conn ++ answer ∷ []) text
    grown = request_answered (heard.next).passed (story.told conn) (heard.next).request answer (heard.next).answered stays

    reads_so : ReadsOn fixed front replica conn passed (reading_again later) world story (carry_all front world (told_so conn later how text))
    reads_so =
        subst (λ w. ReadsOn fixed front replica conn passed (reading_again later) world story w)
        (sym (answer_carried front world conn was text (next_of conn connection) how heard.client))
        (record {
          story = told.later;
          made = made;
          reading = record {
            stage_is = refl;
            waiting_is = refl;
            session_is = sym told.session_is;
            goes_on = ap has_ended told.session_is ∙ lasts;
            count = counted;
            answered = subst (AreAnswered passed) (sym told.told) grown.answered;
            said = told.said ∙ sym told.told;
            client = given passed grown.text_is;
            nothing = nowhere_then;
          };
        })

    pub read_stands : InputsCome fixed front ups replica conn inputs held world story
        → StandsOn fixed front replica conn inputs held (reads_on fixed.setting (ways_for fixed ups replica) conn later how text).connection world story
        (carry_all front world (reads_on fixed.setting (ways_for fixed ups replica) conn later how text).outs)
    read_stands come =
        let behind : Turned = inputs_come fixed.setting (ways_for fixed ups replica) conn (reading_again later) connection.waiting in
        subst (λ w. StandsOn fixed front replica conn inputs held behind.connection world story w)
        (sym (carry_all-append front world (told_so conn later how text) behind.outs))
        (come passed connection.waiting (reading_again later) (carry_all front world (told_so conn later how text))
        (append_assoc (heard.next).passed (Asks (heard.next).request ∷ []) connection.waiting ∙ sym (heard.next).parts)
        (heard.next).last reads_so)

  -- ---- it has ended

  pub ended_stands : ends reply ≡ true
      → StandsOn fixed front replica conn inputs held (ends_with conn later how text).connection world story
      (carry_all front world (ends_with conn later how text).outs)
  ended_stands is_end =
      subst (λ w. StandsOn fixed front replica conn inputs held (ends_with conn later how text).connection world story w)
      (sym (last_carried front world conn was text (next_of conn connection) how heard.client))
      (record {
        story = told.later;
        made = made;
        standing = record {
          count = counted;
          client = given inputs (ap (λ f. replies_to f (story.told conn ++ answer ∷ [])) (heard.next).parts
              ∙ end_told silent (heard.next).passed (story.told conn) (heard.next).request connection.waiting answer [] (heard.next).answered is_end);
          here = place.nowhere;
          placed = nowhere_then;
          marked = tt;
          dropped = tt;
          restores = tt;
          stands = finished (heard.next).passed connection.waiting (heard.next).request (story.told conn) answer refl (heard.next).parts
              (heard.next).answered told.told is_end (told.said ∙ sym told.told) refl;
        };
      })
