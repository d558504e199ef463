-- A LIST waits at its frontend: its message is between the frontend and the master. Wherever it is behind a step, its connection goes on so.
use Rattle.std.proofs.Common.{◌≡◌, ℕ, ◌+◌, List, length, Some, refl, sym, ◌∙◌, ap, subst}
use Rattle.front_core.specs.Ending.{EndsOnlyLast}
use Rattle.front_core.proofs.OneConnection.Readings.{inputs_in}
use Rattle.front_core.specs.declared.connection.Connection.{Connection}
use Rattle.front_core.specs.declared.front.Front.{Front}
use Rattle.imap_talk.proofs.RequestsOf.{requests_of}
use Rattle.imap_talk.proofs.TranscriptGrows.{AreAnswered}
use Rattle.imap_talk.specs.Heard.{Heard, frames_heard}
use Rattle.imap_talk.specs.Inputs.{requests_in}
use Rattle.imap_talk.specs.Transcript.{Stop}
use Rattle.imap_talk.specs.Transcript.Stop.{silent}
use Rattle.imap_types.specs.declared.command.Command.{Command}
use Rattle.imap_types.specs.declared.command.Tag.{Tag}
use Rattle.imap_types.specs.declared.request.Answer.{Answer}
use Rattle.imap_types.specs.declared.request.Request.TheVariants.{Command as a_command}
use Rattle.mark_history.specs.Marked.{Tale}
use Rattle.mur_model.specs.declared.commands.list.Listing.{Listing}
use Rattle.mur_model.specs.declared.session.Sess.{Sess}
use Rattle.mur_model.specs.Act.{need_of}
use Rattle.mur_model.specs.History.{numbered}
use Rattle.mur_model.specs.Needed.{Names}
use Rattle.route_links.specs.Barriers.{Place as Barrier, Place as barrier}
use Rattle.cluster_core.specs.declared.world.World.{World}
use Rattle.cluster_core.specs.World.{client_at, front_at}
use Rattle.cluster_core.proofs.Commands.Knows.{KnowsNames}
use Rattle.cluster_core.proofs.Commands.Knows.KnowsNames.{is_gone, is_listed, not_yet}
use Rattle.cluster_core.proofs.Commands.Place.{Place, Place as place}
use Rattle.cluster_core.proofs.Commands.Standing.{Fixed, next_id}
use Rattle.cluster_core.proofs.Commands.Standing.IsLeft.{left_listing}
use Rattle.cluster_core.proofs.Commands.Standing.Stands.{lists}
use Rattle.cluster_core.proofs.Connections.ConnectionLaw.{CanRestore, IsDroppedAt, IsInPlaceOf, IsMarkedAt}
use Rattle.cluster_core.proofs.Connections.KeepsLaw.{ConnectionIs, IsAt}
use Rattle.cluster_core.proofs.Connections.KeepsLaw.ConnectionIs.{is_open}
use Rattle.cluster_core.proofs.Points.Waits.{WhoLists, asks_next, client_then, ended_is, ended_lists, ended_still, open_lists}

-- what its place tells, by a tale
abbrev pub NamesOf : ℕ → Tag → Listing → Sess → Tale → Place → Type 0
NamesOf conn tag listing was story here = KnowsNames tag listing was (story.told conn) (story.talk.answers conn) (story.course.sessions conn) here

-- ---- it is at a barrier, and nowhere else

pub record IsBarred (here : Place) : Type 0 where
  pub at : Barrier
  pub is : here ≡ place.is_barred at

pub names_barred : (tag : Tag) (listing : Listing) (was : Sess) (told said : List Answer) (session : Sess) (here : Place)
    → KnowsNames tag listing was told said session here → IsBarred here
names_barred tag listing was told said session here (not_yet said_is was_is is) = record { at = barrier.asked; is = is }
names_barred tag listing was told said session here (is_gone said_is was_is is) = record { at = barrier.nowhere; is = is }
names_barred tag listing was told said session here (is_listed table said_is was_is is) = record { at = barrier.answered table; is = is }

-- ---- where it is then

-- so it is behind a step: in this place
pub record IsListThen (fixed : Fixed) (conn : ℕ) (node : List ℕ) (front : Front) (world : World) (story : Tale) (tag : Tag) (listing : Listing) (was : Sess)
    (next : World) (later : Tale) (there : Place) : Type 0 where
  pub fronts : front_at next node ≡ front_at world node
  pub clients : client_at next conn ≡ client_at world conn
  pub broken : next.broken ≡ world.broken
  pub told : later.told conn ≡ story.told conn
  pub placed : IsInPlaceOf fixed next node front.replica (next_id conn (later.told conn)) there
  pub marked : IsMarkedAt later.talk.moving next.marks (next_id conn (later.told conn)) there
  pub dropped : IsDroppedAt fixed.master next node there
  pub restores : (connection : Connection) → connection.session ≡ was → CanRestore later conn connection there
  pub knows : NamesOf conn tag listing was later there

-- wherever it is then, its connection goes on so
pub record ListWaits (fixed : Fixed) (conn : ℕ) (node : List ℕ) (front : Front) (world : World) (story : Tale) (stop : Stop) (heard : Heard) (here : Place)
    : Type 0 where
  pub tag : Tag
  pub it : Command
  pub listing : Listing
  pub was : Sess
  pub need : need_of fixed.setting was it ≡ Names listing
  pub asked : numbered (requests_of fixed.setting (frames_heard heard)) (length (story.told conn) + 1) ≡ Some (a_command tag it)
  pub knows : NamesOf conn tag listing was story here
  pub goes_on : (next : World) (later : Tale) (there : Place) → IsListThen fixed conn node front world story tag listing was next later there
      → ConnectionIs fixed conn next later stop heard

abbrev pub EachListWaits : Type 0
EachListWaits = (fixed : Fixed) (conn : ℕ) (node : List ℕ) (front : Front) (connection : Connection) (world : World) (story : Tale) (stop : Stop) (heard : Heard)
    (here : Place) → IsAt world conn node front connection → connection.answered ≡ length (story.told conn)
    → WhoLists fixed conn node connection world story stop heard here → ListWaits fixed conn node front world story stop heard here

pub each_list_waits : EachListWaits
unfolding frames_heard
each_list_waits fixed conn node front connection world story stop heard here at count (open_lists bytes silent_is e reader given waiting) =
    subst (λ s. ListWaits fixed conn node front world story s heard here) (sym silent_is)
    (subst (λ h. ListWaits fixed conn node front world story silent h here) (sym e)
    (record {
      tag = waiting.tag;
      it = waiting.it;
      listing = waiting.listing;
      was = connection.session;
      need = waiting.need;
      asked = asks_next (inputs_in fixed.setting bytes) waiting.next.passed connection.waiting waiting.next.request (story.told conn) waiting.tag waiting.it
          waiting.next.parts waiting.next.answered waiting.next.is;
      knows = waiting.knows;
      goes_on = λ next later there then. is_open bytes node front connection (record { at = then.fronts ∙ at.at; has = at.has }) reader
          (record {
            count = count ∙ ap length (sym then.told);
            client = client_then fixed conn node world next (inputs_in fixed.setting bytes) silent (story.told conn) (later.told conn) then.clients then.told given;
            here = there;
            placed = then.placed;
            marked = then.marked;
            dropped = then.dropped;
            restores = then.restores connection refl;
            stands = lists (record {
              tag = waiting.tag;
              it = waiting.it;
              listing = waiting.listing;
              need = waiting.need;
              stage = waiting.stage;
              lasts = waiting.lasts;
              next = record {
                passed = waiting.next.passed;
                request = waiting.next.request;
                parts = waiting.next.parts;
                answered = subst (AreAnswered waiting.next.passed) (sym then.told) waiting.next.answered;
                is = waiting.next.is;
                last = waiting.next.last;
              };
              knows = then.knows;
            });
          });
    }))
each_list_waits fixed conn node front connection world story stop heard here at count (ended_lists bytes shut e ended stage lasts given cut waiting) =
    subst (λ h. ListWaits fixed conn node front world story stop h here) (sym e)
    (record {
      tag = waiting.tag;
      it = waiting.it;
      listing = waiting.listing;
      was = waiting.was;
      need = waiting.need;
      asked = waiting.next;
      knows = waiting.knows;
      goes_on = λ next later there then.
          ended_is fixed conn node front connection next later bytes stop shut
          (ended_still (inputs_in fixed.setting bytes) (story.told conn) (later.told conn) stop shut then.told ended)
          (record { at = then.fronts ∙ at.at; has = at.has })
          (record {
            stage_is = stage;
            count = count ∙ ap length (sym then.told);
            lasts = subst EndsOnlyLast (sym then.told) lasts;
            client = client_then fixed conn node world next (inputs_in fixed.setting bytes) stop (story.told conn) (later.told conn) then.clients then.told given;
            here = there;
            placed = then.placed;
            marked = then.marked;
            cut = λ lost none. cut lost (sym then.broken ∙ none);
            left = left_listing (record {
              tag = waiting.tag;
              it = waiting.it;
              listing = waiting.listing;
              was = waiting.was;
              need = waiting.need;
              next = subst
                  (λ (t : List Answer). numbered (requests_in (inputs_in fixed.setting bytes)) (length t + 1) ≡ Some (a_command waiting.tag waiting.it))
                  (sym then.told) waiting.next;
              knows = then.knows;
            });
          });
    })

pub list_barred : (fixed : Fixed) (conn : ℕ) (node : List ℕ) (connection : Connection) (world : World) (story : Tale) (stop : Stop) (heard : Heard) (here : Place)
    → WhoLists fixed conn node connection world story stop heard here → IsBarred here
list_barred fixed conn node connection world story stop heard here (open_lists bytes silent_is e reader given waiting) =
    names_barred waiting.tag waiting.listing connection.session (story.told conn) (story.talk.answers conn) (story.course.sessions conn) here waiting.knows
list_barred fixed conn node connection world story stop heard here (ended_lists bytes shut e ended stage lasts given cut waiting) =
    names_barred waiting.tag waiting.listing waiting.was (story.told conn) (story.talk.answers conn) (story.course.sessions conn) here waiting.knows
