-- A step leaves the tale, and the command of a connection where it is: the connection is as it was. Nothing is asked of its commands before that one, of which a
-- line may have been taken.
use Rattle.std.proofs.Common.{◌≡◌, ℕ, List, Some, refl, sym, ◌∙◌}
use Rattle.cluster_core.specs.World.{client_at, front_at}
use Rattle.cluster_core.specs.declared.world.Client.{Client}
use Rattle.cluster_core.specs.declared.world.World.{World}
use Rattle.front_core.proofs.OneConnection.Readings.{inputs_in}
use Rattle.front_core.specs.declared.connection.Connection.{Connection}
use Rattle.front_core.specs.declared.front.Front.{Front}
use Rattle.imap_talk.specs.Heard.{Heard}
use Rattle.imap_talk.specs.Transcript.{Stop}
use Rattle.imap_talk.specs.Transcript.Stop.{is_lost}
use Rattle.mark_history.specs.Marked.{Tale, last_mark}
use Rattle.mur_base.specs.declared.point.AskId.{AskId}
use Rattle.cluster_core.proofs.Commands.Place.{Place}
use Rattle.cluster_core.proofs.Commands.Standing.{Fixed, next_id}
use Rattle.cluster_core.proofs.Connections.ConnectionLaw.{IsInNoneOf, IsInPlaceOf, client_till, client_with}
use Rattle.cluster_core.proofs.Connections.KeepsLaw.{ConnectionIs, IsAt, IsGone, IsUntold}
use Rattle.cluster_core.proofs.Connections.KeepsLaw.ConnectionIs.{is_nobody, is_elsewhere, is_open, is_cut_off, is_closed}
use Rattle.cluster_core.proofs.Connections.Stays.{dropped_stays, marked_stays}

-- the open command of a connection is where it was, at each frontend to which its client is connected
abbrev pub OpenStays : Fixed → ℕ → World → World → Tale → Type 0
OpenStays fixed conn world next story = (node : List ℕ) (front : Front) (connection : Connection) (here : Place) → IsAt world conn node front connection
    → (its : Client) → client_at world conn ≡ Some its → its.at ≡ node → IsInPlaceOf fixed world node front.replica (next_id conn (story.told conn)) here
    → IsInPlaceOf fixed next node front.replica (next_id conn (story.told conn)) here

pub record IsUntouched (fixed : Fixed) (conn : ℕ) (world next : World) (story : Tale) : Type 0 where
  pub fronts : (node : List ℕ) → front_at next node ≡ front_at world node
  pub client : client_at next conn ≡ client_at world conn
  pub broken : next.broken ≡ world.broken
  pub mark : last_mark (next_id conn (story.told conn)) next.marks ≡ last_mark (next_id conn (story.told conn)) world.marks
  pub in_place : OpenStays fixed conn world next story
  pub in_none : IsInNoneOf fixed world conn → IsInNoneOf fixed next conn

module _ (fixed : Fixed) (conn : ℕ) (world next : World) (story : Tale) (same : IsUntouched fixed conn world next story) where
  abbrev id : AskId
  id = next_id conn (story.told conn)

  untold_so : IsUntold fixed conn world story → IsUntold fixed conn next story
  untold_so untold = record { told = untold.told; said = untold.said; session = untold.session; nothing = same.in_none untold.nothing }

  at_so : (node : List ℕ) (front : Front) (connection : Connection) → IsAt world conn node front connection → IsAt next conn node front connection
  at_so node front connection at = record { at = same.fronts node ∙ at.at; has = at.has }

  gone_so : (bytes node : List ℕ) (front : Front) (connection : Connection) (stop : Stop) → IsAt world conn node front connection
      → IsGone fixed node front.replica conn (inputs_in fixed.setting bytes) stop connection world story
      → IsGone fixed node front.replica conn (inputs_in fixed.setting bytes) stop connection next story
  gone_so bytes node front connection stop at gone = record {
    stage_is = gone.stage_is;
    count = gone.count;
    lasts = gone.lasts;
    client = same.client ∙ gone.client;
    here = gone.here;
    placed = same.in_place node front connection gone.here at (client_till stop node (inputs_in fixed.setting bytes) (story.told conn)) gone.client refl gone.placed;
    marked = marked_stays story.talk.moving id world.marks next.marks same.mark gone.here gone.marked;
    left = gone.left;
    cut = λ lost none. gone.cut lost (sym same.broken ∙ none);
  }

  untouched_is : (stop : Stop) (heard : Heard) → ConnectionIs fixed conn world story stop heard → ConnectionIs fixed conn next story stop heard
  untouched_is _ _ (is_nobody none fronts untold) =
      is_nobody (same.client ∙ none) (λ n f at. fronts n f (sym (same.fronts n) ∙ at)) (untold_so untold)
  untouched_is _ _ (is_elsewhere n given at none untold) = is_elsewhere n given (same.client ∙ at) (same.fronts n ∙ none) (untold_so untold)
  untouched_is _ _ (is_open bytes node front connection at reader standing) =
      is_open bytes node front connection (at_so node front connection at) reader
      (record {
        count = standing.count;
        client = same.client ∙ standing.client;
        here = standing.here;
        placed = same.in_place node front connection standing.here at (client_with node (inputs_in fixed.setting bytes) (story.told conn)) standing.client refl
            standing.placed;
        marked = marked_stays story.talk.moving id world.marks next.marks same.mark standing.here standing.marked;
        dropped = dropped_stays fixed.master world next node same.broken standing.here standing.dropped;
        restores = standing.restores;
        stands = standing.stands;
      })
  untouched_is _ _ (is_cut_off bytes node front connection at gone unanswered) =
      is_cut_off bytes node front connection (at_so node front connection at) (gone_so bytes node front connection is_lost at gone) unanswered
  untouched_is _ _ (is_closed stop bytes node front connection at gone) =
      is_closed stop bytes node front connection (at_so node front connection at) (gone_so bytes node front connection stop at gone)

pub untouched : (fixed : Fixed) (conn : ℕ) (world next : World) (story : Tale) (stop : Stop) (heard : Heard) → IsUntouched fixed conn world next story
    → ConnectionIs fixed conn world story stop heard → ConnectionIs fixed conn next story stop heard
untouched fixed conn world next story stop heard same is = untouched_is fixed conn world next story same stop heard is
