-- A frontend takes the answer, or the master's OK, of a command whose connection has ended, as its client closed it or its server was lost: nobody is told, and
-- nothing more is on its way.
use Rattle.std.proofs.Common.{◌≡◌, ◌≢◌, ℕ, ◌+◌, ◌≤◌, Bool, true, false, List, [], ◌∷◌, length, Some, refl, sym, ◌∙◌, ap, subst, append-nil, arith}
use Rattle.std.specs.BTreeMap.{is_at}
use Rattle.std.specs.Ordering.{nat_cmp}
use Rattle.std.proofs.lemmas.Map.Steps.{set_value_same}
use Rattle.ask_routes.specs.Barrier.{barrier_answered}
use Rattle.front_core.proofs.OneConnection.Places.{is_over}
use Rattle.front_core.specs.declared.connection.Connection.{Connection}
use Rattle.front_core.specs.declared.connection.Stage.TheVariants.{Ended}
use Rattle.front_core.specs.declared.front.Front.{Front}
use Rattle.front_core.specs.Answered.{ok_by, ok_comes, unchanged}
use Rattle.front_core.specs.Ended.{released, released_at}
use Rattle.front_core.specs.Front.{answer_from, connection_at, deliver, still, waits_for, with_turned}
use Rattle.front_core.specs.Stages.{has_asked}
use Rattle.front_core.specs.Taken.{Ways}
use Rattle.imap_talk.specs.Inputs.{requests_in}
use Rattle.imap_talk.specs.declared.inputs.Input.{Input}
use Rattle.imap_types.specs.declared.request.Answer.{Answer as AnswerOf}
use Rattle.imap_types.specs.declared.request.Request.{Request}
use Rattle.link_msg.specs.declared.answer.BackAnswer.{BackAnswer}
use Rattle.link_msg.specs.declared.message.LinkMsg.{LinkMsg}
use Rattle.link_msg.specs.declared.message.LinkMsg.TheVariants.{Answer, Line}
use Rattle.link_queue.specs.Links.{on_link}
use Rattle.mark_history.specs.Marked.{Tale}
use Rattle.mur_base.specs.declared.point.AskId.{AskId}
use Rattle.mur_model.specs.declared.commands.list.Listing.{Listing}
use Rattle.mur_model.specs.declared.session.Sess.{Sess}
use Rattle.mur_model.specs.declared.setting.Setting.{Setting}
use Rattle.node_step.specs.declared.input.NodeInput.TheVariants.{From}
use Rattle.point_links.specs.Commands.{ClientCommand}
use Rattle.imap_types.specs.declared.command.Tag.{Tag}
use Rattle.imap_talk.specs.Transcript.{Stop}
use Rattle.cluster_core.specs.declared.world.World.{World}
use Rattle.cluster_core.specs.World.{carry_all, home_at, taken_from_link}
use Rattle.cluster_core.proofs.Commands.Knows.{Knows, KnowsNames, listed_by}
use Rattle.cluster_core.proofs.Commands.Knows.Knows.{is_decided, undecided}
use Rattle.cluster_core.proofs.Commands.Knows.KnowsNames.{is_gone, is_listed, not_yet}
use Rattle.cluster_core.proofs.Commands.Place.{Place, Place as place}
use Rattle.cluster_core.proofs.Commands.Released.{released_count}
use Rattle.cluster_core.proofs.Commands.Standing.{Fixed, IsLeft, next_id}
use Rattle.cluster_core.proofs.Commands.Standing.IsLeft.{nothing, left_listing, left_waiting}
use Rattle.cluster_core.proofs.Connections.ConnectionLaw.{IsInPlaceOf, PlacesStay, keeps_all, same_story}
use Rattle.cluster_core.proofs.Connections.KeepsFront.{gone_after, with_connection, world_after}
use Rattle.cluster_core.proofs.Connections.KeepsLaw.{IsGone}
use Rattle.cluster_core.proofs.Nodes.AllCome.{all_come, front_all_come}
use Rattle.cluster_core.proofs.Nodes.Comes.{with_front}
use Rattle.cluster_core.proofs.Places.FrontTakes.{takes_answer, takes_ok}
use Rattle.cluster_core.proofs.Places.FrontWorlds.{answer_stays, ok_stays}
use Rattle.cluster_core.proofs.Connections.FrameLaw.{ways_for}
use Rattle.cluster_core.proofs.Answers.OkSteps.{delivers_ok}
use Rattle.cluster_core.proofs.Answers.Steps.{IsBefore, IsStep, step_is}

-- THE STEP OF A CONNECTION THAT HAS ENDED: it has ended behind it, lets nothing out, and the tale stays
pub record ClosedStep (fixed : Fixed) (world : World) (story : Tale) (from node : List ℕ) (front : Front) (conn : ℕ) (inputs : List Input) (stop : Stop)
    (next : World) : Type 0 where
  pub connection : Connection
  pub step : IsStep fixed world story from node front conn connection [] next story
  pub gone : IsGone fixed node front.replica conn inputs stop connection next story

-- ---- an answer that comes no more

few_more : (answer : AnswerOf) → length (answer ∷ []) ≤ 1
few_more answer = omega arith

pub left_by : (fixed : Fixed) (front : List ℕ) (conn : ℕ) (requests : List Request) (told said : List AnswerOf) (session : Sess) (c : ClientCommand) (tag : Tag)
    (here : Place) → Knows fixed.master fixed.first front c tag told said session here → IsLeft fixed front conn requests told said session place.nowhere
left_by fixed front conn requests told said session c tag here (undecided same was tells) =
    nothing [] (same ∙ sym (append-nil told)) (omega arith) refl
left_by fixed front conn requests told said session c tag here (is_decided turn more later both brings) =
    nothing ((record { tag = tag; reply = turn.reply }) ∷ []) more (few_more (record { tag = tag; reply = turn.reply })) refl

listing_left : (fixed : Fixed) (front : List ℕ) (conn : ℕ) (requests : List Request) (told said : List AnswerOf) (session : Sess) (tag : Tag) (it : Listing)
    (was : Sess) (here : Place) → KnowsNames tag it was told said session here → IsLeft fixed front conn requests told said session place.nowhere
listing_left fixed front conn requests told said session tag it was here (not_yet same stays at) = nothing [] (same ∙ sym (append-nil told)) (omega arith) refl
listing_left fixed front conn requests told said session tag it was here (is_gone same stays at) = nothing [] (same ∙ sym (append-nil told)) (omega arith) refl
listing_left fixed front conn requests told said session tag it was here (is_listed table more stays at) =
    nothing (listed_by tag it table ∷ []) more (few_more (listed_by tag it table)) refl

left_over : (fixed : Fixed) (front : List ℕ) (conn : ℕ) (requests : List Request) (told said : List AnswerOf) (session : Sess) (here : Place)
    → IsLeft fixed front conn requests told said session here → IsLeft fixed front conn requests told said session place.nowhere
left_over fixed front conn requests told said session here (nothing rest more few none) = nothing rest more few refl
left_over fixed front conn requests told said session here (left_waiting waiting) =
    left_by fixed front conn requests told said session waiting.c waiting.tag here waiting.knows
left_over fixed front conn requests told said session here (left_listing listing) =
    listing_left fixed front conn requests told said session listing.tag listing.listing listing.was here listing.knows

-- ---- the OK changes nothing of it

ended_still : (setting : Setting) (ways : Ways) (conn : ℕ) (connection : Connection) (own : Bool)
    → ok_by setting ways conn connection own Ended ≡ unchanged connection
unfolding ok_by
ended_still setting ways conn connection true = refl
ended_still setting ways conn connection false = refl

ok_ended : (setting : Setting) (ways : Ways) (conn : ℕ) (connection : Connection) (id : AskId) → connection.stage ≡ Ended
    → ok_comes setting ways conn connection id ≡ unchanged connection
unfolding ok_comes
ok_ended setting ways conn connection id stage =
    ap (ok_by setting ways conn connection _) stage ∙ ended_still setting ways conn connection _

pub ended_released : (connection : Connection) → connection.stage ≡ Ended → (released connection).stage ≡ Ended
unfolding released_at
ended_released connection stage = ap (λ s. (released_at connection s).stage) stage

module _ (fixed : Fixed) (world : World) (story : Tale) (from node : List ℕ) (front : Front) (conn : ℕ) (inputs : List Input)
    (connection : Connection) (before : IsBefore fixed world story node front conn inputs connection) (stop : Stop)
    (gone : IsGone fixed node front.replica conn inputs stop connection world story) where
  closed_so : (later : Connection) → later.stage ≡ Ended → later.answered ≡ connection.answered
      → IsInPlaceOf fixed (taken_from_link world from node) node front.replica (next_id conn (story.told conn)) place.nowhere
      → ((other : ℕ) → other ≢ conn → PlacesStay fixed other world (taken_from_link world from node))
      → ClosedStep fixed world story from node front conn inputs stop (world_after (taken_from_link world from node) node front conn later [])
  unfolding carry_all
  closed_so later stage count over others =
      let base : World = taken_from_link world from node in
      record {
        connection = later;
        step = step_is fixed world story from node front conn connection later before.at [] story
            (record { others = keeps_all fixed conn base; goes_on = same_story conn story; store = refl; is_told = before.is_told }) others;
        gone = gone_after fixed base node front conn later inputs stop front.replica story (before.at).at
            (record {
              stage_is = stage;
              count = count ∙ gone.count;
              lasts = gone.lasts;
              client = gone.client;
              here = place.nowhere;
              placed = over;
              marked = tt;
              left = left_over fixed node conn (requests_in inputs) (story.told conn) (story.talk.answers conn) (story.course.sessions conn) gone.here
                  gone.left;
              cut = gone.cut;
            });
      }

  -- ---- an answer: it waits for none

  same_connection : with_connection front conn connection ≡ front
  same_connection = ap (λ c. record front { connections = c }) (set_value_same (is_at (nat_cmp conn)) front.connections connection (before.at).has)

  drops_answer : (answer : BackAnswer) → (answer.id).conn ≡ conn → deliver front from (Answer answer) ≡ still front
  unfolding deliver answer_from waits_for has_asked
  drops_answer answer own =
      ap (λ b. answer_from b front answer)
      (ap (λ c. waits_for c from) (ap (connection_at front) own ∙ (before.at).has) ∙ ap (λ s. has_asked s from) gone.stage_is)

  pub closed_answer : (answer : BackAnswer) (rest : List LinkMsg) → on_link world.links from node ≡ Answer answer ∷ rest → (answer.id).conn ≡ conn
      → ClosedStep fixed world story from node front conn inputs stop (all_come (taken_from_link world from node) node (From from (Answer answer)))
  closed_answer answer rest first own =
      let id : AskId = next_id conn (story.told conn) in
      let is = takes_answer fixed.master (home_at world) world.links from node answer rest node front.replica id gone.here (before.may).frontend first own
      gone.placed in
      subst (λ w. ClosedStep fixed world story from node front conn inputs stop w)
      (sym (front_all_come (taken_from_link world from node) node (From from (Answer answer)) front (before.at).at
      ∙ ap (with_front (taken_from_link world from node) node) (drops_answer answer own)
      ∙ ap (λ f. with_front (taken_from_link world from node) node (still f)) (sym same_connection)))
      (closed_so connection gone.stage_is refl is.over
      (λ other ne. answer_stays fixed world from node answer rest other (before.may).frontend first (λ e. ne (e ∙ own))))

-- ---- the master's OK

module _ (fixed : Fixed) (world : World) (story : Tale) (node : List ℕ) (front : Front) (conn : ℕ) (inputs : List Input)
    (connection : Connection) (before : IsBefore fixed world story node front conn inputs connection) (stop : Stop)
    (gone : IsGone fixed node front.replica conn inputs stop connection world story) where
  pub closed_ok : (bytes : List ℕ) (id : AskId) (rest : List LinkMsg) → on_link world.links fixed.master node ≡ Line bytes ∷ rest
      → barrier_answered bytes ≡ Some id → id.conn ≡ conn → is_over (length (story.told conn) + 1) (Line bytes) ≡ false
      → ClosedStep fixed world story fixed.master node front conn inputs stop
      (all_come (taken_from_link world fixed.master node) node (From fixed.master (Line bytes)))
  closed_ok bytes id rest first reads_so own on =
      let next : AskId = next_id conn (story.told conn) in
      let is = takes_ok fixed.master (home_at world) world.links node bytes id rest node front.replica next gone.here (before.may).frontend first reads_so own on
      gone.placed in
      subst (λ w. ClosedStep fixed world story fixed.master node front conn inputs stop w)
      (sym (front_all_come (taken_from_link world fixed.master node) node (From fixed.master (Line bytes)) front (before.at).at
      ∙ ap (with_front (taken_from_link world fixed.master node) node)
      (delivers_ok fixed node front conn connection bytes id before.setting_is before.master_is before.ways_is (before.at).has own reads_so
      ∙ ap (with_turned front conn) (ok_ended fixed.setting (ways_for fixed front.ups front.replica) conn connection id gone.stage_is))))
      (closed_so fixed world story fixed.master node front conn inputs connection before stop gone (released connection)
      (ended_released connection gone.stage_is) (released_count connection) is.over
      (λ other ne. ok_stays fixed world node bytes id rest other (before.may).frontend first reads_so (λ e. ne (e ∙ own))))
