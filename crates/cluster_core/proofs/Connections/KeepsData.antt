-- Bytes of a client keep the law.
use Rattle.std.proofs.Common.{◌≡◌, ℕ, ◌+◌, true, false, List, [], ◌∷◌, ◌++◌, length, Option, None, Some, inl, inr, refl, sym, ◌∙◌, ap, subst, append_assoc}
use Rattle.std.proofs.Math.Logic.{⊎_elim}
use Rattle.cluster_core.specs.Heard.{hears}
use Rattle.cluster_core.specs.World.{master_of, setting_of, carry_all, client_at, front_at, node_at}
use Rattle.feed_core.specs.declared.replica.Replica.{Replica}
use Rattle.feed_links.specs.Lines.{messages_to}
use Rattle.feed_links.specs.OneFeed.{AreNoops}
use Rattle.front_core.specs.Reading.{Reading as Read, inputs_of_more}
use Rattle.front_core.proofs.OneConnection.Readings.{inputs_in, inputs_with_more, reading_of, reading_with_more}
use Rattle.front_core.specs.declared.connection.Connection.{Connection}
use Rattle.front_core.specs.declared.connection.Stage.{Stage}
use Rattle.front_core.specs.declared.connection.Stage.TheVariants.{Reading, Waits, Lists, Ended}
use Rattle.front_core.specs.declared.front.Front.{Front}
use Rattle.front_core.specs.Ended.{released}
use Rattle.front_core.specs.Front.{Stepped, connection_at, having_read, bytes_in, front_bytes_at, bytes_by, still, ways_of, with_turned}
use Rattle.front_core.specs.Taken.{Turned, Ways, input_comes, inputs_come}
use Rattle.front_core.proofs.FrameLaws.{reader_kept}
use Rattle.front_core.proofs.FramesLaws.{HoldsBack}
use Rattle.imap_reply.specs.Greeting.{greeting}
use Rattle.imap_talk.specs.Heard.{Heard, client}
use Rattle.imap_talk.specs.Inputs.{inputs_from, requests_in}
use Rattle.imap_talk.specs.Transcript.{Stop, ends, replies_till, replies_to}
use Rattle.imap_talk.specs.Transcript.Stop.{is_lost, silent}
use Rattle.imap_talk.specs.declared.inputs.Input.{Input}
use Rattle.imap_talk.specs.declared.inputs.Input.TheVariants.{Asks}
use Rattle.imap_talk.proofs.TranscriptGrows.{AreAnswered, end_told, unanswered_told}
use Rattle.imap_talk.proofs.InputLaws.{requests-append}
use Rattle.imap_types.specs.declared.request.Request.TheVariants.{Command as a_command}
use Rattle.mur_model.proofs.Numbered.{numbered_more}
use Rattle.mur_model.specs.declared.session.Sess.{Sess}
use Rattle.cluster_core.proofs.Commands.Standing.IsLeft.{nothing, left_waiting, left_listing}
use Rattle.imap_types.specs.declared.request.Answer.{Answer}
use Rattle.imap_types.specs.declared.request.Request.{Request}
use Rattle.imap_wire.specs.Frames.{begun}
use Rattle.imap_wire.proofs.FeedLaws.{frames-ended, begun-ended}
use Rattle.mark_history.specs.Marked.{Tale, talk_told}
use Rattle.mur_config.specs.declared.config.Config.{Config}
use Rattle.mur_model.specs.History.{GoesOn}
use Rattle.mur_model.specs.declared.setting.Setting.{Setting}
use Rattle.mur_model.proofs.HistoryGrows.{same_lists, talks_follow}
use Rattle.node_step.specs.declared.input.NodeInput.TheVariants.{Piece}
use Rattle.node_step.specs.declared.node.NodeState.TheVariants as state
use Rattle.node_step.proofs.NodeKinds.{front_is}
use Rattle.schedule_text.specs.declared.event.Event.TheVariants.{Data}
use Rattle.cluster_core.specs.declared.world.World.{World}
use Rattle.std.proofs.lemmas.Option.{same_Some}
use Rattle.cluster_core.proofs.Commands.AllReached.{asks as asks_more}
use Rattle.cluster_core.proofs.Commands.Place.{Place, Place as place}
use Rattle.cluster_core.proofs.Commands.Released.{begun_released, released_count, stands_released}
use Rattle.cluster_core.proofs.Commands.Standing.{Fixed, HasBegunSo, IsLeft, Stands, next_id}
use Rattle.cluster_core.proofs.Commands.Standing.Stands.{reads, waits, lists, faulted, finished}
use Rattle.cluster_core.proofs.Connections.BytesCome.{Behind, after_data, asked_more, asked_tale, closed_heard, elsewhere_heard, heard_more, held_noops, listing_behind, new, nothing_heard, other_heard, reading_behind, reading_noops, still_heard, turned, waiting_behind, ways_same}
use Rattle.cluster_core.proofs.Connections.ConnectionLaw.{IsInPlaceOf, IsReading, IsStanding, restores_as, says_same, says_then}
use Rattle.cluster_core.proofs.Connections.KeepsFront.{front_keeps, is_at_after, standing_after, turned_so, with_connection, world_after}
use Rattle.cluster_core.proofs.Connections.MayAskAt.{ways_same_by}
use Rattle.cluster_core.proofs.Connections.KeepsLaw.{ConnectionIs, FeedsHold, IsAt, IsGone, IsUnanswered, KeepsLaw, KeepsOn, fixed_of}
use Rattle.cluster_core.proofs.Connections.KeepsLaw.ConnectionIs.{is_nobody, is_elsewhere, is_open, is_cut_off, is_closed}
use Rattle.cluster_core.proofs.Connections.KeepsStill.{MasterServes, elsewhere_kept, put_kept, same_kept}
use Rattle.cluster_core.proofs.Connections.Restored.{restores_released}
use Rattle.cluster_core.proofs.Connections.Stays.{ReplicasStay, fixed_places, is_not_closed, same_front, each_stays}
use Rattle.cluster_core.proofs.Feeds.Beside.{front_client_feeds}
use Rattle.cluster_core.proofs.Feeds.Many.{front_keeps_many}
use Rattle.cluster_core.proofs.Links.Stand.{LinksStand}
use Rattle.cluster_core.proofs.Nodes.AllCome.{all_of_client, front_all_come}
use Rattle.cluster_core.proofs.Nodes.Comes.{with_front}
use Rattle.cluster_core.specs.Numbers.{NumbersFit}

-- ---- what a frontend does with the bytes

pub inputs_keep_reader : (setting : Setting) (ways : Ways) (conn : ℕ) (connection : Connection) (new : List Input)
    → (inputs_come setting ways conn connection new).connection.reader ≡ connection.reader
unfolding inputs_come
inputs_keep_reader setting ways conn connection [] = refl
inputs_keep_reader setting ways conn connection (input ∷ new) =
    inputs_keep_reader setting ways conn (input_comes setting ways conn connection input).connection new ∙ reader_kept setting ways conn connection input

at_ended : (front : Front) (conn : ℕ) (bytes : List ℕ) (connection : Connection) → connection_at front conn ≡ Some connection → connection.stage ≡ Ended
    → bytes_in front conn bytes ≡ still front
unfolding bytes_in front_bytes_at bytes_by
at_ended front conn bytes connection has stage = ap (front_bytes_at front conn bytes) has ∙ ap (bytes_by front conn bytes connection) stage

abbrev read_turned : Front → ℕ → Connection → List ℕ → Turned
read_turned front conn connection bytes =
    inputs_come front.setting (ways_of front) conn (having_read front.setting connection bytes) (inputs_of_more front.setting connection.reader bytes)

at_reading : (front : Front) (conn : ℕ) (bytes : List ℕ) (connection : Connection) → connection_at front conn ≡ Some connection → connection.stage ≡ Reading
    → bytes_in front conn bytes ≡ with_turned front conn (read_turned front conn connection bytes)
unfolding bytes_in front_bytes_at bytes_by
at_reading front conn bytes connection has stage = ap (front_bytes_at front conn bytes) has ∙ ap (bytes_by front conn bytes connection) stage

waits_by : (front : Front) (conn : ℕ) (bytes : List ℕ) (connection : Connection) (stage : Stage) → HoldsBack stage
    → bytes_by front conn bytes connection stage ≡ with_turned front conn (read_turned front conn connection bytes)
unfolding bytes_by
waits_by front conn bytes connection Reading holds = absurd holds
waits_by front conn bytes connection (Waits tag it) holds = refl
waits_by front conn bytes connection (Lists tag it) holds = refl
waits_by front conn bytes connection Ended holds = absurd holds

at_waiting : (front : Front) (conn : ℕ) (bytes : List ℕ) (connection : Connection) → connection_at front conn ≡ Some connection
    → HoldsBack connection.stage → bytes_in front conn bytes ≡ with_turned front conn (read_turned front conn connection bytes)
unfolding bytes_in front_bytes_at
at_waiting front conn bytes connection has holds =
    ap (front_bytes_at front conn bytes) has ∙ waits_by front conn bytes connection connection.stage holds

-- the reader of a connection that hasn't ended
reader_of : (connection : Connection) (held : Read) → (connection.stage ≡ Ended → ⊥) → HasBegunSo connection held → connection.reader ≡ held
reader_of connection held lasts is = ⊎_elim (λ ended. absurd (lasts ended)) (λ same. same) is

pub reading_reader : (connection : Connection) (held : Read) → connection.stage ≡ Reading → HasBegunSo connection held → connection.reader ≡ held
reading_reader connection held stage is = reader_of connection held (λ ended. (let both : Reading ≡ Ended = sym stage ∙ ended in cc)) is

waiting_reader : (connection : Connection) (held : Read) → HoldsBack connection.stage → HasBegunSo connection held → connection.reader ≡ held
waiting_reader connection held holds is = reader_of connection held (λ ended. subst HoldsBack ended holds) is

-- a connection that has ended holds nothing
pub standing_released : (fixed : Fixed) (front : List ℕ) (replica : Replica) (conn : ℕ) (inputs : List Input) (held : Option (List ℕ))
    (connection : Connection) (world : World) (story : Tale) → IsStanding fixed front replica conn inputs held connection world story
    → IsStanding fixed front replica conn inputs held (released connection) world story
standing_released fixed front replica conn inputs held connection world story is = record {
  count = released_count connection ∙ is.count;
  client = is.client;
  here = is.here;
  placed = is.placed;
  marked = is.marked;
  dropped = is.dropped;
  restores = restores_released fixed front conn inputs held connection (story.told conn) (story.talk.answers conn) (story.course.sessions conn) story is.here
      is.stands is.restores;
  stands = stands_released fixed front conn inputs held connection (story.told conn) (story.talk.answers conn) (story.course.sessions conn) is.here is.stands;
}

-- what a connection leaves that has ended, once its client asked for more
left_more : (fixed : Fixed) (front : List ℕ) (conn : ℕ) (requests more : List Request) (told said : List Answer) (session : Sess) (here : Place)
    → IsLeft fixed front conn requests told said session here → IsLeft fixed front conn (requests ++ more) told said session here
left_more fixed front conn requests more told said session here (nothing rest parts few none) = nothing rest parts few none
left_more fixed front conn requests more told said session here (left_waiting waiting) = left_waiting (record {
  tag = waiting.tag;
  c = waiting.c;
  of = waiting.of;
  next = numbered_more requests more (length told + 1) (a_command waiting.tag (waiting.c).it) waiting.next;
  knows = waiting.knows;
})
left_more fixed front conn requests more told said session here (left_listing listing) = left_listing (record {
  tag = listing.tag;
  it = listing.it;
  listing = listing.listing;
  was = listing.was;
  need = listing.need;
  next = numbered_more requests more (length told + 1) (a_command listing.tag listing.it) listing.next;
  knows = listing.knows;
})

module _ (config : Config) (heard : ℕ → Heard) (world : World) (law : KeepsLaw config heard world) (conn : ℕ) (bytes more node : List ℕ) (front : Front)
    (connection : Connection) (e : heard conn ≡ client bytes false) (at : IsAt world conn node front connection)
    (fits : NumbersFit (after_data config heard conn more)) (stop : Stop) (stop_is : law.stops conn ≡ stop) where
  abbrev fixed : Fixed
  fixed = fixed_of config

  abbrev after : ℕ → Heard
  after = after_data config heard conn more

  abbrev told : Tale
  told = asked_tale config heard conn more law.story

  abbrev its_turn : Turned
  its_turn = turned config heard world law conn bytes more node front connection e at fits

  -- the frontend decides as its node does
  turned_same : read_turned front conn connection more ≡ its_turn
  turned_same =
      let is = (law.nodes).fronts node front at.at in
      ap (λ s. inputs_come s (ways_of front) conn (having_read s connection more) (inputs_of_more s connection.reader more)) is.setting_is
      ∙ ap (λ ways. inputs_come (setting_of config) ways conn (having_read (setting_of config) connection more)
      (inputs_of_more (setting_of config) connection.reader more)) (ways_same_by config world law.master node front is)

  abbrev kept : Connection
  kept = released its_turn.connection

  -- a connection that hasn't ended takes more bytes
  taken_more : stop ≡ silent → bytes_in front conn more ≡ with_turned front conn (read_turned front conn connection more)
      → connection.reader ≡ reading_of (setting_of config) bytes → AreNoops (messages_to (master_of config) its_turn.outs)
      → Behind config heard world law conn bytes more node front connection e at fits
      → KeepsOn config law.story law.stops after (with_front world node (bytes_in front conn more))
  taken_more open_is does reader noops behind =
      let step : bytes_in front conn more ≡ turned_so front conn kept its_turn.outs = does ∙ ap (with_turned front conn) turned_same in
      let read : having_read (setting_of config) connection more ≡ having_read (setting_of config) connection more = refl in
      let reads_so : HasBegunSo its_turn.connection (reading_of (setting_of config) (bytes ++ more)) =
      inr (inputs_keep_reader (setting_of config) (ways_same config node front) conn (having_read (setting_of config) connection more)
      (inputs_of_more (setting_of config) connection.reader more)
      ∙ sym (reading_with_more (setting_of config) bytes more connection.reader (sym reader))) in
      subst (λ s. KeepsOn config law.story law.stops after (with_front world node s)) (sym step)
      (front_keeps config heard after world law world.links conn node front connection kept its_turn.outs told behind.story law.stops (λ other ne. refl)
      (λ other ne. record { in_place = λ f r c here is. is; in_none = λ is. is })
      at.at at.has
      (record {
        requests = asked_more config heard conn bytes more connection.reader e (sym reader) law.story.talk.requests law.requests;
        answers = same_lists law.story.told;
        serials = same_lists law.story.talk.serials;
        moving = refl;
      }) refl refl refl refl (λ other. refl) (λ other ne. other_heard config conn other more (heard other) ne)
      (λ shut. absurd (is_not_closed (after conn) (bytes ++ more) (heard_more config conn bytes more (heard conn) e) shut))
      behind.made
      (front_keeps_many config world law.master law.given law.story.course.store law.nodes law.many node front (turned_so front conn kept its_turn.outs) at.at)
      (subst (λ s. FeedsHold config (with_front world node s) law.master) step
      (front_client_feeds config world law.master law.nodes law.feeds node front (Piece conn more) at.at tt
      (subst (λ (s : Stepped). AreNoops (messages_to (master_of config) s.outs)) (sym step) noops)))
      (subst (λ s. ConnectionIs fixed conn (world_after world node front conn kept its_turn.outs) behind.story s (after conn)) (sym (stop_is ∙ open_is))
      (subst (λ h. ConnectionIs fixed conn (world_after world node front conn kept its_turn.outs) behind.story silent h)
      (sym (heard_more config conn bytes more (heard conn) e))
      (is_open (bytes ++ more) node (with_connection front conn kept) kept
      (is_at_after world node front conn connection kept its_turn.outs at.at at.has)
      (begun_released its_turn.connection (reading_of (setting_of config) (bytes ++ more)) reads_so)
      (standing_after fixed world node front conn kept its_turn.outs (inputs_in (setting_of config) (bytes ++ more)) (begun (bytes ++ more)) front.replica
      behind.story at.at behind.made.others.nodes
      (standing_released fixed node front.replica conn (inputs_in (setting_of config) (bytes ++ more)) (begun (bytes ++ more)) its_turn.connection
      (carry_all node world its_turn.outs) behind.story behind.standing))))))

  -- ---- one that has ended drops them

  -- its law, once they are heard
  asked_on : GoesOn law.story.talk.requests told.talk.requests
  asked_on = asked_more config heard conn bytes more (reading_of (setting_of config) bytes) e refl law.story.talk.requests law.requests

  same_replicas : ReplicasStay world world
  same_replicas any was now before later = ap (λ (f : Front). f.replica) (same_Some _ _ (sym later ∙ before))

  heard_on : ConnectionIs fixed conn world told stop (client (bytes ++ more) false) → KeepsOn config law.story law.stops after world
  heard_on mine = record {
    law = record {
      master = law.master;
      nodes = law.nodes;
      story = told;
      stops = law.stops;
      given = law.given;
      many = law.many;
      feeds = law.feeds;
      is_told = asks_more world.steps world.marks law.story _ asked_on law.is_told;
      requests = λ other. refl;
      connections = each_stays fixed world world law.story told law.stops law.stops heard after conn (client (bytes ++ more) false) law.connections
          (λ other ne. other_heard config conn other more (heard other) ne) (λ other ne. refl)
          (λ other ne. record {
            fronts = λ any. same_front other (front_at world any) (front_at world any) refl;
            client = refl;
            in_place = fixed_places fixed other world world (record { in_place = λ f r c here is. is; in_none = λ is. is }) same_replicas;
            in_none = λ is. is;
            marks = λ command. refl;
            told = refl;
            said = refl;
            session = refl;
            before = refl;
            moving = refl;
            broken = refl;
          })
          (heard_more config conn bytes more (heard conn) e)
          (subst (λ s. ConnectionIs fixed conn world told s (client (bytes ++ more) false)) (sym stop_is) mine);
    };
    more = record {
      requests = asked_on;
      answers = same_lists law.story.told;
      serials = same_lists law.story.talk.serials;
      moving = refl;
    };
    grows = says_same law.story;
    closed = λ other shut. (refl, refl);
  }

  ended_more : connection.stage ≡ Ended → ConnectionIs fixed conn world told stop (client (bytes ++ more) false)
      → KeepsOn config law.story law.stops after (with_front world node (bytes_in front conn more))
  unfolding carry_all
  ended_more stage mine =
      let on = heard_on mine in
      let put = put_kept config after after world node (state.Front front) (front_is (node_at world node) front at.at) (λ other. refl) on.law in
      subst (λ s. KeepsOn config law.story law.stops after (with_front world node s))
      (sym (at_ended front conn more connection at.has stage))
      (record {
        law = put.law;
        more = talks_follow (talk_told law.story) (talk_told on.law.story) (talk_told put.law.story) on.more put.more;
        grows = says_then law.story on.law.story put.law.story on.grows put.grows;
        closed = λ other shut. ((put.closed other shut).0 ∙ (on.closed other shut).0, (put.closed other shut).1 ∙ (on.closed other shut).1);
      })

  -- one that was open, and stands so
  over_more : stop ≡ silent → connection.stage ≡ Ended
      → IsStanding fixed node front.replica conn (inputs_in (setting_of config) (bytes ++ more)) (begun (bytes ++ more)) connection world told
      → KeepsOn config law.story law.stops after (with_front world node (bytes_in front conn more))
  over_more open_is stage standing =
      ended_more stage (subst (λ s. ConnectionIs fixed conn world told s (client (bytes ++ more) false)) (sym open_is)
      (is_open (bytes ++ more) node front connection at (inl stage) standing))

  -- one whose command was lost: what it is given stops at that
  abbrev new_inputs : List Input
  new_inputs = inputs_of_more (setting_of config) (reading_of (setting_of config) bytes) more

  cut_more : stop ≡ is_lost → IsGone fixed node front.replica conn (inputs_in (setting_of config) bytes) is_lost connection world law.story
      → IsUnanswered (inputs_in (setting_of config) bytes) (law.story.told conn)
      → KeepsOn config law.story law.stops after (with_front world node (bytes_in front conn more))
  cut_more lost_is gone next =
      let inputs : List Input = inputs_in (setting_of config) bytes in
      let longer : inputs_in (setting_of config) (bytes ++ more) ≡ inputs ++ new_inputs =
      inputs_with_more (setting_of config) bytes more (reading_of (setting_of config) bytes) refl in
      let parts_now : inputs_in (setting_of config) (bytes ++ more) ≡ next.passed ++ Asks next.request ∷ (next.more ++ new_inputs) =
      longer ∙ ap (λ f. f ++ new_inputs) next.parts ∙ append_assoc next.passed (Asks next.request ∷ next.more) new_inputs in
      ended_more gone.stage_is
      (subst (λ s. ConnectionIs fixed conn world told s (client (bytes ++ more) false)) (sym lost_is)
      (is_cut_off (bytes ++ more) node front connection at
      (record {
        stage_is = gone.stage_is;
        count = gone.count;
        lasts = gone.lasts;
        client = gone.client ∙ ap (λ t. Some (record { at = node; given = greeting ++ t }))
            (ap (λ f. replies_till is_lost f (law.story.told conn)) next.parts
            ∙ unanswered_told is_lost next.passed (law.story.told conn) next.request next.more next.answered
            ∙ sym (unanswered_told is_lost next.passed (law.story.told conn) next.request (next.more ++ new_inputs) next.answered)
            ∙ ap (λ f. replies_till is_lost f (law.story.told conn)) (sym parts_now));
        here = gone.here;
        placed = gone.placed;
        marked = gone.marked;
        left = subst (λ r. IsLeft fixed node conn r (law.story.told conn) (law.story.talk.answers conn) (law.story.course.sessions conn) gone.here)
            (sym (ap requests_in longer ∙ requests-append inputs new_inputs))
            (left_more fixed node conn (requests_in inputs) (requests_in new_inputs) (law.story.told conn) (law.story.talk.answers conn)
            (law.story.course.sessions conn) gone.here gone.left);
        cut = gone.cut;
      })
      (record { passed = next.passed; request = next.request; more = next.more ++ new_inputs; parts = parts_now; answered = next.answered })))

  -- no frame ends in what is sent behind a fault
  faulted_on : IsStanding fixed node front.replica conn (inputs_in (setting_of config) bytes) (begun bytes) connection world law.story → begun bytes ≡ None
      → IsStanding fixed node front.replica conn (inputs_in (setting_of config) (bytes ++ more)) (begun (bytes ++ more)) connection world told
  faulted_on standing none =
      subst (λ f. IsStanding fixed node front.replica conn f (begun (bytes ++ more)) connection world told)
      (sym (ap (inputs_from (setting_of config)) (frames-ended bytes more none)))
      (subst (λ h. IsStanding fixed node front.replica conn (inputs_in (setting_of config) bytes) h connection world told)
      (none ∙ sym (begun-ended bytes more none)) (record {
        count = standing.count;
        client = standing.client;
        here = standing.here;
        placed = standing.placed;
        marked = standing.marked;
        dropped = standing.dropped;
        restores = restores_as law.story told conn connection connection standing.here refl refl refl refl standing.restores;
        stands = standing.stands;
      }))

  -- the frames that are sent behind the answer that ended a session are answered by nothing
  finished_on : (passed rest : List Input) (asked : Request) (before : List Answer) (final : Answer)
      → (standing : IsStanding fixed node front.replica conn (inputs_in (setting_of config) bytes) (begun bytes) connection world law.story)
      → connection.stage ≡ Ended → inputs_in (setting_of config) bytes ≡ passed ++ Asks asked ∷ rest → AreAnswered passed before
      → law.story.told conn ≡ before ++ final ∷ [] → ends final.reply ≡ true → law.story.talk.answers conn ≡ law.story.told conn
      → standing.here ≡ place.nowhere
      → IsStanding fixed node front.replica conn (inputs_in (setting_of config) (bytes ++ more)) (begun (bytes ++ more)) connection world told
  finished_on passed rest asked before final standing stage parts answered is_told is_end said none =
      let reader : Read = reading_of (setting_of config) bytes in
      let behind : List Input = inputs_of_more (setting_of config) reader more in
      let now : inputs_in (setting_of config) (bytes ++ more) ≡ passed ++ Asks asked ∷ (rest ++ behind) =
      inputs_with_more (setting_of config) bytes more reader refl ∙ ap (λ f. f ++ behind) parts ∙ append_assoc passed (Asks asked ∷ rest) behind in
      record {
        count = standing.count;
        client = standing.client ∙ ap (λ t. Some (record { at = node; given = greeting ++ t }))
            (ap (λ f. replies_to f (law.story.told conn)) parts ∙ ap (λ t. replies_to (passed ++ Asks asked ∷ rest) t) is_told
            ∙ end_told silent passed before asked rest final [] answered is_end
            ∙ sym (end_told silent passed before asked (rest ++ behind) final [] answered is_end)
            ∙ ap (λ t. replies_to (passed ++ Asks asked ∷ (rest ++ behind)) t) (sym is_told) ∙ ap (λ f. replies_to f (law.story.told conn)) (sym now));
        here = standing.here;
        placed = standing.placed;
        marked = standing.marked;
        dropped = standing.dropped;
        restores = restores_as law.story told conn connection connection standing.here refl refl refl refl standing.restores;
        stands = finished passed (rest ++ behind) asked before final stage now answered is_told is_end said none;
      }

  -- behind a command that waits they wait
  held_more : stop ≡ silent → HasBegunSo connection (reading_of (setting_of config) bytes) → HoldsBack connection.stage
      → (connection.reader ≡ reading_of (setting_of config) bytes → Behind config heard world law conn bytes more node front connection e at fits)
      → KeepsOn config law.story law.stops after (with_front world node (bytes_in front conn more))
  held_more open_is reader holds behind =
      let has_reader = waiting_reader connection (reading_of (setting_of config) bytes) holds reader in
      taken_more open_is (at_waiting front conn more connection at.has holds) has_reader
      (held_noops config heard world law conn bytes more node front connection e at fits holds) (behind has_reader)

  -- ---- whatever it is at

  stands_more : LinksStand config world → stop ≡ silent → HasBegunSo connection (reading_of (setting_of config) bytes)
      → (standing : IsStanding fixed node front.replica conn (inputs_in (setting_of config) bytes) (begun bytes) connection world law.story)
      → Stands fixed node conn (inputs_in (setting_of config) bytes) (begun bytes) connection (law.story.told conn)
      (law.story.talk.answers conn) (law.story.course.sessions conn) standing.here
      → KeepsOn config law.story law.stops after (with_front world node (bytes_in front conn more))
  stands_more links open_is reader standing (reads stage waiting session lasts all said none) =
      let has_reader = reading_reader connection (reading_of (setting_of config) bytes) stage reader in
      let reading : IsReading fixed node front.replica conn (inputs_in (setting_of config) bytes) connection world law.story = record {
        stage_is = stage;
        waiting_is = waiting;
        session_is = session;
        goes_on = lasts;
        count = standing.count;
        answered = all;
        said = said;
        client = standing.client;
        nothing = subst (λ p. IsInPlaceOf fixed world node front.replica (next_id conn (law.story.told conn)) p) none standing.placed;
      } in
      taken_more open_is (at_reading front conn more connection at.has stage) has_reader
      (reading_noops config heard world law conn bytes more node front connection e at fits reading)
      (reading_behind config heard world law conn bytes more node front connection e at fits links has_reader reading)
  stands_more links open_is reader standing (waits waiting) =
      held_more open_is reader (subst HoldsBack (sym waiting.stage) tt) (λ has_reader.
      waiting_behind config heard world law conn bytes more node front connection e at fits has_reader standing waiting)
  stands_more links open_is reader standing (lists waiting) =
      held_more open_is reader (subst HoldsBack (sym waiting.stage) tt) (λ has_reader.
      listing_behind config heard world law conn bytes more node front connection e at fits has_reader standing waiting)
  stands_more links open_is reader standing (faulted stage none lengths said lasts at_none) = over_more open_is stage (faulted_on standing none)
  stands_more links open_is reader standing (finished passed rest asked before final stage parts answered is_told is_end said none) =
      over_more open_is stage (finished_on passed rest asked before final standing stage parts answered is_told is_end said none)

-- ---- the event

at_front : (world : World) (conn : ℕ) (bytes node : List ℕ) (front : Front) (given : List ℕ)
    → client_at world conn ≡ Some (record { at = node; given = given }) → front_at world node ≡ Some front
    → all_of_client world (Piece conn bytes) (client_at world conn) ≡ with_front world node (bytes_in front conn bytes)
unfolding all_of_client
at_front world conn bytes node front given at is =
    ap (all_of_client world (Piece conn bytes)) at ∙ front_all_come world node (Piece conn bytes) front is

data_by : (config : Config) (heard : ℕ → Heard) (world : World) (conn : ℕ) (bytes : List ℕ) (law : KeepsLaw config heard world) (stop : Stop) (was : Heard)
    → LinksStand config world → law.stops conn ≡ stop → heard conn ≡ was
    → NumbersFit (after_data config heard conn bytes) → MasterServes config → ConnectionIs (fixed_of config) conn world law.story stop was
    → KeepsOn config law.story law.stops (after_data config heard conn bytes) (all_of_client world (Piece conn bytes) (client_at world conn))
unfolding all_of_client carry_all
data_by config heard world conn bytes law stop was links s e fits serves (is_nobody none fronts untold) =
    subst (λ c. KeepsOn config law.story law.stops (after_data config heard conn bytes) (all_of_client world (Piece conn bytes) c)) (sym none)
    (same_kept config heard (after_data config heard conn bytes) world
    (still_heard config heard conn bytes (ap (λ h. hears config conn h (Data conn bytes)) e ∙ nothing_heard config conn bytes ∙ sym e)) law)
data_by config heard world conn bytes law stop was links s e fits serves (is_elsewhere node given at none untold) =
    subst (λ c. KeepsOn config law.story law.stops (after_data config heard conn bytes) (all_of_client world (Piece conn bytes) c)) (sym at)
    (elsewhere_kept config heard (after_data config heard conn bytes) world node conn (Piece conn bytes) given refl serves at none law
    (still_heard config heard conn bytes (ap (λ h. hears config conn h (Data conn bytes)) e ∙ elsewhere_heard config conn bytes ∙ sym e)))
data_by config heard world conn bytes law stop was links s e fits serves (is_open b node front connection at reader standing) =
    subst (λ w. KeepsOn config law.story law.stops (after_data config heard conn bytes) w)
    (sym (at_front world conn bytes node front _ standing.client at.at))
    (stands_more config heard world law conn b bytes node front connection e at fits stop s links refl reader standing standing.stands)
data_by config heard world conn bytes law stop was links s e fits serves (is_cut_off b node front connection at gone next) =
    subst (λ w. KeepsOn config law.story law.stops (after_data config heard conn bytes) w)
    (sym (at_front world conn bytes node front _ gone.client at.at))
    (cut_more config heard world law conn b bytes node front connection e at fits stop s refl gone next)
data_by config heard world conn bytes law stop was links s e fits serves (is_closed shut b node front connection at gone) =
    subst (λ w. KeepsOn config law.story law.stops (after_data config heard conn bytes) w)
    (sym (at_front world conn bytes node front _ gone.client at.at
    ∙ ap (with_front world node) (at_ended front conn bytes connection at.has gone.stage_is)))
    (put_kept config heard (after_data config heard conn bytes) world node (state.Front front) (front_is (node_at world node) front at.at)
    (still_heard config heard conn bytes (ap (λ h. hears config conn h (Data conn bytes)) e ∙ closed_heard config conn b bytes ∙ sym e)) law)

pub data_keeps : (config : Config) (heard : ℕ → Heard) (world : World) (conn : ℕ) (bytes : List ℕ) (law : KeepsLaw config heard world) → LinksStand config world
    → NumbersFit (after_data config heard conn bytes) → MasterServes config
    → KeepsOn config law.story law.stops (after_data config heard conn bytes) (all_of_client world (Piece conn bytes) (client_at world conn))
data_keeps config heard world conn bytes law links fits serves =
    data_by config heard world conn bytes law (law.stops conn) (heard conn) links refl refl fits serves (law.connections conn)
