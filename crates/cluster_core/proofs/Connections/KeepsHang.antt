-- A client that closes its connection keeps the law.
use Rattle.std.proofs.Common.{◌≡◌, ◌≢◌, ℕ, ◌+◌, true, false, nat_eq, List, [], ◌∷◌, ◌++◌, length, Option, Some, refl, sym, ◌∙◌, ap, subst, arith}
use Rattle.std.proofs.Math.Logic.{⊎_elim}
use Rattle.std.proofs.lemmas.Bool.{cases_eq}
use Rattle.std.proofs.lemmas.Bool.Decides.{nat_tests}
use Rattle.std.proofs.lemmas.List.{append-nil}
use Rattle.cluster_core.specs.Heard.{hears}
use Rattle.cluster_core.specs.World.{setting_of, carry_all, client_at}
use Rattle.front_core.proofs.OneConnection.Readings.{inputs_in}
use Rattle.front_core.specs.declared.connection.Connection.{Connection}
use Rattle.front_core.specs.declared.front.Front.{Front}
use Rattle.front_core.specs.Front.{front_hang_at, hang, hung_up, still}
use Rattle.imap_talk.specs.Heard.{Heard, nobody, elsewhere, client, frames_heard}
use Rattle.imap_talk.specs.Inputs.{requests_in}
use Rattle.imap_talk.specs.declared.inputs.Input.{Input}
use Rattle.imap_talk.specs.declared.inputs.Input.TheVariants.{Asks}
use Rattle.imap_talk.proofs.InputLaws.{requests-append}
use Rattle.imap_talk.proofs.RequestsOf.{answered_lengths, next_request, requests_of}
use Rattle.imap_types.specs.declared.command.Command.{Command}
use Rattle.imap_types.specs.declared.command.Tag.{Tag}
use Rattle.imap_types.specs.declared.request.Answer.{Answer}
use Rattle.imap_types.specs.declared.request.Request.TheVariants.{Command as a_command}
use Rattle.imap_wire.specs.Frames.{begun}
use Rattle.mark_history.specs.Marked.{talk_told}
use Rattle.mur_config.specs.declared.config.Config.{Config}
use Rattle.mur_model.specs.History.{numbered}
use Rattle.mur_model.specs.declared.session.Sess.{Sess}
use Rattle.mur_model.proofs.HistoryGrows.{same_talk}
use Rattle.node_step.specs.declared.input.NodeInput.TheVariants.{Hung}
use Rattle.schedule_text.specs.declared.event.Event.TheVariants.{Hang}
use Rattle.cluster_core.specs.declared.world.World.{World}
use Rattle.imap_talk.specs.Transcript.{Stop}
use Rattle.imap_talk.specs.Transcript.Stop.{is_lost, silent}
use Rattle.cluster_core.proofs.Commands.Place.{Place}
use Rattle.cluster_core.proofs.Commands.Released.{stands_last, waits_next}
use Rattle.cluster_core.proofs.Commands.Standing.{Fixed, IsLeft, IsNext, LeftWaiting, Stands, Waiting}
use Rattle.cluster_core.proofs.Commands.Standing.IsLeft.{nothing, left_waiting, left_listing}
use Rattle.cluster_core.proofs.Commands.Standing.Stands.{reads, waits, lists, faulted, finished}
use Rattle.cluster_core.proofs.Connections.ConnectionLaw.{keeps_all, same_story}
use Rattle.cluster_core.proofs.Connections.KeepsFront.{front_keeps, gone_after, is_at_after, turned_so, with_connection, world_after}
use Rattle.cluster_core.proofs.Connections.KeepsLaw.{ConnectionIs, IsAt, IsGone, KeepsLaw, KeepsOn, fixed_of}
use Rattle.cluster_core.proofs.Connections.KeepsLaw.ConnectionIs.{is_nobody, is_elsewhere, is_open, is_cut_off, is_closed}
use Rattle.cluster_core.proofs.Connections.KeepsStill.{MasterServes, elsewhere_kept, same_kept}
use Rattle.cluster_core.proofs.Connections.StillFed.{feeds_alike, fronts_were}
use Rattle.cluster_core.proofs.Feeds.Many.{front_keeps_many}
use Rattle.cluster_core.proofs.Nodes.AllCome.{all_of_client, front_all_come}
use Rattle.cluster_core.proofs.Nodes.Comes.{front_moved, with_front}

abbrev pub after_hang : Config → (ℕ → Heard) → ℕ → ℕ → Heard
after_hang config heard conn other = hears config other (heard other) (Hang conn)

other_heard : (config : Config) (conn other : ℕ) (heard : Heard) → other ≢ conn → hears config other heard (Hang conn) ≡ heard
unfolding hears
other_heard config conn other nobody ne = refl
other_heard config conn other elsewhere ne = refl
other_heard config conn other (client b true) ne = refl
other_heard config conn other (client b false) ne = let apart : nat_eq other conn ≡ false = grind (arith, nat_tests) in rw apart refl

heard_closed : (config : Config) (conn : ℕ) (bytes : List ℕ) (heard : Heard) → heard ≡ client bytes false
    → hears config conn heard (Hang conn) ≡ client bytes true
unfolding hears
heard_closed config conn bytes heard e = let same : nat_eq conn conn ≡ true = grind (arith, nat_tests) in rw (e, same) refl

-- ---- what is left of a connection

-- of the requests of its client it is the next
next_left : (all : List Input) (held : Option (List ℕ)) (connection : Connection) (told : List Answer) (tag : Tag) (it : Command)
    → IsNext all held connection told tag it → numbered (requests_in all) (length told + 1) ≡ Some (a_command tag it)
unfolding requests_in
next_left all held connection told tag it next =
    subst (λ r. numbered r (length told + 1) ≡ Some (a_command tag it))
    (sym (ap requests_in next.parts ∙ requests-append next.passed (Asks next.request ∷ connection.waiting)
    ∙ ap (λ r. requests_in next.passed ++ r ∷ requests_in connection.waiting) next.is))
    (next_request (requests_in next.passed) (requests_in connection.waiting) (a_command tag it) (length told)
    (answered_lengths next.passed told next.answered))

-- a command that waits when its client closes the connection
pub left_behind : (fixed : Fixed) (front : List ℕ) (conn : ℕ) (all : List Input) (held : Option (List ℕ)) (connection : Connection)
    (told said : List Answer) (session : Sess) (here : Place) → Waiting fixed front conn all held connection told said session here
    → LeftWaiting fixed front conn (requests_in all) told said session here
left_behind fixed front conn all held connection told said session here waiting = record {
  tag = waiting.tag;
  c = waiting.c;
  of = record { setting_is = (waiting.of).setting_is; its = (waiting.of).its; was_is = refl };
  next = next_left all held connection told waiting.tag (waiting.c).it
      (waits_next fixed front conn all held connection told said session here waiting);
  knows = waiting.knows;
}

pub left_by : (fixed : Fixed) (front : List ℕ) (conn : ℕ) (all : List Input) (held : Option (List ℕ)) (connection : Connection)
    (told said : List Answer) (session : Sess) (here : Place) → Stands fixed front conn all held connection told said session here
    → IsLeft fixed front conn (requests_in all) told said session here
left_by fixed front conn all held connection told said session here (reads stage waiting s lasts answered same at) =
    nothing [] (same ∙ sym (append-nil told)) (omega arith) at
left_by fixed front conn all held connection told said session here (waits waiting) =
    left_waiting (left_behind fixed front conn all held connection told said session here waiting)
left_by fixed front conn all held connection told said session here (lists waiting) = left_listing (record {
  tag = waiting.tag;
  it = waiting.it;
  listing = waiting.listing;
  was = connection.session;
  need = waiting.need;
  next = next_left all held connection told waiting.tag waiting.it waiting.next;
  knows = waiting.knows;
})
left_by fixed front conn all held connection told said session here (faulted stage none lengths same lasts at) =
    nothing [] (same ∙ sym (append-nil told)) (omega arith) at
left_by fixed front conn all held connection told said session here
    (finished passed more request before final stage parts answered is_told is_end same at) =
    nothing [] (same ∙ sym (append-nil told)) (omega arith) at

-- ---- the step

hangs_at : (world : World) (conn : ℕ) (node : List ℕ) (front : Front) (connection : Connection) (given : List ℕ)
    → client_at world conn ≡ Some (record { at = node; given = given })
    → IsAt world conn node front connection
    → all_of_client world (Hung conn) (client_at world conn) ≡ world_after world node front conn (hung_up connection) []
unfolding all_of_client hang front_hang_at
hangs_at world conn node front connection given at is = ap (all_of_client world (Hung conn)) at ∙ front_all_come world node (Hung conn) front is.at
    ∙ ap (λ f. with_front world node (still (front_hang_at front conn f))) is.has

-- a connection at its frontend is closed
closes : (config : Config) (heard : ℕ → Heard) (world : World) (conn : ℕ) (law : KeepsLaw config heard world) (bytes node : List ℕ) (front : Front)
    (connection : Connection) → IsAt world conn node front connection
    → law.story.talk.requests conn ≡ requests_in (inputs_in (setting_of config) bytes) → after_hang config heard conn conn ≡ client bytes true
    → IsGone (fixed_of config) node front.replica conn (inputs_in (setting_of config) bytes) (law.stops conn) (hung_up connection) world law.story
    → KeepsOn config law.story law.stops (after_hang config heard conn) (world_after world node front conn (hung_up connection) [])
unfolding carry_all frames_heard
closes config heard world conn law bytes node front connection at asked now gone =
    let later : Front = with_connection front conn (hung_up connection) in
    let next : World = world_after world node front conn (hung_up connection) [] in
    let moved = front_moved world node front (turned_so front conn (hung_up connection) []) at.at in
    front_keeps config heard (after_hang config heard conn) world law world.links conn node front connection (hung_up connection) [] law.story law.story law.stops (λ other ne. refl)
    (λ other ne. record { in_place = λ f r c here is. is; in_none = λ is. is })
    at.at at.has (same_talk (talk_told law.story)) refl refl refl refl
    (λ other. ⊎_elim
    (λ (same : other ≡ conn). subst (λ c. law.story.talk.requests c ≡ requests_of (setting_of config) (frames_heard (after_hang config heard conn c)))
    (sym same)
    (asked ∙ sym (ap (λ h. requests_of (setting_of config) (frames_heard h)) now)))
    (λ (ne : other ≢ conn). law.requests other ∙ ap (λ h. requests_of (setting_of config) (frames_heard h)) (sym (other_heard config conn other
    (heard other) ne)))
    (cases_eq other conn))
    (λ other ne. other_heard config conn other (heard other) ne) (λ shut. (refl, refl))
    (record { others = keeps_all (fixed_of config) conn world; goes_on = same_story conn law.story; store = refl; is_told = law.is_told })
    (front_keeps_many config world law.master law.given law.story.course.store law.nodes law.many node front
    (turned_so front conn (hung_up connection) []) at.at)
    (feeds_alike config world next law.master moved.homes refl refl (fronts_were world next node front later at.at moved refl) law.feeds)
    (subst (λ h. ConnectionIs (fixed_of config) conn next law.story (law.stops conn) h) (sym now)
    (is_closed (law.stops conn) bytes node later (hung_up connection)
    (is_at_after world node front conn connection (hung_up connection) [] at.at at.has)
    (gone_after (fixed_of config) world node front conn (hung_up connection) (inputs_in (setting_of config) bytes) (law.stops conn) front.replica law.story at.at gone)))

pub still_heard : (config : Config) (heard : ℕ → Heard) (conn : ℕ) → after_hang config heard conn conn ≡ heard conn
    → (other : ℕ) → after_hang config heard conn other ≡ heard other
still_heard config heard conn same other = ⊎_elim
    (λ (e : other ≡ conn). subst (λ c. after_hang config heard conn c ≡ heard c) (sym e) same)
    (λ (ne : other ≢ conn). other_heard config conn other (heard other) ne)
    (cases_eq other conn)

nothing_heard : (config : Config) (conn : ℕ) → hears config conn nobody (Hang conn) ≡ nobody
unfolding hears
nothing_heard config conn = refl

elsewhere_heard : (config : Config) (conn : ℕ) → hears config conn elsewhere (Hang conn) ≡ elsewhere
unfolding hears
elsewhere_heard config conn = refl

closed_heard : (config : Config) (conn : ℕ) (bytes : List ℕ) → hears config conn (client bytes true) (Hang conn) ≡ client bytes true
unfolding hears
closed_heard config conn bytes = refl

-- one that has ended, too
hung_gone : (config : Config) {heard : ℕ → Heard} (world : World) (conn : ℕ) (law : KeepsLaw config heard world) (bytes node : List ℕ) (front : Front)
    (connection : Connection) (stop : Stop)
    → IsGone (fixed_of config) node front.replica conn (inputs_in (setting_of config) bytes) stop connection world law.story
    → IsGone (fixed_of config) node front.replica conn (inputs_in (setting_of config) bytes) stop (hung_up connection) world law.story
hung_gone config world conn law bytes node front connection stop gone = record {
  stage_is = refl;
  count = gone.count;
  lasts = gone.lasts;
  client = gone.client;
  here = gone.here;
  placed = gone.placed;
  marked = gone.marked;
  left = gone.left;
  cut = gone.cut;
}

hang_by : (config : Config) (heard : ℕ → Heard) (world : World) (conn : ℕ) (law : KeepsLaw config heard world) (stop : Stop) (was : Heard)
    → law.stops conn ≡ stop → heard conn ≡ was → MasterServes config → ConnectionIs (fixed_of config) conn world law.story stop was
    → KeepsOn config law.story law.stops (after_hang config heard conn) (all_of_client world (Hung conn) (client_at world conn))
unfolding all_of_client frames_heard
hang_by config heard world conn law stop was s e serves (is_nobody none fronts untold) =
    subst (λ c. KeepsOn config law.story law.stops (after_hang config heard conn) (all_of_client world (Hung conn) c)) (sym none)
    (same_kept config heard (after_hang config heard conn) world
    (still_heard config heard conn (ap (λ h. hears config conn h (Hang conn)) e ∙ nothing_heard config conn ∙ sym e)) law)
hang_by config heard world conn law stop was s e serves (is_elsewhere node given at none untold) =
    subst (λ c. KeepsOn config law.story law.stops (after_hang config heard conn) (all_of_client world (Hung conn) c)) (sym at)
    (elsewhere_kept config heard (after_hang config heard conn) world node conn (Hung conn) given refl serves at none law
    (still_heard config heard conn (ap (λ h. hears config conn h (Hang conn)) e ∙ elsewhere_heard config conn ∙ sym e)))
hang_by config heard world conn law stop was s e serves (is_open bytes node front connection at reader standing) =
    subst (λ w. KeepsOn config law.story law.stops (after_hang config heard conn) w)
    (sym (hangs_at world conn node front connection _ standing.client at))
    (closes config heard world conn law bytes node front connection at (law.requests conn ∙ ap (λ h. requests_of (setting_of config) (frames_heard h)) e)
    (heard_closed config conn bytes (heard conn) e)
    (subst (λ t. IsGone (fixed_of config) node front.replica conn (inputs_in (setting_of config) bytes) t (hung_up connection) world law.story) (sym s)
    (record {
      stage_is = refl;
      count = standing.count;
      client = standing.client;
      lasts = stands_last (fixed_of config) node conn (inputs_in (setting_of config) bytes) (begun bytes) connection
          (law.story.told conn) (law.story.talk.answers conn) (law.story.course.sessions conn) standing.here standing.stands;
      here = standing.here;
      placed = standing.placed;
      marked = standing.marked;
      left = left_by (fixed_of config) node conn (inputs_in (setting_of config) bytes) (begun bytes) connection
          (law.story.told conn) (law.story.talk.answers conn) (law.story.course.sessions conn) standing.here standing.stands;
      cut = λ lost. absurd (let no : silent ≡ is_lost = lost in cc);
    })))
hang_by config heard world conn law stop was s e serves (is_cut_off bytes node front connection at gone next) =
    subst (λ w. KeepsOn config law.story law.stops (after_hang config heard conn) w)
    (sym (hangs_at world conn node front connection _ gone.client at))
    (closes config heard world conn law bytes node front connection at (law.requests conn ∙ ap (λ h. requests_of (setting_of config) (frames_heard h)) e)
    (heard_closed config conn bytes (heard conn) e)
    (subst (λ t. IsGone (fixed_of config) node front.replica conn (inputs_in (setting_of config) bytes) t (hung_up connection) world law.story) (sym s)
    (hung_gone config world conn law bytes node front connection is_lost gone)))
hang_by config heard world conn law stop was s e serves (is_closed shut bytes node front connection at gone) =
    subst (λ w. KeepsOn config law.story law.stops (after_hang config heard conn) w)
    (sym (hangs_at world conn node front connection _ gone.client at))
    (closes config heard world conn law bytes node front connection at (law.requests conn ∙ ap (λ h. requests_of (setting_of config) (frames_heard h)) e)
    (ap (λ h. hears config conn h (Hang conn)) e ∙ closed_heard config conn bytes)
    (subst (λ t. IsGone (fixed_of config) node front.replica conn (inputs_in (setting_of config) bytes) t (hung_up connection) world law.story) (sym s)
    (hung_gone config world conn law bytes node front connection shut gone)))

pub hang_keeps : (config : Config) (heard : ℕ → Heard) (world : World) (conn : ℕ) (law : KeepsLaw config heard world) → MasterServes config
    → KeepsOn config law.story law.stops (after_hang config heard conn) (all_of_client world (Hung conn) (client_at world conn))
hang_keeps config heard world conn law serves = hang_by config heard world conn law (law.stops conn) (heard conn) refl refl serves (law.connections conn)
