-- A connection that is opened keeps the law.
use Rattle.std.proofs.Common.{◌≡◌, ◌≢◌, ℕ, ◌+◌, Bool, true, false, nat_eq, List, [], ◌∷◌, ◌++◌, length, Option, None, Some, inr, refl, sym, ◌∙◌, ap, subst, arith}
use Rattle.std.specs.Prelude.{is_some}
use Rattle.std.specs.Ordering.{nat_cmp}
use Rattle.std.specs.Cmp.Lexicographic.{slice_cmp}
use Rattle.std.proofs.Math.Logic.{⊎_elim}
use Rattle.std.proofs.lemmas.Bool.{cases_eq}
use Rattle.std.proofs.lemmas.Bool.Decides.{nat_tests}
use Rattle.std.proofs.lemmas.List.{append-nil}
use Rattle.cluster_core.specs.Heard.{hears, is_frontend, opened_at}
use Rattle.cluster_core.specs.World.{setting_of, carry, carry_all, client_at, front_at, given_more, home_at, with_client, with_state}
use Rattle.cluster_core.specs.declared.world.Client.{Client}
use Rattle.front_core.specs.Reading.{first_reading}
use Rattle.front_core.proofs.OneConnection.Readings.{inputs_in, reading_of}
use Rattle.front_core.specs.declared.front.Front.{Front}
use Rattle.front_core.specs.Front.{Stepped, connection_at, connect, connect_at}
use Rattle.front_core.specs.Slots.{new_connection}
use Rattle.imap_reply.specs.Greeting.{greeting}
use Rattle.imap_talk.specs.Heard.{Heard, nobody, elsewhere, client, frames_heard}
use Rattle.imap_talk.specs.Inputs.{at_first, before_next, inputs_of}
use Rattle.imap_talk.specs.SessionEnds.{has_ended}
use Rattle.imap_talk.specs.Transcript.{Stop, replies_to, told_till}
use Rattle.imap_talk.specs.Transcript.Stop.{silent}
use Rattle.imap_talk.proofs.RequestsOf.{requests_of}
use Rattle.imap_talk.proofs.TranscriptGrows.{AreAnswered, none_answered}
use Rattle.imap_types.specs.declared.request.Answer.{Answer}
use Rattle.imap_wire.specs.Frames.{begun}
use Rattle.imap_wire.proofs.FeedLaws.{frames-nil}
use Rattle.link_msg.specs.declared.out.Out.TheVariants.{Client as to_client}
use Rattle.many_links.specs.ManyHold.{ManyHold}
use Rattle.mark_history.specs.Marked.{Tale, talk_told}
use Rattle.mur_base.specs.Map.{with_value, with_entry}
use Rattle.mur_base.proofs.MapLaws.{numbers_apart, value_at-with_value, value_at-with_value-other, value_at-with_entry, value_at-with_entry-other}
use Rattle.mur_config.specs.declared.config.Config.{Config}
use Rattle.mur_model.specs.declared.setting.Setting.{Setting}
use Rattle.mur_model.proofs.HistoryGrows.{same_talk, talks_follow}
use Rattle.node_step.specs.declared.input.NodeInput.TheVariants.{Opened}
use Rattle.node_step.specs.declared.node.NodeState.TheVariants as state
use Rattle.schedule_text.specs.declared.event.Event.TheVariants.{Open}
use Rattle.cluster_core.specs.declared.world.World.{World}
use Rattle.std.proofs.lemmas.Option.{same_Some}
use Rattle.cluster_core.proofs.Commands.Place.{Place as place}
use Rattle.cluster_core.proofs.Commands.Standing.{Fixed}
use Rattle.cluster_core.proofs.Commands.Standing.Stands.{reads}
use Rattle.cluster_core.proofs.Connections.ConnectionLaw.{PlacesStay, says_same, says_then}
use Rattle.cluster_core.proofs.Connections.KeepsFront.{fronts_at_other, replicas_stay}
use Rattle.cluster_core.proofs.Connections.KeepsLaw.{AreNodesOf, ConnectionIs, IsUntold, KeepsLaw, KeepsOn, fixed_of, murder_of}
use Rattle.cluster_core.proofs.Connections.KeepsLaw.ConnectionIs.{is_nobody, is_elsewhere, is_open, is_cut_off, is_closed}
use Rattle.cluster_core.proofs.Connections.KeepsStill.{MasterServes, elsewhere_kept, same_kept}
use Rattle.cluster_core.proofs.Connections.Nowhere.{in_nowhere}
use Rattle.cluster_core.proofs.Connections.Stays.{ReplicasStay, fixed_places, same_front, each_stays}
use Rattle.cluster_core.proofs.Connections.StillFed.{feeds_alike, fronts_were}
use Rattle.cluster_core.proofs.Feeds.Many.{front_keeps_many, same_murder}
use Rattle.cluster_core.proofs.Nodes.AllCome.{all_come, all_open, front_all_come}
use Rattle.cluster_core.proofs.Nodes.Comes.{FrontMoved, front_moved, with_front}
use Rattle.cluster_core.proofs.Nodes.Stay.{front_cores, same_nodes}
use Rattle.cluster_core.proofs.Places.FrontWorlds.{alike_stay}

-- ---- what is heard

-- nothing is heard anew of a connection that was opened before, nor of another one
heard_before : (config : Config) (conn : ℕ) (heard : Heard) (node : List ℕ) (other : ℕ) → (heard ≡ nobody → conn ≢ other)
    → hears config conn heard (Open node other) ≡ heard
unfolding hears
heard_before config conn nobody node other ne = let apart : nat_eq conn other ≡ false = by (ne refl) in rw apart refl
  where
    by : conn ≢ other → nat_eq conn other ≡ false
    by k = grind (arith, nat_tests)
heard_before config conn elsewhere node other ne = refl
heard_before config conn (client bytes true) node other ne = refl
heard_before config conn (client bytes false) node other ne = refl

has_client : (fixed : Fixed) (conn : ℕ) (world : World) (story : Tale) (stop : Stop) (heard : Heard) (there : Client)
    → client_at world conn ≡ Some there → ConnectionIs fixed conn world story stop heard → heard ≡ nobody → ⊥
has_client fixed conn world story stop heard there at (is_nobody none fronts untold) e = cc
has_client fixed conn world story stop heard there at (is_elsewhere node given is none untold) e = cc
has_client fixed conn world story stop heard there at (is_open bytes node front connection is reader standing) e = cc
has_client fixed conn world story stop heard there at (is_cut_off bytes node front connection is gone next) e = cc
has_client fixed conn world story stop heard there at (is_closed shut bytes node front connection is gone) e = cc

-- a connection without a client was never heard of
record IsNew (fixed : Fixed) (conn : ℕ) (world : World) (story : Tale) (stop : Stop) (heard : Heard) : Type 0 where
  nobody_is : heard ≡ nobody
  is_silent : stop ≡ silent
  fronts : (node : List ℕ) (front : Front) → front_at world node ≡ Some front → connection_at front conn ≡ None
  untold : IsUntold fixed conn world story

is_new : (fixed : Fixed) (conn : ℕ) (world : World) (story : Tale) (stop : Stop) (heard : Heard) → client_at world conn ≡ None
    → ConnectionIs fixed conn world story stop heard → IsNew fixed conn world story stop heard
is_new fixed conn world story stop heard at (is_nobody none fronts untold) = record { nobody_is = refl; is_silent = refl; fronts = fronts; untold = untold }
is_new fixed conn world story stop heard at (is_elsewhere node given is none untold) = cc
is_new fixed conn world story stop heard at (is_open bytes node front connection is reader standing) = (let k = standing.client in cc)
is_new fixed conn world story stop heard at (is_cut_off bytes node front connection is gone next) = (let k = gone.client in cc)
is_new fixed conn world story stop heard at (is_closed shut bytes node front connection is gone) = (let k = gone.client in cc)

hears_first : (config : Config) (conn : ℕ) (heard : Heard) (node : List ℕ) (frontend : Bool) → heard ≡ nobody → is_frontend config node ≡ frontend
    → hears config conn heard (Open node conn) ≡ opened_at frontend
unfolding hears
hears_first config conn heard node frontend e f = let same : nat_eq conn conn ≡ true = grind (arith, nat_tests) in rw (e, same, f) refl

clients_other : (world : World) (node : List ℕ) (conn other : ℕ) → other ≢ conn → client_at (with_client world node conn) other ≡ client_at world other
clients_other world node conn other ne = value_at-with_entry-other nat_cmp numbers_apart world.clients conn other (record { at = node; given = [] }) ne

first_frames : (frontend : Bool) → frames_heard (opened_at frontend) ≡ []
unfolding frames_heard
first_frames true = sym frames-nil
first_frames false = refl

abbrev pub after_open : Config → (ℕ → Heard) → List ℕ → ℕ → ℕ → Heard
after_open config heard node conn other = hears config other (heard other) (Open node conn)

other_after : (config : Config) (heard : ℕ → Heard) (node : List ℕ) (conn other : ℕ) → other ≢ conn → after_open config heard node conn other ≡ heard other
other_after config heard node conn other ne = heard_before config other (heard other) node conn (λ _. ne)

nothing_yet : (heard : Heard) → heard ≡ nobody → frames_heard heard ≡ []
unfolding frames_heard
nothing_yet heard e = ap frames_heard e

requests_first : (config : Config) (story : Tale) (heard : ℕ → Heard) (conn : ℕ) (node : List ℕ) → heard conn ≡ nobody
    → ((c : ℕ) → story.talk.requests c ≡ requests_of (setting_of config) (frames_heard (heard c)))
    → (other : ℕ) → story.talk.requests other ≡ requests_of (setting_of config) (frames_heard (after_open config heard node conn other))
requests_first config story heard conn node e all other = ⊎_elim
    (λ (same : other ≡ conn). subst (λ c. story.talk.requests c ≡ requests_of (setting_of config) (frames_heard (after_open config heard node conn c)))
    (sym same)
    (all conn ∙ ap (requests_of (setting_of config)) (nothing_yet (heard conn) e
    ∙ sym (ap frames_heard (hears_first config conn (heard conn) node (is_frontend config node) e refl) ∙ first_frames (is_frontend config node)))))
    (λ (ne : other ≢ conn). all other ∙ ap (λ h. requests_of (setting_of config) (frames_heard h)) (sym (other_after config heard node conn other ne)))
    (cases_eq other conn)

-- ---- at a node that is no frontend

joined_keeps : (config : Config) (heard : ℕ → Heard) (world : World) (node : List ℕ) (conn : ℕ) (law : KeepsLaw config heard world)
    → front_at world node ≡ None → IsNew (fixed_of config) conn world law.story (law.stops conn) (heard conn)
    → KeepsOn config law.story law.stops (after_open config heard node conn) (with_client world node conn)
joined_keeps config heard world node conn law none first =
    let fixed : Fixed = fixed_of config in
    let next : World = with_client world node conn in
    let off : is_frontend config node ≡ false = sym ((law.nodes).frontends node) ∙ ap is_some none in
    let stay : (other : ℕ) → PlacesStay fixed other world next = λ other. alike_stay fixed other world next (λ any. refl) refl in
    let replicas : ReplicasStay world next = λ any was now before later. ap (λ (f : Front). f.replica) (same_Some _ _ (sym later ∙ before)) in
    record {
      law = record {
        master = law.master;
        nodes = same_nodes config world next law.master refl law.nodes;
        story = law.story;
        stops = law.stops;
        given = law.given;
        many = same_murder (murder_of world law.master) (murder_of next law.master) law.given law.story.course.store refl (λ any. refl) refl law.many;
        feeds = feeds_alike config world next law.master (λ any. refl) refl refl (λ any now there. record { was = now; at = there; same = refl }) law.feeds;
        is_told = law.is_told;
        requests = requests_first config law.story heard conn node first.nobody_is law.requests;
        connections = each_stays fixed world next law.story law.story law.stops law.stops heard (after_open config heard node conn) conn (opened_at false) law.connections
            (λ other ne. other_after config heard node conn other ne) (λ other ne. refl)
            (λ other ne. record {
              fronts = λ any. same_front other (front_at world any) (front_at next any) refl;
              client = clients_other world node conn other ne;
              in_place = fixed_places fixed other world next (stay other) replicas;
              in_none = (stay other).in_none;
              marks = λ command. refl;
              told = refl;
              said = refl;
              session = refl;
              before = refl;
              moving = refl;
              broken = refl;
            })
            (hears_first config conn (heard conn) node false first.nobody_is off)
            (subst (λ s. ConnectionIs fixed conn next law.story s elsewhere) (sym first.is_silent) (is_elsewhere node [] (value_at-with_entry nat_cmp numbers_apart world.clients conn (record { at = node; given = [] })) none
            (record {
              told = (first.untold).told;
              said = (first.untold).said;
              session = (first.untold).session;
              nothing = (stay conn).in_none (first.untold).nothing;
            })));
      };
      more = same_talk (talk_told law.story);
      grows = says_same law.story;
      closed = λ other shut. (refl, refl);
    }

elsewhere_keeps : (config : Config) (heard : ℕ → Heard) (world : World) (node : List ℕ) (conn : ℕ) (law : KeepsLaw config heard world) → MasterServes config
    → front_at world node ≡ None → IsNew (fixed_of config) conn world law.story (law.stops conn) (heard conn)
    → KeepsOn config law.story law.stops (after_open config heard node conn) (all_come (with_client world node conn) node (Opened conn))
elsewhere_keeps config heard world node conn law serves none first =
    let joined = joined_keeps config heard world node conn law none first in
    let after = after_open config heard node conn in
    let then = elsewhere_kept config after after (with_client world node conn) node conn (Opened conn) [] refl serves
    (value_at-with_entry nat_cmp numbers_apart world.clients conn (record { at = node; given = [] })) none joined.law (λ other. refl) in
    record {
      law = then.law;
      more = talks_follow (talk_told law.story) (talk_told joined.law.story) (talk_told then.law.story) joined.more then.more;
      grows = says_then law.story joined.law.story then.law.story joined.grows then.grows;
      closed = λ other shut. ((then.closed other shut).0 ∙ (joined.closed other shut).0, (then.closed other shut).1 ∙ (joined.closed other shut).1);
    }

-- ---- at a frontend

abbrev with_new : Front → ℕ → Front
with_new front conn = record front { connections = with_entry nat_cmp front.connections conn new_connection }

abbrev greets_it : Front → ℕ → Stepped
greets_it front conn = record { front = with_new front conn; outs = to_client conn greeting ∷ [] }

abbrev greeted : World → List ℕ → ℕ → Front → World
greeted world node conn front = record world {
  nodes = with_value (slice_cmp nat_cmp) world.nodes node (state.Front (with_new front conn));
  clients = with_value nat_cmp (with_entry nat_cmp world.clients conn (record { at = node; given = [] })) conn (record { at = node; given = [] ++ greeting });
}

connects : (front : Front) (conn : ℕ) → connection_at front conn ≡ None → connect front conn ≡ greets_it front conn
unfolding connect connect_at
connects front conn none = ap (connect_at front conn) none

greets : (world : World) (node : List ℕ) (conn : ℕ) (front : Front)
    → with_front (with_client world node conn) node (greets_it front conn) ≡ greeted world node conn front
unfolding carry_all carry given_more
greets world node conn front =
    ap (given_more (with_state (with_client world node conn) node (state.Front (with_new front conn))) conn greeting)
    (value_at-with_entry nat_cmp numbers_apart world.clients conn (record { at = node; given = [] }))

greeting_alone : (setting : Setting) (told : List Answer) → told ≡ [] → greeting ≡ greeting ++ replies_to (inputs_in setting []) told
unfolding told_till inputs_of
greeting_alone setting told e = rw (e, ← frames-nil) (sym (append-nil greeting))

all_answered : (setting : Setting) (told : List Answer) → told ≡ [] → AreAnswered (inputs_in setting []) told
unfolding inputs_of
all_answered setting told e = rw (e, ← frames-nil) none_answered

first_reader : (setting : Setting) → first_reading ≡ reading_of setting []
unfolding before_next
first_reader setting = ap (λ f. record { held = begun []; before = before_next setting at_first f }) frames-nil

front_keeps_open : (config : Config) (heard : ℕ → Heard) (world : World) (node : List ℕ) (conn : ℕ) (front : Front) (law : KeepsLaw config heard world)
    → front_at world node ≡ Some front → IsNew (fixed_of config) conn world law.story (law.stops conn) (heard conn)
    → KeepsOn config law.story law.stops (after_open config heard node conn) (greeted world node conn front)
unfolding new_connection
front_keeps_open config heard world node conn front law at first =
    let fixed : Fixed = fixed_of config in
    let joined : World = with_client world node conn in
    let next : World = greeted world node conn front in
    let later : Front = with_new front conn in
    let new_client : Client = record { at = node; given = [] } in
    let on : is_frontend config node ≡ true = sym ((law.nodes).frontends node) ∙ ap is_some at in
    let step : FrontMoved joined node later next =
    subst (λ w. FrontMoved joined node later w) (greets world node conn front) (front_moved joined node front (greets_it front conn) at) in
    let moved : FrontMoved world node later next = record { own = step.own; fronts = step.fronts; homes = step.homes; masters = step.masters } in
    let stay : (other : ℕ) → PlacesStay fixed other world next = λ other. alike_stay fixed other world next moved.homes refl in
    let nodes_then : AreNodesOf config joined law.master = same_nodes config world joined law.master refl law.nodes in
    let many_then : ManyHold (murder_of joined law.master) law.given law.story.course.store =
    same_murder (murder_of world law.master) (murder_of joined law.master) law.given law.story.course.store refl (λ any. refl) refl law.many in
    record {
      law = record {
        master = law.master;
        nodes = front_cores config world next law.master law.nodes node front later at
            (record { me = refl; master = refl; first = refl; setting = refl }) moved;
        story = law.story;
        stops = law.stops;
        given = law.given;
        many = subst (λ w. ManyHold (murder_of w law.master) law.given law.story.course.store) (greets world node conn front)
            (front_keeps_many config joined law.master law.given law.story.course.store nodes_then many_then node front (greets_it front conn) at);
        feeds = feeds_alike config world next law.master moved.homes refl refl (fronts_were world next node front later at moved refl) law.feeds;
        is_told = law.is_told;
        requests = requests_first config law.story heard conn node first.nobody_is law.requests;
        connections = each_stays fixed world next law.story law.story law.stops law.stops heard (after_open config heard node conn) conn (opened_at true) law.connections
            (λ other ne. other_after config heard node conn other ne) (λ other ne. refl)
            (λ other ne. record {
              fronts = fronts_at_other world next node front later other at moved
                  (value_at-with_entry-other nat_cmp numbers_apart front.connections conn other new_connection ne);
              client = value_at-with_value-other nat_cmp numbers_apart (with_entry nat_cmp world.clients conn new_client) conn other
                  (record { at = node; given = [] ++ greeting }) ne
                  ∙ clients_other world node conn other ne;
              in_place = fixed_places fixed other world next (stay other) (replicas_stay world next node front later at moved refl);
              in_none = (stay other).in_none;
              marks = λ command. refl;
              told = refl;
              said = refl;
              session = refl;
              before = refl;
              moving = refl;
              broken = refl;
            })
            (hears_first config conn (heard conn) node true first.nobody_is on)
            (subst (λ s. ConnectionIs fixed conn next law.story s (client [] false)) (sym first.is_silent) (is_open [] node later new_connection
            (record { at = moved.own; has = value_at-with_entry nat_cmp numbers_apart front.connections conn new_connection })
            (inr (first_reader (setting_of config)))
            (record {
              count = ap length (sym (first.untold).told);
              client = value_at-with_value nat_cmp numbers_apart (with_entry nat_cmp world.clients conn new_client) conn
                  (record { at = node; given = [] ++ greeting }) new_client
                  (value_at-with_entry nat_cmp numbers_apart world.clients conn new_client)
                  ∙ ap (λ g. Some (record { at = node; given = g })) (greeting_alone (setting_of config) (law.story.told conn) (first.untold).told);
              here = place.nowhere;
              placed = in_nowhere fixed.master (home_at next) next.links node later.replica conn (length (law.story.told conn) + 1)
                  ((stay conn).in_none (first.untold).nothing);
              marked = tt;
              dropped = tt;
              restores = tt;
              stands = reads refl refl (sym (first.untold).session) (ap has_ended (first.untold).session) (all_answered (setting_of config)
                  (law.story.told conn) (first.untold).told)
                  ((first.untold).said ∙ sym (first.untold).told) refl;
            })));
      };
      more = same_talk (talk_told law.story);
      grows = says_same law.story;
      closed = λ other shut. (refl, refl);
    }

-- ---- the event

open_by : (config : Config) (heard : ℕ → Heard) (world : World) (node : List ℕ) (conn : ℕ) (found : Option Front) → front_at world node ≡ found
    → (law : KeepsLaw config heard world) → MasterServes config → IsNew (fixed_of config) conn world law.story (law.stops conn) (heard conn)
    → KeepsOn config law.story law.stops (after_open config heard node conn) (all_come (with_client world node conn) node (Opened conn))
open_by config heard world node conn None at law serves first = elsewhere_keeps config heard world node conn law serves at first
open_by config heard world node conn (Some front) at law serves first =
    subst (λ w. KeepsOn config law.story law.stops (after_open config heard node conn) w)
    (sym (front_all_come (with_client world node conn) node (Opened conn) front at
    ∙ ap (with_front (with_client world node conn) node) (connects front conn (first.fronts node front at))
    ∙ greets world node conn front))
    (front_keeps_open config heard world node conn front law at first)

pub open_keeps : (config : Config) (heard : ℕ → Heard) (world : World) (node : List ℕ) (conn : ℕ) (there : Option Client) → client_at world conn ≡ there
    → (law : KeepsLaw config heard world) → MasterServes config
    → KeepsOn config law.story law.stops (after_open config heard node conn) (all_open world node conn there)
unfolding all_open
open_keeps config heard world node conn None at law serves =
    open_by config heard world node conn (front_at world node) refl law serves
    (is_new (fixed_of config) conn world law.story (law.stops conn) (heard conn) at (law.connections conn))
open_keeps config heard world node conn (Some there) at law serves =
    same_kept config heard (after_open config heard node conn) world
    (λ other. heard_before config other (heard other) node conn
    (λ e. λ same. has_client (fixed_of config) conn world law.story (law.stops conn) (heard conn) there at (law.connections conn)
    (sym (ap heard same) ∙ e))) law
