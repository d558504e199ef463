-- A step of one connection at its frontend keeps the law.
use Rattle.std.proofs.Common.{◌≡◌, ◌≢◌, ℕ, ◌≤◌, true, List, [], ◌∷◌, length, Option, None, Some, refl, sym, ◌∙◌, ap, subst}
use Rattle.std.specs.Ordering.{nat_cmp}
use Rattle.std.specs.Cmp.Lexicographic.{slice_cmp}
use Rattle.std.proofs.Math.Logic.{⊎_elim}
use Rattle.std.proofs.lemmas.Bool.{cases_eq}
use Rattle.feed_core.specs.declared.replica.Replica.{Replica}
use Rattle.front_core.specs.declared.connection.Connection.{Connection}
use Rattle.front_core.specs.declared.front.Front.{Front}
use Rattle.front_core.specs.Front.{Stepped, connection_at}
use Rattle.imap_talk.specs.Heard.{Heard, frames_heard, has_closed}
use Rattle.imap_talk.specs.declared.inputs.Input.{Input}
use Rattle.imap_talk.proofs.RequestsOf.{requests_of}
use Rattle.imap_talk.specs.Transcript.{Stop}
use Rattle.imap_types.specs.declared.request.Answer.{Answer}
use Rattle.imap_types.specs.declared.request.Request.{Request}
use Rattle.link_msg.specs.declared.message.LinkMsg.{LinkMsg}
use Rattle.link_msg.specs.declared.out.Out.{Out}
use Rattle.link_msg.specs.declared.out.Out.TheVariants.{Client as to_client, Close, Link as to_node, Mark as mark, Told as tell}
use Rattle.link_queue.specs.Broken.{Broken}
use Rattle.link_queue.specs.Links.{Links}
use Rattle.many_links.specs.ManyHold.{ManyHold}
use Rattle.mark_history.specs.Marked.{Tale, last_mark, talk_told}
use Rattle.mark_history.specs.declared.mark.Mark.{Mark}
use Rattle.mur_base.specs.Map.{with_value}
use Rattle.mur_base.proofs.MapLaws.{names_apart, numbers_apart, same_or_other, value_at-with_value, value_at-with_value-other}
use Rattle.mur_config.specs.declared.config.Config.{Config}
use Rattle.mur_model.specs.History.{Course, TalkGoesOn}
use Rattle.mur_model.specs.declared.session.Sess.{Sess}
use Rattle.mur_model.specs.declared.store.Store.{Store}
use Rattle.mur_model.proofs.HistoryGrows.{talks_follow}
use Rattle.node_step.specs.declared.node.NodeState.{NodeState}
use Rattle.node_step.specs.declared.node.NodeState.TheVariants as state
use Rattle.cluster_core.specs.World.{setting_of, carry, carry_all, client_at, front_at, given_more, home_at}
use Rattle.cluster_core.specs.declared.world.Client.{Client}
use Rattle.cluster_core.specs.declared.world.World.{World}
use Rattle.std.proofs.lemmas.Option.{same_Some}
use Rattle.cluster_core.proofs.Commands.AllReached.{AreMarkedSo}
use Rattle.cluster_core.proofs.Commands.Standing.{Fixed, next_id}
use Rattle.cluster_core.proofs.Connections.ConnectionLaw.{IsMade, IsStanding, MarksStay, PlacesStay, says_on}
use Rattle.cluster_core.proofs.Connections.KeepsLaw.{ConnectionIs, FeedsHold, IsAt, IsGone, KeepsLaw, KeepsOn, fixed_of, murder_of}
use Rattle.cluster_core.proofs.Connections.Stays.{ReplicasStay, dropped_stays, SameFront, fixed_places, marked_stays, same_front, each_stays}
use Rattle.cluster_core.proofs.Connections.Stays.SameFront.{both}
use Rattle.cluster_core.proofs.Nodes.Comes.{FrontMoved, front_moved, with_front}
use Rattle.cluster_core.proofs.Nodes.Stay.{front_cores}
use Rattle.cluster_core.proofs.Places.FrontWorlds.{SameHomes, alike_stay, stays_on}

-- ---- outputs are carried out alike whatever the nodes are

abbrev pub having_nodes : World → List (List ℕ × NodeState) → World
having_nodes world nodes = record world { nodes = nodes }

given_nodes : (world : World) (nodes : List (List ℕ × NodeState)) (conn : ℕ) (bytes : List ℕ) (found : Option Client)
    → given_more (having_nodes world nodes) conn bytes found ≡ having_nodes (given_more world conn bytes found) nodes
unfolding given_more
given_nodes world nodes conn bytes None = refl
given_nodes world nodes conn bytes (Some client) = refl

carry_nodes : (node : List ℕ) (world : World) (nodes : List (List ℕ × NodeState)) (out : Out)
    → carry node (having_nodes world nodes) out ≡ having_nodes (carry node world out) nodes
unfolding carry
carry_nodes node world nodes (to_client conn bytes) = given_nodes world nodes conn bytes (client_at world conn)
carry_nodes node world nodes (Close conn) = refl
carry_nodes node world nodes (to_node other message) = refl
carry_nodes node world nodes (mark ask counts) = refl
carry_nodes node world nodes (tell ask how) = refl

pub carry_all_nodes : (node : List ℕ) (world : World) (nodes : List (List ℕ × NodeState)) (outs : List Out)
    → carry_all node (having_nodes world nodes) outs ≡ having_nodes (carry_all node world outs) nodes
unfolding carry_all
carry_all_nodes node world nodes [] = refl
carry_all_nodes node world nodes (out ∷ outs) = ap (λ w. carry_all node w outs) (carry_nodes node world nodes out)
    ∙ carry_all_nodes node (carry node world out) nodes outs

-- ---- a frontend with another state of one connection

abbrev pub with_connection : Front → ℕ → Connection → Front
with_connection front conn connection = record front { connections = with_value nat_cmp front.connections conn connection }

abbrev pub turned_so : Front → ℕ → Connection → List Out → Stepped
turned_so front conn connection outs = record { front = with_connection front conn connection; outs = outs }

abbrev pub world_after : World → List ℕ → Front → ℕ → Connection → List Out → World
world_after world node front conn connection outs = with_front world node (turned_so front conn connection outs)

-- what another connection finds of the frontends
pub fronts_at_other : (world next : World) (node : List ℕ) (front later : Front) (other : ℕ) → front_at world node ≡ Some front
    → FrontMoved world node later next → connection_at later other ≡ connection_at front other
    → (any : List ℕ) → SameFront other (front_at world any) (front_at next any)
fronts_at_other world next node front later other at moved same any = ⊎_elim
    (λ (e : any ≡ node). subst (λ n. SameFront other (front_at world n) (front_at next n)) (sym e)
    (subst (λ f. SameFront other f (front_at next node)) (sym at)
    (subst (λ f. SameFront other (Some front) f) (sym moved.own) (both front later same))))
    (λ (ne : any ≢ node). same_front other (front_at world any) (front_at next any) (moved.fronts any ne))
    (same_or_other (slice_cmp nat_cmp) names_apart any node)

-- and every replica is as it was
pub replicas_stay : (world next : World) (node : List ℕ) (front later : Front) → front_at world node ≡ Some front → FrontMoved world node later next
    → later.replica ≡ front.replica → ReplicasStay world next
replicas_stay world next node front later at moved same any was now before after = ⊎_elim
    (λ (e : any ≡ node).
    let one : front ≡ was = same_Some _ _ (sym at ∙ (ap (front_at world) (sym e) ∙ before)) in
    let two : later ≡ now = same_Some _ _ (sym moved.own ∙ (ap (front_at next) (sym e) ∙ after)) in
    ap (λ (f : Front). f.replica) (sym two) ∙ same ∙ ap (λ (f : Front). f.replica) one)
    (λ (ne : any ≢ node).
    let is : was ≡ now = same_Some _ _ (sym before ∙ (sym (moved.fronts any ne) ∙ after)) in
    ap (λ (f : Front). f.replica) (sym is))
    (same_or_other (slice_cmp nat_cmp) names_apart any node)

-- ---- the world after the step, beside that which the outputs alone make

module _ (world : World) (node : List ℕ) (front : Front) (conn : ℕ) (connection : Connection) (outs : List Out) where
  abbrev carried : World
  carried = carry_all node world outs

  abbrev next : World
  next = world_after world node front conn connection outs

  pub after_is : next ≡ having_nodes carried (with_value (slice_cmp nat_cmp) world.nodes node (state.Front (with_connection front conn connection)))
  after_is = carry_all_nodes node world (with_value (slice_cmp nat_cmp) world.nodes node (state.Front (with_connection front conn connection))) outs

  pub same_links : next.links ≡ carried.links
  same_links = ap (λ (w : World). w.links) after_is

  pub same_marks : next.marks ≡ carried.marks
  same_marks = ap (λ (w : World). w.marks) after_is

  pub same_broken : next.broken ≡ carried.broken
  same_broken = ap (λ (w : World). w.broken) after_is

  pub same_steps : next.steps ≡ carried.steps
  same_steps = ap (λ (w : World). w.steps) after_is

  pub same_clients : (other : ℕ) → client_at next other ≡ client_at carried other
  same_clients other = ap (λ w. client_at w other) after_is

  -- the backends of both, where the outputs changed no node
  pub same_homes : front_at world node ≡ Some front → carried.nodes ≡ world.nodes → SameHomes carried next
  same_homes at nodes name = (front_moved world node front (turned_so front conn connection outs) at).homes name
      ∙ sym (ap (λ n. home_at (having_nodes carried n) name) nodes)

-- ---- the law

-- The outputs of a connection's step were carried out and made this story; the connection is so behind it. The step may have taken a message off its link.
pub front_keeps : (config : Config) (heard after : ℕ → Heard) (origin : World) (law : KeepsLaw config heard origin) (links : Links LinkMsg) (conn : ℕ)
    (node : List ℕ) (front : Front) (was connection : Connection) (outs : List Out) (told story : Tale) (stops : ℕ → Stop)
    → ((other : ℕ) → other ≢ conn → stops other ≡ law.stops other)
    → ((other : ℕ) → other ≢ conn → PlacesStay (fixed_of config) other origin (record origin { links = links }))
    → front_at origin node ≡ Some front → connection_at front conn ≡ Some was
    → TalkGoesOn (talk_told law.story) (talk_told told) → told.told ≡ law.story.told → told.talk.answers ≡ law.story.talk.answers
    → told.course ≡ law.story.course → told.before ≡ law.story.before
    → ((other : ℕ) → told.talk.requests other ≡ requests_of (setting_of config) (frames_heard (after other)))
    → ((other : ℕ) → other ≢ conn → after other ≡ heard other)
    → (has_closed (after conn) ≡ true → (story.told conn ≡ law.story.told conn) × (stops conn ≡ law.stops conn))
    → IsMade (fixed_of config) conn (record origin { links = links }) told (carry_all node (record origin { links = links }) outs) story
    → ManyHold (murder_of (world_after (record origin { links = links }) node front conn connection outs) law.master) law.given law.story.course.store
    → FeedsHold config (world_after (record origin { links = links }) node front conn connection outs) law.master
    → ConnectionIs (fixed_of config) conn (world_after (record origin { links = links }) node front conn connection outs) story (stops conn) (after conn)
    → KeepsOn config law.story law.stops after (world_after (record origin { links = links }) node front conn connection outs)
front_keeps config heard after origin law links conn node front was connection outs told story stops same_stops places at has more same_told same_said same_course same_before
    requests others no_more made many feeds mine =
    let world : World = record origin { links = links } in
    let later : Front = with_connection front conn connection in
    let carried : World = carry_all node world outs in
    let next : World = world_after world node front conn connection outs in
    let step = front_moved world node front (turned_so front conn connection outs) at in
    let moved : FrontMoved origin node later next = record { own = step.own; fronts = step.fronts; homes = step.homes; masters = step.masters } in
    let fixed : Fixed = fixed_of config in
    let same_store : story.course.store ≡ law.story.course.store = made.store ∙ ap (λ (c : Course). c.store) same_course in
    record {
      law = record {
        master = law.master;
        nodes = front_cores config origin next law.master law.nodes node front later at
            (record { me = refl; master = refl; first = refl; setting = refl }) moved;
        story = story;
        stops = stops;
        given = law.given;
        many = subst (λ (s : Store). ManyHold (murder_of next law.master) law.given s) (sym same_store) many;
        feeds = feeds;
        is_told = subst (λ m. AreMarkedSo (setting_of config) next.broken next.steps m story) (sym (same_marks world node front conn connection outs))
            (subst (λ n. AreMarkedSo (setting_of config) next.broken n carried.marks story) (sym (same_steps world node front conn connection outs))
            (subst (λ (b : Broken). AreMarkedSo (setting_of config) b carried.steps carried.marks story)
            (sym (same_broken world node front conn connection outs)) made.is_told));
        requests = λ other. ap (λ (r : ℕ → List Request). r other) made.goes_on.requests ∙ requests other;
        connections = each_stays fixed origin next law.story story law.stops stops heard after conn (after conn) law.connections others same_stops (λ other ne.
            (let stay : PlacesStay fixed other origin next = stays_on fixed other origin carried next
            (stays_on fixed other origin world carried (places other ne) (made.others.places other ne))
            (alike_stay fixed other carried next (same_homes world node front conn connection outs at made.others.nodes)
            (same_links world node front conn connection outs)) in
            record {
              fronts = fronts_at_other origin next node front later other at moved
                  (value_at-with_value-other nat_cmp numbers_apart front.connections conn other connection ne);
              client = same_clients world node front conn connection outs other ∙ made.others.clients other ne;
              in_place = fixed_places fixed other origin next stay (replicas_stay origin next node front later at moved refl);
              in_none = stay.in_none;
              marks = subst (MarksStay other origin.marks) (sym (same_marks world node front conn connection outs)) (made.others.marks other ne);
              told = made.goes_on.told other ne ∙ ap (λ (t : ℕ → List Answer). t other) same_told;
              said = made.goes_on.said other ne ∙ ap (λ (t : ℕ → List Answer). t other) same_said;
              session = made.goes_on.sessions other ne ∙ ap (λ (c : Course). c.sessions other) same_course;
              before = made.goes_on.before other ne ∙ ap (λ (b : ℕ → Sess). b other) same_before;
              moving = made.goes_on.more.moving ∙ more.moving;
              broken = same_broken world node front conn connection outs ∙ made.others.broken;
            })) refl mine;
      };
      more = talks_follow (talk_told law.story) (talk_told told) (talk_told story) more made.goes_on.more;
      grows = subst (λ (a : ℕ → List Answer). (other : ℕ) → length (a other) ≤ length (story.talk.answers other)) same_said
          (says_on conn told story made.goes_on);
      closed = λ other shut. ⊎_elim
          (λ (same : other ≡ conn). subst (λ c. (story.told c ≡ law.story.told c) × (stops c ≡ law.stops c)) (sym same) (no_more (subst (λ c. has_closed (after c) ≡ true) same shut)))
          (λ (ne : other ≢ conn). (made.goes_on.told other ne ∙ ap (λ (t : ℕ → List Answer). t other) same_told, same_stops other ne))
          (cases_eq other conn);
    }

-- ---- the connection itself

-- as the world then has it
pub is_at_after : (world : World) (node : List ℕ) (front : Front) (conn : ℕ) (was connection : Connection) (outs : List Out) → front_at world node ≡ Some front
    → connection_at front conn ≡ Some was
    → IsAt (world_after world node front conn connection outs) conn node (with_connection front conn connection) connection
is_at_after world node front conn was connection outs at has = record {
  at = (front_moved world node front (turned_so front conn connection outs) at).own;
  has = value_at-with_value nat_cmp numbers_apart front.connections conn connection was has;
}

-- what holds of the world that the outputs made holds with the frontend's new state
pub standing_after : (fixed : Fixed) (world : World) (node : List ℕ) (front : Front) (conn : ℕ) (connection : Connection) (outs : List Out)
    (all : List Input) (held : Option (List ℕ)) (replica : Replica) (story : Tale) → front_at world node ≡ Some front
    → (carry_all node world outs).nodes ≡ world.nodes
    → IsStanding fixed node replica conn all held connection (carry_all node world outs) story
    → IsStanding fixed node replica conn all held connection (world_after world node front conn connection outs) story
standing_after fixed world node front conn connection outs all held replica story at nodes is =
    let carried : World = carry_all node world outs in
    let next : World = world_after world node front conn connection outs in
    record {
      count = is.count;
      client = same_clients world node front conn connection outs conn ∙ is.client;
      here = is.here;
      placed = (alike_stay fixed conn carried next (same_homes world node front conn connection outs at nodes)
          (same_links world node front conn connection outs)).in_place node replica _ is.here is.placed;
      marked = marked_stays story.talk.moving (next_id conn (story.told conn)) carried.marks next.marks
          (ap (λ (m : List Mark). last_mark (next_id conn (story.told conn)) m) (same_marks world node front conn connection outs)) is.here is.marked;
      dropped = dropped_stays fixed.master carried next node (same_broken world node front conn connection outs) is.here is.dropped;
      restores = is.restores;
      stands = is.stands;
    }

pub gone_after : (fixed : Fixed) (world : World) (node : List ℕ) (front : Front) (conn : ℕ) (connection : Connection) (all : List Input) (stop : Stop)
    (replica : Replica) (story : Tale) → front_at world node ≡ Some front
    → IsGone fixed node replica conn all stop connection world story
    → IsGone fixed node replica conn all stop connection (world_after world node front conn connection []) story
unfolding carry_all
gone_after fixed world node front conn connection all stop replica story at is =
    let next : World = world_after world node front conn connection [] in
    record {
      stage_is = is.stage_is;
      count = is.count;
      lasts = is.lasts;
      client = is.client;
      here = is.here;
      placed = (alike_stay fixed conn world next (same_homes world node front conn connection [] at refl) refl).in_place node replica _ is.here is.placed;
      marked = is.marked;
      left = is.left;
      cut = is.cut;
    }

-- whatever it let out
pub gone_then : (fixed : Fixed) (world : World) (node : List ℕ) (front : Front) (conn : ℕ) (connection : Connection) (outs : List Out) (all : List Input)
    (stop : Stop) (replica : Replica) (story : Tale) → front_at world node ≡ Some front → (carry_all node world outs).nodes ≡ world.nodes
    → IsGone fixed node replica conn all stop connection (carry_all node world outs) story
    → IsGone fixed node replica conn all stop connection (world_after world node front conn connection outs) story
gone_then fixed world node front conn connection outs all stop replica story at nodes is =
    let carried : World = carry_all node world outs in
    let next : World = world_after world node front conn connection outs in
    record {
      stage_is = is.stage_is;
      count = is.count;
      lasts = is.lasts;
      client = same_clients world node front conn connection outs conn ∙ is.client;
      here = is.here;
      placed = (alike_stay fixed conn carried next (same_homes world node front conn connection outs at nodes)
          (same_links world node front conn connection outs)).in_place node replica _ is.here is.placed;
      marked = marked_stays story.talk.moving (next_id conn (story.told conn)) carried.marks next.marks
          (ap (λ (m : List Mark). last_mark (next_id conn (story.told conn)) m) (same_marks world node front conn connection outs)) is.here is.marked;
      left = is.left;
      cut = λ lost none. is.cut lost (sym (same_broken world node front conn connection outs) ∙ none);
    }
