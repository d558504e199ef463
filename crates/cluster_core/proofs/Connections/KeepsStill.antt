-- A step in which no connection of a frontend changes keeps the law: what was heard stays, every look-up of a connection or a client finds what it found, and
-- each command is where it was. A client that is connected where no frontend is may be given more.
use Rattle.std.proofs.Common.{◌≡◌, ℕ, ◌≤◌, List, [], Option, None, Some, refl, sym, ◌∙◌, ap, subst, arith}
use Rattle.std.specs.Ordering.{nat_cmp}
use Rattle.std.specs.Cmp.Lexicographic.{slice_cmp}
use Rattle.std.proofs.lemmas.Map.Steps.{set_value_same}
use Rattle.back_node.specs.declared.node.BackNode.{BackNode}
use Rattle.cluster_core.specs.World.{master_of, setting_of, carry_all, client_at, front_at, home_at, node_at, stepped, with_state, Disks}
use Rattle.cluster_core.specs.declared.world.Client.{Client}
use Rattle.front_core.specs.declared.front.Front.{Front}
use Rattle.imap_talk.specs.Heard.{Heard, frames_heard}
use Rattle.imap_talk.specs.Transcript.{Stop}
use Rattle.imap_talk.proofs.RequestsOf.{requests_of}
use Rattle.link_queue.specs.Broken.{Broken}
use Rattle.many_links.specs.ManyHold.{ManyHold}
use Rattle.mark_history.specs.Marked.{Tale, talk_told}
use Rattle.master_core.specs.declared.master.Master.{Master}
use Rattle.mur_base.specs.Map.{value_at}
use Rattle.std.specs.BTreeMap.{is_at}
use Rattle.mur_config.specs.declared.config.Config.{Config}
use Rattle.mur_model.proofs.HistoryGrows.{same_talk}
use Rattle.node_step.specs.declared.input.NodeInput.{NodeInput}
use Rattle.node_step.specs.declared.input.NodeInput.TheVariants.{Opened, Piece, Hung, From}
use Rattle.node_step.specs.declared.node.NodeState.{NodeState}
use Rattle.node_step.specs.declared.node.NodeState.TheVariants as state
use Rattle.node_step.specs.NodeStep.{as_back, as_front, as_master}
use Rattle.cluster_core.specs.declared.world.World.{World}
use Rattle.std.proofs.lemmas.Option.{same_Some}
use Rattle.cluster_core.proofs.Commands.AllReached.{AreMarkedSo, a_step}
use Rattle.cluster_core.proofs.Commands.Place.{Place}
use Rattle.cluster_core.proofs.Commands.Standing.{Fixed}
use Rattle.cluster_core.proofs.Connections.ConnectionLaw.{IsInNoneOf, IsInPlaceOf, MarksStay, PlacesStay, says_same}
use Rattle.cluster_core.proofs.Connections.KeepsLaw.{AreNodesOf, ConnectionIs, FeedsHold, KeepsLaw, KeepsOn, fixed_of, murder_of}
use Rattle.cluster_core.proofs.Connections.KeepsLaw.ConnectionIs.{is_nobody, is_elsewhere, is_open, is_cut_off, is_closed}
use Rattle.cluster_core.proofs.Connections.Stays.{SameFront, StaysInPlace, connection_stays, same_front, no_front as no_front_now}
use Rattle.cluster_core.proofs.Connections.StillFed.{feeds_alike}
use Rattle.cluster_core.proofs.Feeds.Many.{same_murder}
use Rattle.cluster_core.proofs.Nodes.AllCome.{all_come, home_all_come, none_all_come}
use Rattle.cluster_core.proofs.Nodes.Comes.{home_does, with_home, IsOfClient, client_writes}
use Rattle.cluster_core.proofs.Nodes.Stay.{same_nodes}
use Rattle.cluster_core.proofs.Places.FrontWorlds.{SameHomes, alike_stay}

-- a client is as it was, or it is connected where no frontend is, and was given more
pub data ClientStays (conn : ℕ) (world next : World) : Type 0 where
  same_client : client_at next conn ≡ client_at world conn → ClientStays conn world next
  given_elsewhere : (node was now : List ℕ) → front_at world node ≡ None → client_at world conn ≡ Some (record { at = node; given = was })
      → client_at next conn ≡ Some (record { at = node; given = now }) → ClientStays conn world next

pub record SeesAlike (fixed : Fixed) (world next : World) : Type 0 where
  pub fronts : (conn : ℕ) (node : List ℕ) → SameFront conn (front_at world node) (front_at next node)
  pub clients : (conn : ℕ) → ClientStays conn world next
  pub in_place : (conn : ℕ) → StaysInPlace fixed conn world next
  pub in_none : (conn : ℕ) → IsInNoneOf fixed world conn → IsInNoneOf fixed next conn
  pub broken : next.broken ≡ world.broken
  pub marks : next.marks ≡ world.marks
  pub steps : world.steps ≤ next.steps

-- a client at a frontend isn't one where no frontend is
not_at_both : (world : World) (conn : ℕ) (node other : List ℕ) (front : Front) (client known : Client) → front_at world node ≡ Some front
    → front_at world other ≡ None → client_at world conn ≡ Some client → client_at world conn ≡ Some known → client.at ≡ node → known.at ≡ other → ⊥
not_at_both world conn node other front client known is none one two at known_at =
    let same : Some client ≡ Some known = sym one ∙ two in
    let nodes : node ≡ other = sym at ∙ (let e : client ≡ known = cc in ap (λ (c : Client). c.at) e) ∙ known_at in
    let no : Some front ≡ None = sym is ∙ ap (front_at world) nodes ∙ none in
    cc

pub alike_stays : (fixed : Fixed) (conn : ℕ) (world next : World) (story : Tale) (stop : Stop) (heard : Heard)
    → SeesAlike fixed world next → ClientStays conn world next → ConnectionIs fixed conn world story stop heard
    → ConnectionIs fixed conn next story stop heard
alike_stays fixed conn world next story stop heard alike (same_client same) is =
    connection_stays fixed conn world next story story stop heard
    (record {
      fronts = alike.fronts conn;
      client = same;
      in_place = alike.in_place conn;
      in_none = alike.in_none conn;
      marks = subst (MarksStay conn world.marks) (sym alike.marks) (λ command. refl);
      told = refl;
      said = refl;
      session = refl;
      before = refl;
      moving = refl;
      broken = alike.broken;
    }) is
alike_stays fixed conn world next story stop heard alike (given_elsewhere node was now none before after) (is_nobody nothing fronts untold) =
    absurd (let no : Some (record { at = node; given = was }) ≡ None = sym before ∙ nothing in cc)
alike_stays fixed conn world next story stop heard alike (given_elsewhere node was now none before after) (is_elsewhere there given at no_front untold) =
    is_elsewhere node now after (no_front_now conn (front_at world node) (front_at next node) (alike.fronts conn node) none)
    (record { told = untold.told; said = untold.said; session = untold.session; nothing = alike.in_none conn untold.nothing })
alike_stays fixed conn world next story stop heard alike (given_elsewhere node was now none before after)
    (is_open bytes there front connection at reader standing) =
    absurd (not_at_both world conn there node front _ _ at.at none standing.client before refl refl)
alike_stays fixed conn world next story stop heard alike (given_elsewhere node was now none before after)
    (is_cut_off bytes there front connection at gone next_is) =
    absurd (not_at_both world conn there node front _ _ at.at none gone.client before refl refl)
alike_stays fixed conn world next story stop heard alike (given_elsewhere node was now none before after) (is_closed shut bytes there front connection at gone) =
    absurd (not_at_both world conn there node front _ _ at.at none gone.client before refl refl)

-- the nodes, the names and the feeds in the next world are as they are told here
unfoldable pub still_kept : (config : Config) (heard after : ℕ → Heard) (world next : World) (master : Master) → SeesAlike (fixed_of config) world next
    → ((conn : ℕ) → after conn ≡ heard conn) → (law : KeepsLaw config heard world) → AreNodesOf config next master
    → ManyHold (murder_of next master) law.given law.story.course.store → FeedsHold config next master
    → KeepsOn config law.story law.stops after next
still_kept config heard after world next master alike same law nodes many feeds = record {
  law = record {
    master = master;
    nodes = nodes;
    story = law.story;
    stops = law.stops;
    given = law.given;
    many = many;
    feeds = feeds;
    is_told = subst (λ (b : Broken). AreMarkedSo (setting_of config) b next.steps next.marks law.story) (sym alike.broken)
        (subst (λ m. AreMarkedSo (setting_of config) world.broken next.steps m law.story) (sym alike.marks)
        (a_step world.steps next.steps world.marks law.story alike.steps law.is_told));
    requests = λ conn. law.requests conn ∙ ap (λ h. requests_of (setting_of config) (frames_heard h)) (sym (same conn));
    connections = λ conn. subst (λ h. ConnectionIs (fixed_of config) conn next law.story (law.stops conn) h) (sym (same conn))
        (alike_stays (fixed_of config) conn world next law.story (law.stops conn) (heard conn) alike (alike.clients conn) (law.connections conn));
  };
  more = same_talk (talk_told law.story);
  grows = says_same law.story;
  closed = λ conn shut. (refl, refl);
}

-- ---- a world in which nothing changed but perhaps the number of its last step

abbrev IsThere : Fixed → World → List ℕ → Front → ℕ → ℕ → Place → Type 0
IsThere fixed next node f conn command here = IsInPlaceOf fixed next node f.replica (record { conn = conn; command = command }) here

pub alike_but_steps : (fixed : Fixed) (world next : World) → next.nodes ≡ world.nodes → next.clients ≡ world.clients → next.broken ≡ world.broken
    → next.links ≡ world.links → next.marks ≡ world.marks → world.steps ≤ next.steps → SeesAlike fixed world next
alike_but_steps fixed world next nodes clients broken links marks steps =
    let fronts : (node : List ℕ) → front_at next node ≡ front_at world node = λ node. ap (λ n. as_front (value_at (slice_cmp nat_cmp) n node)) nodes in
    let homes : SameHomes world next = λ node. ap (λ n. as_back (value_at (slice_cmp nat_cmp) n node)) nodes in
    let stay : (conn : ℕ) → PlacesStay fixed conn world next = λ conn. alike_stay fixed conn world next homes links in
    record {
      fronts = λ conn node. same_front conn (front_at world node) (front_at next node) (fronts node);
      clients = λ conn. same_client (ap (λ c. value_at nat_cmp c conn) clients);
      in_place = λ conn node was now before after command here is.
          (let same : was ≡ now = same_Some _ _ (sym before ∙ (sym (fronts node) ∙ after)) in
          subst (λ (f : Front). IsThere fixed next node f conn command here) same ((stay conn).in_place node was.replica command here is));
      in_none = λ conn. (stay conn).in_none;
      broken = broken;
      marks = marks;
      steps = steps;
    }

-- the law of such a world
pub quiet_kept : (config : Config) (heard after : ℕ → Heard) (world next : World) → next.nodes ≡ world.nodes → next.clients ≡ world.clients
    → next.broken ≡ world.broken → next.links ≡ world.links → next.marks ≡ world.marks → world.steps ≤ next.steps
    → ((conn : ℕ) → after conn ≡ heard conn) → (law : KeepsLaw config heard world) → KeepsOn config law.story law.stops after next
quiet_kept config heard after world next nodes clients broken links marks steps same law =
    let homes : SameHomes world next = λ node. ap (λ n. as_back (value_at (slice_cmp nat_cmp) n node)) nodes in
    still_kept config heard after world next law.master (alike_but_steps (fixed_of config) world next nodes clients broken links marks steps) same law
    (same_nodes config world next law.master nodes law.nodes)
    (same_murder (murder_of world law.master) (murder_of next law.master) law.given law.story.course.store refl homes links law.many)
    (feeds_alike config world next law.master homes links broken
    (λ node now there. record { was = now; at = sym (ap (λ n. as_front (value_at (slice_cmp nat_cmp) n node)) nodes) ∙ there; same = refl }) law.feeds)

-- the number of the last step is one more
pub stepped_kept : (config : Config) (heard : ℕ → Heard) (world : World) (law : KeepsLaw config heard world)
    → KeepsOn config law.story law.stops heard (stepped world)
stepped_kept config heard world law =
    quiet_kept config heard heard world (stepped world) refl refl refl refl refl (omega arith) (λ conn. refl) law

-- with the same story
pub record IsStepped (config : Config) (heard : ℕ → Heard) (world : World) (law : KeepsLaw config heard world) : Type 0 where
  pub then : KeepsLaw config heard (stepped world)
  pub same : then.story ≡ law.story
  pub same_stops : then.stops ≡ law.stops

pub stepped_law : (config : Config) (heard : ℕ → Heard) (world : World) (law : KeepsLaw config heard world) → IsStepped config heard world law
unfolding still_kept quiet_kept stepped_kept
stepped_law config heard world law = record { then = (stepped_kept config heard world law).law; same = refl; same_stops = refl }

-- what stands on the disks is nothing of the law
module _ (config : Config) (heard : ℕ → Heard) (world : World) (disks : Disks) (law : KeepsLaw config heard world) where
  abbrev pub other_disks : World
  other_disks = record world { disks = disks }

  pub disks_feeds : FeedsHold config other_disks law.master
  disks_feeds = feeds_alike config world other_disks law.master (λ node. refl) refl refl (λ node now there. record { was = now; at = there; same = refl }) law.feeds

  pub disks_connections : (conn : ℕ) → ConnectionIs (fixed_of config) conn other_disks law.story (law.stops conn) (heard conn)
  disks_connections conn =
      let alike = alike_but_steps (fixed_of config) world other_disks refl refl refl refl refl (omega arith) in
      alike_stays (fixed_of config) conn world other_disks law.story (law.stops conn) (heard conn) alike (same_client refl) (law.connections conn)

  abbrev pub disks_law : KeepsLaw config heard other_disks
  disks_law = record {
    master = law.master;
    nodes = same_nodes config world other_disks law.master refl law.nodes;
    story = law.story;
    stops = law.stops;
    given = law.given;
    many = law.many;
    feeds = disks_feeds;
    is_told = law.is_told;
    requests = law.requests;
    connections = disks_connections;
  }

-- nothing at all changes
pub same_kept : (config : Config) (heard after : ℕ → Heard) (world : World) → ((conn : ℕ) → after conn ≡ heard conn) → (law : KeepsLaw config heard world)
    → KeepsOn config law.story law.stops after world
same_kept config heard after world same law = quiet_kept config heard after world world refl refl refl refl refl (omega arith) same law

-- ---- what a client does where no frontend is

-- what is done is of this connection
abbrev pub IsOfConnection : ℕ → NodeInput → Type 0
IsOfConnection conn (Opened other) = other ≡ conn
IsOfConnection conn (Piece other bytes) = other ≡ conn
IsOfConnection conn (Hung other) = other ≡ conn
IsOfConnection conn (From name message) = ⊥

-- at the master (the others' part)
abbrev pub MasterServes : Config → Type 0
MasterServes config = (heard after : ℕ → Heard) (world : World) (conn : ℕ) (input : NodeInput) (given : List ℕ) → IsOfConnection conn input
    → client_at world conn ≡ Some (record { at = master_of config; given = given }) → (law : KeepsLaw config heard world)
    → ((other : ℕ) → after other ≡ heard other) → KeepsOn config law.story law.stops after (all_come world (master_of config) input)

pub of_client : (conn : ℕ) (input : NodeInput) → IsOfConnection conn input → IsOfClient input
of_client conn (Opened other) is = tt
of_client conn (Piece other bytes) is = tt
of_client conn (Hung other) is = tt
of_client conn (From name message) is = absurd is

home_idle : (home : BackNode) (conn : ℕ) (input : NodeInput) → IsOfConnection conn input
    → home_does home input ≡ record { state = home; entry = None; outs = [] }
home_idle home conn (Opened other) is = refl
home_idle home conn (Piece other bytes) is = refl
home_idle home conn (Hung other) is = refl
home_idle home conn (From name message) is = absurd is

-- a node put in its own place
pub put_kept : (config : Config) (heard after : ℕ → Heard) (world : World) (node : List ℕ) (it : NodeState) → node_at world node ≡ Some it
    → ((conn : ℕ) → after conn ≡ heard conn) → (law : KeepsLaw config heard world) → KeepsOn config law.story law.stops after (with_state world node it)
put_kept config heard after world node it there same law =
    quiet_kept config heard after world (with_state world node it) (set_value_same (is_at (slice_cmp nat_cmp node)) world.nodes it there)
    refl refl refl refl (omega arith) same law

home_put : (world : World) (node : List ℕ) (home : BackNode) (input : NodeInput) (conn : ℕ) → home_at world node ≡ Some home
    → IsOfConnection conn input → all_come world node input ≡ with_state world node (state.Back home)
unfolding carry_all
home_put world node home input conn at is =
    home_all_come world node input home at
    ∙ ap (λ w. with_home w node (home_does home input)) (client_writes world node (state.Back home) input (of_client conn input is))
    ∙ ap (with_home world node) (home_idle home conn input is)

-- at a backend, at the master, or where no node is
elsewhere_by : (config : Config) (heard after : ℕ → Heard) (world : World) (node : List ℕ) (conn : ℕ) (input : NodeInput) (given : List ℕ)
    (found : Option NodeState) → node_at world node ≡ found → IsOfConnection conn input → MasterServes config
    → client_at world conn ≡ Some (record { at = node; given = given }) → front_at world node ≡ None → (law : KeepsLaw config heard world)
    → ((other : ℕ) → after other ≡ heard other) → KeepsOn config law.story law.stops after (all_come world node input)
unfolding as_front as_back as_master
elsewhere_by config heard after world node conn input given None e is serves at none law same =
    subst (λ w. KeepsOn config law.story law.stops after w) (sym (none_all_come world node input e)) (same_kept config heard after world same law)
elsewhere_by config heard after world node conn input given (Some (state.Front front)) e is serves at none law same =
    absurd (let no : Some front ≡ None = sym (ap as_front e) ∙ none in cc)
elsewhere_by config heard after world node conn input given (Some (state.Back home)) e is serves at none law same =
    subst (λ w. KeepsOn config law.story law.stops after w) (sym (home_put world node home input conn (ap as_back e) is))
    (put_kept config heard after world node (state.Back home) e same law)
elsewhere_by config heard after world node conn input given (Some (state.Master master)) e is serves at none law same =
    let its : node ≡ master_of config = law.nodes.only node master (ap as_master e) in
    subst (λ n. KeepsOn config law.story law.stops after (all_come world n input)) (sym its)
    (serves heard after world conn input given is (at ∙ ap (λ n. Some (record { at = n; given = given })) its) law same)

pub elsewhere_kept : (config : Config) (heard after : ℕ → Heard) (world : World) (node : List ℕ) (conn : ℕ) (input : NodeInput) (given : List ℕ)
    → IsOfConnection conn input → MasterServes config
    → client_at world conn ≡ Some (record { at = node; given = given }) → front_at world node ≡ None → (law : KeepsLaw config heard world)
    → ((other : ℕ) → after other ≡ heard other) → KeepsOn config law.story law.stops after (all_come world node input)
elsewhere_kept config heard after world node conn input given is serves at none law same =
    elsewhere_by config heard after world node conn input given (node_at world node) refl is serves at none law same
