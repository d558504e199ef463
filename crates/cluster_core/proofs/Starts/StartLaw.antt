-- THE LAW HOLDS BEFORE THE FIRST STEP.
use Rattle.std.proofs.Common.{◌≡◌, ℕ, ◌||◌, nat_eq, Bool, true, false, if◌then◌else◌, is_some, List, [], ◌∷◌, Option, None, Some, refl, sym, ◌∙◌, ap, subst, arith, append-nil}
use Rattle.std.specs.List.{list_any, AllByRecursion}
use Rattle.std.specs.List.Sorted.{IsStrictlySortedBy}
use Rattle.std.specs.Ordering.{nat_cmp}
use Rattle.std.specs.Cmp.Lexicographic.{pointwise, slice_cmp}
use Rattle.back_node.specs.declared.node.BackNode.{BackNode}
use Rattle.cluster_core.specs.Headline.Records.{IsAtBackend}
use Rattle.cluster_core.specs.Headline.Outside.{is_master_node, table_by, table_at}
use Rattle.cluster_core.specs.Heard.{is_frontend_node}
use Rattle.cluster_core.specs.World.{backends_of, first_name, home_of, master_of, setting_of, front_at, home_at, master_at, node_at, place_of, start}
use Rattle.feed_core.specs.Feed.{empty_replica}
use Rattle.feed_core.specs.Stream.{update_line}
use Rattle.feed_links.specs.Lines.{messages_to, stream_of}
use Rattle.feed_links.specs.OneFeed.{AreLines}
use Rattle.feed_links.specs.OneFeed.IsFed.{asks as has_asked}
use Rattle.feed_links.specs.Replicas.{AreNoNews}
use Rattle.feed_links.specs.Spelled.{CanBeTold}
use Rattle.feed_links.proofs.Names.{same_name}
use Rattle.front_core.specs.declared.front.Front.{Front}
use Rattle.front_core.specs.Front.{connection_at, new_front}
use Rattle.front_core.specs.Ups.{is_up}
use Rattle.imap_talk.specs.Heard.{nobody, frames_heard}
use Rattle.imap_talk.specs.Inputs.{inputs_of, requests_in}
use Rattle.imap_talk.proofs.RequestsOf.{requests_of}
use Rattle.imap_talk.specs.Transcript.Stop.{silent}
use Rattle.link_msg.specs.declared.message.LinkMsg.TheVariants.{Line}
use Rattle.link_queue.specs.Broken.{Broken, is_broken}
use Rattle.link_queue.specs.Links.{on_link}
use Rattle.link_queue.proofs.BrokenLaws.{none_broken}
use Rattle.many_links.specs.ManyHold.{ManyHold}
use Rattle.many_links.specs.Start.{HasBegun, told_up}
use Rattle.many_links.proofs.BegunLaw.{many_begin}
use Rattle.mark_history.specs.Marked.{first_tale}
use Rattle.master_core.specs.declared.master.Master.{Master}
use Rattle.master_core.specs.Boot.{booted}
use Rattle.mur_base.specs.Map.{IsInOrder, value_at}
use Rattle.mur_config.specs.declared.config.Config.{Config}
use Rattle.mur_config.specs.declared.node.Node.{Node}
use Rattle.mur_config.specs.Nodes.{AreNodes, links_of, node_named}
use Rattle.mur_model.specs.declared.setting.Setting.{Setting}
use Rattle.mur_model.specs.Store.{empty_store}
use Rattle.mupdate_codec.specs.declared.tag.Tag.{Tag}
use Rattle.master_core.specs.Whose.{TellNobody}
use Rattle.name_commands.specs.Places.{TalkShows, NamePlace as name_at}
use Rattle.name_commands.specs.Whose.{is_of_connection}
use Rattle.name_commands.proofs.AllLaw.{none_begins}
use Rattle.node_record.specs.declared.table.Record.{Record}
use Rattle.node_record.specs.Table.{empty_table}
use Rattle.text_parts.proofs.PlaceLaw.{node_is_short}
use Rattle.node_step.specs.declared.node.NodeState.{NodeState}
use Rattle.node_step.specs.NodeStep.{as_back, as_front, as_master}
use Rattle.node_step.proofs.NodeKinds.{back_is, back_no_front, front_is, front_no_back}
use Rattle.cluster_core.specs.declared.world.World.{World}
use Rattle.cluster_core.proofs.Commands.AllReached.{AreMarkedSo, nothing}
use Rattle.cluster_core.proofs.Feeds.Beside.{no_one}
use Rattle.cluster_core.proofs.Nodes.Comes.{a_master}
use Rattle.cluster_core.proofs.Commands.InPlace.{ShowEach}
use Rattle.cluster_core.proofs.Commands.Place.{Place as place}
use Rattle.cluster_core.proofs.Connections.ConnectionLaw.{IsInNoneOf}
use Rattle.cluster_core.proofs.Connections.KeepsLaw.{AreAtBackends, AreKeptAtBackends, AreNodesOf, ConnectionIs, FeedsHold, IsFedAt, IsFrontOf, NamesBackends, TableNamesBackends, TellsBackends, fixed_of, murder_of}
use Rattle.cluster_core.proofs.Connections.KeepsLaw.ConnectionIs.{is_nobody}
use Rattle.cluster_core.proofs.Nodes.LinksUp.{ups_on}
use Rattle.cluster_core.proofs.Starts.Begins.{HomeStarts, IsLinked, Starts, asks_once, first_front, first_master, master_starts, start_quiet, starts, told_keeps}
use Rattle.cluster_core.proofs.Starts.Begins.Starts.{is_front, is_home, is_silent}
use Rattle.cluster_core.proofs.OneServer.MovingLaw.{StartsWith}
use Rattle.cluster_core.proofs.Starts.Places.{named_place}
use Rattle.cluster_core.proofs.Starts.Kinds.{backend_named, first_backend, is_backend_node, only_master}

front_no_master : (found : Option NodeState) (front : Front) → as_front found ≡ Some front → as_master found ≡ None
unfolding as_master
front_no_master found front at = ap as_master (front_is found front at)

back_no_master : (found : Option NodeState) (home : BackNode) → as_back found ≡ Some home → as_master found ≡ None
unfolding as_master
back_no_master found home at = ap as_master (back_is found home at)

of_master : (me : List ℕ) (backends : List (List ℕ)) → (let it = booted me backends empty_table in
    (it.me ≡ me) × (it.backends ≡ backends) × (it.table ≡ empty_table) × (it.streams ≡ []))
unfolding booted
of_master me backends = (refl, refl, refl, refl)

none_in_order : (X : Type 0) → (let none : List (List ℕ × X) = [] in IsInOrder (slice_cmp nat_cmp) none)
unfolding IsStrictlySortedBy
none_in_order X = tt

module _ (config : Config) (are : AreNodes config.nodes) where
  abbrev me : List ℕ
  me = master_of config

  abbrev backends : List (List ℕ)
  backends = backends_of config.nodes

  abbrev world : World
  world = start config

  abbrev master : Master
  master = first_master config

  pub start_table : table_at world me ≡ empty_table
  start_table = ap table_by (ap as_master (master_starts config are).at ∙ a_master master) ∙ (of_master me backends).2

  its_backends : master.backends ≡ backends
  its_backends = (of_master me backends).1

  -- ---- the nodes

  record FrontIs (name : List ℕ) (front : Front) : Type 0 where
    is : front ≡ first_front config name
    sent : (other : List ℕ) → on_link world.links name other ≡ messages_to other (asks_once config)
    linked : IsLinked (ups_on name [] (links_of config.nodes)) me (λ server. list_any (pointwise nat_eq server) backends)
    no_home : home_at world name ≡ None
    no_backend : list_any (pointwise nat_eq name) backends ≡ false

  front_by : (name : List ℕ) (front : Front) (found : Option Node) → node_named name config.nodes ≡ found → Starts config are name found
      → front_at world name ≡ Some front → FrontIs name front
  front_by name front found named (is_front node begins front_kind back_kind master_kind) at = record {
    is = (let same : Some (first_front config name) ≡ Some front = sym begins.at ∙ at in let is : first_front config name ≡ front = cc in sym is);
    sent = begins.sent;
    linked = begins.linked;
    no_home = front_no_back (node_at world name) front at;
    no_backend = sym (backend_named name config.nodes are.names) ∙ ap is_backend_node named ∙ back_kind;
  }
  front_by name front found named (is_home node begins front_kind back_kind master_kind) at =
      absurd (no_one (front_at world name) front at (back_no_front (node_at world name) (told_up (place_of node) me).state begins.at))
  front_by name front found named (is_silent other it begins no_front no_back front_kind back_kind masters) at =
      absurd (no_one (front_at world name) front at (ap as_front begins.at ∙ no_front))

  front_first : (name : List ℕ) (front : Front) → front_at world name ≡ Some front → FrontIs name front
  front_first name front at = front_by name front (node_named name config.nodes) refl (starts config are name) at

  fronts_by : (name : List ℕ) (found : Option Node) → Starts config are name found → is_some (front_at world name) ≡ is_frontend_node found
  fronts_by name found (is_front node begins front_kind back_kind master_kind) = ap is_some begins.at ∙ sym front_kind
  fronts_by name found (is_home node begins front_kind back_kind master_kind) =
      ap is_some (back_no_front (node_at world name) (told_up (place_of node) me).state begins.at) ∙ sym front_kind
  fronts_by name found (is_silent other it begins no_front no_back front_kind back_kind masters) =
      ap is_some (ap as_front begins.at ∙ no_front) ∙ sym front_kind

  homes_by : (name : List ℕ) (found : Option Node) → Starts config are name found → is_some (home_at world name) ≡ is_backend_node found
  homes_by name found (is_front node begins front_kind back_kind master_kind) =
      ap is_some (front_no_back (node_at world name) (first_front config name) begins.at) ∙ sym back_kind
  homes_by name found (is_home node begins front_kind back_kind master_kind) = ap is_some begins.at ∙ sym back_kind
  homes_by name found (is_silent other it begins no_front no_back front_kind back_kind masters) =
      ap is_some (ap as_back begins.at ∙ no_back) ∙ sym back_kind

  only_by : (name : List ℕ) (other : Master) (found : Option Node) → Starts config are name found → master_at world name ≡ Some other → is_master_node found ≡ true
  only_by name other found (is_front node begins front_kind back_kind master_kind) at =
      absurd (no_one (master_at world name) other at (front_no_master (node_at world name) (first_front config name) begins.at))
  only_by name other found (is_home node begins front_kind back_kind master_kind) at =
      absurd (no_one (master_at world name) other at (back_no_master (node_at world name) (told_up (place_of node) me).state begins.at))
  only_by name other found (is_silent of it begins no_front no_back front_kind back_kind masters) at =
      sym masters ∙ sym (ap is_some (ap as_master begins.at)) ∙ ap is_some at

  front_of : (name : List ℕ) (front : Front) → front_at world name ≡ Some front → IsFrontOf config world master name front
  unfolding new_front
  front_of name front at =
      let first = front_first name front at in
      record {
        master_is = ap (λ (f : Front). f.master) first.is;
        first_is = ap (λ (f : Front). f.first) first.is;
        setting_is = ap (λ (f : Front). f.setting) first.is;
        no_master = λ e. no_one (master_at world name) master
            (ap (master_at world) e ∙ ap as_master (master_starts config are).at ∙ a_master master)
            (front_no_master (node_at world name) front at);
        no_home = first.no_home;
        no_backend = ap (list_any (pointwise nat_eq name)) its_backends ∙ first.no_backend;
      }

  first_among : (names : List (List ℕ)) (rest : List (List ℕ)) → names ≡ first_name names ∷ rest → list_any (pointwise nat_eq (first_name names)) names ≡ true
  first_among [] rest e = cc
  first_among (name ∷ names) rest e = ap (λ b. b || list_any (pointwise nat_eq name) names) (same_name name)

  pub start_nodes : AreNodesOf config (start config) (first_master config)
  start_nodes = record {
    me = (of_master me backends).0;
    is_there = ap as_master (master_starts config are).at ∙ a_master master;
    only = λ name other at. sym (only_master name config.nodes (only_by name other (node_named name config.nodes) (starts config are name) at)
        (omega (arith, are.master)));
    fronts = front_of;
    frontends = λ name. fronts_by name (node_named name config.nodes) (starts config are name);
    homes = λ name. homes_by name (node_named name config.nodes) (starts config are name) ∙ backend_named name config.nodes are.names
        ∙ ap (list_any (pointwise nat_eq name)) (sym its_backends);
    backends = its_backends;
    first_there = ap (list_any (pointwise nat_eq (home_of config))) its_backends
        ∙ first_among backends (first_backend config.nodes are).rest (first_backend config.nodes are).is;
  }

  -- ---- the master, the backends and the store

  record HomeIs (name : List ℕ) (home : BackNode) : Type 0 where
    node : Node
    found : node_named name config.nodes ≡ Some node
    begins : HomeStarts config are name node
    is : home ≡ (told_up (place_of node) me).state

  home_by : (name : List ℕ) (home : BackNode) (found : Option Node) → node_named name config.nodes ≡ found → Starts config are name found
      → home_at world name ≡ Some home → HomeIs name home
  home_by name home found named (is_front node begins front_kind back_kind master_kind) at =
      absurd (no_one (home_at world name) home at (front_no_back (node_at world name) (first_front config name) begins.at))
  home_by name home found named (is_home node begins front_kind back_kind master_kind) at = record {
    node = node;
    found = named;
    begins = begins;
    is = (let same : Some (told_up (place_of node) me).state ≡ Some home = sym begins.at ∙ at in
        let is : (told_up (place_of node) me).state ≡ home = cc in sym is);
  }
  home_by name home found named (is_silent other it begins no_front no_back front_kind back_kind masters) at =
      absurd (no_one (home_at world name) home at (ap as_back begins.at ∙ no_back))

  home_first : (name : List ℕ) (home : BackNode) → home_at world name ≡ Some home → HomeIs name home
  home_first name home at = home_by name home (node_named name config.nodes) refl (starts config are name) at

  -- the place of a backend is its own by the configuration
  first_place : (name : List ℕ) (home : BackNode) (first : HomeIs name home) → IsAtBackend config (place_of first.node)
  first_place name home first = record {
    backend = record {
      node = first.node;
      at = ap (λ n. node_named n config.nodes) (first.begins).named ∙ first.found;
      kind = (first.begins).kind;
    };
    partition = refl;
  }

  pub home_place : (name : List ℕ) (home : BackNode) → home_at world name ≡ Some home → IsAtBackend config home.flows.me
  home_place name home at =
      let first = home_first name home at in
      subst (IsAtBackend config) (sym (ap (λ (h : BackNode). h.flows.me) first.is ∙ (told_keeps (place_of first.node) me).0)) (first_place name home first)

  home_begun : (name : List ℕ) (home : BackNode) → home_at world name ≡ Some home → HasBegun (murder_of world master) me backends name home
  home_begun name home at =
      let first = home_first name home at in
      let node : Node = first.node in
      let begins = first.begins in
      let named = named_place config are (place_of node) (first_place name home first) in
      record {
        place = place_of node;
        spelled = (node_is_short node.name named.server, node_is_short node.partition named.partition);
        named = begins.named;
        backend = sym (start_nodes.homes name ∙ ap (list_any (pointwise nat_eq name)) its_backends) ∙ ap is_some at;
        apart = λ e. no_one (master_at world name) master
            (ap (master_at world) e ∙ ap as_master (master_starts config are).at ∙ a_master master)
            (back_no_master (node_at world name) home at);
        state = first.is;
        up = begins.sent me;
        down = (master_starts config are).sent name;
      }

  pub start_many : ManyHold (murder_of (start config) (first_master config)) [] empty_store
  start_many = many_begin (murder_of world master) me backends (record { master = refl; begun = home_begun })

  -- ---- the feeds

  asks_by : (same : Bool) → same ≡ true → (if same then Line update_line ∷ [] else []) ≡ Line update_line ∷ []
  asks_by true e = refl
  asks_by false e = cc

  no_stream : (name : List ℕ) → stream_of master name ≡ None
  no_stream name = ap (λ s. value_at (slice_cmp nat_cmp) s name) (of_master me backends).3

  first_fed : (name : List ℕ) (front : Front) → front_at world name ≡ Some front → IsFedAt config world master name front
  unfolding new_front
  first_fed name front at =
      let first = front_first name front at in
      let down : on_link world.links me name ≡ [] = (master_starts config are).sent name in
      let empty : front.replica ≡ empty_replica = ap (λ (f : Front). f.replica) first.is in
      record {
        fed = has_asked (ap (λ (b : Broken). is_broken b me name) (start_quiet config are).broken ∙ none_broken me name)
            (ap (λ (f : Front). is_up f.ups me) first.is ∙ first.linked.to_master) [] []
            (first.sent me ∙ append-nil _ ∙ asks_by (pointwise nat_eq me me) (same_name me)) tt tt (subst AreLines (sym down) tt)
            (subst AreNoNews (sym down) tt) empty (no_stream name);
        knows = record {
          has = subst (λ r. NamesBackends (home_at world) r.records) (sym empty) (λ n s e. cc);
          each = subst (λ r. AreAtBackends (home_at world) r.records) (sym empty) tt;
          told = subst (AllByRecursion (TellsBackends (home_at world))) (sym down) tt;
        };
      }

  pub start_feeds : FeedsHold config (start config) (first_master config)
  start_feeds = record {
    each = first_fed;
    streams = subst (λ s. IsInOrder (slice_cmp nat_cmp) s) (sym (of_master me backends).3) (none_in_order Tag);
    nobodys = subst TellNobody (sym (of_master me backends).3) (λ k d h. absurd (omega arith));
    spelled = subst CanBeTold (sym (of_master me backends).2) (record { order = none_in_order Record; spelled = tt });
    backends = subst (TableNamesBackends (home_at world)) (sym (of_master me backends).2) (λ n it e. cc);
    kept = subst (AreKeptAtBackends (home_at world)) (sym (of_master me backends).2) tt;
  }

  -- ---- connections

  shows_none : (conn : ℕ) → ShowEach me (home_at world) world.links conn place.nowhere
  shows_none conn name home at =
      let first = home_first name home at in
      let begins = none_begins (is_of_connection conn) (place_of first.node) me in
      subst (λ down. TalkShows (is_of_connection conn) home (on_link world.links name me) down name_at.nowhere) (sym ((master_starts config are).sent name))
      (subst (λ up. TalkShows (is_of_connection conn) home up [] name_at.nowhere) (sym (first.begins.sent me))
      (subst (λ h. TalkShows (is_of_connection conn) h (messages_to me (told_up (place_of first.node) me).outs) [] name_at.nowhere) (sym first.is) begins.placed))

  pub start_in_none : (conn : ℕ) → IsInNoneOf (fixed_of config) (start config) conn
  start_in_none conn = record { message = (start_quiet config are).placed conn; shows = shows_none conn }

  no_connection : (front : Front) (name : List ℕ) (conn : ℕ) → front ≡ first_front config name → connection_at front conn ≡ None
  unfolding new_front
  no_connection front name conn is = ap (λ (f : Front). connection_at f conn) is

  pub start_connections : (moving : ℕ → List ℕ → Bool) (conn : ℕ) → ConnectionIs (fixed_of config) conn (start config) (first_tale moving) silent nobody
  start_connections moving conn =
      is_nobody (ap (λ c. value_at nat_cmp c conn) (start_quiet config are).clients)
      (λ name front at. no_connection front name conn (front_first name front at).is)
      (record { told = refl; said = refl; session = refl; nothing = start_in_none conn })

  pub start_marked : (moving : ℕ → List ℕ → Bool) → AreMarkedSo (setting_of config) (start config).broken (start config).steps (start config).marks (first_tale moving)
  start_marked moving =
      subst (λ n. AreMarkedSo (setting_of config) (start config).broken n (start config).marks (first_tale moving)) (sym (start_quiet config are).steps)
      (subst (λ m. AreMarkedSo (setting_of config) (start config).broken 0 m (first_tale moving)) (sym (start_quiet config are).marks) (nothing (setting_of config) (start config).broken moving))

no_requests : (setting : Setting) → [] ≡ requests_of setting (frames_heard nobody)
unfolding requests_in inputs_of frames_heard
no_requests setting = refl

-- whatever is moving to its tale
pub start_keeps : (config : Config) (moving : ℕ → List ℕ → Bool) → AreNodes config.nodes → StartsWith config moving
start_keeps config moving are = record {
  law = record {
    master = first_master config;
    nodes = start_nodes config are;
    story = first_tale moving;
    stops = λ conn. silent;
    given = [];
    many = start_many config are;
    feeds = start_feeds config are;
    is_told = start_marked config are moving;
    requests = λ conn. no_requests (setting_of config);
    connections = λ conn. start_connections config are moving conn;
  };
  moving_is = refl;
}
