-- The nodes before the first step: each frontend and each backend was told once that its link with the master is up.
use Rattle.std.proofs.Common.{◌≡◌, ◌≢◌, ℕ, zero, suc, ◌<◌, ◌≤◌, ◌&&◌, nat_eq, Bool, true, false, if◌then◌else◌, is_some, List, [], ◌∷◌, ◌++◌, length, Option, None, Some, refl, sym, ◌∙◌, ap, subst, arith, slice_index_or}
use Rattle.std.specs.List.{AllByRecursion, list_any}
use Rattle.std.specs.Ordering.{nat_cmp, is_eq}
use Rattle.std.specs.Cmp.Lexicographic.{pointwise, slice_cmp}
use Rattle.back_node.specs.declared.node.BackNode.{BackNode}
use Rattle.back_node.specs.Node.{is_my_master, new_node}
use Rattle.back_node.specs.Acted.{acted}
use Rattle.back_node.specs.Takes.{passed_over, taken_up, talks}
use Rattle.cluster_core.specs.Headline.Outside.{is_master_node}
use Rattle.cluster_core.specs.Heard.{is_frontend_node}
use Rattle.cluster_core.specs.World.{backends_of, master_of, first_state, front_at, home_at, node_at, place_of, start}
use Rattle.feed_links.specs.Lines.{messages_to}
use Rattle.feed_links.proofs.Names.{other_name, same_name}
use Rattle.front_core.proofs.OneConnection.Places.{IsPlaced, of_connection}
use Rattle.front_core.specs.declared.front.Front.{Front}
use Rattle.front_core.specs.Front.{new_front}
use Rattle.front_core.specs.Ups.{Ups, is_up}
use Rattle.link_msg.specs.declared.out.Out.{Out}
use Rattle.link_queue.specs.Links.{on_link}
use Rattle.many_links.specs.Start.{told_up}
use Rattle.master_core.specs.declared.master.Master.{Master}
use Rattle.master_core.specs.Boot.{booted}
use Rattle.mur_base.specs.declared.home.Location.{Location}
use Rattle.mur_base.proofs.MapLaws.{names_apart}
use Rattle.mur_config.specs.declared.config.Config.{Config}
use Rattle.mur_config.specs.declared.node.Kind.{Kind}
use Rattle.mur_config.specs.declared.node.Kind.TheVariants.{Master as master_kind, Frontend, Backend}
use Rattle.mur_config.specs.declared.node.Link.{Link}
use Rattle.mur_config.specs.declared.node.Node.{Node}
use Rattle.mur_config.specs.Nodes.{AreNodes, are_kinds_linked, is_node_of_kind, is_of_kind, links_of, node_named}
use Rattle.mur_config.proofs.OncePairs.{pairs_once, times}
use Rattle.node_step.specs.declared.node.NodeState.{NodeState}
use Rattle.node_step.specs.declared.node.NodeState.TheVariants as state
use Rattle.node_step.specs.NodeStep.{Acted, as_back, as_front, as_master, back_acted, back_takes, takes as node_takes}
use Rattle.name_flows.specs.Listing.{up_step}
use Rattle.node_record.specs.Table.{empty_table}
use Rattle.cluster_core.specs.declared.world.World.{World}
use Rattle.cluster_core.proofs.Nodes.LinksUp.{linked_up, ups_on}
use Rattle.cluster_core.proofs.Starts.Fresh.{first_by, fresh_at, fresh_empty, fresh_nodes}
use Rattle.cluster_core.proofs.Starts.Kinds.{HasNode, backend_is, backend_named, is_backend_node, master_named, master_node, named_among, named_so, pair_of}
use Rattle.cluster_core.proofs.Starts.Quiet.{IsQuiet, no_place, ups_quiet}
use Rattle.cluster_core.proofs.Starts.FrontUps.{asks_often, links_up, noting_front}
use Rattle.cluster_core.proofs.Starts.Ups.{Heeds, Ignores, takes_up, up_acted, ups_leave, ups_once, one_if}

-- a frontend that has done nothing but note its links
abbrev pub first_front : Config → List ℕ → Front
first_front config name = noting_front config name (ups_on name [] (links_of config.nodes))

-- the links to the master and to the backends are up
pub record IsLinked (ups : Ups) (master : List ℕ) (is_backend : List ℕ → Bool) : Type 0 where
  pub to_master : is_up ups master ≡ true
  pub to_backend : (server : List ℕ) → is_backend server ≡ true → is_up ups server ≡ true

abbrev pub first_home : Config → Node → BackNode
first_home config node = new_node (place_of node) (master_of config)

-- the master that has none yet
abbrev pub first_master : Config → Master
first_master config = booted (master_of config) (backends_of config.nodes) empty_table

abbrev pub asks_once : Config → List Out
asks_once config = asks_often config 1

-- ---- what each does as its link comes up

pub home_acts : (config : Config) (node : Node)
    → up_acted (state.Back (first_home config node)) (master_of config) ≡ back_acted (told_up (place_of node) (master_of config))
unfolding node_takes back_takes
home_acts config node = refl

home_heeds : (config : Config) (node : Node) → Heeds (state.Back (first_home config node)) (master_of config)
home_heeds config node from ne = other_name from (master_of config) ne

-- it keeps its place and its master
pub told_keeps : (place : Location) (me : List ℕ) → ((told_up place me).state.flows.me ≡ place) × ((told_up place me).state.flows.master ≡ me)
unfolding taken_up
told_keeps place me = by (is_my_master (new_node place me) me) (same_name me)
  where
    by : (same : Bool) → same ≡ true
        → (let next = (if same then talks (new_node place me) (up_step (new_node place me).flows) else passed_over (new_node place me)) in
        ((acted next.node next.rest).state.flows.me ≡ place) × ((acted next.node next.rest).state.flows.master ≡ me))
    by true e = (refl, refl)
    by false e = cc

-- ---- the links

-- a link that stands there does so once at least
there_once : (pairs : List Link) (from to : List ℕ) (k : ℕ) → k < length pairs → slice_index_or pairs k (record { from = from; to = to }) ≡ record { from = from; to = to }
    → 1 ≤ times from to pairs
unfolding times
there_once [] from to k h e = absurd (omega arith)
there_once (pair ∷ pairs) from to zero h e =
    omega (
      arith,
      ap (λ (p : Link). one_if (is_eq (slice_cmp nat_cmp p.from from) && is_eq (slice_cmp nat_cmp p.to to))) (sym e),
      both_same,
    )
  where
    both_same : one_if (is_eq (slice_cmp nat_cmp from from) && is_eq (slice_cmp nat_cmp to to)) ≡ 1
    both_same = rw (names_apart.itself from, names_apart.itself to) refl
there_once (pair ∷ pairs) from to (suc k) h e = omega (arith, there_once pairs from to k (omega arith) e)

module _ (config : Config) (are : AreNodes config.nodes) where
  abbrev master : List ℕ
  master = master_of config

  abbrev begun : World
  begun = fresh_nodes config

  abbrev pairs : List Link
  pairs = links_of config.nodes

  -- the master is another node than one of another kind
  apart_of : (name : List ℕ) (node : Node) → node_named name config.nodes ≡ Some node → is_node_of_kind master_kind node ≡ false → name ≢ master
  apart_of name node named other e =
      let is : is_master_node (node_named master config.nodes) ≡ true = master_named config.nodes are.names (omega (arith, are.master)) in
      let no : is_node_of_kind master_kind node ≡ true = sym (ap is_master_node (ap (λ n. node_named n config.nodes) (sym e) ∙ named)) ∙ is in
      let both : false ≡ true = sym other ∙ no in cc

  linked_once : (kind : Kind) (name : List ℕ) (node : Node) → node_named name config.nodes ≡ Some node → node.kind ≡ kind
      → are_kinds_linked master_kind kind ≡ true → name ≢ master → times master name pairs ≡ 1
  linked_once kind name node named is kinds ne =
      let there = pair_of config.nodes master_kind kind master name kinds (master_node config.nodes (omega (arith, are.master)))
      (record { node = node; among = named_among name config.nodes node named; kind_is = is; named = named_so name config.nodes node named })
      (λ e. ne (sym e)) in
      omega (arith, pairs_once config.nodes are master name, there_once pairs master name there.0 there.1 there.2)

  -- a node of this kind, as it begins
  begun_at : (name : List ℕ) (node : Node) (kind : Kind) → node_named name config.nodes ≡ Some node → node.kind ≡ kind
      → node_at begun name ≡ Some (first_state config node kind)
  begun_at name node kind named is = fresh_at config name are.names ∙ ap (first_by config) named ∙ ap (λ k. Some (first_state config node k)) is

  nothing_on : (a b : List ℕ) → on_link begun.links a b ≡ []
  unfolding on_link
  nothing_on a b = ap (λ l. on_link l a b) (fresh_empty config).links

  -- ---- a frontend at the start

  pub record FrontStarts (name : List ℕ) : Type 0 where
    pub at : front_at (start config) name ≡ Some (first_front config name)
    pub sent : (other : List ℕ) → on_link (start config).links name other ≡ messages_to other (asks_once config)
    pub linked : IsLinked (ups_on name [] pairs) master (λ server. list_any (pointwise nat_eq server) (backends_of config.nodes))

  not_master_front : (node : Node) → node.kind ≡ Frontend → is_node_of_kind master_kind node ≡ false
  unfolding is_node_of_kind is_of_kind
  not_master_front node is = rw is refl

  not_master_back : (node : Node) → node.kind ≡ Backend → is_node_of_kind master_kind node ≡ false
  unfolding is_node_of_kind is_of_kind
  not_master_back node is = rw is refl

  -- a link stands among the pairs from each node of a kind with which frontends are linked
  linked_from : (kind : Kind) (from name : List ℕ) (node : Node) → node_named name config.nodes ≡ Some node → node.kind ≡ Frontend
      → are_kinds_linked kind Frontend ≡ true → HasNode config.nodes kind from → from ≢ name → is_up (ups_on name [] pairs) from ≡ true
  linked_from kind from name node named is kinds has ne =
      let there = pair_of config.nodes kind Frontend from name kinds has
      (record { node = node; among = named_among name config.nodes node named; kind_is = is; named = named_so name config.nodes node named }) ne in
      linked_up name from [] pairs there.0 there.1 there.2

  backend_linked : (name server : List ℕ) (node : Node) (found : Option Node) → node_named name config.nodes ≡ Some node → node.kind ≡ Frontend
      → node_named server config.nodes ≡ found → is_backend_node found ≡ true → is_up (ups_on name [] pairs) server ≡ true
  unfolding are_kinds_linked
  backend_linked name server node None named is at back = cc
  backend_linked name server node (Some other) named is at back =
      let kind : other.kind ≡ Backend = backend_is other other.kind refl back in
      linked_from Backend server name node named is refl
      (record { node = other; among = named_among server config.nodes other at; kind_is = kind; named = named_so server config.nodes other at })
      (λ e. (let same : Some other ≡ Some node = sym at ∙ ap (λ n. node_named n config.nodes) e ∙ named in
      let one : other ≡ node = cc in
      let no : Backend ≡ Frontend = sym kind ∙ ap (λ (n : Node). n.kind) one ∙ is in cc))

  front_linked : (name : List ℕ) (node : Node) → node_named name config.nodes ≡ Some node → node.kind ≡ Frontend
      → IsLinked (ups_on name [] pairs) master (λ server. list_any (pointwise nat_eq server) (backends_of config.nodes))
  unfolding are_kinds_linked
  front_linked name node named is = record {
    to_master = linked_from master_kind master name node named is refl (master_node config.nodes (omega (arith, are.master)))
        (λ e. apart_of name node named (not_master_front node is) (sym e));
    to_backend = λ server there. backend_linked name server node (node_named server config.nodes) named is refl
        (backend_named server config.nodes are.names ∙ there);
  }

  front_starts : (name : List ℕ) (node : Node) → node_named name config.nodes ≡ Some node → node.kind ≡ Frontend → FrontStarts name
  unfolding start first_state are_kinds_linked as_front new_front
  front_starts name node named is =
      let at : node_at begun name ≡ Some (state.Front (noting_front config name [])) =
      begun_at name node Frontend named is ∙ ap (λ n. Some (state.Front (noting_front config n []))) (named_so name config.nodes node named) in
      let up = links_up config name begun pairs [] (fresh_empty config).broken at in
      let once = linked_once Frontend name node named is refl (apart_of name node named (not_master_front node is)) in
      record {
        at = ap as_front up.node;
        sent = λ other. up.sent other ∙ ap (λ l. l ++ messages_to other (asks_often config (times master name pairs))) (nothing_on name other)
            ∙ ap (λ n. messages_to other (asks_often config n)) once;
        linked = front_linked name node named is;
      }

  -- ---- a backend

  pub record HomeStarts (name : List ℕ) (node : Node) : Type 0 where
    pub named : node.name ≡ name
    pub kind : node.kind ≡ Backend
    pub at : home_at (start config) name ≡ Some (told_up (place_of node) master).state
    pub sent : (other : List ℕ) → on_link (start config).links name other ≡ messages_to other (told_up (place_of node) master).outs

  home_starts : (name : List ℕ) (node : Node) → node_named name config.nodes ≡ Some node → node.kind ≡ Backend → HomeStarts name node
  unfolding start first_state are_kinds_linked as_back
  home_starts name node named is =
      let acts = home_acts config node in
      let later : Heeds (state.Back (told_up (place_of node) master).state) master =
      λ from ne. ap (pointwise nat_eq from) (told_keeps (place_of node) master).1 ∙ other_name from master ne in
      let once = ups_once begun pairs name master (state.Back (first_home config node)) (fresh_empty config).broken (begun_at name node Backend named is)
      (home_heeds config node) (subst (λ (a : Acted). Heeds a.state master) (sym acts) later)
      (linked_once Backend name node named is refl (apart_of name node named (not_master_back node is))) in
      record {
        named = named_so name config.nodes node named;
        kind = is;
        at = ap as_back (once.node ∙ ap (λ (a : Acted). Some a.state) acts);
        sent = λ other. once.sent other ∙ ap (λ l. l ++ messages_to other (up_acted (state.Back (first_home config node)) master).outs) (nothing_on name other)
            ∙ ap (λ (a : Acted). messages_to other a.outs) acts;
      }

  -- ---- the master, and a name of no node

  ignores_all : (name : List ℕ) (found : Option NodeState) (links : List Link) → ((it : NodeState) → found ≡ Some it → (from : List ℕ) → takes_up it from ≡ false)
      → AllByRecursion (Ignores found name) links
  ignores_all name found [] none = tt
  ignores_all name found (link ∷ links) none = ((λ to it at. none it at link.from), ignores_all name found links none)

  -- a node that isn't told of its master's link is as it began, and sent nothing
  pub record SilentStarts (name : List ℕ) (found : Option NodeState) : Type 0 where
    pub at : node_at (start config) name ≡ found
    pub sent : (other : List ℕ) → on_link (start config).links name other ≡ []

  silent_starts : (name : List ℕ) (found : Option NodeState) → node_at begun name ≡ found
      → ((it : NodeState) → found ≡ Some it → (from : List ℕ) → takes_up it from ≡ false) → SilentStarts name found
  unfolding start
  silent_starts name found at none =
      let left = ups_leave begun pairs name found (fresh_empty config).broken at (ignores_all name found pairs none) in
      record { at = left.node ∙ at; sent = λ other. left.sent other ∙ nothing_on name other }

  master_starts_at : (name : List ℕ) (node : Node) → node_named name config.nodes ≡ Some node → node.kind ≡ master_kind
      → SilentStarts name (Some (state.Master (booted name (backends_of config.nodes) empty_table)))
  unfolding first_state
  master_starts_at name node named is =
      silent_starts name (Some (state.Master (booted name (backends_of config.nodes) empty_table)))
      (begun_at name node master_kind named is
      ∙ ap (λ n. Some (state.Master (booted n (backends_of config.nodes) empty_table))) (named_so name config.nodes node named))
      (λ it e. (let is_master : state.Master (booted name (backends_of config.nodes) empty_table) ≡ it = cc in
      λ from. subst (λ i. takes_up i from ≡ false) is_master refl))

  none_starts : (name : List ℕ) → node_named name config.nodes ≡ None → SilentStarts name None
  none_starts name none = silent_starts name None (fresh_at config name are.names ∙ ap (first_by config) none) (λ it e. cc)

  -- ---- each name

  pub data Starts (name : List ℕ) : Option Node → Type 0 where
    is_front : (node : Node) → FrontStarts name → is_node_of_kind Frontend node ≡ true → is_node_of_kind Backend node ≡ false
        → is_node_of_kind master_kind node ≡ false → Starts name (Some node)
    is_home : (node : Node) → HomeStarts name node → is_node_of_kind Frontend node ≡ false → is_node_of_kind Backend node ≡ true
        → is_node_of_kind master_kind node ≡ false → Starts name (Some node)
    is_silent : (found : Option Node) (it : Option NodeState) → SilentStarts name it → as_front it ≡ None → as_back it ≡ None → is_frontend_node found ≡ false
        → is_backend_node found ≡ false → is_some (as_master it) ≡ is_master_node found → Starts name found

  starts_by : (name : List ℕ) (node : Node) (kind : Kind) → node_named name config.nodes ≡ Some node → node.kind ≡ kind → Starts name (Some node)
  unfolding is_node_of_kind is_of_kind as_front as_back as_master
  starts_by name node Frontend named is = is_front node (front_starts name node named is) (rw is refl) (rw is refl) (rw is refl)
  starts_by name node Backend named is = is_home node (home_starts name node named is) (rw is refl) (rw is refl) (rw is refl)
  starts_by name node master_kind named is =
      is_silent (Some node) (Some (state.Master (booted name (backends_of config.nodes) empty_table))) (master_starts_at name node named is) refl refl
      (rw is refl) (rw is refl) (rw is refl)

  starts_at : (name : List ℕ) (found : Option Node) → node_named name config.nodes ≡ found → Starts name found
  unfolding as_front as_back as_master
  starts_at name None named = is_silent None None (none_starts name named) refl refl refl refl refl
  starts_at name (Some node) named = starts_by name node node.kind named refl

  pub starts : (name : List ℕ) → Starts name (node_named name config.nodes)
  starts name = starts_at name (node_named name config.nodes) refl

  -- the master
  master_by : (found : Option Node) → node_named master config.nodes ≡ found → is_master_node found ≡ true → SilentStarts master (Some (state.Master (first_master config)))
  unfolding is_node_of_kind is_of_kind
  master_by None named is = cc
  master_by (Some node) named is = by_kind node.kind refl
    where
      by_kind : (kind : Kind) → node.kind ≡ kind → SilentStarts master (Some (state.Master (first_master config)))
      by_kind master_kind k = master_starts_at master node named k
      by_kind Frontend k = absurd (let no : false ≡ true = sym (rw k refl) ∙ is in cc)
      by_kind Backend k = absurd (let no : false ≡ true = sym (rw k refl) ∙ is in cc)

  pub master_starts : SilentStarts master (Some (state.Master (first_master config)))
  master_starts = master_by (node_named master config.nodes) refl (master_named config.nodes are.names (omega (arith, are.master)))

  -- nobody was given anything
  pub start_quiet : IsQuiet (start config)
  unfolding start
  start_quiet = ups_quiet begun pairs
      (let empty = fresh_empty config in
      record {
        clients = empty.clients;
        broken = empty.broken;
        marks = empty.marks;
        steps = empty.steps;
        placed = λ conn. subst (λ l. IsPlaced 0 (of_connection conn) l None) (sym empty.links) (no_place 0 (of_connection conn));
      })
