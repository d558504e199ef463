-- Of which kind the nodes of a configuration are: one is the master, the backends are those of their list, and each two that links join are in both directions.
use Rattle.std.proofs.Common.{◌≡◌, ◌≢◌, ℕ, zero, suc, ◌<◌, ◌≤◌, ◌||◌, Bool, true, false, nat_eq, cond, if◌then◌else◌, List, [], ◌∷◌, length, Option, None, Some, refl, sym, ap, ◌∙◌, subst, arith, slice_index_or, Contains}
use Rattle.std.specs.Prelude.{All, AllPairs}
use Rattle.std.specs.List.{list_any}
use Rattle.std.specs.Cmp.Lexicographic.{pointwise, same_text}
use Rattle.std.specs.Str.{bytes_eq}
use Rattle.std.proofs.lemmas.Slice.Eq.{bytes_eq-Decides}
use Rattle.std.proofs.lemmas.List.Elements.{All-head, All-tail, All-cons, All-nil, Contains-append_left, Contains-append_right}
use Rattle.cluster_core.specs.Headline.Outside.{is_master_node}
use Rattle.cluster_core.specs.World.{backends_of, first_name, master_among, or_backend, or_master}
use Rattle.feed_links.proofs.Names.{same_name}
use Rattle.mur_config.specs.declared.node.Kind.{Kind}
use Rattle.mur_config.specs.declared.node.Kind.TheVariants.{Master, Frontend, Backend}
use Rattle.mur_config.specs.declared.node.Link.{Link}
use Rattle.mur_config.specs.declared.node.Node.{Node}
use Rattle.mur_config.specs.Nodes.{AreNodes, are_kinds_linked, are_linked, count_of_kind, is_node_named, is_node_of_kind, is_of_kind, link, links_between, links_from, links_of, node_named}
use Rattle.mur_config.proofs.NodesApart.{head_apart, tail_apart}

-- a node of this kind and name
pub record HasNode (nodes : List Node) (kind : Kind) (name : List ℕ) : Type 0 where
  pub node : Node
  pub among : Contains nodes node
  pub kind_is : node.kind ≡ kind
  pub named : node.name ≡ name

pub at_head : {X : Type 0} (x : X) (xs : List X) → Contains (x ∷ xs) x
at_head x xs = (0, omega arith, refl)

pub has_later : (first : Node) (nodes : List Node) (kind : Kind) (name : List ℕ) → HasNode nodes kind name → HasNode (first ∷ nodes) kind name
has_later first nodes kind name has = record {
  node = has.node;
  among = Contains-append_right (first ∷ []) nodes has.node has.among;
  kind_is = has.kind_is;
  named = has.named;
}

-- counting the backends

count_by_kind : (node : Node) (nodes : List Node) (kind : Kind) → node.kind ≡ kind → length (backends_of nodes) ≡ count_of_kind Backend nodes
    → length (or_backend kind node.name (backends_of nodes)) ≡ count_of_kind Backend (node ∷ nodes)
unfolding or_backend count_of_kind is_node_of_kind is_of_kind
count_by_kind node nodes Master k e = rw k e
count_by_kind node nodes Frontend k e = rw k e
count_by_kind node nodes Backend k e = rw k (ap (λ n. suc n) e)

backend_count : (nodes : List Node) → length (backends_of nodes) ≡ count_of_kind Backend nodes
unfolding backends_of count_of_kind
backend_count [] = refl
backend_count (node ∷ nodes) = count_by_kind node nodes node.kind refl (backend_count nodes)

name_by : (P : List ℕ → Type 0) (node : Node) (kind : Kind) (names : List (List ℕ)) → P node.name → All P names → All P (or_backend kind node.name names)
unfolding or_backend
name_by P node Master names p all = all
name_by P node Frontend names p all = all
name_by P node Backend names p all = All-cons P node.name names p all

-- what holds of all names holds of the backends'
pub all_named : (P : List ℕ → Type 0) (nodes : List Node) → All (λ (node : Node). P node.name) nodes → All P (backends_of nodes)
unfolding backends_of
all_named P [] all = All-nil P
all_named P (node ∷ nodes) all =
    name_by P node node.kind (backends_of nodes) (All-head (λ (n : Node). P n.name) node nodes all)
    (all_named P nodes (All-tail (λ (n : Node). P n.name) node nodes all))

-- the first backend

pub record HasFirst (names : List (List ℕ)) : Type 0 where
  pub rest : List (List ℕ)
  pub is : names ≡ first_name names ∷ rest

has_first : (names : List (List ℕ)) → 1 ≤ length names → HasFirst names
has_first [] h = absurd (omega arith)
has_first (name ∷ names) h = record { rest = names; is = refl }

pub some_backend : (nodes : List Node) → AreNodes nodes → 0 < length (backends_of nodes)
some_backend nodes are = omega (arith, backend_count nodes, are.backends.0)

pub first_backend : (nodes : List Node) → AreNodes nodes → HasFirst (backends_of nodes)
first_backend nodes are = has_first (backends_of nodes) (omega (arith, backend_count nodes, are.backends.0))

-- counting masters

counted_here : (node : Node) (nodes : List Node) → node.kind ≡ Master → count_of_kind Master (node ∷ nodes) ≡ suc (count_of_kind Master nodes)
unfolding count_of_kind is_node_of_kind is_of_kind
counted_here node nodes k = rw k refl

counted_no_less : (node : Node) (nodes : List Node) (kind : Kind) → node.kind ≡ kind → count_of_kind Master nodes ≤ count_of_kind Master (node ∷ nodes)
unfolding count_of_kind is_node_of_kind is_of_kind
counted_no_less node nodes Master k = rw k (omega arith)
counted_no_less node nodes Frontend k = rw k (omega arith)
counted_no_less node nodes Backend k = rw k (omega arith)

not_counted : (node : Node) (nodes : List Node) (kind : Kind) → node.kind ≡ kind → kind ≢ Master → count_of_kind Master (node ∷ nodes) ≡ count_of_kind Master nodes
unfolding count_of_kind is_node_of_kind is_of_kind
not_counted node nodes Master k ne = absurd (ne refl)
not_counted node nodes Frontend k ne = rw k refl
not_counted node nodes Backend k ne = rw k refl

none_counted : count_of_kind Master [] ≡ 0
unfolding count_of_kind
none_counted = refl

-- the master is a node of its kind

master_by : (node : Node) (nodes : List Node) (kind : Kind) → node.kind ≡ kind → 1 ≤ count_of_kind Master (node ∷ nodes)
    → (1 ≤ count_of_kind Master nodes → HasNode nodes Master (master_among nodes))
    → HasNode (node ∷ nodes) Master (or_master kind node.name (master_among nodes))
unfolding or_master
master_by node nodes Master k counted later = record { node = node; among = at_head node nodes; kind_is = k; named = refl }
master_by node nodes Frontend k counted later =
    has_later node nodes Master (master_among nodes) (later (omega (arith, counted, not_counted node nodes Frontend k (λ e. cc))))
master_by node nodes Backend k counted later =
    has_later node nodes Master (master_among nodes) (later (omega (arith, counted, not_counted node nodes Backend k (λ e. cc))))

pub master_node : (nodes : List Node) → 1 ≤ count_of_kind Master nodes → HasNode nodes Master (master_among nodes)
unfolding master_among
master_node [] counted = absurd (omega (arith, counted, none_counted))
master_node (node ∷ nodes) counted = master_by node nodes node.kind refl counted (master_node nodes)

-- the master is behind a node of another kind

behind_by : (node : Node) (nodes : List Node) (kind : Kind) → node.kind ≡ kind → kind ≢ Master → 1 ≤ count_of_kind Master (node ∷ nodes)
    → (master_among nodes ≡ or_master kind node.name (master_among nodes)) × (1 ≤ count_of_kind Master nodes)
unfolding or_master
behind_by node nodes Master k ne counted = absurd (ne refl)
behind_by node nodes Frontend k ne counted = (refl, omega (arith, counted, not_counted node nodes Frontend k ne))
behind_by node nodes Backend k ne counted = (refl, omega (arith, counted, not_counted node nodes Backend k ne))

pub master_behind : (nodes rest : List Node) (node : Node) → nodes ≡ node ∷ rest → node.kind ≢ Master → 1 ≤ count_of_kind Master nodes
    → (master_among rest ≡ master_among nodes) × (1 ≤ count_of_kind Master rest)
unfolding master_among
master_behind nodes rest node at ne counted =
    let here = behind_by node rest node.kind refl ne (subst (λ all. 1 ≤ count_of_kind Master all) at counted) in
    (here.0 ∙ sym (ap master_among at), here.1)

pub some_nodes : (nodes : List Node) → nodes ≡ [] → 1 ≤ count_of_kind Master nodes → ⊥
some_nodes nodes none counted = omega (arith, subst (λ all. 1 ≤ count_of_kind Master all) none counted, none_counted)

-- who is named as the master

named_master : (node : Node) (kind : Kind) → node.kind ≡ kind → is_master_node (Some node) ≡ true → kind ≡ Master
unfolding is_node_of_kind is_of_kind
named_master node Master k is = refl
named_master node Frontend k is = absurd (let no : false ≡ true = sym (rw k refl) ∙ is in cc)
named_master node Backend k is = absurd (let no : false ≡ true = sym (rw k refl) ∙ is in cc)

some_counted_by : (name : List ℕ) (node : Node) (nodes : List Node) (same : Bool) → is_master_node (cond same (Some node) (node_named name nodes)) ≡ true
    → (is_master_node (node_named name nodes) ≡ true → 1 ≤ count_of_kind Master nodes) → 1 ≤ count_of_kind Master (node ∷ nodes)
some_counted_by name node nodes true is later =
    omega (arith, counted_here node nodes (named_master node node.kind refl is))
some_counted_by name node nodes false is later = omega (arith, later is, counted_no_less node nodes node.kind refl)

some_counted : (name : List ℕ) (nodes : List Node) → is_master_node (node_named name nodes) ≡ true → 1 ≤ count_of_kind Master nodes
unfolding node_named
some_counted name [] is = cc
some_counted name (node ∷ nodes) is = some_counted_by name node nodes (is_node_named name node) is (some_counted name nodes)

-- the first node is the master, or one behind it
only_by : (name : List ℕ) (node : Node) (nodes : List Node) (kind : Kind) (same : Bool) → node.kind ≡ kind → is_node_named name node ≡ same
    → is_master_node (cond same (Some node) (node_named name nodes)) ≡ true → count_of_kind Master (node ∷ nodes) ≤ 1
    → (is_master_node (node_named name nodes) ≡ true → count_of_kind Master nodes ≤ 1 → master_among nodes ≡ name)
    → or_master kind node.name (master_among nodes) ≡ name
unfolding or_master is_node_named
only_by name node nodes Master true k same is counted later = (bytes_eq-Decides node.name name).0 same
only_by name node nodes Master false k same is counted later =
    absurd (omega (arith, counted, counted_here node nodes k, some_counted name nodes is))
only_by name node nodes Frontend true k same is counted later = absurd (let no : Frontend ≡ Master = sym k ∙ named_master node node.kind refl is in cc)
only_by name node nodes Frontend false k same is counted later = later is (omega (arith, counted, not_counted node nodes Frontend k (λ e. cc)))
only_by name node nodes Backend true k same is counted later = absurd (let no : Backend ≡ Master = sym k ∙ named_master node node.kind refl is in cc)
only_by name node nodes Backend false k same is counted later = later is (omega (arith, counted, not_counted node nodes Backend k (λ e. cc)))

pub only_master : (name : List ℕ) (nodes : List Node) → is_master_node (node_named name nodes) ≡ true → count_of_kind Master nodes ≤ 1 → master_among nodes ≡ name
unfolding node_named master_among
only_master name [] is counted = cc
only_master name (node ∷ nodes) is counted =
    only_by name node nodes node.kind (is_node_named name node) refl refl is counted (only_master name nodes)

-- the master's name is that of the master

apart_from_later : (node : Node) (nodes : List Node) (kind : Kind) → node.kind ≡ kind → kind ≢ Master → node.name ≡ master_among nodes
    → AllPairs (λ (one other : Node). one.name ≢ other.name) (node ∷ nodes) → 1 ≤ count_of_kind Master (node ∷ nodes) → ⊥
apart_from_later node nodes kind k ne e pairs counted =
    let has = master_node nodes (omega (arith, counted, not_counted node nodes kind k ne)) in
    head_apart node nodes pairs has.among.0 has.node has.among.1 (e ∙ sym has.named ∙ ap (λ (n : Node). n.name) (sym has.among.2))

master_named_by : (node : Node) (nodes : List Node) (kind : Kind) (same : Bool) → node.kind ≡ kind
    → is_node_named (or_master kind node.name (master_among nodes)) node ≡ same → AllPairs (λ (one other : Node). one.name ≢ other.name) (node ∷ nodes)
    → 1 ≤ count_of_kind Master (node ∷ nodes)
    → (AllPairs (λ (one other : Node). one.name ≢ other.name) nodes → 1 ≤ count_of_kind Master nodes → is_master_node (node_named (master_among nodes) nodes) ≡ true)
    → is_master_node (cond same (Some node) (node_named (or_master kind node.name (master_among nodes)) nodes)) ≡ true
unfolding or_master is_node_named is_node_of_kind is_of_kind
master_named_by node nodes Master true k same pairs counted later = rw k refl
master_named_by node nodes Master false k same pairs counted later =
    absurd (let equal = (bytes_eq-Decides node.name node.name).1 refl in let no : false ≡ true = sym same ∙ equal in cc)
master_named_by node nodes Frontend true k same pairs counted later =
    absurd (apart_from_later node nodes Frontend k (λ e. cc) ((bytes_eq-Decides node.name (master_among nodes)).0 same) pairs counted)
master_named_by node nodes Frontend false k same pairs counted later =
    later (tail_apart node nodes pairs) (omega (arith, counted, not_counted node nodes Frontend k (λ e. cc)))
master_named_by node nodes Backend true k same pairs counted later =
    absurd (apart_from_later node nodes Backend k (λ e. cc) ((bytes_eq-Decides node.name (master_among nodes)).0 same) pairs counted)
master_named_by node nodes Backend false k same pairs counted later =
    later (tail_apart node nodes pairs) (omega (arith, counted, not_counted node nodes Backend k (λ e. cc)))

pub master_named : (nodes : List Node) → AllPairs (λ (one other : Node). one.name ≢ other.name) nodes → 1 ≤ count_of_kind Master nodes
    → is_master_node (node_named (master_among nodes) nodes) ≡ true
unfolding node_named master_among
master_named [] pairs counted = absurd (omega (arith, counted, none_counted))
master_named (node ∷ nodes) pairs counted =
    master_named_by node nodes node.kind (is_node_named (or_master node.kind node.name (master_among nodes)) node) refl refl pairs counted (master_named nodes)

-- a name that is none of these
none_named : (name : List ℕ) (names : List (List ℕ)) → All (λ n. name ≢ n) names → list_any (pointwise nat_eq name) names ≡ false
none_named name [] all = refl
none_named name (other ∷ names) all =
    or_false (pointwise nat_eq name other) (list_any (pointwise nat_eq name) names)
    (by_text (pointwise nat_eq name other) refl) (none_named name names (All-tail (λ n. name ≢ n) other names all))
  where
    by_text : (same : Bool) → pointwise nat_eq name other ≡ same → pointwise nat_eq name other ≡ false
    by_text true e = absurd (All-head (λ n. name ≢ n) other names all (same_text name other (sym e)))
    by_text false e = e

    or_false : (a b : Bool) → a ≡ false → b ≡ false → (a || b) ≡ false
    or_false a b one two = rw (one, two) refl

-- ---- a backend of the configuration

abbrev pub is_backend_node : Option Node → Bool
is_backend_node None = false
is_backend_node (Some node) = is_node_of_kind Backend node

pub backend_is : (node : Node) (kind : Kind) → node.kind ≡ kind → is_node_of_kind Backend node ≡ true → kind ≡ Backend
unfolding is_node_of_kind is_of_kind
backend_is node Backend k is = refl
backend_is node Frontend k is = absurd (let no : false ≡ true = sym (rw k refl) ∙ is in cc)
backend_is node Master k is = absurd (let no : false ≡ true = sym (rw k refl) ∙ is in cc)

back_by : (name : List ℕ) (node : Node) (nodes : List Node) (kind : Kind) (same : Bool) → node.kind ≡ kind → is_node_named name node ≡ same
    → AllPairs (λ (one other : Node). one.name ≢ other.name) (node ∷ nodes)
    → is_backend_node (node_named name nodes) ≡ list_any (pointwise nat_eq name) (backends_of nodes)
    → is_backend_node (cond same (Some node) (node_named name nodes)) ≡ list_any (pointwise nat_eq name) (or_backend kind node.name (backends_of nodes))
unfolding or_backend is_node_named is_node_of_kind is_of_kind
back_by name node nodes Master true k same pairs later =
    rw k (sym (none_named name (backends_of nodes) (subst (λ n. All (λ m. n ≢ m) (backends_of nodes)) ((bytes_eq-Decides node.name name).0 same)
    (all_named (λ n. node.name ≢ n) nodes (head_apart node nodes pairs)))))
back_by name node nodes Frontend true k same pairs later =
    rw k (sym (none_named name (backends_of nodes) (subst (λ n. All (λ m. n ≢ m) (backends_of nodes)) ((bytes_eq-Decides node.name name).0 same)
    (all_named (λ n. node.name ≢ n) nodes (head_apart node nodes pairs)))))
back_by name node nodes Backend true k same pairs later =
    let is : node.name ≡ name = (bytes_eq-Decides node.name name).0 same in
    rw k (sym (ap (λ b. b || list_any (pointwise nat_eq name) (backends_of nodes)) (ap (pointwise nat_eq name) is ∙ same_name name)))
back_by name node nodes Master false k same pairs later = later
back_by name node nodes Frontend false k same pairs later = later
back_by name node nodes Backend false k same pairs later = other (pointwise nat_eq name node.name) refl
  where
    other : (equal : Bool) → pointwise nat_eq name node.name ≡ equal
        → is_backend_node (node_named name nodes) ≡ list_any (pointwise nat_eq name) (node.name ∷ backends_of nodes)
    other true e =
        absurd (let equal = (bytes_eq-Decides node.name name).1 (sym (same_text name node.name (sym e))) in let no : false ≡ true = sym same ∙ equal in cc)
    other false e = rw e later

-- a node is a backend where its name is one of theirs
pub backend_named : (name : List ℕ) (nodes : List Node) → AllPairs (λ (one other : Node). one.name ≢ other.name) nodes
    → is_backend_node (node_named name nodes) ≡ list_any (pointwise nat_eq name) (backends_of nodes)
unfolding node_named backends_of
backend_named name [] pairs = refl
backend_named name (node ∷ nodes) pairs =
    back_by name node nodes node.kind (is_node_named name node) refl refl pairs (backend_named name nodes (tail_apart node nodes pairs))

-- a node of a name is among them
among_by : (name : List ℕ) (node : Node) (nodes : List Node) (found : Node) (same : Bool) → cond same (Some node) (node_named name nodes) ≡ Some found
    → (node_named name nodes ≡ Some found → Contains nodes found) → Contains (node ∷ nodes) found
among_by name node nodes found true e later = (let same : node ≡ found = cc in subst (λ f. Contains (node ∷ nodes) f) same (at_head node nodes))
among_by name node nodes found false e later = Contains-append_right (node ∷ []) nodes found (later e)

pub named_among : (name : List ℕ) (nodes : List Node) (found : Node) → node_named name nodes ≡ Some found → Contains nodes found
unfolding node_named
named_among name [] found e = cc
named_among name (node ∷ nodes) found e = among_by name node nodes found (is_node_named name node) e (named_among name nodes found)

so_by : (name : List ℕ) (node : Node) (nodes : List Node) (found : Node) (same : Bool) → bytes_eq node.name name ≡ same
    → cond same (Some node) (node_named name nodes) ≡ Some found → (node_named name nodes ≡ Some found → found.name ≡ name) → found.name ≡ name
so_by name node nodes found true h e later =
    (let same : node ≡ found = cc in subst (λ (f : Node). f.name ≡ name) same ((bytes_eq-Decides node.name name).0 h))
so_by name node nodes found false h e later = later e

pub named_so : (name : List ℕ) (nodes : List Node) (found : Node) → node_named name nodes ≡ Some found → found.name ≡ name
unfolding node_named is_node_named
named_so name [] found e = cc
named_so name (node ∷ nodes) found e = so_by name node nodes found (bytes_eq node.name name) refl e (named_so name nodes found)

-- ---- the pairs that are linked

-- linked nodes are among the pairs

kept_by : (from first : Node) (links : List Link) (linked : Bool) (pair : Link) → Contains links pair
    → Contains (if linked then link from first ∷ links else links) pair
kept_by from first links true pair among = Contains-append_right (link from first ∷ []) links pair among
kept_by from first links false pair among = among

first_by : (from first to : Node) (links : List Link) (linked : Bool) → are_linked from first ≡ linked → first ≡ to → are_linked from to ≡ true
    → Contains (if linked then link from first ∷ links else links) (link from to)
first_by from first to links true e same joined =
    subst (λ n. Contains (link from first ∷ links) (link from n)) same (at_head (link from first) links)
first_by from first to links false e same joined =
    absurd (let no : false ≡ true = sym e ∙ ap (are_linked from) same ∙ joined in cc)

among_from : (from to : Node) (nodes : List Node) (k : ℕ) → k < length nodes → slice_index_or nodes k to ≡ to → are_linked from to ≡ true
    → Contains (links_from from nodes) (link from to)
unfolding links_from
among_from from to [] k h e joined = absurd (omega arith)
among_from from to (first ∷ nodes) zero h e joined = first_by from first to (links_from from nodes) (are_linked from first) refl e joined
among_from from to (first ∷ nodes) (suc k) h e joined =
    kept_by from first (links_from from nodes) (are_linked from first) (link from to) (among_from from to nodes k (omega arith) e joined)

among_between : (from to : Node) (froms nodes : List Node) (k : ℕ) → k < length froms → slice_index_or froms k from ≡ from → Contains nodes to
    → are_linked from to ≡ true → Contains (links_between froms nodes) (link from to)
unfolding links_between
among_between from to [] nodes k h e there joined = absurd (omega arith)
among_between from to (first ∷ froms) nodes zero h e there joined =
    Contains-append_left (links_from first nodes) (links_between froms nodes) (link from to)
    (subst (λ n. Contains (links_from n nodes) (link from to)) (sym e) (among_from from to nodes there.0 there.1 there.2 joined))
among_between from to (first ∷ froms) nodes (suc k) h e there joined =
    Contains-append_right (links_from first nodes) (links_between froms nodes) (link from to)
    (among_between from to froms nodes k (omega arith) e there joined)

pub not_equal : (one other : List ℕ) (same : Bool) → bytes_eq one other ≡ same → one ≢ other → same ≡ false
not_equal one other true e ne = absurd (ne ((bytes_eq-Decides one other).0 e))
not_equal one other false e ne = refl

are_joined : (one other : Node) → are_kinds_linked one.kind other.kind ≡ true → one.name ≢ other.name → are_linked one other ≡ true
unfolding are_linked is_node_named
are_joined one other kinds ne =
    let names : bytes_eq one.name other.name ≡ false = not_equal one.name other.name (bytes_eq one.name other.name) refl ne in rw (kinds, names) refl

pub pair_of : (nodes : List Node) (kind another : Kind) (from to : List ℕ) → are_kinds_linked kind another ≡ true → HasNode nodes kind from
    → HasNode nodes another to → from ≢ to → Contains (links_of nodes) (record { from = from; to = to })
unfolding links_of
pair_of nodes kind another from to kinds one other ne =
    let joined = are_joined one.node other.node (ap (λ k. are_kinds_linked k other.node.kind) one.kind_is ∙ ap (are_kinds_linked kind) other.kind_is ∙ kinds)
    (λ same. ne (sym one.named ∙ same ∙ other.named)) in
    let among : Contains (links_between nodes nodes) (link one.node other.node) =
    among_between one.node other.node nodes nodes one.among.0 one.among.1 one.among.2 other.among joined in
    subst (λ f. Contains (links_between nodes nodes) (record { from = f; to = to })) one.named
    (subst (λ t. Contains (links_between nodes nodes) (record { from = one.node.name; to = t })) other.named among)
