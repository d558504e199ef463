-- Which nodes of a configuration are linked: each two of different kinds, in both directions; and no link joins a node with itself.
use Rattle.std.proofs.Common.{◌≡◌, ◌≢◌, ℕ, zero, suc, ◌<◌, Bool, true, false, not, ◌&&◌, if◌then◌else◌, List, [], ◌∷◌, length, refl, sym, ◌∙◌, ap, subst, arith, All, Contains, slice_index_or}
use Rattle.std.specs.Prelude.{AllPairs}
use Rattle.std.proofs.lemmas.List.Elements.{All-append, All-nil, All-cons}
use Rattle.std.proofs.lemmas.Slice.Eq.{bytes_eq-Decides}
use Rattle.cluster_core.specs.World.{backends_of, home_of, master_of, or_backend}
use Rattle.mur_config.specs.declared.config.Config.{Config}
use Rattle.mur_config.specs.declared.node.Kind.{Kind}
use Rattle.mur_config.specs.declared.node.Kind.TheVariants.{Master, Frontend, Backend}
use Rattle.mur_config.specs.declared.node.Link.{Link}
use Rattle.mur_config.specs.declared.node.Node.{Node}
use Rattle.mur_config.specs.Nodes.{AreNodes, are_kinds_linked, are_linked, is_node_named, link, links_between, links_from, links_of}
use Rattle.mur_config.proofs.NodesApart.{head_apart, tail_apart}
use Rattle.cluster_core.proofs.Starts.Kinds.{HasNode, at_head, first_backend, has_later, master_node, pair_of}

-- two nodes are linked, in both directions
abbrev pub Joined : List Link → List ℕ → List ℕ → Type 0
Joined pairs one other = Contains pairs (record { from = one; to = other }) × Contains pairs (record { from = other; to = one })

-- ---- nodes of different kinds have different names

apart_at : (nodes : List Node) (one other : Node) (i j : ℕ) → AllPairs (λ (a b : Node). a.name ≢ b.name) nodes → i < length nodes
    → slice_index_or nodes i one ≡ one
    → j < length nodes → slice_index_or nodes j other ≡ other → one.kind ≢ other.kind → one.name ≢ other.name
apart_at [] one other i j pairs h is k also kinds = absurd (omega (arith, h))
apart_at (node ∷ nodes) one other zero zero pairs h is k also kinds =
    absurd (kinds (ap (λ (n : Node). n.kind) (sym is) ∙ ap (λ (n : Node). n.kind) also))
apart_at (node ∷ nodes) one other zero (suc j) pairs h is k also kinds =
    λ same. head_apart node nodes pairs j other (omega (arith, k)) (ap (λ (n : Node). n.name) is ∙ same ∙ ap (λ (n : Node). n.name) (sym also))
apart_at (node ∷ nodes) one other (suc i) zero pairs h is k also kinds =
    λ same. head_apart node nodes pairs i one (omega (arith, h)) (ap (λ (n : Node). n.name) also ∙ sym same ∙ ap (λ (n : Node). n.name) (sym is))
apart_at (node ∷ nodes) one other (suc i) (suc j) pairs h is k also kinds =
    apart_at nodes one other i j (tail_apart node nodes pairs) (omega (arith, h)) is (omega (arith, k)) also kinds

pub apart_kinds : (nodes : List Node) (kind another : Kind) (one other : List ℕ) → AllPairs (λ (a b : Node). a.name ≢ b.name) nodes → HasNode nodes kind one
    → HasNode nodes another other → kind ≢ another → one ≢ other
apart_kinds nodes kind another one other pairs has also ne same =
    apart_at nodes has.node also.node has.among.0 also.among.0 pairs has.among.1 has.among.2 also.among.1 also.among.2
    (λ e. ne (sym has.kind_is ∙ e ∙ also.kind_is)) (has.named ∙ same ∙ sym also.named)

joined_kinds : (config : Config) (kind another : Kind) (one other : List ℕ) → AreNodes config.nodes → HasNode config.nodes kind one
    → HasNode config.nodes another other
    → kind ≢ another → are_kinds_linked kind another ≡ true → are_kinds_linked another kind ≡ true → Joined (links_of config.nodes) one other
joined_kinds config kind another one other are has also ne there back =
    let apart = apart_kinds config.nodes kind another one other are.names has also ne in
    (pair_of config.nodes kind another one other there has also apart, pair_of config.nodes another kind other one back also has (λ same. apart (sym same)))

-- ---- the master and the first backend

pub the_master : (config : Config) → AreNodes config.nodes → HasNode config.nodes Master (master_of config)
the_master config are = master_node config.nodes (omega (arith, are.master))

home_by : (node : Node) (nodes : List Node) (rest : List (List ℕ)) (name : List ℕ) (kind : Kind) → node.kind ≡ kind
    → or_backend kind node.name (backends_of nodes) ≡ name ∷ rest
    → ((r : List (List ℕ)) → backends_of nodes ≡ name ∷ r → HasNode nodes Backend name) → HasNode (node ∷ nodes) Backend name
unfolding or_backend
home_by node nodes rest name Master k e later = has_later node nodes Backend name (later rest e)
home_by node nodes rest name Frontend k e later = has_later node nodes Backend name (later rest e)
home_by node nodes rest name Backend k e later =
    let same : node.name ≡ name = cc in record { node = node; among = at_head node nodes; kind_is = k; named = same }

home_among : (nodes : List Node) (rest : List (List ℕ)) (name : List ℕ) → backends_of nodes ≡ name ∷ rest → HasNode nodes Backend name
unfolding backends_of
home_among [] rest name e = cc
home_among (node ∷ nodes) rest name e = home_by node nodes rest name node.kind refl e (λ r h. home_among nodes r name h)

pub the_first : (config : Config) → AreNodes config.nodes → HasNode config.nodes Backend (home_of config)
the_first config are = let first = first_backend config.nodes are in home_among config.nodes first.rest (home_of config) first.is

-- ---- who is linked with whom

pub front_with_any : (config : Config) (front master : List ℕ) → AreNodes config.nodes → HasNode config.nodes Frontend front
    → HasNode config.nodes Master master → Joined (links_of config.nodes) front master
unfolding are_kinds_linked
front_with_any config front master are has also = joined_kinds config Frontend Master front master are has also (λ e. cc) refl refl

pub front_with_master : (config : Config) (front : List ℕ) → AreNodes config.nodes → HasNode config.nodes Frontend front
    → Joined (links_of config.nodes) front (master_of config)
front_with_master config front are has = front_with_any config front (master_of config) are has (the_master config are)

pub front_with_backend : (config : Config) (front server : List ℕ) → AreNodes config.nodes → HasNode config.nodes Frontend front
    → HasNode config.nodes Backend server → Joined (links_of config.nodes) front server
unfolding are_kinds_linked
front_with_backend config front server are has also = joined_kinds config Frontend Backend front server are has also (λ e. cc) refl refl

pub backend_with_master : (config : Config) (server : List ℕ) → AreNodes config.nodes → HasNode config.nodes Backend server
    → Joined (links_of config.nodes) server (master_of config)
unfolding are_kinds_linked
backend_with_master config server are has =
    joined_kinds config Backend Master server (master_of config) are has (the_master config are) (λ e. cc) refl refl

-- two backends
pub backends_joined : (config : Config) (one other : List ℕ) → HasNode config.nodes Backend one → HasNode config.nodes Backend other → one ≢ other
    → Joined (links_of config.nodes) one other
unfolding are_kinds_linked
backends_joined config one other has also ne =
    (pair_of config.nodes Backend Backend one other refl has also ne, pair_of config.nodes Backend Backend other one refl also has (λ e. ne (sym e)))

-- ---- the two ends of a pair are apart

abbrev pub AreApart : Link → Type 0
AreApart pair = pair.from ≢ pair.to

apart_by : (from to : Node) → are_linked from to ≡ true → AreApart (link from to)
unfolding are_linked is_node_named
apart_by from to joined = λ same.
    let equal = (bytes_eq-Decides from.name to.name).1 same in
    let none : (are_kinds_linked from.kind to.kind && false) ≡ true =
    subst (λ b. (are_kinds_linked from.kind to.kind && not b) ≡ true) equal joined in
    neither (are_kinds_linked from.kind to.kind) none
  where
    neither : (b : Bool) → (b && false) ≡ true → ⊥
    neither true e = cc
    neither false e = cc

apart_more : (from to : Node) (links : List Link) (linked : Bool) → are_linked from to ≡ linked → All AreApart links
    → All AreApart (if linked then link from to ∷ links else links)
apart_more from to links true e all = All-cons AreApart (link from to) links (apart_by from to e) all
apart_more from to links false e all = all

apart_from : (from : Node) (nodes : List Node) → All AreApart (links_from from nodes)
unfolding links_from
apart_from from [] = All-nil AreApart
apart_from from (to ∷ nodes) = apart_more from to (links_from from nodes) (are_linked from to) refl (apart_from from nodes)

apart_between : (froms nodes : List Node) → All AreApart (links_between froms nodes)
unfolding links_between
apart_between [] nodes = All-nil AreApart
apart_between (from ∷ froms) nodes =
    All-append AreApart (links_from from nodes) (links_between froms nodes) (apart_from from nodes) (apart_between froms nodes)

pub pairs_apart : (nodes : List Node) → All AreApart (links_of nodes)
unfolding links_of
pairs_apart nodes = apart_between nodes nodes
