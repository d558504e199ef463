-- The nodes as they begin: at each name the node of the configuration, if it has one.
use Rattle.std.proofs.Common.{◌≡◌, ◌≢◌, ℕ, Bool, true, false, cond, List, [], ◌∷◌, Option, None, Some, refl, sym, ◌∙◌, subst}
use Rattle.std.specs.Prelude.{All, AllPairs}
use Rattle.std.specs.Ordering.{nat_cmp}
use Rattle.std.specs.Cmp.Lexicographic.{slice_cmp}
use Rattle.std.proofs.lemmas.List.Elements.{All-head, All-tail}
use Rattle.std.proofs.lemmas.Slice.Eq.{bytes_eq-Decides}
use Rattle.mur_base.proofs.MapLaws.{names_apart, value_at-with_entry, value_at-with_entry-other}
use Rattle.mur_config.specs.declared.config.Config.{Config}
use Rattle.mur_config.specs.declared.node.Node.{Node}
use Rattle.mur_config.specs.Nodes.{is_node_named, node_named}
use Rattle.mur_config.proofs.NodesApart.{head_apart, tail_apart}
use Rattle.node_step.specs.declared.node.NodeState.{NodeState}
use Rattle.cluster_core.specs.declared.world.World.{World}
use Rattle.cluster_core.specs.World.{first_state, no_world, node_at, with_node, with_nodes}

-- a node of another name
abbrev IsOther : List ℕ → Node → Type 0
IsOther name node = node.name ≢ name

others_here : (name : List ℕ) (nodes : List Node) → All (λ (other : Node). name ≢ other.name) nodes → All (IsOther name) nodes
others_here name nodes all = λ k d h. λ e. all k d h (sym e)

node_stays : (config : Config) (world : World) (node : Node) (name : List ℕ) → IsOther name node → node_at (with_node config world node) name ≡ node_at world name
node_stays config world node name other =
    value_at-with_entry-other (slice_cmp nat_cmp) names_apart world.nodes node.name name (first_state config node node.kind) (λ e. other (sym e))

-- what there is at a name stays, if no node of this name comes
nodes_stay : (config : Config) (world : World) (nodes : List Node) (name : List ℕ) → All (IsOther name) nodes
    → node_at (with_nodes config world nodes) name ≡ node_at world name
unfolding with_nodes
nodes_stay config world [] name others = refl
nodes_stay config world (node ∷ nodes) name others =
    nodes_stay config (with_node config world node) nodes name (All-tail (IsOther name) node nodes others)
    ∙ node_stays config world node name (All-head (IsOther name) node nodes others)

-- the node of the configuration, as it begins
abbrev pub first_by : Config → Option Node → Option NodeState
first_by config None = None
first_by config (Some node) = Some (first_state config node node.kind)

comes_at : (config : Config) (world : World) (node : Node) (nodes : List Node) (name : List ℕ) (same : Bool)
    → is_node_named name node ≡ same → node_at world name ≡ None → AllPairs (λ (one other : Node). one.name ≢ other.name) (node ∷ nodes)
    → ((next : World) → node_at next name ≡ None → node_at (with_nodes config next nodes) name ≡ first_by config (node_named name nodes))
    → node_at (with_nodes config (with_node config world node) nodes) name ≡ first_by config (cond same (Some node) (node_named name nodes))
unfolding is_node_named
comes_at config world node nodes name true h none pairs later =
    let next : World = with_node config world node in
    let is : node.name ≡ name = (bytes_eq-Decides node.name name).0 h in
    let others : All (IsOther name) nodes = others_here name nodes (subst (λ n. All (λ (other : Node). n ≢ other.name) nodes) is (head_apart node nodes pairs)) in
    nodes_stay config next nodes name others
    ∙ subst (λ n. node_at next n ≡ Some (first_state config node node.kind)) is
    (value_at-with_entry (slice_cmp nat_cmp) names_apart world.nodes node.name (first_state config node node.kind))
comes_at config world node nodes name false h none pairs later =
    later (with_node config world node)
    (node_stays config world node name (λ e. (let same = (bytes_eq-Decides node.name name).1 e in let no : false ≡ true = sym h ∙ same in cc)) ∙ none)

nodes_come : (config : Config) (nodes : List Node) (world : World) (name : List ℕ) → AllPairs (λ (one other : Node). one.name ≢ other.name) nodes
    → node_at world name ≡ None → node_at (with_nodes config world nodes) name ≡ first_by config (node_named name nodes)
unfolding with_nodes node_named
nodes_come config [] world name pairs none = none
nodes_come config (node ∷ nodes) world name pairs none =
    comes_at config world node nodes name (is_node_named name node) refl none pairs
    (λ next n. nodes_come config nodes next name (tail_apart node nodes pairs) n)

-- the nodes as they begin
abbrev pub fresh_nodes : Config → World
fresh_nodes config = with_nodes config no_world config.nodes

pub fresh_at : (config : Config) (name : List ℕ) → AllPairs (λ (one other : Node). one.name ≢ other.name) config.nodes
    → node_at (fresh_nodes config) name ≡ first_by config (node_named name config.nodes)
fresh_at config name pairs = nodes_come config config.nodes no_world name pairs refl

-- and nothing else has begun
pub record IsEmpty (world : World) : Type 0 where
  pub clients : world.clients ≡ []
  pub broken : world.broken ≡ []
  pub links : world.links ≡ []
  pub marks : world.marks ≡ []
  pub steps : world.steps ≡ 0

empty_made : (config : Config) (world : World) (nodes : List Node) → IsEmpty world → IsEmpty (with_nodes config world nodes)
unfolding with_nodes
empty_made config world [] is = is
empty_made config world (node ∷ nodes) is =
    empty_made config (with_node config world node) nodes
    (record { clients = is.clients; broken = is.broken; links = is.links; marks = is.marks; steps = is.steps })

pub fresh_empty : (config : Config) → IsEmpty (fresh_nodes config)
fresh_empty config = empty_made config no_world config.nodes (record { clients = refl; broken = refl; links = refl; marks = refl; steps = refl })
