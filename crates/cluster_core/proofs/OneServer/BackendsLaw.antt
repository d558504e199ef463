-- The listed backends are those of the configuration.
use Rattle.std.proofs.Common.{◌≡◌, ◌≢◌, ℕ, cond, List, [], ◌∷◌, Some, refl, ◌∙◌, ap, get_or}
use Rattle.std.specs.Prelude.{All, AllPairs}
use Rattle.std.specs.Str.{bytes_eq}
use Rattle.std.proofs.lemmas.List.Elements.{All-cons, All-nil}
use Rattle.mur_config.specs.declared.config.Config.{Config}
use Rattle.mur_config.specs.declared.node.Kind.{Kind}
use Rattle.mur_config.specs.declared.node.Kind.TheVariants.{Master, Frontend, Backend as backend_kind}
use Rattle.mur_config.specs.declared.node.Node.{Node}
use Rattle.mur_config.specs.Nodes.{AreNodes, is_node_named, node_named}
use Rattle.cluster_core.specs.Headline.Backends.{IsBackendOf, IsBackend}
use Rattle.cluster_core.specs.World.{or_backend, backends_of}
use Rattle.mur_config.proofs.NodesApart.{head_apart, tail_apart}
use Rattle.cluster_core.proofs.Starts.Kinds.{all_named, not_equal}
use Rattle.cluster_core.proofs.OneServer.NamesHeld.{bytes_itself}

found_first : (node : Node) (nodes : List Node) → node_named node.name (node ∷ nodes) ≡ Some node
unfolding node_named is_node_named
found_first node nodes = ap (λ b. cond b (Some node) (node_named node.name nodes)) (bytes_itself node.name)

-- a backend of some nodes is one of these and another before them, which has another name
found_behind : (node : Node) (nodes : List Node) (name : List ℕ) → node.name ≢ name → IsBackendOf nodes name → IsBackendOf (node ∷ nodes) name
unfolding node_named is_node_named
found_behind node nodes name ne is = record {
  node = is.node;
  at = ap (λ b. cond b (Some node) (node_named name nodes)) (not_equal node.name name (bytes_eq node.name name) refl ne) ∙ is.at;
  kind = is.kind;
}

all_behind : (node : Node) (nodes : List Node) (names : List (List ℕ)) → All (λ n. node.name ≢ n) names → All (IsBackendOf nodes) names
    → All (IsBackendOf (node ∷ nodes)) names
all_behind node nodes names apart all = λ k d h. found_behind node nodes (get_or names k d) (apart k d h) (all k d h)

backends_by : (node : Node) (nodes : List Node) (kind : Kind) → node.kind ≡ kind → All (IsBackendOf (node ∷ nodes)) (backends_of nodes)
    → All (IsBackendOf (node ∷ nodes)) (or_backend kind node.name (backends_of nodes))
unfolding or_backend
backends_by node nodes Master k later = later
backends_by node nodes Frontend k later = later
backends_by node nodes backend_kind k later =
    All-cons (IsBackendOf (node ∷ nodes)) node.name (backends_of nodes) (record { node = node; at = found_first node nodes; kind = k }) later

all_backends : (nodes : List Node) → AllPairs (λ (one other : Node). one.name ≢ other.name) nodes → All (IsBackendOf nodes) (backends_of nodes)
unfolding backends_of
all_backends [] pairs = All-nil (IsBackendOf [])
all_backends (node ∷ nodes) pairs =
    backends_by node nodes node.kind refl
    (all_behind node nodes (backends_of nodes) (all_named (λ n. node.name ≢ n) nodes (head_apart node nodes pairs))
    (all_backends nodes (tail_apart node nodes pairs)))

pub are_backends : (config : Config) → AreNodes config.nodes → All (IsBackend config) (backends_of config.nodes)
are_backends config are = all_backends config.nodes are.names
