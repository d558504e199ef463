-- The nodes of a configuration, and the links that join them.
use Rattle.std.specs.Prelude.{◌≡◌, ◌≢◌, ℕ, ◌≤◌, Bool, true, false, ◌&&◌, ◌==◌, not, nat_lt, nat_le, is_none, if◌then◌else◌, List, [], ◌∷◌, ◌++◌, length, Option}
use Rattle.std.specs.Prelude.{None, Some, Result, Ok, Err}
use Rattle.std.specs.List.{All, AllPairs, list_any, list_all, filter}
use Rattle.std.specs.Str.{bytes_eq}
use Rattle.mur_base.specs.Names.{short_name_fault}
use Rattle.mur_base.specs.declared.limits.TheConstants.{FRONTEND_LIMIT, BACKEND_LIMIT}
use Rattle.mur_config.specs.declared.node.Kind.{Kind}
use Rattle.mur_config.specs.declared.node.Kind.TheVariants.{Master, Frontend, Backend}
use Rattle.mur_config.specs.declared.node.Node.{Node}
use Rattle.mur_config.specs.declared.node.Link.{Link}
use Rattle.mur_config.specs.declared.nodes.NodesFault.{NodesFault}
use Rattle.mur_config.specs.declared.nodes.NodesFault.TheVariants.{BadName, NameTwice, NodeCount, BadPartition}

unfoldable pub is_node_named : List ℕ → Node → Bool
is_node_named name node = bytes_eq node.name name

-- a node has a name by the rules of names
unfoldable pub has_valid_name : Node → Bool
has_valid_name node = is_none (short_name_fault node.name)

-- no two nodes have one name
unfoldable pub node_names_differ : List Node → Bool
node_names_differ [] = true
node_names_differ (node ∷ nodes) = not (list_any (is_node_named node.name) nodes) && node_names_differ nodes

unfoldable pub is_of_kind : Kind → Kind → Bool
is_of_kind Master Master = true
is_of_kind Frontend Frontend = true
is_of_kind Backend Backend = true
is_of_kind wanted kind = false

unfoldable pub is_node_of_kind : Kind → Node → Bool
is_node_of_kind wanted node = is_of_kind wanted node.kind

unfoldable pub count_of_kind : Kind → List Node → ℕ
count_of_kind wanted nodes = length (filter (is_node_of_kind wanted) nodes)

-- some nodes, and no more than a limit
unfoldable pub is_some_within : ℕ → ℕ → Bool
is_some_within limit count = nat_lt 0 count && nat_le count limit

-- one master, and some frontends and backends
unfoldable pub has_node_counts : List Node → Bool
has_node_counts nodes =
    (count_of_kind Master nodes == 1) && is_some_within FRONTEND_LIMIT (count_of_kind Frontend nodes)
    && is_some_within BACKEND_LIMIT (count_of_kind Backend nodes)

-- a backend has the name of its partition, and no other node has one
unfoldable pub fits_kind : Kind → List ℕ → Bool
fits_kind Backend partition = is_none (short_name_fault partition)
fits_kind kind partition = length partition == 0

unfoldable pub has_partition : Node → Bool
has_partition node = fits_kind node.kind node.partition

-- the first rule that a list of nodes breaks
unfoldable pub nodes_fault : List Node → Option NodesFault
nodes_fault nodes =
    if not (list_all has_valid_name nodes) then Some BadName
    else if not (node_names_differ nodes) then Some NameTwice
    else if not (has_node_counts nodes) then Some NodeCount
    else if not (list_all has_partition nodes) then Some BadPartition
    else None

-- a list is taken as nodes as it is, or refused by the first rule that it breaks
abbrev pub AreTakenAsNodes : List Node → Result (List Node) NodesFault → Type 0
AreTakenAsNodes nodes (Ok taken) = (nodes_fault nodes ≡ None) × (taken ≡ nodes)
AreTakenAsNodes nodes (Err fault) = nodes_fault nodes ≡ Some fault

abbrev pub FitsKind : Kind → List ℕ → Type 0
FitsKind Master partition = partition ≡ []
FitsKind Frontend partition = partition ≡ []
FitsKind Backend partition = short_name_fault partition ≡ None

-- what every list of nodes keeps
pub record AreNodes (nodes : List Node) : Type 0 where
  pub named : All (λ (node : Node). short_name_fault node.name ≡ None) nodes
  pub names : AllPairs (λ (one other : Node). one.name ≢ other.name) nodes
  pub master : count_of_kind Master nodes ≡ 1
  pub frontends : (1 ≤ count_of_kind Frontend nodes) × (count_of_kind Frontend nodes ≤ FRONTEND_LIMIT)
  pub backends : (1 ≤ count_of_kind Backend nodes) × (count_of_kind Backend nodes ≤ BACKEND_LIMIT)
  pub partitions : All (λ (node : Node). FitsKind node.kind node.partition) nodes

-- the node of a name, if there is one
unfoldable pub node_named : List ℕ → List Node → Option Node
node_named name [] = None
node_named name (node ∷ nodes) = if is_node_named name node then Some node else node_named name nodes

-- links join all kinds but two frontends
unfoldable pub are_kinds_linked : Kind → Kind → Bool
are_kinds_linked Frontend Frontend = false
are_kinds_linked one other = true

-- a link joins two nodes: the master and another node, a frontend and a backend, or two backends
unfoldable pub are_linked : Node → Node → Bool
are_linked one other = are_kinds_linked one.kind other.kind && not (is_node_named other.name one)

abbrev pub link : Node → Node → Link
link from to = record { from = from.name; to = to.name }

-- the links from a node to these nodes, in their order
unfoldable pub links_from : Node → List Node → List Link
links_from from [] = []
links_from from (to ∷ nodes) = if are_linked from to then link from to ∷ links_from from nodes else links_from from nodes

-- the links from nodes to nodes, by the place of the first and then of the second
unfoldable pub links_between : List Node → List Node → List Link
links_between [] nodes = []
links_between (from ∷ froms) nodes = links_from from nodes ++ links_between froms nodes

-- each two linked nodes in both directions
unfoldable pub links_of : List Node → List Link
links_of nodes = links_between nodes nodes
