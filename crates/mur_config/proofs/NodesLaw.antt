-- Nodes that break no rule have valid names of their own, and the kinds that a cluster needs.
use Rattle.std.proofs.Common.{◌≡◌, ◌≢◌, ℕ, ◌≤◌, Bool, true, false, ◌&&◌, not, nat_eq, nat_lt, nat_le, is_none, List, [], ◌∷◌, length, Option}
use Rattle.std.proofs.Common.{None, Some, refl, arith}
use Rattle.std.specs.List.{All, AllPairs, list_any, list_all}
use Rattle.std.proofs.lemmas.Bool.{and_parts, or_parts, eqb-true}
use Rattle.std.proofs.lemmas.Bool.Decides.{nat_tests}
use Rattle.std.proofs.lemmas.List.Elements.{All-nil, All-cons}
use Rattle.std.proofs.lemmas.List.Kept.{AllPairs-cons}
use Rattle.std.proofs.lemmas.List.Sums.{AllPass-from_list_all}
use Rattle.mur_base.proofs.UsersLaw.{not_true, other_name}
use Rattle.mur_base.specs.Names.{short_name_fault}
use Rattle.mur_base.specs.declared.limits.TheConstants.{FRONTEND_LIMIT, BACKEND_LIMIT}
use Rattle.mur_base.specs.declared.name.NameFault.{NameFault}
use Rattle.mur_config.specs.declared.node.Kind.{Kind}
use Rattle.mur_config.specs.declared.node.Kind.TheVariants.{Master, Frontend, Backend}
use Rattle.mur_config.specs.declared.node.Node.{Node}
use Rattle.mur_config.specs.declared.nodes.NodesFault.TheVariants.{BadName, NameTwice, NodeCount, BadPartition}
use Rattle.mur_config.specs.Nodes.{has_valid_name, is_node_named, node_names_differ, count_of_kind, is_some_within, has_node_counts, fits_kind}
use Rattle.mur_config.specs.Nodes.{has_partition, nodes_fault, FitsKind, AreNodes}

none_named : (name : List ℕ) (nodes : List Node) → list_any (is_node_named name) nodes ≡ false → All (λ (node : Node). name ≢ node.name) nodes
unfolding is_node_named
none_named name [] h = All-nil (λ (node : Node). name ≢ node.name)
none_named name (node ∷ nodes) h =
    let parts = or_parts (is_node_named name node) (list_any (is_node_named name) nodes) h in
    All-cons (λ (node : Node). name ≢ node.name) node nodes (other_name name node.name parts.0) (none_named name nodes parts.1)

names_apart : (nodes : List Node) → node_names_differ nodes ≡ true → AllPairs (λ (one other : Node). one.name ≢ other.name) nodes
unfolding node_names_differ
names_apart [] h = λ i j d less within. absurd (omega arith)
names_apart (node ∷ nodes) h =
    let parts = and_parts (not (list_any (is_node_named node.name) nodes)) (node_names_differ nodes) h in
    AllPairs-cons (λ (one other : Node). one.name ≢ other.name) node nodes
    (none_named node.name nodes (not_true (list_any (is_node_named node.name) nodes) parts.0)) (names_apart nodes parts.1)

no_fault : (fault : Option NameFault) → is_none fault ≡ true → fault ≡ None
no_fault None h = refl
no_fault (Some fault) h = cc

kept_names : (nodes : List Node) → list_all has_valid_name nodes ≡ true → All (λ (node : Node). short_name_fault node.name ≡ None) nodes
unfolding has_valid_name
kept_names nodes h = λ k d within. no_fault _ (AllPass-from_list_all has_valid_name nodes h k d within)

nothing : (text : List ℕ) → nat_eq (length text) 0 ≡ true → text ≡ []
nothing [] h = refl
nothing (b ∷ text) h = let e = eqb-true (length (b ∷ text)) 0 h in absurd (omega arith)

kept_partition : (kind : Kind) (partition : List ℕ) → fits_kind kind partition ≡ true → FitsKind kind partition
unfolding fits_kind
kept_partition Master partition h = nothing partition h
kept_partition Frontend partition h = nothing partition h
kept_partition Backend partition h = no_fault (short_name_fault partition) h

kept_partitions : (nodes : List Node) → list_all has_partition nodes ≡ true → All (λ (node : Node). FitsKind node.kind node.partition) nodes
unfolding has_partition
kept_partitions nodes h = λ k d within. kept_partition _ _ (AllPass-from_list_all has_partition nodes h k d within)

within : (limit count : ℕ) → is_some_within limit count ≡ true → (1 ≤ count) × (count ≤ limit)
unfolding is_some_within
within limit count h =
    let parts = and_parts (nat_lt 0 count) (nat_le count limit) h in
    (grind (arith, nat_tests, parts.0), grind (arith, nat_tests, parts.1))

kept_by : (nodes : List Node) → list_all has_valid_name nodes ≡ true → node_names_differ nodes ≡ true → has_node_counts nodes ≡ true
    → list_all has_partition nodes ≡ true → AreNodes nodes
unfolding has_node_counts
kept_by nodes valid names counts partitions =
    let front = is_some_within FRONTEND_LIMIT (count_of_kind Frontend nodes) in
    let back = is_some_within BACKEND_LIMIT (count_of_kind Backend nodes) in
    let whole = and_parts (nat_eq (count_of_kind Master nodes) 1 && front) back counts in
    let parts = and_parts (nat_eq (count_of_kind Master nodes) 1) front whole.0 in
    record {
      named = kept_names nodes valid;
      names = names_apart nodes names;
      master = eqb-true (count_of_kind Master nodes) 1 parts.0;
      frontends = within FRONTEND_LIMIT (count_of_kind Frontend nodes) parts.1;
      backends = within BACKEND_LIMIT (count_of_kind Backend nodes) whole.1;
      partitions = kept_partitions nodes partitions;
    }

nodes_by : (nodes : List Node) → (valid names counts partitions : Bool) → list_all has_valid_name nodes ≡ valid → node_names_differ nodes ≡ names
    → has_node_counts nodes ≡ counts → list_all has_partition nodes ≡ partitions
    → nodes_fault nodes ≡ None → AreNodes nodes
unfolding nodes_fault
nodes_by nodes true true true true v n c p h = kept_by nodes v n c p
nodes_by nodes true true true false v n c p h = let none : Some BadPartition ≡ None = rw (v, n, c, p) at h in cc
nodes_by nodes true true false partitions v n c p h = let none : Some NodeCount ≡ None = rw (v, n, c) at h in cc
nodes_by nodes true false counts partitions v n c p h = let none : Some NameTwice ≡ None = rw (v, n) at h in cc
nodes_by nodes false names counts partitions v n c p h = let none : Some BadName ≡ None = rw (v) at h in cc

pub nodes_kept : (nodes : List Node) → nodes_fault nodes ≡ None → AreNodes nodes
nodes_kept nodes h = nodes_by nodes _ _ _ _ refl refl refl refl h
