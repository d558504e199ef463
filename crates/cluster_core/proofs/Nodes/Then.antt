-- The nodes and the clients behind what comes to a node are those of the world in which nothing of it is lost.
use Rattle.std.proofs.Common.{◌≡◌, ℕ, List, Option, ap}
use Rattle.std.specs.Cmp.Lexicographic.{slice_cmp}
use Rattle.std.specs.Ordering.{nat_cmp}
use Rattle.cluster_core.specs.World.{client_at, comes, node_at}
use Rattle.cluster_core.specs.declared.world.World.{World}
use Rattle.mur_base.specs.Map.{value_at}
use Rattle.node_step.specs.declared.input.NodeInput.{NodeInput}
use Rattle.node_step.specs.declared.node.NodeState.{NodeState}
use Rattle.cluster_core.proofs.Nodes.AllCome.{all_come}
use Rattle.cluster_core.proofs.Nodes.Thins.{comes_thinned}

module _ (world : World) (node : List ℕ) (input : NodeInput) where
  pub node_then : (any : List ℕ) → node_at (comes world node input) any ≡ node_at (all_come world node input) any
  node_then any = ap (λ n. value_at (slice_cmp nat_cmp) n any) (comes_thinned world node input).nodes

  -- in some respect
  pub looks_then : {X : Type 0} (look : Option NodeState → X) (any : List ℕ)
      → look (node_at (comes world node input) any) ≡ look (node_at (all_come world node input) any)
  looks_then look any = ap look (node_then any)

  pub client_then : (conn : ℕ) → client_at (comes world node input) conn ≡ client_at (all_come world node input) conn
  client_then conn = ap (λ c. value_at nat_cmp c conn) (comes_thinned world node input).clients
