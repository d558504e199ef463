-- Each node of a run has its own connections, and owes and tells only whom it may: what keeps that whatever comes to it.
use Rattle.std.proofs.Common.{◌≡◌, ◌≢◌, ℕ, List, Option, None, Some, refl, sym, ◌∙◌, ap, subst}
use Rattle.std.specs.Ordering.{nat_cmp}
use Rattle.std.specs.Cmp.Lexicographic.{slice_cmp}
use Rattle.std.proofs.Math.Logic.{⊎_elim}
use Rattle.std.proofs.lemmas.Option.{same_Some}
use Rattle.mur_base.specs.Map.{value_at}
use Rattle.mur_base.proofs.MapLaws.{names_apart, same_or_other, value_at-with_value, value_at-with_value-other}
use Rattle.node_step.specs.declared.input.NodeInput.{NodeInput}
use Rattle.node_step.specs.declared.node.NodeState.{NodeState}
use Rattle.node_step.specs.NodeStep.{takes as node_takes}
use Rattle.cluster_core.specs.declared.world.World.{World}
use Rattle.cluster_core.specs.World.{acts, comes_to, node_at, not_lost, with_state, with_acted}
use Rattle.cluster_core.proofs.Runs.OneNodeLaw.{carry_all_sends}

-- this holds of each node, by its name
abbrev pub OfEachNode : (List ℕ → NodeState → Type 0) → World → Type 0
OfEachNode P world = (node : List ℕ) (it : NodeState) → node_at world node ≡ Some it → P node it

-- so it does where the nodes are the same
pub of_same_nodes : (P : List ℕ → NodeState → Type 0) (world next : World) → next.nodes ≡ world.nodes → OfEachNode P world → OfEachNode P next
of_same_nodes P world next same each node it there = each node it (ap (λ n. value_at (slice_cmp nat_cmp) n node) (sym same) ∙ there)

of_changed : (P : List ℕ → NodeState → Type 0) (world : World) (node : List ℕ) (was now : NodeState) → node_at world node ≡ Some was → OfEachNode P world
    → P node now
    → OfEachNode P (with_state world node now)
of_changed P world node was now there each is other it at = ⊎_elim
    (λ (e : other ≡ node).
    (let same : now ≡ it = same_Some now it (sym (value_at-with_value (slice_cmp nat_cmp) names_apart world.nodes node now was there)
    ∙ subst (λ n. node_at (with_state world node now) n ≡ Some it) e at) in
    subst (λ n. P n it) (sym e) (subst (P node) same is)))
    (λ (ne : other ≢ node). each other it (sym (value_at-with_value-other (slice_cmp nat_cmp) names_apart world.nodes node other now ne) ∙ at))
    (same_or_other (slice_cmp nat_cmp) names_apart other node)

-- whatever comes to a node
pub comes_of_each : (P : List ℕ → NodeState → Type 0) (world : World) (node : List ℕ) (input : NodeInput) (found : Option NodeState)
    → node_at world node ≡ found
    → OfEachNode P world → ((it : NodeState) → found ≡ Some it → P node (node_takes it input).state) → OfEachNode P (comes_to world node input found)
unfolding comes_to
comes_of_each P world node input None there each next = each
comes_of_each P world node input (Some it) there each next =
    of_same_nodes P (with_acted world node (node_takes it input)) (acts world node (node_takes it input))
    (carry_all_sends node (with_acted world node (node_takes it input)) (not_lost world.broken node (node_takes it input).outs)).nodes
    (of_changed P world node it (node_takes it input).state there each (next it refl))
