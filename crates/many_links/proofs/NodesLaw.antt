-- A backend in another state, and all others.
use Rattle.std.proofs.Common.{◌≡◌, ◌≢◌, ◌⊎◌, inl, inr, ℕ, Bool, cond, List, Some, sym, ap, subst, ◌∙◌}
use Rattle.std.specs.Ordering.{nat_cmp}
use Rattle.std.specs.Cmp.Lexicographic.{slice_cmp}
use Rattle.std.proofs.lemmas.Option.{same_Some}
use Rattle.mur_base.proofs.MapLaws.{names_apart, not_equal, same_or_other}
use Rattle.back_node.specs.declared.node.BackNode.{BackNode}
use Rattle.many_links.specs.Murder.{Nodes, held_in, homes_of, with_node}

module _ (nodes : Nodes) (name : List ℕ) (node : BackNode) where
  pub node_own : with_node nodes name node name ≡ Some node
  node_own = ap (λ (s : Bool). cond s (Some node) (nodes name)) (names_apart.itself name)

  pub node_else : (q : List ℕ) → q ≢ name → with_node nodes name node q ≡ nodes q
  node_else q ne = ap (λ (s : Bool). cond s (Some node) (nodes q)) (not_equal (slice_cmp nat_cmp) names_apart q name ne)

  pub home_own : homes_of (with_node nodes name node) name ≡ node.home.held
  home_own = ap held_in node_own

  pub home_else : (q : List ℕ) → q ≢ name → homes_of (with_node nodes name node) q ≡ homes_of nodes q
  home_else q ne = ap held_in (node_else q ne)

  -- what holds of its new state, and of each other backend, holds of each
  pub each_node : (P : List ℕ → BackNode → Type 0) → P name node → ((q : List ℕ) (its : BackNode) → q ≢ name → nodes q ≡ Some its → P q its)
      → (q : List ℕ) (its : BackNode) → with_node nodes name node q ≡ Some its → P q its
  each_node P own others q its at = by_name (same_or_other (slice_cmp nat_cmp) names_apart q name)
    where
      by_name : (q ≡ name) ⊎ (q ≢ name) → P q its
      by_name (inl same) =
          let is : Some node ≡ Some its = sym node_own ∙ ap (λ (k : List ℕ). with_node nodes name node k) (sym same) ∙ at in
          subst (λ (k : List ℕ). P k its) (sym same) (subst (λ (it : BackNode). P name it) (same_Some node its is) own)
      by_name (inr ne) = others q its ne (sym (node_else q ne) ∙ at)
