-- No pair of nodes stands twice among the links.
use Rattle.std.proofs.Common.{◌≡◌, ◌≢◌, ℕ, ◌+◌, ◌≤◌, ◌&&◌, Bool, true, false, cond, if◌then◌else◌, List, [], ◌∷◌, ◌++◌}
use Rattle.std.proofs.Common.{refl, sym, ap, arith, All, AllPairs}
use Rattle.std.specs.Ordering.{nat_cmp, is_eq}
use Rattle.std.specs.Cmp.Lexicographic.{slice_cmp}
use Rattle.std.proofs.lemmas.List.Elements.{All-head, All-tail}
use Rattle.mur_base.proofs.MapLaws.{names_apart, not_equal}
use Rattle.mur_config.specs.declared.node.Link.{Link}
use Rattle.mur_config.specs.declared.node.Node.{Node}
use Rattle.mur_config.specs.Nodes.{AreNodes, are_linked, link, links_from, links_between, links_of}
use Rattle.mur_config.proofs.NodesApart.{head_apart, tail_apart}

-- how often a pair stands among these
unfoldable pub times : List ℕ → List ℕ → List Link → ℕ
times from to [] = 0
times from to (pair ∷ pairs) = cond (is_eq (slice_cmp nat_cmp pair.from from) && is_eq (slice_cmp nat_cmp pair.to to)) 1 0 + times from to pairs

-- how often a name is one of a node
unfoldable named : List ℕ → List Node → ℕ
named name [] = 0
named name (node ∷ nodes) = cond (is_eq (slice_cmp nat_cmp node.name name)) 1 0 + named name nodes

none_named : (name : List ℕ) (nodes : List Node) → All (λ (other : Node). name ≢ other.name) nodes → named name nodes ≡ 0
unfolding named
none_named name [] all = refl
none_named name (node ∷ nodes) all =
    omega (
      arith,
      ap {B = ℕ} (λ b. cond b 1 0)
          (not_equal (slice_cmp nat_cmp) names_apart node.name name (λ e. All-head (λ (other : Node). name ≢ other.name) node nodes all (sym e))),
      none_named name nodes (All-tail (λ (other : Node). name ≢ other.name) node nodes all),
    )

named_by : (name : List ℕ) (node : Node) (nodes : List Node) (same : Bool) → is_eq (slice_cmp nat_cmp node.name name) ≡ same
    → All (λ (other : Node). node.name ≢ other.name) nodes → named name nodes ≤ 1 → cond same 1 0 + named name nodes ≤ 1
named_by name node nodes true e all once =
    let is : node.name ≡ name = names_apart.exact node.name name e in
    omega (arith, ap (λ n. named n nodes) is, none_named node.name nodes all)
named_by name node nodes false e all once = omega (arith, once)

named_once : (name : List ℕ) (nodes : List Node) → AllPairs (λ (one other : Node). one.name ≢ other.name) nodes → named name nodes ≤ 1
unfolding named
named_once name [] pairs = omega arith
named_once name (node ∷ nodes) pairs =
    named_by name node nodes (is_eq (slice_cmp nat_cmp node.name name)) refl (head_apart node nodes pairs) (named_once name nodes (tail_apart node nodes pairs))

times-append : (from to : List ℕ) (one two : List Link) → times from to (one ++ two) ≡ times from to one + times from to two
unfolding times
times-append from to [] two = omega arith
times-append from to (pair ∷ one) two = omega (arith, times-append from to one two)

-- the pairs from one node are as many as the nodes of the other name, or none

both_at_most : (one two : Bool) (rest : ℕ) → cond (one && two) 1 0 + rest ≤ cond two 1 0 + rest
both_at_most true two rest = omega arith
both_at_most false two rest = omega arith

from_by : (f t : List ℕ) (from node : Node) (links : List Link) (nodes : List Node) (linked : Bool) → times f t links ≤ named t nodes
    → times f t (if linked then link from node ∷ links else links) ≤ named t (node ∷ nodes)
unfolding times named
from_by f t from node links nodes true h =
    omega (arith, h, both_at_most (is_eq (slice_cmp nat_cmp from.name f)) (is_eq (slice_cmp nat_cmp node.name t)) (times f t links))
from_by f t from node links nodes false h = omega (arith, h)

from_one : (f t : List ℕ) (from : Node) (nodes : List Node) → times f t (links_from from nodes) ≤ named t nodes
unfolding links_from times
from_one f t from [] = omega arith
from_one f t from (node ∷ nodes) = from_by f t from node (links_from from nodes) nodes (are_linked from node) (from_one f t from nodes)

other_by : (f t : List ℕ) (from node : Node) (links : List Link) (linked : Bool) → is_eq (slice_cmp nat_cmp from.name f) ≡ false → times f t links ≡ 0
    → times f t (if linked then link from node ∷ links else links) ≡ 0
unfolding times
other_by f t from node links true other h =
    omega (arith, h, ap {B = ℕ} (λ b. cond (b && is_eq (slice_cmp nat_cmp node.name t)) 1 0) other)
other_by f t from node links false other h = h

from_other : (f t : List ℕ) (from : Node) (nodes : List Node) → is_eq (slice_cmp nat_cmp from.name f) ≡ false → times f t (links_from from nodes) ≡ 0
unfolding links_from times
from_other f t from [] other = refl
from_other f t from (node ∷ nodes) other = other_by f t from node (links_from from nodes) (are_linked from node) other (from_other f t from nodes other)

between_by : (f t : List ℕ) (from : Node) (froms nodes : List Node) (same : Bool) → is_eq (slice_cmp nat_cmp from.name f) ≡ same → named t nodes ≤ 1
    → times f t (links_between froms nodes) ≤ named f froms
    → times f t (links_from from nodes) + times f t (links_between froms nodes) ≤ cond same 1 0 + named f froms
between_by f t from froms nodes true e once rest = omega (arith, once, rest, from_one f t from nodes)
between_by f t from froms nodes false e once rest = omega (arith, rest, from_other f t from nodes e)

between_once : (f t : List ℕ) (froms nodes : List Node) → named t nodes ≤ 1 → times f t (links_between froms nodes) ≤ named f froms
unfolding links_between times named
between_once f t [] nodes once = omega arith
between_once f t (from ∷ froms) nodes once =
    omega (
      arith,
      times-append f t (links_from from nodes) (links_between froms nodes),
      between_by f t from froms nodes (is_eq (slice_cmp nat_cmp from.name f)) refl once (between_once f t froms nodes once),
    )

pub pairs_once : (nodes : List Node) → AreNodes nodes → (from to : List ℕ) → times from to (links_of nodes) ≤ 1
unfolding links_of
pairs_once nodes are from to =
    omega (arith, between_once from to nodes nodes (named_once to nodes are.names), named_once from nodes are.names)
