-- A configuration has 17 nodes at most, and so few links.
use Rattle.std.proofs.Common.{◌≡◌, ℕ, suc, ◌+◌, ◌*◌, ◌≤◌, Bool, true, false, cond, if◌then◌else◌, List, [], ◌∷◌, length, refl, arith, length-append}
use Rattle.mur_config.specs.declared.node.Kind.{Kind}
use Rattle.mur_config.specs.declared.node.Kind.TheVariants.{Master, Frontend, Backend}
use Rattle.mur_config.specs.declared.node.Link.{Link}
use Rattle.mur_config.specs.declared.node.Node.{Node}
use Rattle.mur_config.specs.Nodes.{AreNodes, are_linked, count_of_kind, is_node_of_kind, is_of_kind, link, links_between, links_from, links_of}
use Rattle.schedule_text.specs.Brings.{most_links}

-- from each node at most one link leads to each
from_by : (from to : Node) (links : List Link) (n : ℕ) (linked : Bool) → length links ≤ n → length (if linked then link from to ∷ links else links) ≤ suc n
from_by from to links n true few = omega (arith, few)
from_by from to links n false few = omega (arith, few)

from_few : (from : Node) (nodes : List Node) → length (links_from from nodes) ≤ length nodes
unfolding links_from
from_few from [] = omega arith
from_few from (to ∷ nodes) = from_by from to (links_from from nodes) (length nodes) (are_linked from to) (from_few from nodes)

between_few : (froms nodes : List Node) (n : ℕ) → length nodes ≤ n → length (links_between froms nodes) ≤ length froms * n
unfolding links_between
between_few [] nodes n few = omega arith
between_few (from ∷ froms) nodes n few =
    omega (arith, length-append (links_from from nodes) (links_between froms nodes), from_few from nodes, between_few froms nodes n few, few)

-- each node is of one kind
abbrev all_kinds : List Node → ℕ
all_kinds nodes = count_of_kind Master nodes + (count_of_kind Frontend nodes + count_of_kind Backend nodes)

more : (wanted : Kind) (node : Node) (nodes : List Node) (is : Bool) → is_of_kind wanted node.kind ≡ is
    → count_of_kind wanted (node ∷ nodes) ≡ cond is 1 0 + count_of_kind wanted nodes
unfolding count_of_kind is_node_of_kind
more wanted node nodes true e = rw e (omega arith)
more wanted node nodes false e = rw e (omega arith)

one_kind : (node : Node) (nodes : List Node) (kind : Kind) → node.kind ≡ kind → length nodes ≡ all_kinds nodes → length (node ∷ nodes) ≡ all_kinds (node ∷ nodes)
unfolding is_of_kind
one_kind node nodes Master e rest = omega (arith, rest, more Master node nodes true (rw e refl), more Frontend node nodes false (rw e refl), more Backend node nodes false (rw e refl))
one_kind node nodes Frontend e rest = omega (arith, rest, more Master node nodes false (rw e refl), more Frontend node nodes true (rw e refl), more Backend node nodes false (rw e refl))
one_kind node nodes Backend e rest = omega (arith, rest, more Master node nodes false (rw e refl), more Frontend node nodes false (rw e refl), more Backend node nodes true (rw e refl))

kinds_are_all : (nodes : List Node) → length nodes ≡ all_kinds nodes
unfolding count_of_kind
kinds_are_all [] = omega arith
kinds_are_all (node ∷ nodes) = one_kind node nodes node.kind refl (kinds_are_all nodes)

pub links_few : (nodes : List Node) → AreNodes nodes → length (links_of nodes) ≤ most_links
unfolding links_of
links_few nodes are =
    let most : length nodes ≤ 17 = omega (arith, kinds_are_all nodes, are.master, are.frontends.1, are.backends.1) in
    omega (arith, between_few nodes nodes 17 most, most)
