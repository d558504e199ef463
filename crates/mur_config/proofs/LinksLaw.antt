-- Links go both ways, and join no node with itself.
use Rattle.std.proofs.Common.{◌≡◌, Bool, true, false, ◌&&◌, refl}
use Rattle.std.proofs.lemmas.Slice.Eq.{bytes_eq-Decides}
use Rattle.mur_config.specs.declared.node.Kind.{Kind}
use Rattle.mur_config.specs.declared.node.Kind.TheVariants.{Master, Frontend, Backend}
use Rattle.mur_config.specs.declared.node.Node.{Node}
use Rattle.mur_config.specs.Nodes.{is_node_named, are_kinds_linked, are_linked}
use Rattle.mur_config.proofs.Texts.{bytes_eq_both_ways}

same_kinds : (one other : Kind) → are_kinds_linked one other ≡ are_kinds_linked other one
unfolding are_kinds_linked
same_kinds Master Master = refl
same_kinds Master Frontend = refl
same_kinds Master Backend = refl
same_kinds Frontend Master = refl
same_kinds Frontend Frontend = refl
same_kinds Frontend Backend = refl
same_kinds Backend Master = refl
same_kinds Backend Frontend = refl
same_kinds Backend Backend = refl

pub linked_both_ways : (one other : Node) → are_linked other one ≡ are_linked one other
unfolding are_linked is_node_named
linked_both_ways one other =
    let kinds = same_kinds one.kind other.kind in
    let names = bytes_eq_both_ways one.name other.name in
    cc

neither_both : (a : Bool) → (a && false) ≡ false
neither_both true = refl
neither_both false = refl

pub not_linked_with_itself : (node : Node) → are_linked node node ≡ false
unfolding are_linked is_node_named
not_linked_with_itself node = rw ((bytes_eq-Decides node.name node.name).1 refl) (neither_both (are_kinds_linked node.kind node.kind))
