use Rattle.mur_config.proofs.LinksLaw.{linked_both_ways, not_linked_with_itself}
use Rattle.mur_config.proofs.node.Node.is_linked_with.Goals as goal

pub returns-then-are_kinds_linked-clause-both_ways : goal.returns-then-are_kinds_linked-clause-both_ways
returns-then-are_kinds_linked-clause-both_ways c = linked_both_ways _ _

pub returns-else-are_kinds_linked-clause-both_ways : goal.returns-else-are_kinds_linked-clause-both_ways
returns-else-are_kinds_linked-clause-both_ways c = linked_both_ways _ _

pub returns-then-are_kinds_linked-clause-not_itself : goal.returns-then-are_kinds_linked-clause-not_itself
returns-then-are_kinds_linked-clause-not_itself c = not_linked_with_itself _

pub returns-else-are_kinds_linked-clause-not_itself : goal.returns-else-are_kinds_linked-clause-not_itself
returns-else-are_kinds_linked-clause-not_itself c = not_linked_with_itself _
