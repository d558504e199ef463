use Rattle.mur_config.proofs.ValuesLaw.{users_decide, nodes_decide}
use Rattle.mur_config.proofs.rules.has_own_names.Goals as goal

pub returns-then-nodes : goal.returns-then-nodes
returns-then-nodes c =
    users_decide c.args.draft.now c.in_ok-nodes.nodes c.in_ok-users.users c.if-nodes.true (rw c.as_slice.ensures at c.in_ok-nodes.ensures)
    (rw c.as_slice-2.ensures at c.in_ok-users.ensures)

pub returns-else-nodes : goal.returns-else-nodes
returns-else-nodes c = nodes_decide c.args.draft.now c.in_ok-nodes.nodes c.if-nodes.false (rw c.as_slice.ensures at c.in_ok-nodes.ensures)
