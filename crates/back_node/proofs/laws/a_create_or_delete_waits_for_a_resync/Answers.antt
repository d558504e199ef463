use Rattle.back_node.proofs.NameAsks.{changes_no_mailbox, waits_for_resync}
use Rattle.back_node.proofs.laws.a_create_or_delete_waits_for_a_resync.Goals as goal

pub returns-clause-mailboxes : goal.returns-clause-mailboxes
returns-clause-mailboxes c = changes_no_mailbox

pub returns-clause-waits : goal.returns-clause-waits
returns-clause-waits c = waits_for_resync
