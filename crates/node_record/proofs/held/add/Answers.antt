use Rattle.node_record.proofs.LeavesLaw.{leaves-puts}
use Rattle.node_record.proofs.held.add.Goals as goal

pub change-requires : goal.change-requires
change-requires c = rw c.in_ok-puts.ensures (leaves-puts c.args.messages c.requires)
