use Rattle.node_record.proofs.LeavesLaw.{leaves-removals}
use Rattle.node_record.proofs.held.take_away.Goals as goal

pub change-requires : goal.change-requires
change-requires c = rw c.in_ok-removals.ensures (leaves-removals c.args.uids.now)
