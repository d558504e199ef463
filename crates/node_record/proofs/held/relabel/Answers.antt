use Rattle.node_record.proofs.LeavesLaw.{leaves-relabels}
use Rattle.node_record.proofs.held.relabel.Goals as goal

pub change-requires : goal.change-requires
change-requires c = rw c.in_ok-relabels.ensures (leaves-relabels c.args.rows)
