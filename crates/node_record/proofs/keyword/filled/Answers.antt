use Rattle.node_record.proofs.FillSteps.{filled_is}
use Rattle.node_record.proofs.keyword.filled.Goals as goal

pub returns : goal.returns
returns c = filled_is c.args.front.now c.copy_from_slice.new.self c.args.byte c.copy_from_slice.ensures.after
