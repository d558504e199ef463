use Rattle.std.proofs.Common.{arith}
use Rattle.node_record.proofs.FlagSteps.{highest_fault}
use Rattle.node_record.proofs.flags.put_highest.Goals as goal

pub unreachable-requires : goal.unreachable-requires
unreachable-requires c =
    grind (arith, highest_fault c.args.flags.now c.new.result c.args.text.now c.in-Err.field-0 c.new.ensures c.requires.room c.requires.above c.in-Err.ensures.made)
