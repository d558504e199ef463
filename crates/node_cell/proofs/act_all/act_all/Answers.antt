use Rattle.node_cell.specs.Batch.{steps_behind}
use Rattle.node_cell.proofs.FrontLaws.{all_writes_next, all_writes_on}
use Rattle.node_cell.proofs.act_all.act_all.Goals as goal

pub write_all-requires-clause-writes : goal.write_all-requires-clause-writes
write_all-requires-clause-writes g c =
    all_writes_on c.args.journal.now c.args.node.now (steps_behind c.args.stamp c.args.inputs.items) _ c.requires.writes c.in-Ok.ensures.entries

pub returns-in-Ok-write_all-clause-writes : goal.returns-in-Ok-write_all-clause-writes
returns-in-Ok-write_all-clause-writes g c =
    all_writes_next c.args.journal.now c.write_all.new.journal c.args.node.now c.take_all.new.node (steps_behind c.args.stamp c.args.inputs.items)
    c.requires.writes c.in-Ok.ensures.node c.write_all.ensures.same
