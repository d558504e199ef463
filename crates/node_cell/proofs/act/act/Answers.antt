use Rattle.node_cell.proofs.FrontLaws.{writes_on, writes_next}
use Rattle.node_cell.proofs.act.act.Goals as goal

pub write-requires : goal.write-requires
write-requires g c = writes_on c.args.journal.now c.args.node.now c.args.input _ c.requires.writes c.in-Ok.ensures

pub returns-in-Ok-write-clause-writes : goal.returns-in-Ok-write-clause-writes
returns-in-Ok-write-clause-writes g c =
    writes_next c.args.journal.now c.write.new.journal c.args.node.now c.args.input _ c.requires.writes c.in-Ok.ensures c.write.ensures.same
