use Rattle.node_cell.proofs.LogLaws.{none_by, some_by}
use Rattle.node_cell.proofs.cell.Cell.behind_these.Goals as goal

pub returns-clause-full : goal.returns-clause-full
returns-clause-full g c =
    none_by c.args.self.now.name c.args.self.now.log c.args.self.now.stamp c.args.self.now.room c.args.inputs.now c.behind_all.result
    c.args.self.now.limited c.behind_all.ensures.none

pub returns-clause-room : goal.returns-clause-room
returns-clause-room g c =
    some_by c.args.self.now.name c.args.self.now.log c.args.self.now.stamp c.args.self.now.room c.args.inputs.now c.behind_all.result
    c.args.self.now.limited c.behind_all.ensures.stamp c.behind_all.ensures.room
