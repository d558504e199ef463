use Rattle.std.proofs.Common.{◌∙◌}
use Rattle.node_cell.proofs.ReplayLaws.{replays_by, rises_to}
use Rattle.node_cell.proofs.LogLaws.{is_ready}
use Rattle.node_cell.proofs.cell.Cell.log.Goals as goal

pub returns-clause-rises : goal.returns-clause-rises
returns-clause-rises g c = rises_to 0 c.args.self.now.log c.args.self.now.stamp c.args.self.now.stamps

pub returns-clause-replays : goal.returns-clause-replays
returns-clause-replays g c ready rules are =
    c.args.self.now.replays (is_ready c.args.self.now.fault ready) ∙ replays_by rules c.args.self.now.begun.value c.args.self.now.log are
