use Rattle.mur_model.specs.Plain.{authenticate}
use Rattle.mur_model.proofs.BeginsLaw.{begins_as}
use Rattle.mur_model.proofs.wait.plain_begins.Goals as goal

pub returns : goal.returns
returns c =
    begins_as c.authenticate.result c.begins_if_made.result (authenticate c.args.with.now.users c.args.line.now) c.authenticate.ensures c.begins_if_made.ensures
