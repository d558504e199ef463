use Rattle.std.proofs.Common.{codes}
use Rattle.mur_model.specs.Login.{login}
use Rattle.mur_model.proofs.BeginsLaw.{begins_as}
use Rattle.mur_model.proofs.wait.login_begins.Goals as goal

pub returns : goal.returns
returns c =
    begins_as c.login.result c.begins_if_made.result (login c.args.with.now.users (codes "LOGIN") c.args.name.now c.args.password.now) c.login.ensures
    c.begins_if_made.ensures
