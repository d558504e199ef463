use Rattle.std.proofs.Common.{◌≡◌, arith}
use Rattle.std.proofs.lemmas.Bool.Decides.{nat_tests}
use Rattle.mur_model.proofs.BesideLaw.{kept_step}
use Rattle.mur_model.proofs.beside.Walked.takes.Goals as goal

pub returns-then-it-row-clause-walked : goal.returns-then-it-row-clause-walked
returns-then-it-row-clause-walked c rows =
    let row = c.args.row.now in
    let it = c.in-Some.it.now in
    let done = c.args.self.now in
    let found = c.in-Some.ensures.lookup.3 in
    let same : it.uid ≡ row.uid = grind (arith, nat_tests, c.if-it-row.true) in
    kept_step c.args.expunges c.args.told.now.keys done c.keeps.new.self row it rows c.args.now.now same found.0 (found.1 it) c.in_ok-keeps.ensures
