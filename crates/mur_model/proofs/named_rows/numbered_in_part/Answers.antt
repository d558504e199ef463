use Rattle.std.proofs.Common.{◌≡◌, ◌-◌, ◌∙◌, length, sym, arith}
use Rattle.std.specs.Prelude.{min}
use Rattle.std.proofs.lemmas.Grind.{common_steps}
use Rattle.std.proofs.lemmas.Result.{IfOk-weaker}
use Rattle.mur_model.proofs.PartLaw.{by_numbers}
use Rattle.mur_model.proofs.named_rows.numbered_in_part.Goals as goal

pub returns-in-Some : goal.returns-in-Some
returns-in-Some c =
    let rows = c.args.rows.now in
    let first : c.min-from.result ≡ min (c.in-Some.least - 1) (length rows) = grind (arith, common_steps) in
    let last : c.min-to.result ≡ min c.in-Some.greatest (length rows) = grind (arith, common_steps) in
    IfOk-weaker c.uids_between.result _ _
    (λ list is. is ∙ by_numbers c.args.part c.in-Some.least c.in-Some.greatest c.min-from.result c.min-to.result rows (sym c.in-Some.ensures) first last)
    c.uids_between.ensures
