use Rattle.std.proofs.Common.{◌∙◌, sym}
use Rattle.std.proofs.lemmas.Result.{IfOk-weaker}
use Rattle.mur_model.proofs.PartLaw.{by_uids}
use Rattle.mur_model.proofs.named_rows.uids_in_part.Goals as goal

pub returns-in-Some : goal.returns-in-Some
returns-in-Some c =
    let from = c.rows_below-from in
    let to = c.rows_until-to in
    IfOk-weaker c.uids_between.result _ _
    (λ list is. is
    ∙ by_uids c.args.part c.in-Some.least c.in-Some.greatest from.result to.result c.args.rows.now (sym c.in-Some.ensures)
    from.ensures.place.0 from.ensures.place.1 to.ensures.place.0 to.ensures.place.1 from.ensures.within to.ensures.within)
    c.uids_between.ensures
