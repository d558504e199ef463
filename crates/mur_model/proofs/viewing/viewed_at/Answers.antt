use Rattle.std.proofs.Common.{sym}
use Rattle.std.proofs.lemmas.Result.{IfOk-weaker}
use Rattle.mur_model.proofs.ViewedLaw.{viewed_there, viewed_nowhere}
use Rattle.mur_model.proofs.viewing.viewed_at.Goals as goal

pub returns-in-Some : goal.returns-in-Some
returns-in-Some c =
    IfOk-weaker c.viewed_on.result _ _
    (λ turn is. viewed_there c.args.store.now c.args.name.now c.args.view.now c.args.work.now c.in-Some.mailbox.now c.viewed_on.new.mailbox turn
    (sym c.in-Some.ensures.value) is)
    c.viewed_on.ensures

pub returns-in-None : goal.returns-in-None
returns-in-None c =
    IfOk-weaker c.gone.result _ _
    (λ turn is. viewed_nowhere c.args.store.now c.args.name.now c.args.view.now c.args.work.now turn (sym c.in-None.ensures.value) is)
    c.gone.ensures
