use Rattle.std.proofs.Common.{sym}
use Rattle.std.proofs.lemmas.Result.{IfOk-weaker}
use Rattle.mur_model.proofs.AppendLaws.{appended_there}
use Rattle.mur_model.proofs.commands.append.append_at.Goals as goal

pub returns-in-Some : goal.returns-in-Some
returns-in-Some c =
    IfOk-weaker c.append_to.result _ _
    (λ reply is. appended_there c.args.store.now c.args.name.now c.args.message c.in-Some.mailbox.now c.append_to.new.mailbox reply
    (sym c.in-Some.ensures.value) is)
    c.append_to.ensures
