use Rattle.std.proofs.Common.{◌≡◌, ◌++◌, ◌∙◌, [], ◌∷◌, ap, subst}
use Rattle.std.specs.Prelude.{Ok, Err}
use Rattle.std.proofs.lemmas.Result.{IfOk-weaker}
use Rattle.mail_store.specs.Append.{appended, append_fault, uids_from}
use Rattle.mail_store.specs.Faults.{IsValueUnless}
use Rattle.mur_model.specs.Append.{append_reply as reply_to}
use Rattle.mur_model.proofs.AppendLaws.{refused_left, appended_left}
use Rattle.mur_model.proofs.commands.append.append_to.Goals as goal

pub returns-in-Err : goal.returns-in-Err
returns-in-Err c =
    let box = c.args.mailbox.now in
    let one : c.push.new.self ≡ c.args.message ∷ [] = c.in_ok-push.ensures.ok ∙ ap (λ list. list ++ c.args.message ∷ []) c.new-list.ensures in
    let answered = subst (λ list. IsValueUnless (append_fault box list) (uids_from box.next list) (Err c.in-Err.fault)) one c.in-Err.ensures.answer in
    IfOk-weaker c.refused_for.result _ _
    (λ reply told. refused_left c.args.message box c.append_all.new.to (append_fault box (c.args.message ∷ [])) _ c.in-Err.fault reply answered
    c.in-Err.ensures.err told)
    c.refused_for.ensures

pub returns : goal.returns
returns c =
    let box = c.args.mailbox.now in
    let one : c.push.new.self ≡ c.args.message ∷ [] = c.in_ok-push.ensures.ok ∙ ap (λ list. list ++ c.args.message ∷ []) c.new-list.ensures in
    let answered = subst (λ list. IsValueUnless (append_fault box list) (uids_from box.next list) (Ok c.in_default.field-0)) one c.in_default.ensures.answer in
    IfOk-weaker c.append_reply.result _ _
    (λ reply told. appended_left c.args.message box c.append_all.new.to (append_fault box (c.args.message ∷ [])) _ c.in_default.field-0 reply answered
    (c.in_default.ensures.ok ∙ ap (appended box) one)
    (told ∙ ap (λ serial. reply_to serial c.next-uid.result) c.serial-serial.ensures ∙ ap (reply_to box.serial) c.next-uid.ensures))
    c.append_reply.ensures
