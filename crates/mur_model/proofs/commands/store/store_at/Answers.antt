use Rattle.std.proofs.Common.{List, ℕ, subst, ◌≡◌, Ok, Err}
use Rattle.std.proofs.lemmas.Result.{IfOk-weaker}
use Rattle.mail_store.specs.Store.{has_too_many_flags, rows_stored, stored, IsStored}
use Rattle.mur_model.proofs.StoreLaw.{stored_worked, refused_worked}
use Rattle.mur_model.proofs.commands.store.store_at.Goals as goal

pub returns-in-Ok : goal.returns-in-Ok
returns-in-Ok c =
    let it = c.args.it.now in
    let box = c.args.mailbox.now in
    let answered = subst (λ (uids : List ℕ). IsStored (rows_stored box uids it.mode it.flags) (Ok c.in-Ok.changes)) c.as_slice.ensures c.in-Ok.ensures.answer in
    let leaves = subst (λ (uids : List ℕ). c.set_flags.new.to ≡ stored box uids it.mode it.flags) c.as_slice.ensures c.in-Ok.ensures.ok in
    IfOk-weaker c.stored.result _ _
    (λ viewed tells. stored_worked c.args.view.now it box c.set_flags.new.to c.in-Ok.changes viewed
    (has_too_many_flags (rows_stored box it.uids it.mode it.flags)) answered leaves tells)
    c.stored.ensures

pub returns-in-Err : goal.returns-in-Err
returns-in-Err c =
    let it = c.args.it.now in
    let box = c.args.mailbox.now in
    let is_stored = λ (uids : List ℕ). IsStored (rows_stored box uids it.mode it.flags) (Err c.in-Err.fault) in
    let answered = subst is_stored c.as_slice.ensures c.in-Err.ensures.answer in
    IfOk-weaker c.refused_for.result _ _
    (λ viewed tells. refused_worked c.args.view.now it box c.set_flags.new.to c.in-Err.fault viewed
    (has_too_many_flags (rows_stored box it.uids it.mode it.flags)) answered c.in-Err.ensures.err tells)
    c.refused_for.ensures
