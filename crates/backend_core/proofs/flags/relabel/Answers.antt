use Rattle.std.proofs.Common.{◌≡◌, ℕ, List, IfOk, subst, Ok, Err, ◌∙◌}
use Rattle.mail_store.specs.Store.{has_too_many_flags, rows_stored, IsStored}
use Rattle.mail_store.specs.declared.fault.StoreFault.{StoreFault}
use Rattle.mail_store.specs.declared.fault.StoreFault.TheVariants.{TooManyFlags}
use Rattle.backend_core.specs.declared.op_plan.OpPlan.{OpPlan}
use Rattle.backend_core.proofs.RelabelsBy.{relabels_rows, relabels_none}
use Rattle.backend_core.proofs.flags.relabel.Goals as goal

pub returns-in-Ok : goal.returns-in-Ok
returns-in-Ok c =
    let box = c.args.content.now in
    let answered = subst (λ (uids : List ℕ). IsStored (rows_stored box uids c.args.mode c.args.flags.now) (Ok c.in-Ok.rows)) c.as_slice.ensures c.in-Ok.ensures.rows in
    subst (λ (made : OpPlan). IfOk c.relabel_rows.result (λ (plan : OpPlan). plan ≡ made))
    (relabels_rows c.args.name box c.args.uids.now c.args.mode c.args.flags.now c.in-Ok.rows
    (has_too_many_flags (rows_stored box c.args.uids.now c.args.mode c.args.flags.now)) answered)
    c.relabel_rows.ensures

pub returns-in-Err-TooManyFlags : goal.returns-in-Err-TooManyFlags
returns-in-Err-TooManyFlags c =
    let box = c.args.content.now in
    let why = subst (λ (fault : StoreFault). IsStored (rows_stored box c.as_slice.result.now c.args.mode c.args.flags.now) (Err fault))
    c.in-Err-TooManyFlags.field-0-is c.in-Err-TooManyFlags.ensures.rows in
    let answered = subst (λ (uids : List ℕ). IsStored (rows_stored box uids c.args.mode c.args.flags.now) (Err TooManyFlags)) c.as_slice.ensures why in
    c.looks.ensures
    ∙ relabels_none c.args.name box c.args.uids.now c.args.mode c.args.flags.now
    (has_too_many_flags (rows_stored box c.args.uids.now c.args.mode c.args.flags.now)) answered
