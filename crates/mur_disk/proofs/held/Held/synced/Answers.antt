use Rattle.std.proofs.Common.{List, ◌∙◌, ap, sym}
use Rattle.mur_disk.specs.Undo.{undone}
use Rattle.mur_disk.proofs.UndoLaws.{undone_more}
use Rattle.mur_disk.specs.declared.held.Pending.{Pending}
use Rattle.mur_disk.proofs.held.Held.synced.Goals as goal

pub loop-call-preserved : goal.loop-call-preserved
loop-call-preserved c =
    ap (undone c.in-Some.before.now) c.in_ok-undo.ensures
    ∙ sym (undone_more c.in-Some.before.now c.in-Some.call.now c.loop-call.image)
    ∙ sym (ap (λ (calls : List Pending). undone calls c.loop-call.image) c.in-Some.ensures.cases.0)
    ∙ c.loop-call.invariant
