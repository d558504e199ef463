use Rattle.std.proofs.Common.{◌∙◌, List, ap}
use Rattle.std.specs.List.{list_any}
use Rattle.mail_message.specs.declared.change.Change.{Change}
use Rattle.mail_message.specs.Boxes.{Content, is_touched, content_after_all}
use Rattle.mail_store.specs.Store.{flag_changes}
use Rattle.mail_store.proofs.LeavesLaws.{leaves-flags}
use Rattle.mail_store.proofs.TouchedLaws.{touched-flags, next-flags}
use Rattle.mail_store.proofs.store.set_flags.Goals as goal

pub returns-clause-others : goal.returns-clause-others
returns-clause-others c q untouched =
    let changes = c.in_ok-changes.ensures ∙ ap flag_changes c.as_slice.ensures.rows in
    c.in_ok-apply_all.ensures.others q (ap (list_any (is_touched q)) changes ∙ touched-flags c.in_ok-rows.rows q ∙ untouched)

pub returns-clause-next : goal.returns-clause-next
returns-clause-next c =
    let changes = c.in_ok-changes.ensures ∙ ap flag_changes c.as_slice.ensures.rows in
    ap (λ (box : Content). box.next) c.in_ok-apply_all.ensures.ok
    ∙ ap (λ (made : List Change). (content_after_all c.args.to.now made).next) changes ∙ next-flags c.args.to.now c.in_ok-rows.rows

pub apply_all-requires : goal.apply_all-requires
apply_all-requires c = rw c.in_ok-changes.ensures (leaves-flags c.as_slice.result.now)
