use Rattle.std.proofs.Common.{◌==◌, ◌+◌, ◌<◌, ◌^◌, ℕ, length, ◌∙◌, ap, sym, arith}
use Rattle.std.specs.List.{list_any}
use Rattle.std.proofs.lemmas.Bool.Decides.{nat_tests}
use Rattle.mail_message.specs.Boxes.{is_touched}
use Rattle.mail_store.proofs.AppendLaws.{next-appended}
use Rattle.mail_store.proofs.TouchedLaws.{touched-puts}
use Rattle.mail_store.proofs.LeavesLaws.{leaves-puts}
use Rattle.mail_store.proofs.append.append_all.Goals as goal

pub apply_all-requires : goal.apply_all-requires
apply_all-requires c =
    let room : c.next-first.result + length c.args.list < 2 ^ 32 =
    grind (arith, nat_tests, c.if-from-count.false, c.from.ensures, c.from-2.ensures, c.len-count.ensures) in
    rw c.in_ok-uids.ensures.changes (leaves-puts c.next-first.result c.args.list room)

pub returns-clause-next : goal.returns-clause-next
returns-clause-next c =
    rw (c.in_ok-apply_all.ensures.ok, c.in_ok-uids.ensures.changes, c.next-first.ensures) (next-appended c.args.to.now c.args.to.now.next c.args.list)

pub returns-clause-others : goal.returns-clause-others
returns-clause-others c q untouched =
    c.in_ok-apply_all.ensures.others q
    (ap (list_any (is_touched q)) c.in_ok-uids.ensures.changes ∙ touched-puts c.next-first.result c.args.list q
    ∙ ap (list_any (λ (given : ℕ). given == q)) (sym c.in_ok-uids.ensures.uids) ∙ untouched)
