use Rattle.std.proofs.Common.{◌≤◌, length, slice_get, sym, ◌∙◌, ap, subst}
use Rattle.mail_message.specs.RowOrder.{AreRising, IsPlace}
use Rattle.mail_delta.specs.Deltas.{has_uid_at}
use Rattle.mail_delta.proofs.PutLaws.{set-is, insert-is}
use Rattle.mail_delta.proofs.RowPuts.{rising-with_row}
use Rattle.mail_delta.proofs.mirror.put.Goals as goal

pub returns-then-has_uid_at-clause-value : goal.returns-then-has_uid_at-clause-value
returns-then-has_uid_at-clause-value c =
    let rows = c.args.rows.now.items in let uid = c.args.row.uid in let place = c.place_of-place.result in
    let at : IsPlace rows uid place = subst (λ r. IsPlace r uid place) c.as_slice.ensures.value c.place_of-place.ensures.place in
    let test = c.has_uid_at.ensures.value ∙ ap (λ r. has_uid_at uid (slice_get r place)) c.as_slice-2.ensures.value in
    set-is rows c.args.row place at (sym test ∙ c.if-has_uid_at.true)

pub returns-then-has_uid_at-clause-rising : goal.returns-then-has_uid_at-clause-rising
returns-then-has_uid_at-clause-rising c =
    let rows = c.args.rows.now.items in let uid = c.args.row.uid in let place = c.place_of-place.result in
    let at : IsPlace rows uid place = subst (λ r. IsPlace r uid place) c.as_slice.ensures.value c.place_of-place.ensures.place in
    let test = c.has_uid_at.ensures.value ∙ ap (λ r. has_uid_at uid (slice_get r place)) c.as_slice-2.ensures.value in
    subst AreRising (sym (set-is rows c.args.row place at (sym test ∙ c.if-has_uid_at.true))) (rising-with_row rows c.args.row c.requires)

pub returns-in_ok-insert-clause-value : goal.returns-in_ok-insert-clause-value
returns-in_ok-insert-clause-value c =
    let rows = c.args.rows.now.items in let uid = c.args.row.uid in let place = c.place_of-place.result in
    let at : IsPlace rows uid place = subst (λ r. IsPlace r uid place) c.as_slice.ensures.value c.place_of-place.ensures.place in
    let within : place ≤ length rows = subst (λ r. place ≤ length r) c.as_slice.ensures.value c.place_of-place.ensures.within in
    let test = c.has_uid_at.ensures.value ∙ ap (λ r. has_uid_at uid (slice_get r place)) c.as_slice-2.ensures.value in
    c.in_ok-insert.ensures.items ∙ insert-is rows c.args.row place at within (sym test ∙ c.if-has_uid_at.false)

pub returns-in_ok-insert-clause-rising : goal.returns-in_ok-insert-clause-rising
returns-in_ok-insert-clause-rising c =
    let rows = c.args.rows.now.items in let uid = c.args.row.uid in let place = c.place_of-place.result in
    let at : IsPlace rows uid place = subst (λ r. IsPlace r uid place) c.as_slice.ensures.value c.place_of-place.ensures.place in
    let within : place ≤ length rows = subst (λ r. place ≤ length r) c.as_slice.ensures.value c.place_of-place.ensures.within in
    let test = c.has_uid_at.ensures.value ∙ ap (λ r. has_uid_at uid (slice_get r place)) c.as_slice-2.ensures.value in
    subst AreRising (sym (c.in_ok-insert.ensures.items ∙ insert-is rows c.args.row place at within (sym test ∙ c.if-has_uid_at.false)))
    (rising-with_row rows c.args.row c.requires)
