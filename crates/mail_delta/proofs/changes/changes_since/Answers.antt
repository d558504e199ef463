use Rattle.mail_delta.proofs.DeltaLaw.{complete-by}
use Rattle.mail_delta.proofs.changes.changes_since.Goals as goal

pub returns-clause-complete : goal.returns-clause-complete
returns-clause-complete c =
    complete-by c.args.old.now c.args.now.now c.in_ok-seen.seen c.as_slice.result.now c.as_slice-2.result.now c.in_ok-changed.changed c.in_ok-gone.gone
    c.in_ok-seen.ensures.value c.as_slice.ensures.rows c.as_slice-2.ensures.rows c.in_ok-changed.ensures c.in_ok-gone.ensures
    c.as_slice-2.ensures.rising c.in_ok-seen.ensures.rising
