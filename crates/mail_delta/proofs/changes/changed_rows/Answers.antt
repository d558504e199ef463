use Rattle.std.proofs.Common.{sym, subst, arith}
use Rattle.mail_message.specs.RowOrder.{AreOrdered}
use Rattle.mail_message.proofs.NextRows.{next-some}
use Rattle.mail_delta.specs.Deltas.{is_changed}
use Rattle.mail_delta.proofs.Keyed.{rise-filter}
use Rattle.mail_delta.proofs.LoopLaws.{filtered-all}
use Rattle.mail_delta.proofs.RowPuts.{uid_of}
use Rattle.mail_delta.proofs.changes.changed_rows.Goals as goal

pub from_rising-requires : goal.from_rising-requires
from_rising-requires c =
    let is = filtered-all c.loop-row.changed (is_changed c.args.old.now) c.args.now.now c.loop-row.row-index (omega arith) c.loop-row.invariant in
    subst AreOrdered (sym is) (record {
      rising = rise-filter uid_of (is_changed c.args.old.now) c.args.now.now c.requires.rising;
      next = next-some (is_changed c.args.old.now) c.args.now.now c.requires.next;
    })
