use Rattle.std.proofs.Common.{◌≡◌, sym, subst, arith}
use Rattle.std.proofs.lemmas.Grind.{common_steps}
use Rattle.mail_message.specs.declared.message.Row.{Row}
use Rattle.mail_message.specs.RowOrder.{AreOrdered}
use Rattle.mail_message.proofs.NextRows.{next-some}
use Rattle.mur_model.specs.News.{rows_there, has_row}
use Rattle.mur_model.proofs.ViewLaw.{rising-some}
use Rattle.mur_model.proofs.news.rows_there.Goals as goal

pub from_rising-requires : goal.from_rising-requires
from_rising-requires c =
    let is : c.loop-row.there ≡ rows_there c.args.now.now c.args.rows.now = grind (arith, common_steps) in
    let there = λ (row : Row). has_row c.args.now.now row.uid in
    subst AreOrdered (sym is) (record {
      rising = rising-some there c.args.rows.now c.as_slice-row-items.ensures.rising;
      next = next-some there c.args.rows.now c.as_slice-row-items.ensures.next;
    })
