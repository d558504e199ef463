use Rattle.std.proofs.Common.{◌≡◌, ◌++◌, sym, subst}
use Rattle.mail_message.specs.RowOrder.{AreOrdered}
use Rattle.mur_model.specs.News.{fresh_rows, rows_behind}
use Rattle.mur_model.proofs.ViewLaw.{rising-view, next-view}
use Rattle.mur_model.proofs.news.view_of.Goals as goal

pub from_rising-requires : goal.from_rising-requires
from_rising-requires c =
    let rows = c.args.rows.now in
    let now = c.args.now.now in
    let fresh = c.in_ok-view.ensures.view in
    let all = c.in_ok-put_behind.ensures.view in
    let is : c.put_behind.new.view ≡ fresh_rows now rows ++ rows_behind rows now = cc in
    subst AreOrdered (sym is) (record {
      rising = rising-view rows now c.in_ok-view.ensures.rising c.in_ok-put_behind.ensures.rising;
      next = next-view rows now c.in_ok-view.ensures.next c.in_ok-put_behind.ensures.next;
    })
