use Rattle.std.proofs.Common.{◌∙◌, ap}
use Rattle.mail_message.specs.RowOrder.{row_at, if_row_of}
use Rattle.mail_message.proofs.RowLaws.{row-placed}
use Rattle.mail_message.proofs.ordered_rows.OrderedRows.find.Goals as goal

pub returns : goal.returns
returns c =
    c.if_row_of.ensures ∙ ap (if_row_of c.args.uid) c.get.ensures
    ∙ row-placed c.self.inside.rows c.args.uid c.place_of.result c.self.invariant.rising (rw c.as_slice.ensures at c.place_of.ensures)
    ∙ ap (λ rows. row_at rows c.args.uid) c.self.view_is
