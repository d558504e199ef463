use Rattle.std.proofs.Common.{sym, subst}
use Rattle.mail_message.specs.RowOrder.{IsAbove}
use Rattle.mail_message.proofs.RowLaws.{ordered-pushed}
use Rattle.mail_message.proofs.ordered_rows.OrderedRows.push.Goals as goal

pub invariant_of-self : goal.invariant_of-self
invariant_of-self c =
    ordered-pushed c.push.result c.self.inside.rows c.push.new.self c.args.row c.push.ensures.ok c.push.ensures.err c.self.invariant
    (subst (λ rows. IsAbove rows c.args.row.uid) (sym c.self.view_is) c.requires.above) c.requires.next
