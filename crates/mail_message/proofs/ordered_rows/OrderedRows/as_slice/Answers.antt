use Rattle.std.proofs.Common.{◌<◌, ◌^◌, length, subst}
use Rattle.mail_message.proofs.NextRows.{numbered}
use Rattle.mail_message.proofs.ordered_rows.OrderedRows.as_slice.Goals as goal

pub returns-clause-numbers : goal.returns-clause-numbers
returns-clause-numbers c =
    subst (λ rows. length rows < 2 ^ 32) c.self.view_is (numbered c.self.inside.rows c.self.invariant.rising c.self.invariant.next)
