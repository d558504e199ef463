use Rattle.mail_message.proofs.NextRows.{numbered}
use Rattle.mail_message.proofs.ordered_rows.OrderedRows.len.Goals as goal

pub returns-clause-numbers : goal.returns-clause-numbers
returns-clause-numbers c = rw c.len.ensures (numbered c.self.inside.rows c.self.invariant.rising c.self.invariant.next)
