use Rattle.std.proofs.Common.{◌+◌, arith}
use Rattle.mail_delta.proofs.SpanLaws.{kept-none}
use Rattle.mail_delta.proofs.log.ChangeLog.mark.Goals as goal

pub returns-clause-fresh : goal.returns-clause-fresh
returns-clause-fresh c =
    rw (← c.self.view_is) (kept-none (c.self.inside.given + 1) c.in-Some.number c.self.inside.spans.items c.self.invariant (omega arith))
