use Rattle.std.proofs.Common.{sym, subst}
use Rattle.mail_message.specs.RowOrder.{AreRising}
use Rattle.mail_delta.proofs.RowPuts.{rising-none}
use Rattle.mail_delta.proofs.mirror.Mirror.new.Goals as goal

pub invariant_of-result : goal.invariant_of-result
invariant_of-result c = subst AreRising (sym c.new.ensures.items) rising-none
