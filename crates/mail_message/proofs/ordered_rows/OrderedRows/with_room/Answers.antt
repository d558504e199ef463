use Rattle.std.proofs.Common.{◌∙◌, sym, subst}
use Rattle.mail_message.specs.RowOrder.{AreOrdered}
use Rattle.mail_message.proofs.RowLaws.{ordered-none}
use Rattle.mail_message.proofs.ordered_rows.OrderedRows.with_room.Goals as goal

pub invariant_of-result : goal.invariant_of-result
invariant_of-result c = subst AreOrdered (sym (c.from_vec.ensures ∙ c.in_ok-with_capacity.ensures.items)) ordered-none
