use Rattle.std.proofs.Common.{sym}
use Rattle.mail_message.proofs.SlotChanges.{with_value-absent}
use Rattle.mail_message.proofs.slots.write.Goals as goal

pub returns-in-None : goal.returns-in-None
returns-in-None c = sym (with_value-absent c.args.map.now c.args.uid c.args.slot (sym c.in-None.ensures.value))
