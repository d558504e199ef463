use Rattle.mail_message.proofs.SlotLaws.{length-filled}
use Rattle.mail_message.proofs.slots.Slots.places.Goals as goal

pub returns : goal.returns
returns c = rw (c.len.ensures, ← c.self.view_is) (length-filled c.self.inside.map)
