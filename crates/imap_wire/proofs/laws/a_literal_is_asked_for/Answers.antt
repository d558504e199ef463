use Rattle.imap_wire.proofs.BringsLaws.{asked_brings}
use Rattle.imap_wire.proofs.laws.a_literal_is_asked_for.Goals as goal

pub returns : goal.returns
returns c = λ lines it front line waits room. asked_brings lines it front line room waits
