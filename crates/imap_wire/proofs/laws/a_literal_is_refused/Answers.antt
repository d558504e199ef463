use Rattle.imap_wire.proofs.BringsLaws.{refused_brings}
use Rattle.imap_wire.proofs.laws.a_literal_is_refused.Goals as goal

pub returns : goal.returns
returns c = λ lines it front line waits room. refused_brings lines it front line room waits
