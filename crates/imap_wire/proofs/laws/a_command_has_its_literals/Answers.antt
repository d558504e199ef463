use Rattle.imap_wire.proofs.BringsLaws.{command_brings}
use Rattle.imap_wire.proofs.laws.a_command_has_its_literals.Goals as goal

pub returns : goal.returns
returns c = command_brings
