use Rattle.imap_wire.proofs.BringsLaws.{open_brings}
use Rattle.imap_wire.proofs.laws.a_line_is_taken_whole.Goals as goal

pub returns : goal.returns
returns c = open_brings
