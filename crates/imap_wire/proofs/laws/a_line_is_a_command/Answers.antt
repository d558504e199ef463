use Rattle.imap_wire.proofs.BringsLaws.{line_brings}
use Rattle.imap_wire.proofs.MoreLaws.{begins_empty}
use Rattle.imap_wire.proofs.laws.a_line_is_a_command.Goals as goal

pub returns-clause-first : goal.returns-clause-first
returns-clause-first c = begins_empty

pub returns-clause-line : goal.returns-clause-line
returns-clause-line c = line_brings
