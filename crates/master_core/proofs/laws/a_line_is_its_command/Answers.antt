use Rattle.mupdate_codec.proofs.WholeLaw.{line_is, is_line}
use Rattle.master_core.proofs.laws.a_line_is_its_command.Goals as goal

pub returns-clause-is : goal.returns-clause-is
returns-clause-is c = line_is

pub returns-clause-only : goal.returns-clause-only
returns-clause-only c = is_line
