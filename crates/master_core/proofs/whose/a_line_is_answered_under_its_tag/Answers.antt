use Rattle.master_core.proofs.WhoseLaw.{line_says, line_tells_nobody}
use Rattle.master_core.proofs.whose.a_line_is_answered_under_its_tag.Goals as goal

pub returns-clause-whose : goal.returns-clause-whose
returns-clause-whose c = line_says

pub returns-clause-streams : goal.returns-clause-streams
returns-clause-streams c = line_tells_nobody
