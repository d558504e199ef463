use Rattle.master_core.proofs.OutsideLaw.{line_leaves, bytes_leave}
use Rattle.master_core.proofs.laws.an_outside_line_changes_no_record.Goals as goal

pub returns-clause-entry : goal.returns-clause-entry
returns-clause-entry c = λ master conn line. (line_leaves master conn line).entry

pub returns-clause-line : goal.returns-clause-line
returns-clause-line c = λ master conn line. (line_leaves master conn line).table

pub returns-clause-bytes : goal.returns-clause-bytes
returns-clause-bytes c = bytes_leave
