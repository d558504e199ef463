use Rattle.back_node.proofs.Courses.{entries_from_start, one_entry}
use Rattle.back_node.proofs.laws.the_mailboxes_are_what_the_entries_make.Goals as goal

pub returns-clause-step : goal.returns-clause-step
returns-clause-step c = one_entry

pub returns-clause-all : goal.returns-clause-all
returns-clause-all c = entries_from_start
