use Rattle.name_commands.proofs.AllLaw.{none_begins}
use Rattle.name_commands.proofs.AskSteps.{messages_leave, none_at_first, other_asks_leave}
use Rattle.name_commands.proofs.MasterLaw.{clients_pass, other_lines_pass, other_nodes_pass}
use Rattle.name_commands.proofs.laws.any_other_step_leaves_a_command.Goals as goal

pub returns-clause-first : goal.returns-clause-first
returns-clause-first c = none_at_first

pub returns-clause-begins : goal.returns-clause-begins
returns-clause-begins c = none_begins

pub returns-clause-asks : goal.returns-clause-asks
returns-clause-asks c = other_asks_leave

pub returns-clause-messages : goal.returns-clause-messages
returns-clause-messages c = messages_leave

pub returns-clause-lines : goal.returns-clause-lines
returns-clause-lines c = other_lines_pass

pub returns-clause-nodes : goal.returns-clause-nodes
returns-clause-nodes c = other_nodes_pass

pub returns-clause-clients : goal.returns-clause-clients
returns-clause-clients c = clients_pass
