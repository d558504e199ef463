use Rattle.back_node.proofs.OneName.{ask_to_name, end_to_name, line_to_name, messages_to_name, up_to_name}
use Rattle.back_node.proofs.laws.a_step_is_one_of_each_name.Goals as goal

pub returns-clause-up : goal.returns-clause-up
returns-clause-up c = up_to_name

pub returns-clause-ended : goal.returns-clause-ended
returns-clause-ended c = end_to_name

pub returns-clause-line : goal.returns-clause-line
returns-clause-line c = line_to_name

pub returns-clause-asked : goal.returns-clause-asked
returns-clause-asked c = ask_to_name

pub returns-clause-messages : goal.returns-clause-messages
returns-clause-messages c = messages_to_name
