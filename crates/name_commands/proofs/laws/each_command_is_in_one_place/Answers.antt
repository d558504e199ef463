use Rattle.name_commands.proofs.AllLaw.{answers_tell, asks_tell, clients_tell, lines_tell, others_tell, tells_first, tells_one_to_one, ups_tell}
use Rattle.name_commands.proofs.laws.each_command_is_in_one_place.Goals as goal

pub returns-clause-first : goal.returns-clause-first
returns-clause-first c = tells_first

pub returns-clause-asks : goal.returns-clause-asks
returns-clause-asks c = asks_tell

pub returns-clause-hears : goal.returns-clause-hears
returns-clause-hears c = answers_tell

pub returns-clause-takes : goal.returns-clause-takes
returns-clause-takes c = lines_tell

pub returns-clause-others : goal.returns-clause-others
returns-clause-others c = others_tell

pub returns-clause-ups : goal.returns-clause-ups
returns-clause-ups c = ups_tell

pub returns-clause-clients : goal.returns-clause-clients
returns-clause-clients c = clients_tell

pub returns-clause-flows : goal.returns-clause-flows
returns-clause-flows c = tells_one_to_one
