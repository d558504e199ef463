use Rattle.name_commands.proofs.MasterLaw.{line_taken, line_taken_alone}
use Rattle.name_commands.proofs.laws.a_line_has_one_response.Goals as goal

pub returns-clause-one : goal.returns-clause-one
returns-clause-one c = line_taken

pub returns-clause-alone : goal.returns-clause-alone
returns-clause-alone c = line_taken_alone
