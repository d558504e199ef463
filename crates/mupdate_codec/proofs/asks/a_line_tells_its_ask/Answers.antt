use Rattle.mupdate_codec.proofs.LineAsks.{command_tells, response_tells, own_command, own_response}
use Rattle.mupdate_codec.proofs.asks.a_line_tells_its_ask.Goals as goal

pub returns-clause-command : goal.returns-clause-command
returns-clause-command c = command_tells

pub returns-clause-response : goal.returns-clause-response
returns-clause-response c = response_tells

pub returns-clause-own_command : goal.returns-clause-own_command
returns-clause-own_command c = own_command

pub returns-clause-own_response : goal.returns-clause-own_response
returns-clause-own_response c = own_response
