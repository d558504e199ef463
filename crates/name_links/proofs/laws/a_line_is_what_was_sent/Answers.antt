use Rattle.name_links.proofs.Reading.{line_read, read_back}
use Rattle.name_links.proofs.Messages.{message_is}
use Rattle.name_links.proofs.Spelled.{commands_are_spelled, responses_are_spelled}
use Rattle.name_links.proofs.laws.a_line_is_what_was_sent.Goals as goal

pub returns-clause-commands_spelled : goal.returns-clause-commands_spelled
returns-clause-commands_spelled c = commands_are_spelled

pub returns-clause-responses_spelled : goal.returns-clause-responses_spelled
returns-clause-responses_spelled c = responses_are_spelled

pub returns-clause-lines : goal.returns-clause-lines
returns-clause-lines c = line_read

pub returns-clause-responses : goal.returns-clause-responses
returns-clause-responses c = read_back

pub returns-clause-meant : goal.returns-clause-meant
returns-clause-meant c = message_is
