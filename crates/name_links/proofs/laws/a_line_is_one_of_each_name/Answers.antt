use Rattle.name_links.proofs.MasterLaw.{step_is_reply, record_is_one, answers_are_one, answers_take_off, others_hear_nothing}
use Rattle.name_links.proofs.laws.a_line_is_one_of_each_name.Goals as goal

pub returns-clause-step : goal.returns-clause-step
returns-clause-step c = step_is_reply

pub returns-clause-known : goal.returns-clause-known
returns-clause-known c = record_is_one

pub returns-clause-answers : goal.returns-clause-answers
returns-clause-answers c = answers_are_one

pub returns-clause-left : goal.returns-clause-left
returns-clause-left c = answers_take_off

pub returns-clause-others : goal.returns-clause-others
returns-clause-others c = others_hear_nothing
