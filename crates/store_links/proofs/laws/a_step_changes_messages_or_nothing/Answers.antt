use Rattle.store_links.proofs.StepLaw.{asks_are_nothing, hears_are_nothing, message_steps_are_one}
use Rattle.store_links.proofs.laws.a_step_changes_messages_or_nothing.Goals as goal

pub returns-clause-asks : goal.returns-clause-asks
returns-clause-asks c = asks_are_nothing

pub returns-clause-hears : goal.returns-clause-hears
returns-clause-hears c = hears_are_nothing

pub returns-clause-serves : goal.returns-clause-serves
returns-clause-serves c = message_steps_are_one
