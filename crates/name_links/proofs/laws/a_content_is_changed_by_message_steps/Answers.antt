use Rattle.name_links.proofs.LeavesLaw.{asks_leave, hears_leave}
use Rattle.name_links.proofs.laws.a_content_is_changed_by_message_steps.Goals as goal

pub returns-clause-asks : goal.returns-clause-asks
returns-clause-asks c = asks_leave

pub returns-clause-hears : goal.returns-clause-hears
returns-clause-hears c = hears_leave
