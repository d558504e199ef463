use Rattle.store_links.proofs.HeldLaw.{messages_change_one, any_store_with_it, others_change_none, contents_stay}
use Rattle.store_links.proofs.laws.only_messages_change_a_mailbox.Goals as goal

pub returns-clause-messages : goal.returns-clause-messages
returns-clause-messages c = messages_change_one

pub returns-clause-any : goal.returns-clause-any
returns-clause-any c = any_store_with_it

pub returns-clause-others : goal.returns-clause-others
returns-clause-others c = others_change_none

pub returns-clause-still : goal.returns-clause-still
returns-clause-still c = contents_stay
