use Rattle.store_links.proofs.GivenLaw.{given_first}
use Rattle.store_links.proofs.ShownLaw.{shows_first}
use Rattle.store_links.proofs.laws.no_mailbox_is_the_empty_store.Goals as goal

pub returns-clause-shows : goal.returns-clause-shows
returns-clause-shows c = shows_first

pub returns-clause-given : goal.returns-clause-given
returns-clause-given c = given_first
