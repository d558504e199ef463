use Rattle.many_links.proofs.OpenLaw.{open_is_the_stores, one_has_it_open, no_mailbox_is_nowhere}
use Rattle.many_links.proofs.laws.an_open_name_is_the_stores.Goals as goal

pub returns-clause-stores : goal.returns-clause-stores
returns-clause-stores c = open_is_the_stores

pub returns-clause-one : goal.returns-clause-one
returns-clause-one c = one_has_it_open

pub returns-clause-none : goal.returns-clause-none
returns-clause-none c = no_mailbox_is_nowhere
