use Rattle.route_links.proofs.StoreLaw.{missing_has_no_box, names_are_the_stores, refused_is_reserved, asked_has_the_box, decides_as_the_store}
use Rattle.route_links.proofs.laws.a_barrier_decides_as_the_store.Goals as goal

pub returns-clause-missing : goal.returns-clause-missing
returns-clause-missing c = missing_has_no_box

pub returns-clause-listed : goal.returns-clause-listed
returns-clause-listed c = names_are_the_stores

pub returns-clause-refused : goal.returns-clause-refused
returns-clause-refused c = refused_is_reserved

pub returns-clause-asked : goal.returns-clause-asked
returns-clause-asked c = asked_has_the_box

pub returns-clause-decides : goal.returns-clause-decides
returns-clause-decides c = decides_as_the_store
