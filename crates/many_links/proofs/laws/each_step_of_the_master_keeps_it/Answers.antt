use Rattle.many_links.proofs.MasterLaw.{clients_keep_many, frontends_keep_many, ups_keep_many}
use Rattle.many_links.proofs.OneOfThree.{exactly_one}
use Rattle.many_links.proofs.TakesLaw.{takes_keeps_many}
use Rattle.many_links.proofs.laws.each_step_of_the_master_keeps_it.Goals as goal

pub returns-clause-takes : goal.returns-clause-takes
returns-clause-takes c = takes_keeps_many

pub returns-clause-frontends : goal.returns-clause-frontends
returns-clause-frontends c = frontends_keep_many

pub returns-clause-ups : goal.returns-clause-ups
returns-clause-ups c = ups_keep_many

pub returns-clause-clients : goal.returns-clause-clients
returns-clause-clients c = clients_keep_many

pub returns-clause-exactly : goal.returns-clause-exactly
returns-clause-exactly c = exactly_one
