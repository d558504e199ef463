use Rattle.many_links.proofs.HomeLaw.{alike_has_it, hears_keeps_many, asks_keep_many, serves_keeps_many}
use Rattle.many_links.proofs.laws.each_step_of_a_backend_keeps_it.Goals as goal

pub returns-clause-hears : goal.returns-clause-hears
returns-clause-hears c = hears_keeps_many

pub returns-clause-asks : goal.returns-clause-asks
returns-clause-asks c = asks_keep_many

pub returns-clause-serves : goal.returns-clause-serves
returns-clause-serves c = serves_keeps_many

pub returns-clause-alike : goal.returns-clause-alike
returns-clause-alike c = alike_has_it
