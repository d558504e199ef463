use Rattle.name_links.proofs.LinkLaw.{first_law, asks_law, hears_law, takes_law, others_law}
use Rattle.name_links.proofs.ServedLaw.{serves_law}
use Rattle.name_links.proofs.laws.each_event_keeps_every_name.Goals as goal

pub returns-clause-first : goal.returns-clause-first
returns-clause-first c = first_law

pub returns-clause-asks : goal.returns-clause-asks
returns-clause-asks c = asks_law

pub returns-clause-hears : goal.returns-clause-hears
returns-clause-hears c = hears_law

pub returns-clause-takes : goal.returns-clause-takes
returns-clause-takes c = takes_law

pub returns-clause-others : goal.returns-clause-others
returns-clause-others c = others_law

pub returns-clause-serves : goal.returns-clause-serves
returns-clause-serves c = serves_law
