use Rattle.name_links.proofs.ContentLaw.{first_content, asks_content, hears_content, others_content}
use Rattle.name_links.proofs.ContentTakes.{takes_content}
use Rattle.name_links.proofs.ServedLaw.{serves_content}
use Rattle.name_links.proofs.laws.each_event_keeps_every_content.Goals as goal

pub returns-clause-first : goal.returns-clause-first
returns-clause-first c = first_content

pub returns-clause-asks : goal.returns-clause-asks
returns-clause-asks c = asks_content

pub returns-clause-hears : goal.returns-clause-hears
returns-clause-hears c = hears_content

pub returns-clause-takes : goal.returns-clause-takes
returns-clause-takes c = takes_content

pub returns-clause-others : goal.returns-clause-others
returns-clause-others c = others_content

pub returns-clause-serves : goal.returns-clause-serves
returns-clause-serves c = serves_content
