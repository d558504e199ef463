use Rattle.name_links.proofs.BoxLaw.{first_boxes, asks_boxes, hears_boxes, takes_boxes, others_boxes, serves_boxes, mailboxes_differ}
use Rattle.name_links.proofs.laws.each_mailbox_has_what_it_was_given.Goals as goal

pub returns-clause-first : goal.returns-clause-first
returns-clause-first c = first_boxes

pub returns-clause-asks : goal.returns-clause-asks
returns-clause-asks c = asks_boxes

pub returns-clause-hears : goal.returns-clause-hears
returns-clause-hears c = hears_boxes

pub returns-clause-takes : goal.returns-clause-takes
returns-clause-takes c = takes_boxes

pub returns-clause-others : goal.returns-clause-others
returns-clause-others c = others_boxes

pub returns-clause-serves : goal.returns-clause-serves
returns-clause-serves c = serves_boxes

pub returns-clause-differ : goal.returns-clause-differ
returns-clause-differ c = mailboxes_differ
