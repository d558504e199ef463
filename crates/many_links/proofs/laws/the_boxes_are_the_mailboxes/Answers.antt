use Rattle.many_links.proofs.BoxesLaw.{boxes_differ, mailboxes_are_boxes}
use Rattle.many_links.proofs.laws.the_boxes_are_the_mailboxes.Goals as goal

pub returns-clause-same : goal.returns-clause-same
returns-clause-same c = mailboxes_are_boxes

pub returns-clause-differ : goal.returns-clause-differ
returns-clause-differ c = boxes_differ
