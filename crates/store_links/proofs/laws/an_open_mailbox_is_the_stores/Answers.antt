use Rattle.store_links.proofs.OpenLaw.{open_is_alike, none_is_missing}
use Rattle.store_links.proofs.StepLaw.{open_is_mailbox}
use Rattle.store_links.proofs.laws.an_open_mailbox_is_the_stores.Goals as goal

pub returns-clause-mailbox : goal.returns-clause-mailbox
returns-clause-mailbox c = open_is_mailbox

pub returns-clause-alike : goal.returns-clause-alike
returns-clause-alike c = open_is_alike

pub returns-clause-none : goal.returns-clause-none
returns-clause-none c = none_is_missing
