use Rattle.store_links.proofs.BoxesLaw.{box_is_there, each_is_a_box, same_names, as_many, full_alike}
use Rattle.store_links.proofs.laws.each_mailbox_is_a_box.Goals as goal

pub returns-clause-there : goal.returns-clause-there
returns-clause-there c = box_is_there

pub returns-clause-each : goal.returns-clause-each
returns-clause-each c = each_is_a_box

pub returns-clause-names : goal.returns-clause-names
returns-clause-names c = same_names

pub returns-clause-many : goal.returns-clause-many
returns-clause-many c = as_many

pub returns-clause-full : goal.returns-clause-full
returns-clause-full c = full_alike
