use Rattle.home_law.proofs.ManyNamesLaw.{lists_each, finds_each, downs-append}
use Rattle.home_law.proofs.queues.answers_are_to_each_name_its_own.Goals as goal

pub returns-clause-lists : goal.returns-clause-lists
returns-clause-lists c = lists_each

pub returns-clause-finds : goal.returns-clause-finds
returns-clause-finds c = finds_each

pub returns-clause-in_order : goal.returns-clause-in_order
returns-clause-in_order c = downs-append
