use Rattle.link_queue.proofs.FirstTaken.{taken_way}
use Rattle.link_queue.proofs.links.take_way.Goals as goal

pub returns-in-Some-clause-taken : goal.returns-in-Some-clause-taken
returns-in-Some-clause-taken g c = taken_way _ _ _ _ c.pop.result c.in-Some.ensures.ordered c.in-Some.ensures.value c.pop.ensures.first
