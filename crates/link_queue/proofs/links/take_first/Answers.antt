use Rattle.link_queue.proofs.FirstTaken.{taken_link}
use Rattle.link_queue.proofs.links.take_first.Goals as goal

pub returns-in-Some-clause-taken : goal.returns-in-Some-clause-taken
returns-in-Some-clause-taken g c =
    taken_link _ _ _ _ _ c.take_way.result c.in-Some.ensures.ordered c.in-Some.ensures.value c.take_way.ensures.taken
