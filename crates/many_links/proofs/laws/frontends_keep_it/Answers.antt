use Rattle.many_links.proofs.FrontLaw.{alike_hold, outs_keep_many, passing_keeps_many}
use Rattle.many_links.proofs.laws.frontends_keep_it.Goals as goal

pub returns-clause-outs : goal.returns-clause-outs
returns-clause-outs c = outs_keep_many

pub returns-clause-passing : goal.returns-clause-passing
returns-clause-passing c = passing_keeps_many

pub returns-clause-alike : goal.returns-clause-alike
returns-clause-alike c = alike_hold
