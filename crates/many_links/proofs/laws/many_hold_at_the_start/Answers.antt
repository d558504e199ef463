use Rattle.many_links.proofs.BegunLaw.{many_begin}
use Rattle.many_links.proofs.StartLaw.{there_is_a_start}
use Rattle.many_links.proofs.laws.many_hold_at_the_start.Goals as goal

pub returns-clause-begin : goal.returns-clause-begin
returns-clause-begin c = many_begin

pub returns-clause-there : goal.returns-clause-there
returns-clause-there c = there_is_a_start
