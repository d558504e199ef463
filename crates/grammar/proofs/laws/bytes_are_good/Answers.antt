use Rattle.grammar.proofs.RepetitionLaw.{good_exactly}
use Rattle.grammar.proofs.laws.bytes_are_good.Goals as goal

pub returns : goal.returns
returns g c = good_exactly
