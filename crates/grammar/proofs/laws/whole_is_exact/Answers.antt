use Rattle.grammar.proofs.SequenceLaw.{exact_whole}
use Rattle.grammar.proofs.laws.whole_is_exact.Goals as goal

pub returns : goal.returns
returns g c = exact_whole g.P.Rule.part g.P.Rule.good
