use Rattle.grammar.proofs.SequenceLaw.{good_then}
use Rattle.grammar.proofs.laws.sequence_is_good.Goals as goal

pub returns : goal.returns
returns g c = good_then g.P.Rule.part g.Q.Rules.part g.P.Rule.good g.Q.Rules.good c.requires
