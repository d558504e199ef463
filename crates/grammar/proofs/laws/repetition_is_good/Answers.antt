use Rattle.grammar.proofs.RepetitionLaw.{good_repeat}
use Rattle.grammar.proofs.laws.repetition_is_good.Goals as goal

pub returns : goal.returns
returns g c = λ test after one apart turn_next after_next. good_repeat test after g.T.Rules.after g.T.Rules.part g.T.Rules.good one apart turn_next after_next
