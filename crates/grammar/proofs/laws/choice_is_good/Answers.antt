use Rattle.std.proofs.Common.{true, false}
use Rattle.grammar.proofs.ChoiceLaw.{good_choose}
use Rattle.grammar.proofs.laws.choice_is_good.Goals as goal

pub returns : goal.returns
returns g c = λ test. good_choose test (g.P.Rules.part true) (g.P.Rules.part false) (g.P.Rules.good true) (g.P.Rules.good false)
