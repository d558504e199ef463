use Rattle.grammar.proofs.TakenSteps.{takes_one}
use Rattle.grammar.proofs.turn.Turn.turns.Goals as goal

pub returns-clause-taken : goal.returns-clause-taken
returns-clause-taken g c =
    takes_one _ _ c.args.state c.args.bytes.now c.args.most c.requires.some c.requires.begins _ _ c.in_ok-next.ensures
