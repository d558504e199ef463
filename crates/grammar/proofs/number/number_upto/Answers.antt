use Rattle.std.proofs.Common.{arith}
use Rattle.grammar.proofs.NumberSteps.{value_of-take}
use Rattle.grammar.proofs.number.number_upto.Goals as goal

pub loop-digit-preserved : goal.loop-digit-preserved
loop-digit-preserved c = omega (arith, value_of-take c.args.digits.now c.loop-digit.digit-index c.loop-digit-test.true)
