use Rattle.std.proofs.Common.{arith, drop}
use Rattle.mur_base.specs.Patterns.{matches}
use Rattle.mur_base.proofs.PatternMarks.{byte_more}
use Rattle.mur_base.proofs.pattern.matches.Goals as goal

pub loop-i-preserved : goal.loop-i-preserved
loop-i-preserved c =
    byte_more c.args.pattern.now _ _ _ c.loop-i.i (omega arith) (omega arith)
    (c.mark_byte.ensures (matches (drop c.loop-i.i c.args.pattern.now)) c.loop-i.invariant)
