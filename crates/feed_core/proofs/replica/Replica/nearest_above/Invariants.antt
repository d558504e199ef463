use Rattle.feed_core.specs.Above.{NoneAbove}
use Rattle.feed_core.proofs.replica.Replica.nearest_above.Given as goal

abbrev pub invariant-loop-at : goal.invariant-loop-at
invariant-loop-at l = NoneAbove l.self.records l.text l.at
