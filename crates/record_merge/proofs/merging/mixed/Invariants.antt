use Rattle.std.proofs.Common.{◌≡◌, ◌+◌, ◌++◌, length}
use Rattle.record_merge.specs.Mix.{mix}
use Rattle.record_merge.proofs.merging.mixed.Given as goal

abbrev pub invariant-loop-step : goal.invariant-loop-step
invariant-loop-step g l = l.steps ++ mix l.first l.others ≡ mix l.initial.first l.initial.others

abbrev pub decreases-loop-step : goal.decreases-loop-step
decreases-loop-step g l = length l.first + length l.others
