use Rattle.std.proofs.Common.{◌≡◌, ◌++◌, map, take}
use Rattle.master_core.specs.Step.{answered}
use Rattle.master_core.proofs.step.put_answers.Given as goal

-- the answers so far
abbrev pub invariant-loop-answer : goal.invariant-loop-answer
invariant-loop-answer l = l.outs ≡ l.initial.outs ++ map (answered l.from l.tag) (take l.answer-index l.answers)
