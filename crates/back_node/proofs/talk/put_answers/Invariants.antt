use Rattle.std.proofs.Common.{◌≡◌, ◌++◌, map}
use Rattle.std.specs.Vec.Iter.{into_iter_items}
use Rattle.back_node.specs.Takes.{answer_out}
use Rattle.back_node.proofs.talk.put_answers.Given as goal

-- the outputs so far, and the answers to come
abbrev pub invariant-loop-told : goal.invariant-loop-told
invariant-loop-told l =
    l.outs ++ map answer_out (into_iter_items l.told-iterator) ≡ l.initial.outs ++ map answer_out l.fn.answers
