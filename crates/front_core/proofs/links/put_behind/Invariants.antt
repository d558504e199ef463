use Rattle.std.proofs.Common.{◌≡◌, ◌++◌}
use Rattle.std.specs.Vec.Iter.{into_iter_items}
use Rattle.front_core.proofs.links.put_behind.Given as goal

-- the outputs so far, and those to come
abbrev pub invariant-loop-out : goal.invariant-loop-out
invariant-loop-out l = l.outs ++ into_iter_items l.out-iterator ≡ l.initial.outs ++ l.fn.more
