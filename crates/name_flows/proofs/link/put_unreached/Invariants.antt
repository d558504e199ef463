use Rattle.std.proofs.Common.{◌≡◌, ◌++◌, length, map}
use Rattle.name_flows.specs.Link.{unreached_answer}
use Rattle.name_flows.proofs.link.put_unreached.Given as goal

-- the answers so far, and those to come
abbrev pub invariant-loop-ask : goal.invariant-loop-ask
invariant-loop-ask l =
    l.answers ++ map (unreached_answer l.master) l.waiting ≡ l.initial.answers ++ map (unreached_answer l.master) l.initial.waiting

abbrev pub decreases-loop-ask : goal.decreases-loop-ask
decreases-loop-ask l = length l.waiting
