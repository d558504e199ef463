use Rattle.std.proofs.Common.{◌≡◌, length}
use Rattle.std.specs.List.{fold}
use Rattle.name_flows.specs.Listed.{Round, round}
use Rattle.name_flows.proofs.flows.Flows.test_all.Given as goal

-- what those so far came to, with those to come
abbrev pub invariant-loop-ask : goal.invariant-loop-ask
invariant-loop-ask l =
    fold (round l.held) (record { flows = l.self; lines = l.lines; answers = l.answers }) l.waiting
    ≡ fold (round l.held) (record { flows = l.initial.self; lines = l.initial.lines; answers = l.initial.answers }) l.initial.waiting

abbrev pub decreases-loop-ask : goal.decreases-loop-ask
decreases-loop-ask l = length l.waiting
