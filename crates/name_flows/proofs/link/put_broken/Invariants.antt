use Rattle.std.proofs.Common.{◌≡◌, ◌++◌, map}
use Rattle.name_flows.specs.Link.{broken_answer_in}
use Rattle.name_flows.proofs.link.put_broken.Given as goal

-- the answers so far, and those to come
abbrev pub invariant-loop-name : goal.invariant-loop-name
invariant-loop-name l =
    l.answers ++ map (broken_answer_in l.master) l._name-iterator ≡ l.initial.answers ++ map (broken_answer_in l.master) l.running
