use Rattle.std.proofs.Common.{◌≡◌, ◌++◌, map}
use Rattle.name_flows.specs.Listed.{line_in}
use Rattle.name_flows.proofs.listed.in_order.Given as goal

-- the lines so far, and those to come
abbrev pub invariant-loop-name : goal.invariant-loop-name
invariant-loop-name l = l.all ++ map line_in l._name-iterator ≡ map line_in l.lines
