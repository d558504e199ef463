use Rattle.std.proofs.Common.{◌≡◌, [], filter}
use Rattle.std.specs.List.{fold}
use Rattle.name_flows.specs.Listed.{with_find, is_lost}
use Rattle.name_flows.proofs.listed.find_lines.Given as goal

-- the lines so far, with those to come
abbrev pub invariant-loop-name : goal.invariant-loop-name
invariant-loop-name l = fold with_find l.lines (filter (is_lost l.listed) l.name-iterator) ≡ fold with_find [] (filter (is_lost l.listed) l.held)
