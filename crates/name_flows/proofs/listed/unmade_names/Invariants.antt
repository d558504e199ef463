use Rattle.std.proofs.Common.{◌≡◌, ◌++◌, filter, map}
use Rattle.name_flows.specs.Listed.{name_in, is_unmade}
use Rattle.name_flows.proofs.listed.unmade_names.Given as goal

-- the names so far, and those to come
abbrev pub invariant-loop-name : goal.invariant-loop-name
invariant-loop-name l = l.names ++ map name_in (filter (is_unmade l.listed) l.name-iterator) ≡ map name_in (filter (is_unmade l.listed) l.held)
