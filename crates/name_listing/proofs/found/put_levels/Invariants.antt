use Rattle.std.proofs.Common.{◌≡◌, drop}
use Rattle.std.specs.List.{fold}
use Rattle.name_listing.specs.Found.{with_levels}
use Rattle.name_listing.proofs.found.put_levels.Given as goal

-- the names so far, with those to come
abbrev pub invariant-loop-name : goal.invariant-loop-name
invariant-loop-name l = fold (with_levels l.pattern) l.found (drop l.name-index l.names) ≡ fold (with_levels l.pattern) l.fn.found l.names
