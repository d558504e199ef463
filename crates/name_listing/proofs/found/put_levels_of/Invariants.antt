use Rattle.std.proofs.Common.{◌≡◌, take, drop}
use Rattle.std.specs.List.{fold}
use Rattle.name_listing.specs.Found.{with_level, with_levels, levels_from}
use Rattle.name_listing.proofs.found.put_levels_of.Given as goal

-- the levels so far, with those to come
abbrev pub invariant-loop-i : goal.invariant-loop-i
invariant-loop-i l =
    fold (with_level l.pattern) l.found (levels_from (take l.i l.name) (drop l.i l.name)) ≡ with_levels l.pattern l.fn.found l.name
