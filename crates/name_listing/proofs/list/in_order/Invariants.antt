use Rattle.std.proofs.Common.{◌≡◌, ◌++◌}
use Rattle.name_listing.proofs.list.in_order.Given as goal

-- the lines so far, and those to come
abbrev pub invariant-loop-level : goal.invariant-loop-level
invariant-loop-level l = l.lines ++ l.level-iterator ≡ l.found
