use Rattle.std.proofs.Common.{◌≡◌}
use Rattle.std.specs.List.{AllByRecursion}
use Rattle.std.specs.Vec.Iter.{into_iter_items}
use Rattle.node_record.specs.Held.{EntryLeavesNext}
use Rattle.backend_core.specs.OpPlan.{home_after}
use Rattle.backend_core.proofs.backend.carry_out.Given as goal

-- the entries that are left make of the home what all make of it
abbrev pub invariant-loop-entry : goal.invariant-loop-entry
invariant-loop-entry l = record {
  home : home_after l.home (into_iter_items l.entry-iterator) ≡ home_after l.initial.home l.fn.entries;
  next : AllByRecursion EntryLeavesNext (into_iter_items l.entry-iterator);
}
