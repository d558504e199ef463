use Rattle.std.proofs.Common.{◌≡◌, ◌++◌, drop}
use Rattle.node_record.specs.Held.{removals}
use Rattle.node_record.proofs.held.removals.Given as goal

abbrev pub invariant-loop-uid : goal.invariant-loop-uid
invariant-loop-uid l = l.changes ++ removals (drop l.uid-index l.uids) ≡ removals l.uids
