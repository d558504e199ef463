use Rattle.std.proofs.Common.{subst}
use Rattle.node_record.specs.Held.{EntryLeavesNext}
use Rattle.node_record.proofs.held.apply_backend.Goals as goal

pub add-requires : goal.add-requires
add-requires c = subst EntryLeavesNext c.in-Added.is c.requires
