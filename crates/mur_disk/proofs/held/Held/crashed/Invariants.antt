use Rattle.std.proofs.Common.{◌≡◌, drop, map}
use Rattle.mur_disk.specs.Choice.{chosen}
use Rattle.mur_disk.specs.Undo.{call_of}
use Rattle.mur_disk.specs.Memory.{synced_of, calls_of}
use Rattle.mur_disk.proofs.held.Held.crashed.Given as goal

abbrev pub invariant-loop-call : goal.invariant-loop-call
invariant-loop-call l = chosen l.choice (map call_of (drop l.call-index l.self.pending)) l.image ≡ chosen l.fn.choice (calls_of l.self) (synced_of l.self)
