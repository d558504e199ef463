use Rattle.std.proofs.Common.{◌≡◌, length}
use Rattle.mur_disk.specs.Undo.{undone}
use Rattle.mur_disk.specs.Memory.{synced_of}
use Rattle.mur_disk.proofs.held.Held.synced.Given as goal

abbrev pub invariant-loop-call : goal.invariant-loop-call
invariant-loop-call l = undone l.calls l.image ≡ synced_of l.self

abbrev pub decreases-loop-call : goal.decreases-loop-call
decreases-loop-call l = length l.calls
