use Rattle.std.proofs.Common.{◌≡◌, ◌++◌, map, drop}
use Rattle.mur_model.specs.Status.{count_of}
use Rattle.mur_model.proofs.commands.status.counts_of.Given as goal

abbrev pub invariant-loop-item : goal.invariant-loop-item
invariant-loop-item l = l.counts ++ map (count_of l.seen) (drop l.item-index l.items) ≡ map (count_of l.seen) l.items
