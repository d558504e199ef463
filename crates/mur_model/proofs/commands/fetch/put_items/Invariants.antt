use Rattle.std.proofs.Common.{◌≡◌, ◌++◌, drop}
use Rattle.mur_model.proofs.commands.fetch.put_items.Given as goal

abbrev pub invariant-loop-item : goal.invariant-loop-item
invariant-loop-item l = l.items ++ drop l.item-index l.asked ≡ l.initial.items ++ l.asked
