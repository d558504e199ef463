use Rattle.std.proofs.Common.{◌≡◌, [], drop}
use Rattle.mur_model.specs.Fetch.{each_once}
use Rattle.mur_model.proofs.commands.fetch.each_once.Given as goal

abbrev pub invariant-loop-item : goal.invariant-loop-item
invariant-loop-item l = each_once l.once (drop l.item-index l.items) ≡ each_once [] l.items
