use Rattle.std.proofs.Common.{◌≡◌}
use Rattle.std.specs.List.{fold}
use Rattle.std.specs.Map.{keys_of}
use Rattle.mur_model.specs.Listing.{gathered_of, gathered_with}
use Rattle.mur_model.proofs.commands.list.gathered_in.Given as goal

-- what is gathered so far, with what is to come
abbrev pub invariant-loop-name : goal.invariant-loop-name
invariant-loop-name l = fold (gathered_with l.it) l.gathered (keys_of l.name-iterator) ≡ gathered_of l.it (keys_of l.store.boxes)
