use Rattle.std.proofs.Common.{◌≡◌, drop, map}
use Rattle.mur_config.specs.Names.{names_differ}
use Rattle.mur_config.proofs.NamesLaw.{are_new_apart}
use Rattle.mur_config.proofs.names.names_differ.Given as goal

abbrev pub invariant-loop-item : goal.invariant-loop-item
invariant-loop-item g l =
    are_new_apart l.seen.keys (map g.N.Named.name_of (drop l.item-index l.items)) ≡ names_differ (map g.N.Named.name_of l.items)
