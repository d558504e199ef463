use Rattle.std.proofs.Common.{◌≡◌, ◌++◌, drop}
use Rattle.mur_model.specs.Keys.{keys_at}
use Rattle.mur_model.proofs.keys.+places.Given as goal

abbrev pub invariant-keys_at-loop-key : goal.invariant-keys_at-loop-key
invariant-keys_at-loop-key l = l.made ++ keys_at l.count l.last (drop l.key-index l.keys) ≡ keys_at l.count l.last l.keys
