use Rattle.std.proofs.Common.{◌≡◌, drop}
use Rattle.mur_model.specs.Keys.{have_all_numbers}
use Rattle.mur_model.proofs.keys.+numbers.Given as goal

abbrev pub invariant-have_all_numbers-loop-key : goal.invariant-have_all_numbers-loop-key
invariant-have_all_numbers-loop-key l = have_all_numbers l.count (drop l.key-index l.keys) ≡ have_all_numbers l.count l.keys
