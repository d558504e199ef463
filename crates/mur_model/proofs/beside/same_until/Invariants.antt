use Rattle.std.proofs.Common.{◌≡◌, ◌+◌, drop}
use Rattle.mur_model.specs.Beside.{same_until}
use Rattle.mur_model.proofs.beside.same_until.Given as goal

abbrev pub invariant-loop-at : goal.invariant-loop-at
invariant-loop-at l = l.at + same_until (drop l.at l.rows) (drop l.at l.now) ≡ same_until l.rows l.now
