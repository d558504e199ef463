use Rattle.std.proofs.Common.{◌≡◌, ◌++◌, drop}
use Rattle.std.specs.List.{zip}
use Rattle.mur_model.specs.NamedRows.{picked}
use Rattle.mur_model.proofs.named_rows.picked.Given as goal

abbrev pub invariant-loop-at : goal.invariant-loop-at
invariant-loop-at l = l.list ++ picked (zip (drop l.at l.rows) (drop l.at l.marks)) ≡ picked (zip l.rows l.marks)
