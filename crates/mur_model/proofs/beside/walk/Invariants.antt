use Rattle.std.proofs.Common.{◌≡◌, ◌+◌, ◌≤◌, drop}
use Rattle.mur_model.specs.Beside.{from_place, walked}
use Rattle.mur_model.proofs.beside.walk.Given as goal

abbrev pub invariant-loop-row : goal.invariant-loop-row
invariant-loop-row l = record {
  walked : walked l.expunges l.told.keys l.walked (drop l.row-index (drop l.place l.rows)) (drop (l.walked).kept l.now)
      ≡ walked l.expunges l.told.keys (from_place l.place) (drop l.place l.rows) (drop l.place l.now);
  few : (l.walked).kept ≤ l.place + l.row-index;
}
