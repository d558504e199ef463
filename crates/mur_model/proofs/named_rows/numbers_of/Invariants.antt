use Rattle.std.proofs.Common.{◌≡◌, ◌+◌, ◌++◌, drop, length}
use Rattle.mur_model.specs.NamedRows.{numbers_from}
use Rattle.mur_model.proofs.named_rows.numbers_of.Given as goal

abbrev pub invariant-loop-row : goal.invariant-loop-row
invariant-loop-row l = record {
  list : l.list ++ numbers_from (l.number + 1) (drop l._row-index l.rows) ≡ numbers_from 1 l.rows;
  length : length l.list ≡ l._row-index;
  number : l.number ≡ l._row-index;
}
