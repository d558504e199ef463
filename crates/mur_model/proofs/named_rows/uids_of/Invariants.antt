use Rattle.std.proofs.Common.{◌≡◌, ◌++◌, drop, length}
use Rattle.mur_model.specs.ClientView.{uids}
use Rattle.mur_model.proofs.named_rows.uids_of.Given as goal

abbrev pub invariant-loop-row : goal.invariant-loop-row
invariant-loop-row l = record {
  list : l.list ++ uids (drop l.row-index l.rows) ≡ uids l.rows;
  length : length l.list ≡ l.row-index;
}
