use Rattle.std.proofs.Common.{◌≡◌, ◌++◌, ◌+◌, drop}
use Rattle.mur_model.specs.News.{changed_lines}
use Rattle.mur_model.proofs.news.put_changed.Given as goal

abbrev pub invariant-loop-row : goal.invariant-loop-row
invariant-loop-row l = record {
  lines : l.lines ++ changed_lines l.now l.told.keys (l.number + 1) (drop l.row-index l.rows) ≡ l.initial.lines ++ changed_lines l.now l.told.keys 1 l.rows;
  number : l.number ≡ l.row-index;
}
