use Rattle.std.proofs.Common.{◌≡◌, ◌++◌, ◌+◌, ◌≤◌, drop}
use Rattle.mur_model.specs.News.{expunge_lines}
use Rattle.mur_model.proofs.news.put_expunged.Given as goal

abbrev pub invariant-loop-row : goal.invariant-loop-row
invariant-loop-row l = record {
  lines : l.lines ++ expunge_lines l.now (l.kept + 1) (drop l.row-index l.rows) ≡ l.initial.lines ++ expunge_lines l.now 1 l.rows;
  few : l.kept ≤ l.row-index;
}
