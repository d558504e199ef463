use Rattle.std.proofs.Common.{◌≡◌, ◌++◌, drop}
use Rattle.mur_model.specs.News.{rows_behind}
use Rattle.mur_model.proofs.news.put_behind.Given as goal

abbrev pub invariant-loop-row : goal.invariant-loop-row
invariant-loop-row l = l.view ++ rows_behind l.rows (drop l.row-index l.now) ≡ l.initial.view ++ rows_behind l.rows l.now
