use Rattle.std.proofs.Common.{◌≡◌, ◌++◌, drop}
use Rattle.mur_model.specs.News.{fresh_rows}
use Rattle.mur_model.proofs.news.fresh_rows.Given as goal

abbrev pub invariant-loop-row : goal.invariant-loop-row
invariant-loop-row l = l.view ++ fresh_rows l.now (drop l.row-index l.rows) ≡ fresh_rows l.now l.rows
