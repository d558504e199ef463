use Rattle.std.proofs.Common.{◌≡◌, ◌++◌, drop}
use Rattle.mur_model.specs.News.{rows_there}
use Rattle.mur_model.proofs.news.rows_there.Given as goal

abbrev pub invariant-loop-row : goal.invariant-loop-row
invariant-loop-row l = l.there ++ rows_there l.now (drop l.row-index l.rows) ≡ rows_there l.now l.rows
