use Rattle.std.specs.Bool.{one_answer}
use Rattle.mur_model.proofs.ViewLaw.{above_decides}
use Rattle.mur_model.specs.News.{is_above}
use Rattle.mur_model.proofs.news.is_behind.Goals as goal

pub returns : goal.returns
returns c = one_answer c.is_below.result (is_above c.args.rows.now c.args.uid) c.is_below.ensures (above_decides c.args.rows.now c.args.uid)
