use Rattle.feed_core.proofs.LinesLaw.{lines_make}
use Rattle.feed_core.proofs.laws.lines_make_their_records.Goals as goal

pub returns : goal.returns
returns c = lines_make
