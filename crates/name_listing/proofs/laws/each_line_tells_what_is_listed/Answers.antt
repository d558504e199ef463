use Rattle.name_listing.proofs.LinesLaw.{line_told}
use Rattle.name_listing.proofs.laws.each_line_tells_what_is_listed.Goals as goal

pub returns : goal.returns
returns c = line_told
