use Rattle.std.proofs.Common.{sym}
use Rattle.mupdate_codec.proofs.BegunLaw.{ends_unmarked}
use Rattle.mupdate_codec.proofs.cutter.goes_on.Goals as goal

pub returns-else-end_as_header-clause-ends : goal.returns-else-end_as_header-clause-ends
returns-else-end_as_header-clause-ends c = λ _. ends_unmarked c.args.bytes.now c.requires.ended (sym c.if-end_as_header.ensures)
