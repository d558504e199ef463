use Rattle.name_links.proofs.SerialTurn.{first_serials, lines_serials}
use Rattle.name_links.proofs.laws.no_uidvalidity_is_given_twice.Goals as goal

pub returns-clause-first : goal.returns-clause-first
returns-clause-first c = first_serials

pub returns-clause-lines : goal.returns-clause-lines
returns-clause-lines c = lines_serials
