use Rattle.route_links.proofs.BarrierLaw.{decides}
use Rattle.route_links.proofs.DecidedLaw.{by_its_table, names_of_its_table}
use Rattle.route_links.proofs.laws.a_barrier_decides_by_the_table.Goals as goal

pub returns-clause-decides : goal.returns-clause-decides
returns-clause-decides c = decides

pub returns-clause-table : goal.returns-clause-table
returns-clause-table c = by_its_table

pub returns-clause-names : goal.returns-clause-names
returns-clause-names c = names_of_its_table
