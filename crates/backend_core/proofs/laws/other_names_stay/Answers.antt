use Rattle.backend_core.proofs.Others.{others_stay, order_stays}
use Rattle.backend_core.proofs.laws.other_names_stay.Goals as goal

pub returns-clause-others : goal.returns-clause-others
returns-clause-others c = others_stay

pub returns-clause-ordered : goal.returns-clause-ordered
returns-clause-ordered c = order_stays
