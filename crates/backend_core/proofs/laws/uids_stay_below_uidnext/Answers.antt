use Rattle.backend_core.proofs.BelowNext.{booted_below, plan_stays_below}
use Rattle.backend_core.proofs.laws.uids_stay_below_uidnext.Goals as goal

pub returns-clause-booted : goal.returns-clause-booted
returns-clause-booted c = booted_below

pub returns-clause-stays : goal.returns-clause-stays
returns-clause-stays c = plan_stays_below
