use Rattle.backend_core.proofs.RisingHome.{booted_rises, plan_rises}
use Rattle.backend_core.proofs.laws.uids_rise.Goals as goal

pub returns-clause-booted : goal.returns-clause-booted
returns-clause-booted c = booted_rises

pub returns-clause-stays : goal.returns-clause-stays
returns-clause-stays c = plan_rises
