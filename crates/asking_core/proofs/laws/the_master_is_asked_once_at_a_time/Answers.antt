use Rattle.asking_core.proofs.WaitingLaw.{cleared_once}
use Rattle.asking_core.proofs.laws.the_master_is_asked_once_at_a_time.Goals as goal

pub returns : goal.returns
returns c = cleared_once
