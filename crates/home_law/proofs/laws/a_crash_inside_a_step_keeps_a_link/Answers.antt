use Rattle.home_law.proofs.Stopped.{stopped_hearing_kept, stopped_asked_kept, stopped_taking_kept}
use Rattle.home_law.proofs.laws.a_crash_inside_a_step_keeps_a_link.Goals as goal

pub returns-clause-hearing : goal.returns-clause-hearing
returns-clause-hearing c = stopped_hearing_kept

pub returns-clause-asked : goal.returns-clause-asked
returns-clause-asked c = stopped_asked_kept

pub returns-clause-taking : goal.returns-clause-taking
returns-clause-taking c = stopped_taking_kept
