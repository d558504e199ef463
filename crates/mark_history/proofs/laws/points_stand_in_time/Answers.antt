use Rattle.mark_history.proofs.MomentLaw.{later_are_in_time, loses_the_open, none_is_later, steps_rise}
use Rattle.mark_history.proofs.laws.points_stand_in_time.Goals as goal

pub returns-clause-rise : goal.returns-clause-rise
returns-clause-rise c = steps_rise

pub returns-clause-made : goal.returns-clause-made
returns-clause-made c = none_is_later

pub returns-clause-lost : goal.returns-clause-lost
returns-clause-lost c = loses_the_open

pub returns-clause-in_time : goal.returns-clause-in_time
returns-clause-in_time c = later_are_in_time
