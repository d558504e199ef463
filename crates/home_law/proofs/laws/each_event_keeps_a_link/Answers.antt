use Rattle.home_law.proofs.Events.{asked_kept}
use Rattle.home_law.proofs.LinkEvents.{hears_kept, asked_each_kept, takes_kept, others_kept, cut_kept, crash_kept, lose_kept, join_kept}
use Rattle.home_law.proofs.laws.each_event_keeps_a_link.Goals as goal

pub returns-clause-hears : goal.returns-clause-hears
returns-clause-hears c = hears_kept

pub returns-clause-asked : goal.returns-clause-asked
returns-clause-asked c = asked_kept

pub returns-clause-asked_each : goal.returns-clause-asked_each
returns-clause-asked_each c = asked_each_kept

pub returns-clause-takes : goal.returns-clause-takes
returns-clause-takes c = takes_kept

pub returns-clause-others : goal.returns-clause-others
returns-clause-others c = others_kept

pub returns-clause-cut : goal.returns-clause-cut
returns-clause-cut c = cut_kept

pub returns-clause-crash : goal.returns-clause-crash
returns-clause-crash c = crash_kept

pub returns-clause-lose : goal.returns-clause-lose
returns-clause-lose c = lose_kept

pub returns-clause-join : goal.returns-clause-join
returns-clause-join c = join_kept
