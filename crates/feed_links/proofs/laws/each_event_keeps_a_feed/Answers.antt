use Rattle.feed_links.proofs.FeedLaw.{noops_keep_it, hears_keeps_it, end_keeps_it, up_keeps_it, takes_keeps_it, late_keeps_it, others_keep_it, clients_keep_it, breaks_keep_it, mends_keep_it}
use Rattle.feed_links.proofs.OnlyLines.{sends_lines}
use Rattle.feed_links.proofs.laws.each_event_keeps_a_feed.Goals as goal

pub returns-clause-noops : goal.returns-clause-noops
returns-clause-noops c = noops_keep_it

pub returns-clause-hears : goal.returns-clause-hears
returns-clause-hears c = hears_keeps_it

pub returns-clause-ends : goal.returns-clause-ends
returns-clause-ends c = end_keeps_it

pub returns-clause-comes_up : goal.returns-clause-comes_up
returns-clause-comes_up c = up_keeps_it

pub returns-clause-takes : goal.returns-clause-takes
returns-clause-takes c = takes_keeps_it

pub returns-clause-late : goal.returns-clause-late
returns-clause-late c = late_keeps_it

pub returns-clause-others : goal.returns-clause-others
returns-clause-others c = others_keep_it

pub returns-clause-clients : goal.returns-clause-clients
returns-clause-clients c = clients_keep_it

pub returns-clause-breaks : goal.returns-clause-breaks
returns-clause-breaks c = breaks_keep_it

pub returns-clause-mends : goal.returns-clause-mends
returns-clause-mends c = mends_keep_it

pub returns-clause-lines : goal.returns-clause-lines
returns-clause-lines c = sends_lines
