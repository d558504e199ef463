use Rattle.back_links.proofs.BackLaw.{talk_begins, asks_keep_talk, hears_keeps_talk}
use Rattle.back_links.proofs.MasterLaw.{takes_keeps_talk, others_keep_talk}
use Rattle.back_links.proofs.OtherSteps.{frontends_keep_talk, ups_keep_talk, clients_keep_talk}
use Rattle.back_links.proofs.laws.each_event_keeps_a_talk.Goals as goal

pub returns-clause-begins : goal.returns-clause-begins
returns-clause-begins c = talk_begins

pub returns-clause-asks : goal.returns-clause-asks
returns-clause-asks c = asks_keep_talk

pub returns-clause-hears : goal.returns-clause-hears
returns-clause-hears c = hears_keeps_talk

pub returns-clause-takes : goal.returns-clause-takes
returns-clause-takes c = takes_keeps_talk

pub returns-clause-others : goal.returns-clause-others
returns-clause-others c = others_keep_talk

pub returns-clause-frontends : goal.returns-clause-frontends
returns-clause-frontends c = frontends_keep_talk

pub returns-clause-ups : goal.returns-clause-ups
returns-clause-ups c = ups_keep_talk

pub returns-clause-clients : goal.returns-clause-clients
returns-clause-clients c = clients_keep_talk
