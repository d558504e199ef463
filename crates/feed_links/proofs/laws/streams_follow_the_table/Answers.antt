use Rattle.feed_links.proofs.Following.{streams_follow}
use Rattle.feed_links.proofs.Begun.{update_begins, noop_tells_nothing, streams_stay_in_order}
use Rattle.feed_links.proofs.TablesTold.{tables_can_be_told}
use Rattle.feed_links.proofs.laws.streams_follow_the_table.Goals as goal

pub returns-clause-follow : goal.returns-clause-follow
returns-clause-follow c = streams_follow

pub returns-clause-begins : goal.returns-clause-begins
returns-clause-begins c = update_begins

pub returns-clause-noop : goal.returns-clause-noop
returns-clause-noop c = noop_tells_nothing

pub returns-clause-told : goal.returns-clause-told
returns-clause-told c = tables_can_be_told

pub returns-clause-order : goal.returns-clause-order
returns-clause-order c = streams_stay_in_order
