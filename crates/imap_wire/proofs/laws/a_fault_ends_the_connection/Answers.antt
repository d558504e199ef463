use Rattle.imap_wire.proofs.BringsLaws.{plus_brings, long_brings}
use Rattle.imap_wire.proofs.FeedLaws.{frames-ended, begun-ended}
use Rattle.imap_wire.proofs.laws.a_fault_ends_the_connection.Goals as goal

pub returns-clause-plus : goal.returns-clause-plus
returns-clause-plus c = λ lines it front line waits room. plus_brings lines it front line room waits

pub returns-clause-long : goal.returns-clause-long
returns-clause-long c = long_brings

pub returns-clause-no_more : goal.returns-clause-no_more
returns-clause-no_more c past more none = (frames-ended past more none, begun-ended past more none)
