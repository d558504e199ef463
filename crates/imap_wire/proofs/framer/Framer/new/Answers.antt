-- Nothing has come.
use Rattle.imap_wire.proofs.FeedLaws.{IsReached-start, begun-start}
use Rattle.imap_wire.proofs.framer.Framer.new.Goals as goal

pub invariant_of-result : goal.invariant_of-result
invariant_of-result c = IsReached-start _ c.new.ensures.state

pub returns-clause-begun : goal.returns-clause-begun
returns-clause-begun c = begun-start _ c.new.ensures.state
