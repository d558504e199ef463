use Rattle.std.proofs.Common.{◌≡◌, drop}
use Rattle.link_queue.specs.Broken.{leads_nowhere}
use Rattle.link_queue.proofs.broken.has.Given as goal

abbrev pub invariant-loop-other : goal.invariant-loop-other
invariant-loop-other l = leads_nowhere (drop l.other-index l.other-items) l.node ≡ leads_nowhere l.lost l.node
