use Rattle.std.proofs.Common.{◌≡◌, ◌++◌, length}
use Rattle.link_queue.proofs.links.first_of.Given as goal

abbrev pub invariant-loop-message : goal.invariant-loop-message
invariant-loop-message g l = (l.fn.queue ≡ l.kept ++ l.queue) × (length l.kept ≡ l._message)
