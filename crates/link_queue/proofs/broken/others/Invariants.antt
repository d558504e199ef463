use Rattle.std.proofs.Common.{◌≡◌, ◌++◌, drop, filter}
use Rattle.link_queue.specs.Broken.{is_other}
use Rattle.link_queue.proofs.broken.others.Given as goal

abbrev pub invariant-loop-other : goal.invariant-loop-other
invariant-loop-other l = l.others ++ filter (is_other l.node) (drop l.other-index l.other-items) ≡ filter (is_other l.node) l.lost
