use Rattle.std.proofs.Common.{◌≡◌, drop}
use Rattle.cluster_core.specs.World.{with_ups}
use Rattle.cluster_core.proofs.start.links_up.Given as goal

abbrev pub invariant-loop-link : goal.invariant-loop-link
invariant-loop-link l = with_ups l.world (drop l.link-index l.links) ≡ with_ups l.initial.world l.links
