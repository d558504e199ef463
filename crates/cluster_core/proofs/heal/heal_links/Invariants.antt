use Rattle.std.proofs.Common.{◌≡◌, ◌+◌, ◌<◌, ◌^◌, drop, length}
use Rattle.cluster_core.specs.Flow.{heal_links}
use Rattle.cluster_core.proofs.Runs.HealMade.{unhealed}
use Rattle.cluster_core.proofs.heal.heal_links.Given as goal

abbrev pub invariant-loop-link : goal.invariant-loop-link
invariant-loop-link l = record {
  healed : (heal_links (unhealed l.world) (drop l.link-index l.links)).world ≡ (heal_links (unhealed l.initial.world) l.links).world;
  room : l.world.steps + length (drop l.link-index l.links) < 2 ^ 64;
}
