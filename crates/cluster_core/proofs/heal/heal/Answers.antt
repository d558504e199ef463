use Rattle.cluster_core.proofs.Runs.HealMade.{heal_fits}
use Rattle.cluster_core.proofs.heal.heal.Goals as goal

pub heal_links-requires : goal.heal_links-requires
heal_links-requires c = heal_fits c.args.world.now _ _ c.requires.room c.requires.links c.as_slice.ensures
