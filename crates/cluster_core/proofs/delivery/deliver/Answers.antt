use Rattle.std.proofs.Common.{arith}
use Rattle.cluster_core.proofs.Runs.RoomLaw.{step_fits, message_fits}
use Rattle.cluster_core.proofs.delivery.deliver.Goals as goal

pub overflow_add-world : goal.overflow_add-world
overflow_add-world c = omega (arith, step_fits _ _ c.requires)

pub comes-requires : goal.comes-requires
comes-requires c = message_fits c.args.world.now c.args.from.now c.args.to.now _ _ c.requires
