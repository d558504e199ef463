use Rattle.std.proofs.Common.{arith}
use Rattle.cluster_core.proofs.Runs.RoomLaw.{step_fits, bytes_fit}
use Rattle.cluster_core.proofs.happens.data.Goals as goal

pub overflow_add-world : goal.overflow_add-world
overflow_add-world c = omega (arith, step_fits _ _ c.requires)

pub client_does-requires : goal.client_does-requires
client_does-requires c = bytes_fit c.args.world.now _ _ _ c.requires
