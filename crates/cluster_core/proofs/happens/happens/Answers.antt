use Rattle.std.proofs.Common.{arith}
use Rattle.cluster_core.proofs.Runs.RoomLaw.{step_fits}
use Rattle.cluster_core.proofs.happens.happens.Goals as goal

pub open-requires : goal.open-requires
open-requires c = step_fits c.args.world.now _ c.requires.room

pub hang-requires : goal.hang-requires
hang-requires c = step_fits c.args.world.now _ c.requires.room

pub overflow_add-world : goal.overflow_add-world
overflow_add-world c = omega (arith, step_fits c.args.world.now _ c.requires.room)

pub cut-requires : goal.cut-requires
cut-requires c = step_fits c.args.world.now _ c.requires.room

pub join-requires : goal.join-requires
join-requires c = step_fits c.args.world.now _ c.requires.room
