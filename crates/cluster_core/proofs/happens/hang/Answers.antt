use Rattle.cluster_core.specs.World.{client_at}
use Rattle.cluster_core.proofs.Runs.RoomLaw.{hang_fits}
use Rattle.cluster_core.proofs.happens.hang.Goals as goal

pub client_does-requires : goal.client_does-requires
client_does-requires c = hang_fits c.args.world.now c.args.conn (client_at c.args.world.now c.args.conn)
