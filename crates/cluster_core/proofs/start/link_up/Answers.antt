use Rattle.cluster_core.specs.World.{node_at}
use Rattle.cluster_core.proofs.Runs.RoomLaw.{ups_have_room}
use Rattle.cluster_core.proofs.start.link_up.Goals as goal

pub comes-requires : goal.comes-requires
comes-requires c = ups_have_room (node_at c.args.world.now (c.args.link.now).to) _
