use Rattle.cluster_core.proofs.Runs.RoomLaw.{turn_room, later_room_by}
use Rattle.cluster_core.proofs.flow.turn.Goals as goal

pub deliver-requires : goal.deliver-requires
deliver-requires c = turn_room c.args.world.now _ _ _ c.requires

pub returns-clause-room : goal.returns-clause-room
returns-clause-room c = later_room_by c.deliver.result c.args.world.now _ _ _ _ c.if-left-eq0.false c.requires c.deliver.ensures
