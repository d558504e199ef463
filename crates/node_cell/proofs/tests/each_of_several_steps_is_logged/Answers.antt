use Rattle.node_cell.proofs.RoomLaws.{all_room_found}
use Rattle.node_cell.proofs.tests.each_of_several_steps_is_logged.Goals as goal

pub turns-requires : goal.turns-requires
turns-requires g c = record { room = all_room_found c.master.result c.expect-cell.result _ c.master.ensures c.expect-cell.ensures }
