use Rattle.node_cell.proofs.RoomLaws.{room_found}
use Rattle.node_cell.proofs.tests.a_step_is_logged_with_the_next_stamp.Goals as goal

pub turn-requires : goal.turn-requires
turn-requires g c = record { room = room_found c.master.result c.expect-cell.result _ c.master.ensures c.expect-cell.ensures }
