use Rattle.drill_gen.proofs.RoomLaw.{has_room}
use Rattle.drill_gen.proofs.making.drill.Goals as goal

pub returns-in_err-config-clause-room : goal.returns-in_err-config-clause-room
returns-in_err-config-clause-room c = has_room c.args.number c.args.size c.requires.few

pub returns-in_err-put_making-clause-room : goal.returns-in_err-put_making-clause-room
returns-in_err-put_making-clause-room c = has_room c.args.number c.args.size c.requires.few

pub returns-in_err-put_sessions-clause-room : goal.returns-in_err-put_sessions-clause-room
returns-in_err-put_sessions-clause-room c = has_room c.args.number c.args.size c.requires.few

pub returns-in_err-put_turns-clause-room : goal.returns-in_err-put_turns-clause-room
returns-in_err-put_turns-clause-room c = has_room c.args.number c.args.size c.requires.few

pub returns-in_err-push-clause-room : goal.returns-in_err-push-clause-room
returns-in_err-push-clause-room c = has_room c.args.number c.args.size c.requires.few

pub returns-clause-room : goal.returns-clause-room
returns-clause-room c = has_room c.args.number c.args.size c.requires.few
