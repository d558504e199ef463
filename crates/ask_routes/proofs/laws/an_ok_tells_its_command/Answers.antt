use Rattle.ask_routes.proofs.BarrierLaw.{ok_tells_its_command}
use Rattle.ask_routes.proofs.laws.an_ok_tells_its_command.Goals as goal

pub returns : goal.returns
returns c = ok_tells_its_command
