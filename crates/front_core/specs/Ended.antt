-- A connection that has ended: nothing is kept of it but how many commands were answered.
use Rattle.std.specs.Prelude.{ℕ, []}
use Rattle.mur_model.specs.declared.session.Sess.TheVariants.{Ended as session_ended}
use Rattle.front_core.specs.declared.connection.Connection.{Connection}
use Rattle.front_core.specs.declared.connection.Stage.{Stage}
use Rattle.front_core.specs.declared.connection.Stage.TheVariants.{Reading, Waits, Lists, Ended}
use Rattle.front_core.specs.Reading.{first_reading}
use Rattle.front_core.specs.Taken.{Turned}

abbrev pub ended : ℕ → Connection
ended answered = record { reader = first_reading; waiting = []; session = session_ended; stage = Ended; answered = answered }

unfoldable pub released_at : Connection → Stage → Connection
released_at connection Reading = connection
released_at connection (Waits tag it) = connection
released_at connection (Lists tag it) = connection
released_at connection Ended = ended connection.answered

-- what is kept of a connection behind what came to it, whatever ended it
abbrev pub released : Connection → Connection
released connection = released_at connection connection.stage

abbrev pub with_released : Turned → Turned
with_released turned = record turned { connection = released turned.connection }
