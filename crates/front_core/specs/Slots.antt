-- What a frontend keeps of a connection, as the connection that it stands for.
use Rattle.std.specs.Prelude.{◌≡◌, false, [], ⊤}
use Rattle.mur_model.specs.declared.session.Sess.TheVariants.{Off}
use Rattle.front_core.specs.declared.connection.Connection.{Connection}
use Rattle.front_core.specs.declared.connection.Stage.TheVariants.{Reading}
use Rattle.front_core.specs.declared.slot.Held.{Held}
use Rattle.front_core.specs.declared.slot.Held.TheVariants.{Fresh, Live, Over}
use Rattle.front_core.specs.Begun.{IsBegun}
use Rattle.front_core.specs.Ended.{ended}
use Rattle.front_core.specs.Reading.{first_reading}
use Rattle.front_core.specs.Stages.{stage_has_ended}

-- a connection before its first byte
unfoldable pub new_connection : Connection
new_connection = record { reader = first_reading; waiting = []; session = Off; stage = Reading; answered = 0 }

abbrev pub connection_of : Held → Connection
connection_of Fresh = new_connection
connection_of (Live connection) = connection.value
connection_of (Over answered) = ended answered

-- no connection on the heap has ended, and the session of one whose command waits has begun
abbrev pub IsLive : Held → Type 0
IsLive Fresh = ⊤
IsLive (Live connection) = (stage_has_ended connection.value.stage ≡ false) × IsBegun connection.value
IsLive (Over answered) = ⊤
