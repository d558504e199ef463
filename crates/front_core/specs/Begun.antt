-- A connection whose command waits for a mailbox has a session that has begun.
use Rattle.std.specs.Prelude.{⊤}
use Rattle.mur_model.specs.declared.session.Sess.{Sess}
use Rattle.session_core.specs.Begin.{HasBegun}
use Rattle.front_core.specs.declared.connection.Connection.{Connection}
use Rattle.front_core.specs.declared.connection.Stage.{Stage}
use Rattle.front_core.specs.declared.connection.Stage.TheVariants.{Reading, Waits, Lists, Ended}

abbrev pub BegunAt : Stage → Sess → Type 0
BegunAt Reading session = ⊤
BegunAt (Waits tag it) session = HasBegun session
BegunAt (Lists tag it) session = ⊤
BegunAt Ended session = ⊤

abbrev pub IsBegun : Connection → Type 0
IsBegun connection = BegunAt connection.stage connection.session
