-- Commands that wait for one line more of their client: AUTHENTICATE without a response (RFC 9051, 6.2.2), and IDLE (RFC 9051, 6.3.13).
use Rattle.std.specs.Prelude.{ℕ, Bool, true, false, ◌||◌, if◌then◌else◌, List, [], Option, None, Some, codes}
use Rattle.imap_types.specs.declared.command.Command.{Command}
use Rattle.imap_types.specs.declared.command.Command.TheVariants.{Authenticate, Idle, Login}
use Rattle.mur_model.specs.Needed.{Needed, Turned}
use Rattle.mur_model.specs.declared.session.Sess.{Sess}
use Rattle.mur_model.specs.declared.session.Sess.TheVariants.{In}
use Rattle.mur_model.specs.declared.setting.Setting.{Setting}
use Rattle.mur_model.specs.declared.wait.Wait.{Wait}
use Rattle.mur_model.specs.declared.wait.Wait.TheVariants.{Authenticate as response, Idle as done}
use Rattle.mur_model.specs.Login.{login}
use Rattle.mur_model.specs.Plain.{authenticate}
use Rattle.mur_model.specs.Traits.{may_be, traits_of}

-- the command with its line, without the CRLF behind it
unfoldable pub with_line : Wait → List ℕ → Command
with_line response line = Authenticate (Some line)
with_line done line = Idle (Some line)

-- whether the session of what waits has begun
unfoldable pub waits_begun : Wait → Bool
waits_begun wait = may_be true (traits_of (with_line wait [])).states

-- what a command waits for, in a session that has begun, or that has not
unfoldable pub wait_of : Bool → Command → Option Wait
wait_of begun it = if may_be begun (traits_of it).states then (traits_of it).waits else None

unfoldable pub begins_session : Option Sess → Bool
begins_session (Some (In user)) = true
begins_session session = false

unfoldable pub begins_by : Needed → Bool
begins_by (Turned turn) = begins_session turn.session
begins_by need = false

-- whether a session begins with a command, where none had begun (RFC 9051, 3.1)
unfoldable pub begins : Setting → Command → Bool
begins setting (Login user password) = begins_by (login setting.users (codes "LOGIN") user password)
begins setting (Authenticate (Some line)) = begins_by (authenticate setting.users line)
begins setting it = false

-- whether the session behind a command has begun
unfoldable pub begun_behind : Setting → Bool → Command → Bool
begun_behind setting begun it = begun || begins setting it
