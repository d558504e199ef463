-- A user with their password begins a session (RFC 9051, 6.2.2 and 6.2.3).
use Rattle.std.specs.Prelude.{ℕ, List, Bool, true, false, Option, None, Some}
use Rattle.std.specs.Str.{bytes_eq}
use Rattle.mur_base.specs.declared.user.User.{User}
use Rattle.mur_model.specs.Needed.{Needed, Refusal, Turned}
use Rattle.imap_types.specs.declared.reply.NoText.TheVariants.{AuthenticationFailed}
use Rattle.imap_types.specs.declared.reply.Verdict.TheVariants.{No as no_reply}
use Rattle.mur_model.specs.declared.session.Sess.TheVariants.{In}
use Rattle.mur_model.specs.declared.session.Turn.{Turn}
use Rattle.imap_types.specs.Reply.{completed}
use Rattle.mur_model.specs.Rights.{user_named}

-- a session of this user begins with the command of this name
abbrev pub begun_by : List ℕ → List ℕ → Turn
begun_by command user = record { session = Some (In user); reply = completed command }

abbrev pub login_failed : Needed
login_failed = Refusal (no_reply AuthenticationFailed)

unfoldable pub login_by : List ℕ → List ℕ → Bool → Needed
login_by command user true = Turned (begun_by command user)
login_by command user false = login_failed

unfoldable pub login_as : List ℕ → Option User → List ℕ → Needed
login_as command None password = login_failed
login_as command (Some user) password = login_by command user.name (bytes_eq user.password password)

-- by the command of this name
unfoldable pub login : List User → List ℕ → List ℕ → List ℕ → Needed
login users command user password = login_as command (user_named users user) password
