-- Whether a session has begun, which the readers of both sides tell by its commands alone: an IDLE waits for its line only in a session that has begun.
use Rattle.std.specs.Prelude.{◌≡◌, ℕ, ⊤, Bool, true, false}
use Rattle.imap_types.specs.declared.command.Command.{Command}
use Rattle.mur_model.specs.declared.session.Sess.{Sess}
use Rattle.mur_model.specs.declared.session.Sess.TheVariants.{Off, In, Selected as selected, Ended}
use Rattle.mur_model.specs.declared.setting.Setting.{Setting}
use Rattle.mur_model.specs.declared.store.Store.{Store}
use Rattle.mur_model.specs.Act.{act_of}
use Rattle.mur_model.specs.Waits.{begun_behind}

-- authenticated (RFC 9051, 3.2 and 3.3)
unfoldable pub has_begun : Sess → Bool
has_begun Off = false
has_begun (In user) = true
has_begun (selected view) = true
has_begun Ended = false

-- a session is as its readers take it; behind the end of one they read nothing
unfoldable pub IsReadSo : Bool → Sess → Type 0
IsReadSo begun Ended = ⊤
IsReadSo begun session = has_begun session ≡ begun

-- whatever the store: where a session is as its readers take it, so is the one behind a command
abbrev pub BeginsAsRead : Setting → Type 0
BeginsAsRead setting = (store : Store) (session : Sess) (it : Command) (serial : ℕ)
    → IsReadSo (begun_behind setting (has_begun session) it) (act_of setting store session it serial).session
