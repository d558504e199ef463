-- EXAMINE selects a mailbox to be read: the session that has it selected changes no mailbox (RFC 9051, 6.3.3).
use Rattle.std.specs.Prelude.{◌≡◌, ℕ, ⊤, Bool, true, false, List, Some, IfSome}
use Rattle.imap_types.specs.declared.command.Command.{Command}
use Rattle.imap_types.specs.declared.command.Command.TheVariants as command
use Rattle.mur_model.specs.declared.session.Sess.{Sess}
use Rattle.mur_model.specs.declared.session.Sess.TheVariants.{Selected as selected}
use Rattle.mur_model.specs.declared.setting.Setting.{Setting}
use Rattle.mur_model.specs.declared.store.Store.{Store}
use Rattle.mur_model.specs.declared.view.View.{View}
use Rattle.mur_model.specs.Act.{act_of}
use Rattle.mur_model.specs.Store.{box_at}

-- whether a client has its mailbox selected to be changed, by the commands that it gave: the last SELECT or EXAMINE says so
unfoldable pub is_to_change : Bool → Command → Bool
is_to_change before (command.Select text) = true
is_to_change before (command.Examine text) = false
is_to_change before it = before

-- a session that has a mailbox selected has it so
unfoldable pub IsOpenedSo : Bool → Sess → Type 0
IsOpenedSo to_change (selected view) = view.is_writable ≡ to_change
IsOpenedSo to_change session = ⊤

-- an APPEND adds to whichever mailbox it names, and a DELETE deletes it (RFC 9051, 6.3.5 and 6.3.12)
unfoldable pub changes_named : Command → Bool
changes_named (command.Append text flags date body) = true
changes_named (command.Delete text) = true
changes_named it = false

-- each mailbox that is there stays, whole
abbrev pub AllStay : Store → Store → Type 0
AllStay store later = (name : List ℕ) → IfSome (box_at store name) (λ box. box_at later name ≡ Some box)

-- whatever the store
pub record ReadsWhatIsExamined (setting : Setting) : Type 0 where
  -- where a mailbox is selected as the commands up to now say, it is so behind one more
  pub opens_as_asked : (store : Store) (session : Sess) (it : Command) (serial : ℕ) (to_change : Bool) → IsOpenedSo to_change session
      → IsOpenedSo (is_to_change to_change it) (act_of setting store session it serial).session
  -- and a session that has one selected to be read changes none, that one or another, by any command but an APPEND or a DELETE
  pub changes_none : (store : Store) (view : View) (it : Command) (serial : ℕ) → view.is_writable ≡ false → changes_named it ≡ false
      → AllStay store (act_of setting store (selected view) it serial).store
