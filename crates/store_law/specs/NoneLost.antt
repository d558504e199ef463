-- No command loses a mailbox or a message of the store, or a flag of one, but where that is what the command is for (RFC 9051, 2.3.1.1 and 2.3.2).
use Rattle.std.specs.Prelude.{◌≡◌, ◌≢◌, ◌⊎◌, ⊤, ℕ, true, List, Option, None, Some, IfSome}
use Rattle.std.specs.List.{Contains}
use Rattle.mail_store.specs.Kept.{IsLaterContent}
use Rattle.mail_message.specs.Boxes.{Content, message_at, relabelled}
use Rattle.mail_message.specs.FlagSets.{Flags}
use Rattle.mail_message.specs.declared.message.Message.{Message}
use Rattle.mail_message.specs.declared.message.Row.{Row}
use Rattle.imap_types.specs.declared.command.Command.{Command}
use Rattle.imap_types.specs.declared.command.Command.TheVariants as command
use Rattle.mur_model.specs.declared.session.Sess.{Sess}
use Rattle.mur_model.specs.declared.session.Sess.TheVariants.{Off, In, Selected as selected, Ended}
use Rattle.mur_model.specs.declared.setting.Setting.{Setting}
use Rattle.mur_model.specs.declared.store.Store.{Store}
use Rattle.mur_model.specs.Act.{act_of}
use Rattle.mur_model.specs.NamedRows.{named_uids}
use Rattle.mur_model.specs.Store.{box_at}
use Rattle.mur_model.specs.Traits.{Change, Each, Labels, Named, Removes, These, effect_of}
use Rattle.store_law.specs.Appended.{name_meant}

unfoldable pub IsNamed : List Row → Named → ℕ → Type 0
IsNamed rows Each uid = ⊤
IsNamed rows (These by_uid set) uid = Contains (named_uids by_uid set rows) uid

-- the command is about the message of a UID, among those that its client was told: it names it, or is about all (RFC 9051, 6.4.9)
unfoldable pub IsAbout : List Row → Command → ℕ → Type 0
IsAbout rows it uid = IsNamed rows (effect_of it).named uid

-- the session has this mailbox selected, to be changed (RFC 9051, 6.3.2): an EXAMINE doesn't, nor is it one of the name with another UIDVALIDITY;
-- and the command is about the message of the UID
unfoldable pub MayChange : Sess → Command → List ℕ → Content → ℕ → Type 0
MayChange (selected view) it name box uid =
    (view.name ≡ name) × (view.serial ≡ box.serial) × (view.is_writable ≡ true) × IsAbout view.rows it uid
MayChange Off it name box uid = ⊥
MayChange (In user) it name box uid = ⊥
MayChange Ended it name box uid = ⊥

-- the commands that take messages away (RFC 9051, 6.4.1, 6.4.3 and 6.4.9)
unfoldable pub Expunges : Command → Type 0
Expunges it = (effect_of it).change ≡ Removes

unfoldable pub MayBecome : Change → Flags → Flags → Type 0
MayBecome (Labels after) old new = new ≡ after old
MayBecome change old new = ⊥

-- the flags that a command may make of a message's old ones: a STORE what it says, a FETCH of a body adds \Seen (RFC 9051, 6.4.5 and 6.4.6)
unfoldable pub MayLabel : Command → Flags → Flags → Type 0
MayLabel it old new = MayBecome (effect_of it).change old new

-- by what is found at a message's UID behind a command: nothing, only where it had \Deleted and was expunged; else it with its date and its body,
-- and with its flags, unless they are those that the command makes of them
abbrev pub MessageGoesOn : Sess → Command → List ℕ → Content → Message → Option Message → Type 0
MessageGoesOn session it name box message None = MayChange session it name box message.uid × Expunges it × (message.flags.system.deleted ≡ true)
MessageGoesOn session it name box message (Some later) =
    (later ≡ relabelled message later.flags)
    × ((later.flags ≡ message.flags) ⊎ (MayChange session it name box message.uid × MayLabel it message.flags later.flags))

-- UIDVALIDITY stays, UIDNEXT doesn't fall, and each message goes on at its UID
pub record BoxGoesOn (session : Sess) (it : Command) (name : List ℕ) (box later : Content) : Type 0 where
  pub follows : IsLaterContent box later
  pub messages : (uid : ℕ) (message : Message) → message_at box.messages uid ≡ Some message
      → MessageGoesOn session it name box message (message_at later.messages uid)

-- a DELETE of the mailbox that the session's user means by the text (RFC 9051, 6.3.5)
unfoldable pub Deletes : Sess → Command → List ℕ → Type 0
Deletes session (command.Delete text) name = name_meant session text ≡ Some name
Deletes session it name = ⊥

-- a mailbox goes away by a DELETE of it alone
abbrev pub GoesOnAt : Sess → Command → List ℕ → Content → Option Content → Type 0
GoesOnAt session it name box None = Deletes session it name
GoesOnAt session it name box (Some later) = BoxGoesOn session it name box later

-- each mailbox goes on
abbrev pub AllGoOn : Sess → Command → Store → Store → Type 0
AllGoOn session it store later = (name : List ℕ) → IfSome (box_at store name) (λ box. GoesOnAt session it name box (box_at later name))

-- one mailbox at most is another, or is new: each of another name is as it was, whole
pub record ChangesOne (store later : Store) : Type 0 where
  pub at : List ℕ
  pub others : (name : List ℕ) → name ≢ at → box_at later name ≡ box_at store name

-- in whichever session, and whatever the command is
abbrev pub LosesNone : Setting → Store → Type 0
LosesNone setting store = (session : Sess) (it : Command) (serial : ℕ)
    → AllGoOn session it store (act_of setting store session it serial).store × ChangesOne store (act_of setting store session it serial).store
