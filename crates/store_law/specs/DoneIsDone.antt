-- What a command that was answered OK has done (RFC 9051, 7.1.1), said of the messages that the mailbox had and has, by their UIDs, and flag by flag.
use Rattle.std.specs.Prelude.{◌≡◌, ◌≢◌, ◌⊎◌, ◌↔◌, ⊤, ℕ, true, false, List, [], ◌∷◌, ◌++◌, Option, None, Some, IsSome}
use Rattle.std.specs.List.{Contains}
use Rattle.mail_message.specs.Boxes.{Content}
use Rattle.mail_message.specs.FlagSets.{Flags}
use Rattle.mail_message.specs.declared.flag_name.FlagName.{FlagName}
use Rattle.mail_message.specs.declared.flag_name.FlagName.TheVariants.{System}
use Rattle.mail_message.specs.declared.item.Item.{Item}
use Rattle.mail_message.specs.declared.item.Item.TheVariants.{Body}
use Rattle.mail_message.specs.declared.item.Partial.{Partial}
use Rattle.mail_message.specs.declared.message.Message.{Message}
use Rattle.mail_message.specs.declared.system_flags.SystemFlag.TheVariants.{Deleted, Seen}
use Rattle.mur_base.specs.Ascii.{dot}
use Rattle.imap_types.specs.declared.command.Command.{Command}
use Rattle.imap_types.specs.declared.command.Command.TheVariants as command
use Rattle.imap_types.specs.declared.reply.Code.{Code}
use Rattle.imap_types.specs.declared.reply.Verdict.TheVariants.{Ok as ok_reply}
use Rattle.mur_model.specs.declared.session.Sess.{Sess}
use Rattle.mur_model.specs.declared.session.Sess.TheVariants.{Off, In, Selected as selected, Ended}
use Rattle.mur_model.specs.declared.setting.Setting.{Setting}
use Rattle.mur_model.specs.declared.store.Store.{Store}
use Rattle.mur_model.specs.declared.view.View.{View}
use Rattle.mur_model.specs.Act.{act_of}
use Rattle.mur_model.specs.Store.{box_at}
use Rattle.store_law.specs.Appended.{name_meant}
use Rattle.store_law.specs.FlagByFlag.{AreStored, HasFlag}
use Rattle.store_law.specs.SetNames.{Names}

-- the mailbox has the message with such flags, and else as it was
pub record HasBecome (message : Message) (later : Content) (P : Flags → Type 0) : Type 0 where
  pub flags : Flags
  pub there : Contains later.messages (record message { flags = flags })
  pub such : P flags

-- Each named message has such flags, by those that it had; each other is as it was.
pub record Relabels (IsNamed : ℕ → Type 0) (P : Flags → Flags → Type 0) (box later : Content) : Type 0 where
  pub named : (message : Message) → Contains box.messages message → IsNamed message.uid
      → HasBecome message later (P message.flags)
  pub others : (message : Message) → Contains box.messages message → (IsNamed message.uid → ⊥) → Contains later.messages message

-- Each named message that has \Deleted is gone, so that none is left of them; each other is as it was, and no message is new.
pub record ExpungesNamed (IsNamed : ℕ → Type 0) (box later : Content) : Type 0 where
  pub gone : (message : Message) → Contains box.messages message → IsNamed message.uid → HasFlag message.flags (System Deleted)
      → (other : Message) → Contains later.messages other → other.uid ≢ message.uid
  pub none_left : (message : Message) → Contains later.messages message → IsNamed message.uid → HasFlag message.flags (System Deleted) → ⊥
  pub others : (message : Message) → Contains box.messages message
      → (IsNamed message.uid → ⊥) ⊎ (HasFlag message.flags (System Deleted) → ⊥) → Contains later.messages message
  pub none_new : (message : Message) → Contains later.messages message → Contains box.messages message

-- the mailbox that the session has selected was there, by its UIDVALIDITY, and it has become so
pub record BoxBecomes (P : Content → Content → Type 0) (view : View) (store later : Store) : Type 0 where
  pub box : Content
  pub there : box_at store view.name ≡ Some box
  pub same : box.serial ≡ view.serial
  pub after : Content
  pub stays : box_at later view.name ≡ Some after
  pub done : P box after

-- the session has a mailbox selected, and this is so of it
abbrev pub InView : (View → Type 0) → Sess → Type 0
InView P (selected view) = P view
InView P Off = ⊥
InView P (In user) = ⊥
InView P Ended = ⊥

-- ---- CREATE (RFC 9051, 6.3.4)

-- the name that a text spells, which may have one separator behind it
abbrev pub SpellsName : List ℕ → List ℕ → Type 0
SpellsName text name = (text ≡ name ++ dot ∷ []) ⊎ ((text ≡ name) × ((front : List ℕ) → text ≢ front ++ dot ∷ []))

pub record IsMade (name : List ℕ) (store later : Store) : Type 0 where
  pub new : box_at store name ≡ None
  pub box : Content
  pub there : box_at later name ≡ Some box
  pub empty : box.messages ≡ []

abbrev pub IsMadeAt : Option (List ℕ) → Store → Store → Type 0
IsMadeAt None store later = ⊥
IsMadeAt (Some name) store later = IsMade name store later

pub record Creates (session : Sess) (text : List ℕ) (store later : Store) : Type 0 where
  pub name : List ℕ
  pub spelled : SpellsName text name
  pub made : IsMadeAt (name_meant session name) store later

-- ---- DELETE (RFC 9051, 6.3.5)

pub record IsRemoved (name : List ℕ) (store later : Store) : Type 0 where
  pub was : IsSome (box_at store name)
  pub gone : box_at later name ≡ None

abbrev pub IsRemovedAt : Option (List ℕ) → Store → Store → Type 0
IsRemovedAt None store later = ⊥
IsRemovedAt (Some name) store later = IsRemoved name store later

-- ---- FETCH (RFC 9051, 6.4.5)

-- BODY[], or a part of it, and not BODY.PEEK[]
abbrev pub AsksBody : List Item → Type 0
AsksBody items = (part : Option Partial) × Contains items (Body part)

-- the message has \Seen, and its other flags are as they were
abbrev pub AreSeen : Flags → Flags → Type 0
AreSeen old new = (flag : FlagName) → HasFlag new flag ↔ (HasFlag old flag ⊎ (flag ≡ System Seen))

-- where a body was fetched in a mailbox that was selected to be changed; else nothing changes
pub record Fetches (IsNamed : ℕ → Type 0) (items : List Item) (view : View) (store later : Store) : Type 0 where
  pub seen : view.is_writable ≡ true → AsksBody items → BoxBecomes (Relabels IsNamed AreSeen) view store later
  pub unseen : (view.is_writable ≡ false) ⊎ (AsksBody items → ⊥) → later ≡ store

-- ---- all of them

abbrev pub Everything : ℕ → Type 0
Everything uid = ⊤

-- what the store is behind a command, by what it was (RFC 9051, 6.3.4, 6.3.5, 6.4.1, 6.4.3, 6.4.5, 6.4.6 and 6.4.9)
abbrev pub IsDone : Sess → Command → Store → Store → Type 0
IsDone session (command.Create text) store later = Creates session text store later
IsDone session (command.Delete text) store later = IsRemovedAt (name_meant session text) store later
IsDone session command.Close store later =
    InView (λ view. view.is_writable ≡ true → BoxBecomes (ExpungesNamed Everything) view store later) session
IsDone session (command.Expunge None) store later = InView (λ view. BoxBecomes (ExpungesNamed Everything) view store later) session
IsDone session (command.Expunge (Some set)) store later =
    InView (λ view. BoxBecomes (ExpungesNamed (Names true set view.rows)) view store later) session
IsDone session (command.Store by_uid set mode is_silent flags) store later =
    InView (λ view. BoxBecomes (Relabels (Names by_uid set view.rows) (AreStored mode flags)) view store later) session
IsDone session (command.Fetch by_uid set items) store later =
    InView (λ view. Fetches (Names by_uid set view.rows) items view store later) session
IsDone session it store later = ⊤

-- in whichever session, and whatever the command is
abbrev pub DoesWhatItSays : Setting → Store → Type 0
DoesWhatItSays setting store = (session : Sess) (it : Command) (serial : ℕ) (code : Code) (name : List ℕ)
    → (act_of setting store session it serial).reply.verdict ≡ ok_reply code name
    → IsDone session it store (act_of setting store session it serial).store
