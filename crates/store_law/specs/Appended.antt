-- What an APPEND that was answered OK leaves in the store (RFC 9051, 6.3.12).
use Rattle.std.specs.Prelude.{◌≡◌, ℕ, List, Option, None, Some, unwrap_or}
use Rattle.mail_message.specs.Boxes.{Content, message_at}
use Rattle.mail_message.specs.FlagSets.{Flags}
use Rattle.mur_base.specs.Inbox.{taken_name}
use Rattle.imap_types.specs.declared.command.Command.TheVariants.{Append}
use Rattle.imap_types.specs.declared.reply.Code.{Code}
use Rattle.imap_types.specs.declared.reply.Code.TheVariants.{AppendUid}
use Rattle.imap_types.specs.declared.reply.Verdict.TheVariants.{Ok as ok_reply}
use Rattle.mur_model.specs.declared.session.Sess.{Sess}
use Rattle.mur_model.specs.declared.session.Sess.TheVariants.{Off, In, Selected as selected, Ended}
use Rattle.mur_model.specs.declared.setting.Setting.{Setting}
use Rattle.mur_model.specs.declared.store.Store.{Store}
use Rattle.mur_model.specs.Act.{act_of}
use Rattle.mur_model.specs.Store.{box_at}

-- the mailbox that a session's user means by a text, where the session has begun
unfoldable pub name_meant : Sess → List ℕ → Option (List ℕ)
name_meant Off text = None
name_meant (In user) text = Some (taken_name user text)
name_meant (selected view) text = Some (taken_name view.user text)
name_meant Ended text = None

-- the mailbox has the message at the UID that was told, with the UIDVALIDITY, as it was sent; without a date it has the configuration's
pub record HasAppended (setting : Setting) (flags : Flags) (date : Option (List ℕ)) (body : List ℕ) (code : Code) (store : Store) (name : List ℕ)
    : Type 0 where
  pub serial : ℕ
  pub uid : ℕ
  pub told : code ≡ AppendUid serial uid
  pub box : Content
  pub there : box_at store name ≡ Some box
  pub same_serial : box.serial ≡ serial
  pub message : message_at box.messages uid ≡ Some (record { uid = uid; flags = flags; date = unwrap_or date setting.date; body = body })

abbrev pub HasAppendedAt : Setting → Flags → Option (List ℕ) → List ℕ → Code → Store → Option (List ℕ) → Type 0
HasAppendedAt setting flags date body code store None = ⊥
HasAppendedAt setting flags date body code store (Some name) = HasAppended setting flags date body code store name

-- in whichever session, and whatever is appended
abbrev pub KeepsAppended : Setting → Store → Type 0
KeepsAppended setting store = (session : Sess) (text : List ℕ) (flags : Flags) (date : Option (List ℕ)) (body : List ℕ) (given : ℕ)
    (code : Code) (command : List ℕ)
    → (act_of setting store session (Append text flags date body) given).reply.verdict ≡ ok_reply code command
    → HasAppendedAt setting flags date body code (act_of setting store session (Append text flags date body) given).store (name_meant session text)
