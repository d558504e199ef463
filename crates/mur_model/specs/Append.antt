-- APPEND (RFC 9051, 6.3.12): the message gets the next UID of its mailbox, which is told with the UIDVALIDITY.
use Rattle.std.specs.Prelude.{ℕ, Bool, true, false, List, [], ◌∷◌, Option, None, Some, unwrap_or, codes}
use Rattle.mail_message.specs.Boxes.{Content}
use Rattle.mail_message.specs.FlagSets.{Flags}
use Rattle.mail_message.specs.declared.message.Message.{Message}
use Rattle.mail_store.specs.Append.{appended, append_fault}
use Rattle.mail_store.specs.declared.fault.StoreFault.{StoreFault}
use Rattle.mur_base.specs.Inbox.{taken_name}
use Rattle.mur_base.specs.Names.{mail_name_fault}
use Rattle.mur_base.specs.declared.name.NameFault.{NameFault}
use Rattle.mur_model.specs.Needed.{Needed, Refusal, Mailbox, Append as append_work}
use Rattle.imap_types.specs.declared.reply.Code.TheVariants.{AppendUid}
use Rattle.imap_types.specs.declared.reply.NoText.TheVariants.{TryCreate, NoPerm, Limit}
use Rattle.imap_types.specs.declared.reply.Reply.{Reply}
use Rattle.imap_types.specs.declared.reply.Verdict.TheVariants.{Ok as ok_reply, No as no_reply}
use Rattle.mur_model.specs.declared.setting.Setting.{Setting}
use Rattle.mur_model.specs.Left.{Worked, replied, kept, changed}
use Rattle.imap_types.specs.Reply.{reply_of, refused}
use Rattle.mur_model.specs.Rights.{has_rights}

-- the message that comes with these flags, and with this date or else the configuration's
abbrev pub new_message : Setting → Flags → Option (List ℕ) → List ℕ → Message
new_message setting flags date body = record { uid = 0; flags = flags; date = unwrap_or date setting.date; body = body }

unfoldable pub append_by : List ℕ → Message → Bool → Needed
append_by name message true = Mailbox name (append_work message)
append_by name message false = Refusal (no_reply NoPerm)

unfoldable pub append_as : Setting → List ℕ → List ℕ → Message → Option NameFault → Needed
append_as setting user name message (Some fault) = Refusal (no_reply TryCreate)
append_as setting user name message None = append_by name message (has_rights setting.users user name)

unfoldable pub append : Setting → List ℕ → List ℕ → Message → Needed
append setting user text message = append_as setting user (taken_name user text) message (mail_name_fault (taken_name user text))

-- the reply to a message that got this UID of a mailbox with this UIDVALIDITY
unfoldable pub append_reply : ℕ → ℕ → Reply
append_reply serial uid = reply_of (ok_reply (AppendUid serial uid) (codes "APPEND"))

unfoldable pub append_to : Message → Content → Option StoreFault → Worked
append_to message box (Some fault) = record { left = kept; turn = replied (refused Limit) }
append_to message box None = record { left = changed (appended box (message ∷ [])); turn = replied (append_reply box.serial box.next) }

unfoldable pub append_on : Message → Option Content → Worked
append_on message None = record { left = kept; turn = replied (refused TryCreate) }
append_on message (Some box) = append_to message box (append_fault box (message ∷ []))
