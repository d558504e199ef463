-- STATUS (RFC 9051, 6.3.11): how much of each item there is, in the order in which they were asked.
use Rattle.std.specs.Prelude.{ℕ, Bool, true, false, not, List, [], ◌∷◌, map, length, count_by, Option, None, Some, codes}
use Rattle.mail_message.specs.Boxes.{Content, snapshot_of}
use Rattle.mail_message.specs.declared.message.Row.{Row}
use Rattle.mail_message.specs.declared.message.Snapshot.{Snapshot}
use Rattle.mur_base.specs.Inbox.{taken_name, shown_name}
use Rattle.mur_base.specs.Names.{mail_name_fault}
use Rattle.mur_base.specs.declared.name.NameFault.{NameFault}
use Rattle.imap_types.specs.declared.command.StatusItem.{StatusItem}
use Rattle.imap_types.specs.declared.command.StatusItem.TheVariants.{Messages, UidNext, UidValidity, Unseen, Deleted, Size}
use Rattle.mur_model.specs.Needed.{Needed, Refusal, Mailbox, Status as status_work}
use Rattle.imap_types.specs.declared.reply.Code.TheVariants.{None as no_code}
use Rattle.imap_types.specs.declared.reply.NoText.TheVariants.{NonExistent, NoPerm}
use Rattle.imap_types.specs.declared.reply.Reply.{Reply}
use Rattle.imap_types.specs.declared.reply.ReplyLine.TheVariants.{Status as status_line}
use Rattle.imap_types.specs.declared.reply.StatusCount.{StatusCount}
use Rattle.imap_types.specs.declared.reply.Verdict.TheVariants.{Ok as ok_reply, No as no_reply}
use Rattle.mur_model.specs.declared.setting.Setting.{Setting}
use Rattle.mur_model.specs.Left.{Worked, replied, kept}
use Rattle.imap_types.specs.Reply.{refused}
use Rattle.mur_model.specs.Rights.{has_rights}

unfoldable pub status_by : List ℕ → List ℕ → List StatusItem → Bool → Needed
status_by user name items true = Mailbox name (status_work (shown_name user name) items)
status_by user name items false = Refusal (no_reply NoPerm)

unfoldable pub status_as : Setting → List ℕ → List ℕ → List StatusItem → Option NameFault → Needed
status_as setting user name items (Some fault) = Refusal (no_reply NonExistent)
status_as setting user name items None = status_by user name items (has_rights setting.users user name)

unfoldable pub status : Setting → List ℕ → List ℕ → List StatusItem → Needed
status setting user text items = status_as setting user (taken_name user text) items (mail_name_fault (taken_name user text))

-- how many messages don't have \Seen, and how many have \Deleted
abbrev pub unseen : List Row → ℕ
unseen rows = count_by (λ (row : Row). not row.flags.system.seen) rows

abbrev pub deleted : List Row → ℕ
deleted rows = count_by (λ (row : Row). row.flags.system.deleted) rows

-- how much of an item there is in a mailbox that looks so
unfoldable pub amount : Snapshot → StatusItem → ℕ
amount seen Messages = length seen.rows
amount seen UidNext = seen.next
amount seen UidValidity = seen.serial
amount seen Unseen = unseen seen.rows
amount seen Deleted = deleted seen.rows
amount seen Size = seen.size

abbrev pub count_of : Snapshot → StatusItem → StatusCount
count_of seen item = record { item = item; count = amount seen item }

-- what is told of a mailbox that looks so
unfoldable pub status_reply : List ℕ → List StatusItem → Snapshot → Reply
status_reply shown items seen = record {
  lines = status_line shown (map (count_of seen) items) ∷ [];
  verdict = ok_reply no_code (codes "STATUS");
}

unfoldable pub status_on : List ℕ → List StatusItem → Option Content → Worked
status_on shown items None = record { left = kept; turn = replied (refused NonExistent) }
status_on shown items (Some box) = record { left = kept; turn = replied (status_reply shown items (snapshot_of box)) }
