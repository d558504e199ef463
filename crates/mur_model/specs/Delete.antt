-- DELETE (RFC 9051, 6.3.5): INBOX stays, and a text that is no name is no mailbox's. Sessions that have the mailbox selected learn of it by their next command.
use Rattle.std.specs.Prelude.{ℕ, Bool, true, false, List, Option, None, Some, codes}
use Rattle.mail_message.specs.Boxes.{Content}
use Rattle.mur_base.specs.Inbox.{taken_name}
use Rattle.mur_base.specs.Names.{mail_name_fault}
use Rattle.mur_base.specs.declared.name.NameFault.{NameFault}
use Rattle.imap_types.specs.declared.reply.NoText.TheVariants.{NonExistent, NoPerm, Cannot}
use Rattle.imap_types.specs.declared.reply.Verdict.TheVariants.{No as no_reply}
use Rattle.imap_types.specs.Reply.{completed, refused}
use Rattle.mur_model.specs.declared.setting.Setting.{Setting}
use Rattle.mur_model.specs.Create.{is_inbox}
use Rattle.mur_model.specs.Left.{Worked, replied, kept, removed}
use Rattle.mur_model.specs.Needed.{Needed, Refusal, Mailbox, Delete}
use Rattle.mur_model.specs.Rights.{has_rights}

-- by whether the user has rights to it
unfoldable pub delete_by : List ℕ → Bool → Needed
delete_by name true = Mailbox name Delete
delete_by name false = Refusal (no_reply NoPerm)

-- by whether the text is INBOX, and by the rule of names that the name breaks
unfoldable pub delete_as : Setting → List ℕ → List ℕ → Bool → Option NameFault → Needed
delete_as setting user name true fault = Refusal (no_reply Cannot)
delete_as setting user name false (Some fault) = Refusal (no_reply NonExistent)
delete_as setting user name false None = delete_by name (has_rights setting.users user name)

unfoldable pub delete : Setting → List ℕ → List ℕ → Needed
delete setting user text =
    delete_as setting user (taken_name user text) (is_inbox text) (mail_name_fault (taken_name user text))

unfoldable pub delete_on : Option Content → Worked
delete_on None = record { left = kept; turn = replied (refused NonExistent) }
delete_on (Some there) = record { left = removed; turn = replied (completed (codes "DELETE")) }
