-- CREATE (RFC 9051, 6.3.4): no mailbox is made at INBOX, a text that is no name is no mailbox's, and a mailbox that is there
-- stays as it is.
use Rattle.std.specs.Prelude.{ℕ, ◌-◌, Bool, true, false, List, [], ◌∷◌, length, take, nat_eq, Option, None, Some, codes, if◌then◌else◌}
use Rattle.std.specs.List.{ends_with}
use Rattle.std.specs.Str.{str_eq_ignore_ascii_case}
use Rattle.mail_message.specs.Boxes.{Content, empty_box}
use Rattle.mail_message.specs.FirstAcl.{first_acl}
use Rattle.mur_base.specs.Ascii.{dot}
use Rattle.mur_base.specs.Inbox.{taken_name}
use Rattle.mur_base.specs.Names.{mail_name_fault}
use Rattle.mur_base.specs.declared.name.NameFault.{NameFault}
use Rattle.mur_model.specs.Needed.{Needed, Refusal, Mailbox, Make}
use Rattle.imap_types.specs.declared.reply.NoText.TheVariants.{AlreadyExists, NonExistent, NoPerm, Cannot, Limit}
use Rattle.imap_types.specs.declared.reply.Verdict.TheVariants.{No as no_reply}
use Rattle.mur_model.specs.declared.setting.Setting.{Setting}
use Rattle.mur_model.specs.Left.{Worked, replied, kept, made}
use Rattle.imap_types.specs.Reply.{completed, refused}
use Rattle.mur_model.specs.Rights.{may_create}

-- the name that a CREATE spells may have one separator behind it
unfoldable pub without_separator : List ℕ → List ℕ
without_separator text = if ends_with nat_eq text (dot ∷ []) then take (length text - 1) text else text

unfoldable pub is_inbox : List ℕ → Bool
is_inbox text = str_eq_ignore_ascii_case text (codes "inbox")

-- by whether the user may make it
unfoldable pub create_by : List ℕ → Bool → Needed
create_by name true = Mailbox name Make
create_by name false = Refusal (no_reply NoPerm)

-- by whether the text is INBOX, and by the rule of names that the name breaks
unfoldable pub create_as : Setting → List ℕ → List ℕ → Bool → Option NameFault → Needed
create_as setting user name true fault = Refusal (no_reply Cannot)
create_as setting user name false (Some fault) = Refusal (no_reply NonExistent)
create_as setting user name false None = create_by name (may_create setting.users user name)

unfoldable pub create_meant : Setting → List ℕ → List ℕ → Needed
create_meant setting user text =
    create_as setting user (taken_name user text) (is_inbox text) (mail_name_fault (taken_name user text))

unfoldable pub create : Setting → List ℕ → List ℕ → Needed
create setting user text = create_meant setting user (without_separator text)

-- the mailbox is made, unless there are as many mailboxes as there may be
unfoldable pub make : List ℕ → ℕ → Bool → Worked
make name serial true = record { left = kept; turn = replied (refused Limit) }
make name serial false = record { left = made (empty_box serial (first_acl name)); turn = replied (completed (codes "CREATE")) }

unfoldable pub create_on : List ℕ → ℕ → Bool → Option Content → Worked
create_on name serial full (Some there) = record { left = kept; turn = replied (refused AlreadyExists) }
create_on name serial full None = make name serial full
