-- SELECT and EXAMINE (RFC 9051, 6.3.2 and 6.3.3): a mailbox is selected, to be changed or to be read, whatever was selected before.
use Rattle.std.specs.Prelude.{ℕ, Bool, true, false, List, [], ◌∷◌, ◌++◌, length, map, Option, None, Some, codes}
use Rattle.std.specs.List.{fold}
use Rattle.mail_message.specs.Boxes.{Content, snapshot_of}
use Rattle.mail_message.specs.Keywords.{with_keywords}
use Rattle.mail_message.specs.declared.flag_name.FlagName.{FlagName}
use Rattle.mail_message.specs.declared.flag_name.FlagName.TheVariants.{System, Keyword}
use Rattle.mail_message.specs.declared.message.Row.{Row}
use Rattle.mail_message.specs.declared.message.Snapshot.{Snapshot}
use Rattle.mail_message.specs.declared.system_flags.SystemFlag.TheVariants.{Answered, Flagged, Deleted, Seen, Draft}
use Rattle.mur_base.specs.Inbox.{taken_name, shown_name}
use Rattle.mur_base.specs.Names.{mail_name_fault}
use Rattle.mur_base.specs.declared.name.NameFault.{NameFault}
use Rattle.mur_model.specs.Needed.{Needed, Turned, Mailbox, Select as select_work}
use Rattle.imap_types.specs.declared.reply.Attribute.TheVariants.{None as no_attribute}
use Rattle.imap_types.specs.declared.reply.Code.{Code}
use Rattle.imap_types.specs.declared.reply.Code.TheVariants.{ReadOnly, ReadWrite}
use Rattle.imap_types.specs.declared.reply.NoText.{NoText}
use Rattle.imap_types.specs.declared.reply.NoText.TheVariants.{NonExistent, NoPerm}
use Rattle.imap_types.specs.declared.reply.ReplyLine.{ReplyLine}
use Rattle.imap_types.specs.declared.reply.ReplyLine.TheVariants.{Closed, Exists, Flags, Listed, Permanent, UidNext, UidValidity}
use Rattle.imap_types.specs.declared.reply.Verdict.TheVariants.{Ok as ok_reply, No as no_reply}
use Rattle.mur_model.specs.declared.commands.select.Opening.{Opening}
use Rattle.mur_model.specs.declared.session.Sess.TheVariants.{In, Selected}
use Rattle.mur_model.specs.declared.session.Turn.{Turn}
use Rattle.mur_model.specs.declared.setting.Setting.{Setting}
use Rattle.mur_model.specs.declared.view.View.{View}
use Rattle.mur_model.specs.Left.{Worked, kept}
use Rattle.mur_model.specs.Rights.{has_rights}

abbrev pub select_name : Bool → List ℕ
select_name true = codes "SELECT"
select_name false = codes "EXAMINE"

-- a mailbox that was selected is so no more, whatever comes of the command (RFC 9051, 6.3.2)
abbrev pub closed_lines : Bool → List ReplyLine
closed_lines true = Closed ∷ []
closed_lines false = []

-- a refusal leaves no mailbox selected
abbrev pub unselected : List ℕ → Bool → NoText → Turn
unselected user was_selected why = record {
  session = Some (In user);
  reply = record { lines = closed_lines was_selected; verdict = no_reply why };
}

-- the keywords of some messages, in byte order
abbrev pub keywords_in : List Row → List (List ℕ)
keywords_in rows = fold (λ keywords row. with_keywords keywords row.flags.keywords) [] rows

abbrev pub system_flags : List FlagName
system_flags = System Answered ∷ System Flagged ∷ System Deleted ∷ System Seen ∷ System Draft ∷ []

-- the flags of a mailbox whose messages have these keywords: the system flags, and the keywords (RFC 9051, 7.3.5)
abbrev pub flags_of : List (List ℕ) → List FlagName
flags_of keywords = system_flags ++ map Keyword keywords

-- the flags that the client can change for good, and whether it can make keywords (RFC 9051, 7.1: PERMANENTFLAGS)
abbrev pub permanent_reply_line : Bool → List (List ℕ) → ReplyLine
permanent_reply_line true keywords = Permanent (flags_of keywords) true
permanent_reply_line false keywords = Permanent [] false

abbrev pub select_lines : Opening → Snapshot → List ReplyLine
select_lines it seen =
    closed_lines it.was_selected ++ Flags (flags_of (keywords_in seen.rows)) ∷ Exists (length seen.rows) ∷ Listed no_attribute it.shown
    ∷ permanent_reply_line it.is_writable (keywords_in seen.rows) ∷ UidNext seen.next ∷ UidValidity seen.serial ∷ []

abbrev pub access_code : Bool → Code
access_code true = ReadWrite
access_code false = ReadOnly

-- the view of a mailbox that looks so
abbrev pub opened : Opening → List ℕ → Snapshot → View
opened it name seen = record { user = it.user; name = name; serial = seen.serial; is_writable = it.is_writable; rows = seen.rows }

-- what is told of a mailbox that looks so, and the session behind it
abbrev pub select_told : Opening → List ℕ → Snapshot → Turn
select_told it name seen = record {
  session = Some (Selected (opened it name seen));
  reply = record { lines = select_lines it seen; verdict = ok_reply (access_code it.is_writable) (select_name it.is_writable) };
}

unfoldable pub select_by : List ℕ → Opening → Bool → Needed
select_by name it true = Mailbox name (select_work it)
select_by name it false = Turned (unselected it.user it.was_selected NoPerm)

abbrev pub opening : List ℕ → List ℕ → Bool → Bool → Opening
opening user name is_writable was_selected = record { user = user; shown = shown_name user name; is_writable = is_writable; was_selected = was_selected }

unfoldable pub select_as : Setting → List ℕ → List ℕ → Bool → Bool → Option NameFault → Needed
select_as setting user name is_writable was_selected (Some fault) = Turned (unselected user was_selected NonExistent)
select_as setting user name is_writable was_selected None =
    select_by name (opening user name is_writable was_selected) (has_rights setting.users user name)

-- what a SELECT or an EXAMINE of a text needs
unfoldable pub select : Setting → List ℕ → List ℕ → Bool → Bool → Needed
select setting user text is_writable was_selected =
    select_as setting user (taken_name user text) is_writable was_selected (mail_name_fault (taken_name user text))

unfoldable pub select_on : Opening → List ℕ → Option Content → Worked
select_on it name None = record { left = kept; turn = unselected it.user it.was_selected NonExistent }
select_on it name (Some box) = record { left = kept; turn = select_told it name (snapshot_of box) }
