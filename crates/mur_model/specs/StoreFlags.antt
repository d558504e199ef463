-- STORE and UID STORE (RFC 9051, 6.4.6 and 6.4.9): the flags of the named messages that are there change; unless it is silent, a line tells them.
use Rattle.std.specs.Prelude.{ℕ, ◌+◌, Bool, true, false, not, if◌then◌else◌, List, [], ◌∷◌, ◌++◌, Option, None, Some, codes}
use Rattle.std.specs.List.{list_any}
use Rattle.mail_message.specs.Boxes.{Content}
use Rattle.mail_message.specs.FlagSets.{Flags}
use Rattle.mail_message.specs.RowOrder.{row_at}
use Rattle.mail_message.specs.declared.message.Row.{Row}
use Rattle.mail_message.specs.declared.mode.Mode.{Mode}
use Rattle.mail_message.specs.declared.set.SetPart.{SetPart}
use Rattle.mail_store.specs.Named.{set_of}
use Rattle.mail_store.specs.Store.{stored, rows_stored, has_too_many_flags}
use Rattle.mur_model.specs.Needed.{Needed, at_mailbox, no_such_number, read_only}
use Rattle.mur_model.specs.declared.work.ViewWork.TheVariants as work
use Rattle.imap_types.specs.declared.reply.Code.{Code}
use Rattle.imap_types.specs.declared.reply.Code.TheVariants.{None as no_code, ExpungeIssued}
use Rattle.imap_types.specs.declared.reply.NoText.TheVariants.{Limit}
use Rattle.imap_types.specs.declared.reply.ReplyLine.{ReplyLine}
use Rattle.imap_types.specs.declared.reply.ReplyLine.TheVariants.{Fetch}
use Rattle.imap_types.specs.declared.reply.Verdict.TheVariants.{Ok as ok_reply, No as no_reply}
use Rattle.mur_model.specs.declared.commands.store.FlagStore.{FlagStore}
use Rattle.mur_model.specs.declared.session.Turn.{Turn}
use Rattle.mur_model.specs.declared.view.View.{View}
use Rattle.mur_model.specs.ClientView.{uids}
use Rattle.mur_model.specs.Left.{Worked, kept, changed}
use Rattle.mur_model.specs.NamedRows.{named_uids, names_messages}
use Rattle.mur_model.specs.News.{news, has_row, flag_parts}
use Rattle.mur_model.specs.Selected.{rows_of, with_news}

abbrev pub store_named : View → Bool → List SetPart → Mode → Bool → Flags → Needed
store_named view by_uid set mode is_silent flags =
    at_mailbox view (work.Store (record { by_uid = by_uid; uids = named_uids by_uid set view.rows; mode = mode; is_silent = is_silent; flags = flags }))

abbrev pub store : View → Bool → List SetPart → Mode → Bool → Flags → Needed
store view by_uid set mode is_silent flags =
    if names_messages view by_uid set
    then if view.is_writable then store_named view by_uid set mode is_silent flags else read_only
    else no_such_number

abbrev pub store_name : Bool → List ℕ
store_name false = codes "STORE"
store_name true = codes "UID STORE"

abbrev pub stored_line : Bool → ℕ → Option Row → List ReplyLine
stored_line by_uid number None = []
stored_line by_uid number (Some row) = Fetch number (flag_parts by_uid row) ∷ []

-- a line for each named message that is there, also where its flags stayed as they were, under its number in the view
abbrev pub stored_lines : Bool → List Row → ℕ → List Row → List ReplyLine
stored_lines by_uid changes number [] = []
stored_lines by_uid changes number (row ∷ rows) = stored_line by_uid number (row_at changes row.uid) ++ stored_lines by_uid changes (number + 1) rows

-- the command's own lines
abbrev pub own_lines : FlagStore → List Row → List Row → List ReplyLine
own_lines it changes rows = if it.is_silent then [] else stored_lines it.by_uid changes 1 rows

-- some of the named messages are no more
abbrev pub some_gone : List Row → List ℕ → Bool
some_gone now uids = list_any (λ uid. not (has_row now uid)) uids

-- a command by numbers says so (RFC 9051, 7.1: EXPUNGEISSUED)
abbrev pub code_for : Bool → List Row → List ℕ → Code
code_for true now uids = no_code
code_for false now uids = if some_gone now uids then ExpungeIssued else no_code

-- what is told where the named messages that are there have these rows, and the mailbox has those now
abbrev pub store_told : View → FlagStore → List Row → List Row → Turn
store_told view it changes now =
    with_news view (own_lines it changes view.rows) (news view.rows now it.by_uid (set_of (uids changes)))
    (ok_reply (code_for it.by_uid now it.uids) (store_name it.by_uid))

-- what is told where a message would have too many keywords
abbrev pub store_refused : View → FlagStore → List Row → Turn
store_refused view it now = with_news view [] (news view.rows now it.by_uid []) (no_reply Limit)

-- what a STORE does, refused where a message would have too many keywords
abbrev pub stored_at : View → FlagStore → Content → Bool → Worked
stored_at view it box true = record { left = kept; turn = store_refused view it (rows_of box) }
stored_at view it box false =
    let after = stored box it.uids it.mode it.flags in
    record { left = changed after; turn = store_told view it (rows_stored box it.uids it.mode it.flags) (rows_of after) }

abbrev pub store_at : View → FlagStore → Content → Worked
store_at view it box = stored_at view it box (has_too_many_flags (rows_stored box it.uids it.mode it.flags))
