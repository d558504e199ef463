-- FETCH and UID FETCH of flags and UIDs alone (RFC 9051, 6.4.5): the rows of a mailbox tell them, and no message is read.
use Rattle.std.specs.Prelude.{ℕ, Bool, true, false, if◌then◌else◌, List, [], ◌∷◌, ◌++◌, map, Option, Some}
use Rattle.std.specs.List.{filter, list_all, list_any}
use Rattle.mail_fetch.specs.FlagText.{flags_text}
use Rattle.mail_fetch.specs.Parts.{uid_text}
use Rattle.mail_message.specs.RowOrder.{row_at}
use Rattle.mail_message.specs.declared.item.Item.{Item}
use Rattle.mail_message.specs.declared.item.Item.TheVariants as item
use Rattle.mail_message.specs.declared.message.Row.{Row}
use Rattle.mail_store.specs.Named.{set_of}
use Rattle.mur_model.specs.declared.commands.fetch.Fetching.{Fetching}
use Rattle.imap_types.specs.declared.reply.ReplyLine.{ReplyLine}
use Rattle.imap_types.specs.declared.reply.ReplyLine.TheVariants.{Fetch}
use Rattle.imap_types.specs.declared.reply.Verdict.TheVariants.{Ok as ok_reply}
use Rattle.mur_model.specs.declared.session.Turn.{Turn}
use Rattle.mur_model.specs.declared.view.View.{View}
use Rattle.mur_model.specs.Fetch.{fetch_name, is_flags, items_told, number_in}
use Rattle.mur_model.specs.News.{has_row, news}
use Rattle.mur_model.specs.Selected.{with_news}
use Rattle.mur_model.specs.StoreFlags.{code_for}

-- an item that a row tells
abbrev pub is_in_row : Item → Bool
is_in_row item.Flags = true
is_in_row item.Uid = true
is_in_row it = false

-- rows tell all the items
abbrev pub asks_rows : Fetching → Bool
asks_rows it = list_all is_in_row it.items

-- what such an item gives of the message with a row
abbrev pub row_part : Item → Row → List ℕ
row_part item.Uid row = uid_text row.uid
row_part it row = flags_text row.flags

abbrev pub row_line : List Item → Option ℕ → Option Row → List ReplyLine
row_line items (Some number) (Some row) = Fetch number (map (λ asked. row_part asked row) items) ∷ []
row_line items number row = []

-- a line for each UID whose message is there, under its number in the view
abbrev pub row_lines : List Item → List Row → List Row → List ℕ → List ReplyLine
row_lines items rows now [] = []
row_lines items rows now (uid ∷ uids) = row_line items (number_in rows uid) (row_at now uid) ++ row_lines items rows now uids

-- the UIDs of the messages whose flags are told
abbrev pub told_uids : Fetching → List Row → List ℕ
told_uids it now = if list_any is_flags it.items then filter (has_row now) it.uids else []

-- what is told where a mailbox has these rows
abbrev pub rows_told : View → Fetching → List Row → Turn
rows_told view it now =
    with_news view (row_lines (items_told it false) view.rows now it.uids) (news view.rows now it.by_uid (set_of (told_uids it now)))
    (ok_reply (code_for it.by_uid now it.uids) (fetch_name it.by_uid))
