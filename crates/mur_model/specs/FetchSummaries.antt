-- FETCH and UID FETCH of flags, UIDs, dates and sizes alone (RFC 9051, 6.4.5): the summaries of messages tell them, and no body is read.
use Rattle.std.specs.Prelude.{ℕ, Bool, true, false, if◌then◌else◌, List, [], ◌∷◌, ◌++◌, map, Option, None, Some}
use Rattle.std.specs.List.{list_all, list_any}
use Rattle.mail_fetch.specs.FlagText.{flags_text}
use Rattle.mail_fetch.specs.Parts.{date_text, size_text, uid_text}
use Rattle.mail_message.specs.declared.item.Item.{Item}
use Rattle.mail_message.specs.declared.item.Item.TheVariants as item
use Rattle.mail_message.specs.declared.message.Row.{Row}
use Rattle.mail_message.specs.declared.message.Summary.{Summary}
use Rattle.mail_store.specs.Named.{set_of}
use Rattle.mur_model.specs.declared.commands.fetch.Fetching.{Fetching}
use Rattle.imap_types.specs.declared.reply.ReplyLine.{ReplyLine}
use Rattle.imap_types.specs.declared.reply.ReplyLine.TheVariants.{Fetch}
use Rattle.imap_types.specs.declared.reply.Verdict.TheVariants.{Ok as ok_reply}
use Rattle.mur_model.specs.declared.session.Turn.{Turn}
use Rattle.mur_model.specs.declared.view.View.{View}
use Rattle.mur_model.specs.Fetch.{fetch_name, is_flags, items_told, number_in}
use Rattle.mur_model.specs.News.{news}
use Rattle.mur_model.specs.Selected.{with_news}
use Rattle.mur_model.specs.StoreFlags.{code_for}

-- an item that a summary tells
abbrev pub is_in_summary : Item → Bool
is_in_summary (item.Body partial) = false
is_in_summary (item.BodyPeek partial) = false
is_in_summary it = true

-- summaries tell all the items
abbrev pub asks_summaries : Fetching → Bool
asks_summaries it = list_all is_in_summary it.items

-- what such an item gives of the message with a summary
abbrev pub summary_part : Item → Summary → List ℕ
summary_part item.Uid summary = uid_text summary.uid
summary_part item.InternalDate summary = date_text summary.date
summary_part item.Size summary = size_text summary.size
summary_part it summary = flags_text summary.flags

abbrev pub summary_line : List Item → Summary → Option ℕ → List ReplyLine
summary_line items summary None = []
summary_line items summary (Some number) = Fetch number (map (λ asked. summary_part asked summary) items) ∷ []

-- a line for each message, under its number in the view
abbrev pub summary_lines : List Item → List Row → List Summary → List ReplyLine
summary_lines items rows [] = []
summary_lines items rows (summary ∷ summaries) = summary_line items summary (number_in rows summary.uid) ++ summary_lines items rows summaries

-- the UIDs of the messages whose flags are told
abbrev pub uids_told : Fetching → List Summary → List ℕ
uids_told it summaries = if list_any is_flags it.items then map (λ summary. summary.uid) summaries else []

-- what is told of the named messages by their summaries, and of the mailbox's rows at the same moment
abbrev pub summaries_told : View → Fetching → List Summary → List Row → Turn
summaries_told view it summaries now =
    with_news view (summary_lines (items_told it false) view.rows summaries) (news view.rows now it.by_uid (set_of (uids_told it summaries)))
    (ok_reply (code_for it.by_uid now it.uids) (fetch_name it.by_uid))
