-- SEARCH and UID SEARCH (RFC 9051, 6.4.4 and 6.4.9): those messages of the view that are there and that all keys match.
use Rattle.std.specs.Prelude.{ℕ, Bool, true, false, if◌then◌else◌, List, [], ◌∷◌, length, map, Option, None, Some, codes}
use Rattle.mail_message.specs.Boxes.{Content, messages_at, summary_of}
use Rattle.mail_message.specs.declared.key.Key.{Key}
use Rattle.mail_message.specs.declared.message.Row.{Row}
use Rattle.mail_message.specs.declared.message.Summary.{Summary}
use Rattle.mail_search.specs.Search.{found}
use Rattle.mur_model.specs.Needed.{Needed, at_mailbox, no_such_number}
use Rattle.mur_model.specs.declared.work.ViewWork.TheVariants as work
use Rattle.imap_types.specs.declared.reply.ReplyLine.{ReplyLine}
use Rattle.imap_types.specs.declared.reply.ReplyLine.TheVariants.{Search}
use Rattle.imap_types.specs.declared.reply.Verdict.TheVariants.{Ok as ok_reply}
use Rattle.mur_model.specs.declared.commands.search.Searching.{Searching}
use Rattle.mur_model.specs.declared.session.Turn.{Turn}
use Rattle.mur_model.specs.declared.view.View.{View}
use Rattle.mur_model.specs.ClientView.{uids}
use Rattle.mur_model.specs.Fetch.{number_in}
use Rattle.mur_model.specs.Keys.{have_all_numbers, keys_at}
use Rattle.mur_model.specs.Left.{Worked, kept}
use Rattle.mur_model.specs.NamedRows.{last_uid}
use Rattle.mur_model.specs.News.{news}
use Rattle.mur_model.specs.Selected.{rows_of, with_news}
use Rattle.mur_model.specs.StoreFlags.{code_for}

-- each sequence number in the keys of a SEARCH is a message's, in a UID SEARCH too; `*` is the last one
abbrev pub search : View → Bool → List Key → Needed
search view by_uid keys =
    if have_all_numbers (length view.rows) keys
    then at_mailbox view (work.Search (record { by_uid = by_uid; keys = keys_at (length view.rows) (last_uid view.rows) keys }))
    else no_such_number

abbrev pub search_name : Bool → List ℕ
search_name false = codes "SEARCH"
search_name true = codes "UID SEARCH"

abbrev pub or_zero : Option ℕ → ℕ
or_zero None = 0
or_zero (Some number) = number

-- the number of a message in a view that has it
abbrev pub number_at : List Row → ℕ → ℕ
number_at rows uid = or_zero (number_in rows uid)

-- the UIDs of the messages that all keys match
abbrev pub found_uids : Searching → List Row → List Summary → List ℕ
found_uids it rows messages = found it.keys messages (map (λ message. number_at rows message.uid) messages)

-- the numbers of those messages, or their UIDs (RFC 9051, 7.3.4)
abbrev pub numbers_told : Bool → List Row → List ℕ → List ℕ
numbers_told true rows uids = uids
numbers_told false rows uids = map (λ uid. number_at rows uid) uids

-- the line of what was found among messages of a view
abbrev pub search_reply_line : Searching → List Row → List Summary → ReplyLine
search_reply_line it rows messages = Search it.by_uid (numbers_told it.by_uid rows (found_uids it rows messages))

-- what is told where these messages of the view are there, and the mailbox has those rows now
abbrev pub search_told : View → Searching → List Summary → List Row → Turn
search_told view it messages now =
    with_news view (search_reply_line it view.rows messages ∷ []) (news view.rows now it.by_uid [])
    (ok_reply (code_for it.by_uid now (uids view.rows)) (search_name it.by_uid))

abbrev pub search_at : View → Searching → Content → Worked
search_at view it box = record { left = kept; turn = search_told view it (map summary_of (messages_at box.messages (uids view.rows))) (rows_of box) }
