-- FETCH and UID FETCH (RFC 9051, 6.4.5, 6.4.9 and 7.5.2): what is asked of the named messages that are there, in the order of their numbers.
use Rattle.std.specs.Prelude.{ℕ, ◌+◌, ◌==◌, Bool, true, false, not, ◌&&◌, ◌||◌, if◌then◌else◌, List, [], ◌∷◌, ◌++◌, map, Option, None, Some, codes}
use Rattle.std.specs.List.{list_any, position_from}
use Rattle.std.specs.Option.{option_map}
use Rattle.mail_fetch.specs.Parts.{part_text}
use Rattle.mail_message.specs.Boxes.{Content, messages_at, relabelled}
use Rattle.mail_message.specs.FlagSets.{Flags, no_flags, with_flag}
use Rattle.mail_message.specs.RowOrder.{is_row_of, row_at}
use Rattle.mail_message.specs.declared.flag_name.FlagName.TheVariants.{System}
use Rattle.mail_message.specs.declared.item.Item.{Item}
use Rattle.mail_message.specs.declared.item.Item.TheVariants as item
use Rattle.mail_message.specs.declared.item.Partial.{Partial}
use Rattle.mail_message.specs.declared.message.Message.{Message}
use Rattle.mail_message.specs.declared.message.Row.{Row}
use Rattle.mail_message.specs.declared.mode.Mode.TheVariants.{Add}
use Rattle.mail_message.specs.declared.set.SetPart.{SetPart}
use Rattle.mail_message.specs.declared.system_flags.SystemFlag.TheVariants.{Seen}
use Rattle.mail_store.specs.Named.{set_of}
use Rattle.mail_store.specs.Store.{stored}
use Rattle.mur_model.specs.declared.commands.fetch.Fetching.{Fetching}
use Rattle.mur_model.specs.Needed.{Needed, at_mailbox, no_such_number}
use Rattle.mur_model.specs.declared.work.ViewWork.TheVariants as work
use Rattle.imap_types.specs.declared.reply.ReplyLine.{ReplyLine}
use Rattle.imap_types.specs.declared.reply.ReplyLine.TheVariants.{Fetch}
use Rattle.imap_types.specs.declared.reply.Verdict.TheVariants.{Ok as ok_reply}
use Rattle.mur_model.specs.declared.session.Turn.{Turn}
use Rattle.mur_model.specs.declared.view.View.{View}
use Rattle.mur_model.specs.Left.{Worked, kept, changed}
use Rattle.mur_model.specs.NamedRows.{named_uids, names_messages}
use Rattle.mur_model.specs.News.{news}
use Rattle.mail_message.specs.SameFlags.{is_same_flags}
use Rattle.mur_model.specs.Selected.{rows_of, with_news}
use Rattle.mur_model.specs.StoreFlags.{code_for}

-- the same part of a body, or all of it both times
abbrev pub same_partial : Option Partial → Option Partial → Bool
same_partial None None = true
same_partial (Some one) (Some other) = one.from == other.from && (one.count == other.count)
same_partial one other = false

-- the same item, and of a body the same part
abbrev pub same_item : Item → Item → Bool
same_item item.Flags item.Flags = true
same_item item.Uid item.Uid = true
same_item item.InternalDate item.InternalDate = true
same_item item.Size item.Size = true
same_item (item.Body one) (item.Body other) = same_partial one other
same_item (item.BodyPeek one) (item.BodyPeek other) = same_partial one other
same_item one other = false

-- an item stands in a line once, where it was asked for first; these are told already
abbrev pub each_once : List Item → List Item → List Item
each_once told [] = told
each_once told (it ∷ items) = each_once (if list_any (same_item it) told then told else told ++ it ∷ []) items

abbrev pub fetch_named : View → Bool → List SetPart → List Item → Needed
fetch_named view by_uid set items =
    at_mailbox view (work.Fetch (record { by_uid = by_uid; uids = named_uids by_uid set view.rows; items = each_once [] items }))

abbrev pub fetch : View → Bool → List SetPart → List Item → Needed
fetch view by_uid set items = if names_messages view by_uid set then fetch_named view by_uid set items else no_such_number

abbrev pub fetch_name : Bool → List ℕ
fetch_name false = codes "FETCH"
fetch_name true = codes "UID FETCH"

-- a body, which is seen then
abbrev pub is_body : Item → Bool
is_body (item.Body partial) = true
is_body it = false

abbrev pub is_uid_item : Item → Bool
is_uid_item item.Uid = true
is_uid_item it = false

abbrev pub is_flags : Item → Bool
is_flags item.Flags = true
is_flags it = false

-- The items that are told of a message: the UID first where it was named by UID, the flags last where the fetch changed them, unless they were asked
-- for (RFC 9051, 6.4.9 and 7.5.2).
abbrev pub items_told : Fetching → Bool → List Item
items_told it changes =
    (if it.by_uid && not (list_any is_uid_item it.items) then item.Uid ∷ [] else []) ++ it.items
    ++ (if changes && not (list_any is_flags it.items) then item.Flags ∷ [] else [])

-- the number of a message in a view, whose first has the number 1
abbrev pub number_in : List Row → ℕ → Option ℕ
number_in rows uid = option_map (λ place. place + 1) (position_from (is_row_of uid) 0 rows)

-- the line of a message that had these flags before and has others now
abbrev pub fetch_reply_line : Fetching → Message → Option ℕ → Option Row → List ReplyLine
fetch_reply_line it message (Some number) (Some row) =
    Fetch number (map (λ asked. part_text asked (relabelled message row.flags)) (items_told it (not (is_same_flags message.flags row.flags)))) ∷ []
fetch_reply_line it message number row = []

-- a line for each message, under its number in the view
abbrev pub fetch_lines : Fetching → List Row → List Row → List Message → List ReplyLine
fetch_lines it rows now [] = []
fetch_lines it rows now (message ∷ before) =
    fetch_reply_line it message (number_in rows message.uid) (row_at now message.uid) ++ fetch_lines it rows now before

-- the flags of a message are told in its line
abbrev pub tells_flags : Fetching → Message → Option Row → Bool
tells_flags it message None = false
tells_flags it message (Some row) = list_any is_flags it.items || not (is_same_flags message.flags row.flags)

-- the UIDs of those messages
abbrev pub flag_uids : Fetching → List Row → List Message → List ℕ
flag_uids it now [] = []
flag_uids it now (message ∷ before) =
    (if tells_flags it message (row_at now message.uid) then message.uid ∷ [] else []) ++ flag_uids it now before

-- what is told of the named messages as they were before, and of the mailbox's rows now
abbrev pub fetch_told : View → Fetching → List Message → List Row → Turn
fetch_told view it before now =
    with_news view (fetch_lines it view.rows now before) (news view.rows now it.by_uid (set_of (flag_uids it now before)))
    (ok_reply (code_for it.by_uid now it.uids) (fetch_name it.by_uid))

-- the messages get \Seen (RFC 9051, 6.4.5: BODY[]), in a mailbox that was selected to be changed
abbrev pub sees : View → Fetching → Bool
sees view it = view.is_writable && list_any is_body it.items

abbrev pub seen_flags : Flags
seen_flags = with_flag no_flags (System Seen)

abbrev pub fetch_at : View → Fetching → Content → Worked
fetch_at view it box =
    let before = messages_at box.messages it.uids in
    if sees view it
    then record { left = changed (stored box it.uids Add seen_flags); turn = fetch_told view it before (rows_of (stored box it.uids Add seen_flags)) }
    else record { left = kept; turn = fetch_told view it before (rows_of box) }
