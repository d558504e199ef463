-- A fetch of what rows tell gives of messages what it gives of their rows.
use Rattle.std.proofs.Common.{◌≡◌, ℕ, Bool, true, false, cond, nat_eq, if◌then◌else◌, List, [], ◌∷◌, ◌++◌, map, Option, None, Some}
use Rattle.std.proofs.Common.{ap, refl, subst, sym, ◌∙◌}
use Rattle.std.specs.List.{filter, list_all, list_any}
use Rattle.std.specs.Option.{option_map, option_to_list}
use Rattle.mail_fetch.specs.Parts.{part_text}
use Rattle.mail_message.specs.Boxes.{Content, message_at, messages_at, row_of}
use Rattle.mail_message.specs.RowOrder.{row_at}
use Rattle.mail_message.specs.declared.item.Item.{Item}
use Rattle.mail_message.specs.declared.item.Item.TheVariants as item
use Rattle.mail_message.specs.declared.message.Message.{Message}
use Rattle.mail_message.specs.declared.message.Row.{Row}
use Rattle.mail_store.specs.Named.{set_of}
use Rattle.mur_model.specs.declared.commands.fetch.Fetching.{Fetching}
use Rattle.imap_types.specs.declared.reply.ReplyLine.{ReplyLine}
use Rattle.imap_types.specs.declared.reply.ReplyLine.TheVariants.{Fetch}
use Rattle.imap_types.specs.declared.reply.Verdict.TheVariants.{Ok as ok_reply}
use Rattle.mur_model.specs.declared.view.View.{View}
use Rattle.mur_model.specs.Fetch.{fetch_reply_line, fetch_lines, fetch_name, fetch_told, flag_uids, is_body, is_flags, items_told, number_in, tells_flags}
use Rattle.mur_model.specs.FetchRows.{asks_rows, is_in_row, row_line, row_lines, row_part, rows_told}
use Rattle.mur_model.specs.News.{has_row, news}
use Rattle.mur_model.specs.Selected.{rows_of, with_news}
use Rattle.mur_model.specs.StoreFlags.{code_for}
use Rattle.mail_message.proofs.FlagLaw.{flags_self}
use Rattle.mur_model.proofs.FetchedAlike.{parts_same, all_told, none_seen}
use Rattle.mail_message.proofs.FoundUids.{IsOf, found_is}

-- ---- the items

part_same : (asked : Item) (message : Message) → is_in_row asked ≡ true → part_text asked message ≡ row_part asked (row_of message)
part_same item.Flags message is = refl
part_same item.Uid message is = refl
part_same item.InternalDate message is = absurd (cc)
part_same item.Size message is = absurd (cc)
part_same (item.Body partial) message is = absurd (cc)
part_same (item.BodyPeek partial) message is = absurd (cc)

-- ---- a message, and its row

row_by : (message : Message) (rest : Option Message) (same : Bool)
    → cond same (Some (row_of message)) (option_map row_of rest) ≡ option_map row_of (cond same (Some message) rest)
row_by message rest true = refl
row_by message rest false = refl

pub row_found : (messages : List Message) (uid : ℕ) → row_at (map row_of messages) uid ≡ option_map row_of (message_at messages uid)
row_found [] uid = refl
row_found (message ∷ messages) uid =
    ap (λ rest. cond (nat_eq message.uid uid) (Some (row_of message)) rest) (row_found messages uid)
    ∙ row_by message (message_at messages uid) (nat_eq message.uid uid)

-- ---- lines

line_same : (it : Fetching) (message : Message) (number : Option ℕ) → asks_rows it ≡ true
    → fetch_reply_line it message number (Some (row_of message)) ≡ row_line (items_told it false) number (Some (row_of message))
line_same it message None are = refl
line_same it message (Some number) are =
    rw (flags_self message.flags) (ap (λ parts. Fetch number parts ∷ []) (parts_same row_of is_in_row row_part part_same (items_told it false) message
    (all_told is_in_row it refl are)))

no_line : (items : List Item) (number : Option ℕ) → row_line items number None ≡ []
no_line items None = refl
no_line items (Some number) = refl

lines_with : (it : Fetching) (rows now : List Row) (message : Message) (before : List Message) (uids : List ℕ) → asks_rows it ≡ true
    → row_at now message.uid ≡ Some (row_of message) → fetch_lines it rows now before ≡ row_lines (items_told it false) rows now uids
    → fetch_lines it rows now (message ∷ before) ≡ row_lines (items_told it false) rows now (message.uid ∷ uids)
lines_with it rows now message before uids are found others =
    rw (found, others)
    (ap (λ lines. lines ++ row_lines (items_told it false) rows now uids) (line_same it message (number_in rows message.uid) are))

lines_by : (it : Fetching) (rows now : List Row) (uid : ℕ) (message : Option Message) (before : List Message) (uids : List ℕ) → asks_rows it ≡ true
    → IsOf uid message → row_at now uid ≡ option_map row_of message → fetch_lines it rows now before ≡ row_lines (items_told it false) rows now uids
    → fetch_lines it rows now (option_to_list message ++ before) ≡ row_lines (items_told it false) rows now (uid ∷ uids)
lines_by it rows now uid None before uids are is found others = rw (found, others, no_line (items_told it false) (number_in rows uid)) refl
lines_by it rows now uid (Some message) before uids are is found others =
    subst (λ n. fetch_lines it rows now (message ∷ before) ≡ row_lines (items_told it false) rows now (n ∷ uids)) is
    (lines_with it rows now message before uids are (subst (λ n. row_at now n ≡ Some (row_of message)) (sym is) found) others)

lines_same : (it : Fetching) (rows : List Row) (messages : List Message) (uids : List ℕ) → asks_rows it ≡ true
    → fetch_lines it rows (map row_of messages) (messages_at messages uids) ≡ row_lines (items_told it false) rows (map row_of messages) uids
lines_same it rows messages [] are = refl
lines_same it rows messages (uid ∷ uids) are =
    lines_by it rows (map row_of messages) uid (message_at messages uid) (messages_at messages uids) uids are (found_is messages uid)
    (row_found messages uid) (lines_same it rows messages uids are)

-- ---- the UIDs of those whose flags are told

pub told_same : (it : Fetching) (message : Message) (asked : Bool) → list_any is_flags it.items ≡ asked → tells_flags it message (Some (row_of message)) ≡ asked
told_same it message true are = rw are refl
told_same it message false are = rw (are, flags_self message.flags) refl

uids_by : (it : Fetching) (now : List Row) (uid : ℕ) (message : Option Message) (before : List Message) (uids : List ℕ) (asked : Bool)
    → list_any is_flags it.items ≡ asked → IsOf uid message → row_at now uid ≡ option_map row_of message
    → flag_uids it now before ≡ (if asked then filter (has_row now) uids else [])
    → flag_uids it now (option_to_list message ++ before) ≡ (if asked then filter (has_row now) (uid ∷ uids) else [])
uids_by it now uid None before uids true are is found others = rw (found, others) refl
uids_by it now uid None before uids false are is found others = others
uids_by it now uid (Some message) before uids true are is found others = rw (is, found, told_same it message true are, others) refl
uids_by it now uid (Some message) before uids false are is found others = rw (is, found, told_same it message false are, others) refl

uids_same : (it : Fetching) (messages : List Message) (uids : List ℕ) (asked : Bool) → list_any is_flags it.items ≡ asked
    → flag_uids it (map row_of messages) (messages_at messages uids) ≡ (if asked then filter (has_row (map row_of messages)) uids else [])
uids_same it messages [] true are = refl
uids_same it messages [] false are = refl
uids_same it messages (uid ∷ uids) asked are =
    uids_by it (map row_of messages) uid (message_at messages uid) (messages_at messages uids) uids asked are (found_is messages uid)
    (row_found messages uid) (uids_same it messages uids asked are)

-- ---- what is told

pub told_by : (view : View) (it : Fetching) (now : List Row) (lines others : List ReplyLine) (uids more : List ℕ) → lines ≡ others → uids ≡ more
    → with_news view lines (news view.rows now it.by_uid (set_of uids)) (ok_reply (code_for it.by_uid now it.uids) (fetch_name it.by_uid))
    ≡ with_news view others (news view.rows now it.by_uid (set_of more)) (ok_reply (code_for it.by_uid now it.uids) (fetch_name it.by_uid))
told_by view it now lines others uids more same alike = rw (same, alike) refl

-- what is told of the messages of a mailbox that stays as it is
pub rows_tell : (view : View) (it : Fetching) (box : Content) → asks_rows it ≡ true
    → fetch_told view it (messages_at box.messages it.uids) (rows_of box) ≡ rows_told view it (rows_of box)
rows_tell view it box are =
    told_by view it (rows_of box) _ _ _ _ (lines_same it view.rows box.messages it.uids are)
    (uids_same it box.messages it.uids (list_any is_flags it.items) refl)

-- no body is asked for, so no message gets \Seen
pub rows_unseen : (items : List Item) → list_all is_in_row items ≡ true → list_any is_body items ≡ false
rows_unseen items are = none_seen is_in_row no_body items are
  where
    no_body : (it : Item) → is_in_row it ≡ true → is_body it ≡ false
    no_body item.Flags is = refl
    no_body item.Uid is = refl
    no_body item.InternalDate is = refl
    no_body item.Size is = refl
    no_body (item.Body partial) is = absurd (cc)
    no_body (item.BodyPeek partial) is = refl
