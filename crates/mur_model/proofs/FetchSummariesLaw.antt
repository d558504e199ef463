-- A fetch of what summaries tell gives of messages what it gives of their summaries.
use Rattle.std.proofs.Common.{◌≡◌, ℕ, Bool, true, false, if◌then◌else◌, List, [], ◌∷◌, ◌++◌, map, Option, None, Some}
use Rattle.std.proofs.Common.{ap, refl, subst, sym, ◌∙◌}
use Rattle.std.specs.List.{list_all, list_any}
use Rattle.std.specs.Option.{option_map, option_to_list}
use Rattle.mail_fetch.specs.Parts.{part_text}
use Rattle.mail_message.specs.Boxes.{Content, message_at, messages_at, row_of, summary_of}
use Rattle.mail_message.specs.RowOrder.{row_at}
use Rattle.mail_message.specs.declared.item.Item.{Item}
use Rattle.mail_message.specs.declared.item.Item.TheVariants as item
use Rattle.mail_message.specs.declared.message.Message.{Message}
use Rattle.mail_message.specs.declared.message.Row.{Row}
use Rattle.mail_message.specs.declared.message.Summary.{Summary}
use Rattle.imap_types.specs.declared.reply.ReplyLine.TheVariants.{Fetch}
use Rattle.mur_model.specs.declared.commands.fetch.Fetching.{Fetching}
use Rattle.mur_model.specs.declared.view.View.{View}
use Rattle.mur_model.specs.Fetch.{fetch_reply_line, fetch_lines, fetch_told, flag_uids, is_body, is_flags, items_told, number_in}
use Rattle.mur_model.specs.FetchSummaries.{asks_summaries, is_in_summary, summaries_told, summary_line, summary_lines, summary_part}
use Rattle.mur_model.specs.Selected.{rows_of}
use Rattle.mail_message.proofs.FlagLaw.{flags_self}
use Rattle.mur_model.proofs.FetchedAlike.{parts_same, all_told, none_seen}
use Rattle.mur_model.proofs.FetchRowsLaw.{row_found, told_by, told_same}
use Rattle.mail_message.proofs.FoundUids.{IsOf, found_is}

-- ---- the items

part_same : (asked : Item) (message : Message) → is_in_summary asked ≡ true → part_text asked message ≡ summary_part asked (summary_of message)
part_same item.Flags message is = refl
part_same item.Uid message is = refl
part_same item.InternalDate message is = refl
part_same item.Size message is = refl
part_same (item.Body partial) message is = absurd (cc)
part_same (item.BodyPeek partial) message is = absurd (cc)

-- ---- lines

line_same : (it : Fetching) (message : Message) (number : Option ℕ) → asks_summaries it ≡ true
    → fetch_reply_line it message number (Some (row_of message)) ≡ summary_line (items_told it false) (summary_of message) number
line_same it message None are = refl
line_same it message (Some number) are =
    rw (flags_self message.flags) (ap (λ parts. Fetch number parts ∷ []) (parts_same summary_of is_in_summary summary_part part_same (items_told it false) message
    (all_told is_in_summary it refl are)))

lines_with : (it : Fetching) (rows now : List Row) (message : Message) (before : List Message) → asks_summaries it ≡ true
    → row_at now message.uid ≡ Some (row_of message) → fetch_lines it rows now before ≡ summary_lines (items_told it false) rows (map summary_of before)
    → fetch_lines it rows now (message ∷ before) ≡ summary_lines (items_told it false) rows (map summary_of (message ∷ before))
lines_with it rows now message before are found others =
    rw (found, others)
    (ap (λ lines. lines ++ summary_lines (items_told it false) rows (map summary_of before)) (line_same it message (number_in rows message.uid) are))

lines_by : (it : Fetching) (rows now : List Row) (uid : ℕ) (message : Option Message) (before : List Message) → asks_summaries it ≡ true
    → IsOf uid message → row_at now uid ≡ option_map row_of message
    → fetch_lines it rows now before ≡ summary_lines (items_told it false) rows (map summary_of before)
    → fetch_lines it rows now (option_to_list message ++ before) ≡ summary_lines (items_told it false) rows (map summary_of (option_to_list message ++ before))
lines_by it rows now uid None before are is found others = others
lines_by it rows now uid (Some message) before are is found others =
    lines_with it rows now message before are (subst (λ n. row_at now n ≡ Some (row_of message)) (sym is) found) others

lines_same : (it : Fetching) (rows : List Row) (messages : List Message) (uids : List ℕ) → asks_summaries it ≡ true
    → fetch_lines it rows (map row_of messages) (messages_at messages uids)
    ≡ summary_lines (items_told it false) rows (map summary_of (messages_at messages uids))
lines_same it rows messages [] are = refl
lines_same it rows messages (uid ∷ uids) are =
    lines_by it rows (map row_of messages) uid (message_at messages uid) (messages_at messages uids) are (found_is messages uid)
    (row_found messages uid) (lines_same it rows messages uids are)

-- ---- the UIDs of those whose flags are told

abbrev uids_if : Bool → List Message → List ℕ
uids_if asked before = if asked then map (λ (message : Message). message.uid) before else []

uids_by : (it : Fetching) (now : List Row) (uid : ℕ) (message : Option Message) (before : List Message) (asked : Bool)
    → list_any is_flags it.items ≡ asked → IsOf uid message → row_at now uid ≡ option_map row_of message
    → flag_uids it now before ≡ uids_if asked before → flag_uids it now (option_to_list message ++ before) ≡ uids_if asked (option_to_list message ++ before)
uids_by it now uid None before asked are is found others = others
uids_by it now uid (Some message) before true are is found others = rw (is, found, told_same it message true are, others) refl
uids_by it now uid (Some message) before false are is found others = rw (is, found, told_same it message false are, others) refl

uids_same : (it : Fetching) (messages : List Message) (uids : List ℕ) (asked : Bool) → list_any is_flags it.items ≡ asked
    → flag_uids it (map row_of messages) (messages_at messages uids) ≡ uids_if asked (messages_at messages uids)
uids_same it messages [] true are = refl
uids_same it messages [] false are = refl
uids_same it messages (uid ∷ uids) asked are =
    uids_by it (map row_of messages) uid (message_at messages uid) (messages_at messages uids) asked are (found_is messages uid)
    (row_found messages uid) (uids_same it messages uids asked are)

uids_in : (before : List Message) → map (λ (summary : Summary). summary.uid) (map summary_of before) ≡ map (λ (message : Message). message.uid) before
uids_in [] = refl
uids_in (message ∷ before) = ap (λ uids. message.uid ∷ uids) (uids_in before)

told_uids : (before : List Message) (asked : Bool)
    → uids_if asked before ≡ (if asked then map (λ (summary : Summary). summary.uid) (map summary_of before) else [])
told_uids before true = sym (uids_in before)
told_uids before false = refl

-- ---- what is told

-- what is told of the messages of a mailbox that stays as it is
pub summaries_tell : (view : View) (it : Fetching) (box : Content) → asks_summaries it ≡ true
    → fetch_told view it (messages_at box.messages it.uids) (rows_of box)
    ≡ summaries_told view it (map summary_of (messages_at box.messages it.uids)) (rows_of box)
summaries_tell view it box are =
    told_by view it (rows_of box) _ _ _ _ (lines_same it view.rows box.messages it.uids are)
    (uids_same it box.messages it.uids (list_any is_flags it.items) refl ∙ told_uids (messages_at box.messages it.uids) (list_any is_flags it.items))

-- no body is asked for, so no message gets \Seen
pub summaries_unseen : (items : List Item) → list_all is_in_summary items ≡ true → list_any is_body items ≡ false
summaries_unseen items are = none_seen is_in_summary no_body items are
  where
    no_body : (it : Item) → is_in_summary it ≡ true → is_body it ≡ false
    no_body item.Flags is = refl
    no_body item.Uid is = refl
    no_body item.InternalDate is = refl
    no_body item.Size is = refl
    no_body (item.Body partial) is = absurd (cc)
    no_body (item.BodyPeek partial) is = refl
