-- What is told of a mailbox has sound texts, where its messages have, and they keep them.
use Rattle.std.proofs.Common.{◌≡◌, ℕ, ◌==◌, Bool, true, false, if◌then◌else◌, List, [], ◌∷◌, length, map, codes, refl}
use Rattle.std.proofs.Common.{Option, None, Some}
use Rattle.std.specs.Prelude.{All, IfSome, ⊤}
use Rattle.std.proofs.lemmas.List.Elements.{All-nil, All-cons, All-append, All-map, All-from_recursion}
use Rattle.mail_fetch.specs.Parts.{part_text}
use Rattle.mail_fetch.proofs.PartLaws.{flags_is_part, item_is_part, uid_is_part}
use Rattle.mail_message.specs.Boxes.{Content, messages_at, relabelled, snapshot_of, summary_of}
use Rattle.mail_message.specs.FlagSets.{HasRuledKeywords}
use Rattle.mail_message.specs.Keywords.{keyword_fault}
use Rattle.mail_message.specs.Literals.{IsPart, IsPlain}
use Rattle.mail_message.specs.declared.flag_name.FlagName.TheVariants.{Keyword}
use Rattle.mail_message.specs.declared.message.Message.{Message}
use Rattle.mail_message.specs.declared.message.Row.{Row}
use Rattle.mail_message.specs.declared.message.Snapshot.{Snapshot}
use Rattle.mail_message.specs.declared.mode.Mode.TheVariants.{Add}
use Rattle.mail_store.specs.Append.{append_fault}
use Rattle.mail_store.specs.Expunge.{expunged}
use Rattle.mail_store.specs.Store.{stored, rows_stored, has_too_many_flags}
use Rattle.mail_store.specs.declared.fault.StoreFault.{StoreFault}
use Rattle.imap_types.specs.declared.command.StatusItem.{StatusItem}
use Rattle.mur_model.specs.declared.commands.fetch.Fetching.{Fetching}
use Rattle.mur_model.specs.declared.work.NewsFor.{NewsFor}
use Rattle.mur_model.specs.declared.work.NewsFor.TheVariants as news_for
use Rattle.mur_model.specs.declared.work.ViewWork.{ViewWork}
use Rattle.mur_model.specs.declared.work.ViewWork.TheVariants as view_work
use Rattle.mur_model.specs.Needed.{Work, Make, Delete, Append as append_work, Status as status_work, Select as select_work, Viewed as viewed_work}
use Rattle.imap_types.specs.declared.reply.Attribute.TheVariants.{None as no_attribute}
use Rattle.imap_types.specs.declared.reply.NoText.{NoText}
use Rattle.imap_types.specs.declared.reply.NoText.TheVariants.{NonExistent}
use Rattle.imap_types.specs.declared.reply.Reply.{Reply}
use Rattle.imap_types.specs.declared.reply.ReplyLine.{ReplyLine}
use Rattle.imap_types.specs.declared.reply.ReplyLine.TheVariants.{Bye, Closed, Exists, Flags, Listed, Search, UidNext, UidValidity}
use Rattle.imap_types.specs.declared.reply.Bye.TheVariants.{Gone}
use Rattle.imap_types.specs.declared.reply.Verdict.{Verdict}
use Rattle.mur_model.specs.declared.commands.search.Searching.{Searching}
use Rattle.mur_model.specs.declared.commands.select.Opening.{Opening}
use Rattle.mur_model.specs.declared.commands.store.FlagStore.{FlagStore}
use Rattle.mur_model.specs.declared.view.View.{View}
use Rattle.mur_model.specs.Act.{work_on}
use Rattle.mur_model.specs.Append.{append_on, append_to, append_reply}
use Rattle.mur_model.specs.ClientView.{uids}
use Rattle.mur_model.specs.Create.{create_on, make}
use Rattle.mur_model.specs.Delete.{delete_on}
use Rattle.mur_model.specs.Expunge.{expunge_at, expunge_name}
use Rattle.mur_model.specs.Fetch.{fetch_at, fetch_told, fetch_name, fetch_lines, items_told, sees, seen_flags}
use Rattle.mur_model.specs.Left.{Worked, kept, changed}
use Rattle.mur_model.specs.News.{news, flag_parts}
use Rattle.mur_model.specs.Select.{closed_lines, flags_of, keywords_in, permanent_reply_line, select_lines, select_name}
use Rattle.mur_model.specs.Select.{select_on, system_flags, unselected}
use Rattle.mur_model.specs.Search.{found_uids, numbers_told, search_at, search_name}
use Rattle.mur_model.specs.Selected.{rows_of, with_news}
use Rattle.mur_model.specs.Status.{status_on, status_reply}
use Rattle.mur_model.specs.StoreFlags.{stored_at, store_name, own_lines}
use Rattle.mur_model.specs.Close.{close_at, left_by}
use Rattle.mur_model.specs.Noop.{news_at, news_name}
use Rattle.mur_model.specs.Viewing.{found_gone, viewed_on, work_there}
use Rattle.imap_talk.specs.SoundRequests.{IsSoundMessage, IsSoundBox}
use Rattle.imap_reply.specs.SoundTexts.{IsSoundFlag, IsSoundLine, IsSoundVerdict}
use Rattle.imap_talk.proofs.SoundStores.{HasRuledName, IsKeyword, IsSoundRow, IsSoundLeft, appended_is, changes_are, expunged_is, keywords_are, messages_found, rows_are}
use Rattle.imap_talk.proofs.SoundStores.{stored_is}
use Rattle.imap_talk.proofs.TurnLines.{OfLines, each_fetch, each_news, each_own, fetched}

pub record SoundReply (reply : Reply) : Type 0 where
  pub lines : All IsSoundLine reply.lines
  pub verdict : IsSoundVerdict reply.verdict

-- at the mailbox of this name
pub record SoundWorked (name : List ℕ) (worked : Worked) : Type 0 where
  pub left : IsSoundLeft name worked.left
  pub reply : SoundReply (worked.turn).reply

-- what is told of a mailbox

row_parts : (by_uid : Bool) (row : Row) → IsSoundRow row → All IsPart (flag_parts by_uid row)
row_parts true row is = All-from_recursion IsPart (flag_parts true row) (uid_is_part row.uid, (flags_is_part row.flags is, tt))
row_parts false row is = All-from_recursion IsPart (flag_parts false row) (flags_is_part row.flags is, tt)

of_lines : OfLines IsSoundLine IsSoundRow
unfolding IsSoundLine
of_lines = record { exists = λ count. tt; expunge = λ number. tt; flags = λ by_uid number row is. row_parts by_uid row is }

All-true : {X : Type 0} (P : X → Type 0) (items : List X) → ((item : X) → P item) → All P items
All-true P [] each = All-nil P
All-true P (item ∷ items) each = All-cons P item items (each item) (All-true P items each)

fetched_sound : (it : Fetching) (number : ℕ) (message : Message) (row : Row) (changes : Bool) → IsSoundMessage message → IsSoundRow row
    → IsSoundLine (fetched it number message row changes)
unfolding IsSoundLine
fetched_sound it number message row changes one is =
    All-map IsPart (λ asked. part_text asked (relabelled message row.flags)) (items_told it changes)
    (All-true (λ asked. IsPart (part_text asked (relabelled message row.flags))) (items_told it changes)
    (λ asked. item_is_part asked (relabelled message row.flags) is one.dated one.counted))

news_sound : (view : View) (lines : List ReplyLine) (now : List Row) (expunges : Bool) (known : List ℕ) (verdict : Verdict) → All IsSoundLine lines
    → All IsSoundRow now → IsSoundVerdict verdict → SoundReply (with_news view lines (news view.rows now expunges known) verdict).reply
news_sound view lines now expunges known verdict own all last = record {
  lines = All-append IsSoundLine lines (news view.rows now expunges known).lines own
      (each_news IsSoundLine IsSoundRow of_lines view.rows now expunges known all);
  verdict = last;
}

pub closed_sound : (was_selected : Bool) → All IsSoundLine (closed_lines was_selected)
unfolding IsSoundLine
closed_sound true = All-cons IsSoundLine Closed [] tt (All-nil IsSoundLine)
closed_sound false = All-nil IsSoundLine

pub unselected_sound : (user : List ℕ) (was_selected : Bool) (why : NoText) → SoundReply (unselected user was_selected why).reply
unfolding IsSoundVerdict
unselected_sound user was_selected why = record { lines = closed_sound was_selected; verdict = tt }

flags_sound : (keywords : List (List ℕ)) → All IsKeyword keywords → All IsSoundFlag (flags_of keywords)
unfolding IsSoundFlag
flags_sound keywords all =
    All-append IsSoundFlag system_flags (map Keyword keywords)
    (All-from_recursion IsSoundFlag system_flags (tt, (tt, (tt, (tt, (tt, tt))))))
    (All-map IsSoundFlag Keyword keywords all)

permanent_sound : (is_writable : Bool) (keywords : List (List ℕ)) → All IsKeyword keywords → IsSoundLine (permanent_reply_line is_writable keywords)
unfolding IsSoundLine
permanent_sound true keywords all = flags_sound keywords all
permanent_sound false keywords all = All-nil IsSoundFlag

-- the lines of a mailbox that is selected
abbrev lines_of : Opening → Snapshot → List ReplyLine
lines_of it seen =
    Flags (flags_of (keywords_in seen.rows)) ∷ Exists (length seen.rows) ∷ Listed no_attribute it.shown
    ∷ permanent_reply_line it.is_writable (keywords_in seen.rows) ∷ UidNext seen.next ∷ UidValidity seen.serial ∷ []

opened_sound : (it : Opening) (seen : Snapshot) → IsPlain it.shown → All IsSoundRow seen.rows → All IsSoundLine (select_lines it seen)
unfolding IsSoundLine
opened_sound it seen plain all =
    All-append IsSoundLine (closed_lines it.was_selected) (lines_of it seen) (closed_sound it.was_selected)
    (All-from_recursion IsSoundLine (lines_of it seen) (
      flags_sound (keywords_in seen.rows) (keywords_are seen.rows all),
      (tt, (plain, (permanent_sound it.is_writable (keywords_in seen.rows) (keywords_are seen.rows all), (tt, (tt, tt))))),
    ))

-- names of commands

select_plain : (is_writable : Bool) → IsPlain (select_name is_writable)
select_plain true = refl
select_plain false = refl

expunge_plain : (only : Option (List ℕ)) → IsPlain (expunge_name only)
expunge_plain None = refl
expunge_plain (Some uids) = refl

store_plain : (by_uid : Bool) → IsPlain (store_name by_uid)
store_plain true = refl
store_plain false = refl

fetch_plain : (by_uid : Bool) → IsPlain (fetch_name by_uid)
fetch_plain true = refl
fetch_plain false = refl

-- the work at a mailbox

abbrev pub SoundViewWork : ViewWork → Type 0
SoundViewWork (view_work.News why) = ⊤
SoundViewWork view_work.Close = ⊤
SoundViewWork (view_work.Expunge only) = ⊤
SoundViewWork (view_work.Store it) = HasRuledKeywords it.flags
SoundViewWork (view_work.Fetch it) = ⊤
SoundViewWork (view_work.Search it) = ⊤

-- a mailbox that is made has a name by the rules
abbrev pub SoundWork : List ℕ → Work → Type 0
SoundWork name Make = HasRuledName name
SoundWork name Delete = ⊤
SoundWork name (append_work message) = IsSoundMessage message
SoundWork name (status_work shown items) = IsPlain shown
SoundWork name (select_work it) = IsPlain it.shown
SoundWork name (viewed_work view work) = SoundViewWork work

made_sound : (name : List ℕ) (serial : ℕ) (full : Bool) → HasRuledName name → SoundWorked name (make name serial full)
unfolding make IsSoundVerdict
made_sound name serial true named = record { left = tt; reply = record { lines = All-nil IsSoundLine; verdict = tt } }
made_sound name serial false named = record { left = (named, All-nil IsSoundMessage); reply = record { lines = All-nil IsSoundLine; verdict = refl } }

created_sound : (name : List ℕ) (serial : ℕ) (full : Bool) (box : Option Content) → HasRuledName name → SoundWorked name (create_on name serial full box)
unfolding create_on IsSoundVerdict
created_sound name serial full (Some there) named = record { left = tt; reply = record { lines = All-nil IsSoundLine; verdict = tt } }
created_sound name serial full None named = made_sound name serial full named

deleted_sound : {name : List ℕ} (box : Option Content) → SoundWorked name (delete_on box)
unfolding delete_on IsSoundVerdict
deleted_sound None = record { left = tt; reply = record { lines = All-nil IsSoundLine; verdict = tt } }
deleted_sound (Some there) = record { left = tt; reply = record { lines = All-nil IsSoundLine; verdict = refl } }

appended_by : {name : List ℕ} (message : Message) (box : Content) (fault : Option StoreFault) → IsSoundMessage message → IsSoundBox box
    → SoundWorked name (append_to message box fault)
unfolding append_to append_reply IsSoundVerdict
appended_by message box (Some fault) is all = record { left = tt; reply = record { lines = All-nil IsSoundLine; verdict = tt } }
appended_by message box None is all = record { left = appended_is box message is all; reply = record { lines = All-nil IsSoundLine; verdict = refl } }

appended_sound : {name : List ℕ} (message : Message) (box : Option Content) → IsSoundMessage message → IfSome box IsSoundBox → SoundWorked name (append_on message box)
unfolding append_on IsSoundVerdict
appended_sound message None is all = record { left = tt; reply = record { lines = All-nil IsSoundLine; verdict = tt } }
appended_sound message (Some box) is all = appended_by message box (append_fault box (message ∷ [])) is all

counted_sound : {name : List ℕ} (shown : List ℕ) (items : List StatusItem) (box : Option Content) → IsPlain shown → SoundWorked name (status_on shown items box)
unfolding status_on status_reply IsSoundLine IsSoundVerdict
counted_sound shown items None plain = record { left = tt; reply = record { lines = All-nil IsSoundLine; verdict = tt } }
counted_sound shown items (Some box) plain =
    record { left = tt; reply = record { lines = All-cons IsSoundLine _ [] plain (All-nil IsSoundLine); verdict = refl } }

selected_sound : (it : Opening) (name : List ℕ) (box : Option Content) → IsPlain it.shown → IfSome box IsSoundBox → SoundWorked name (select_on it name box)
unfolding select_on IsSoundVerdict
selected_sound it name None plain all = record { left = tt; reply = unselected_sound it.user it.was_selected NonExistent }
selected_sound it name (Some box) plain all =
    record { left = tt; reply = record { lines = opened_sound it (snapshot_of box) plain (rows_are box all); verdict = select_plain it.is_writable } }

either_sound : {name : List ℕ} (test : Bool) (one other : Worked) → SoundWorked name one → SoundWorked name other → SoundWorked name (if test then one else other)
either_sound true one other is is_other = is
either_sound false one other is is_other = is_other

gone_sound : {name : List ℕ} → SoundWorked name found_gone
unfolding IsSoundLine IsSoundVerdict
gone_sound = record { left = tt; reply = record { lines = All-cons IsSoundLine (Bye Gone) [] tt (All-nil IsSoundLine); verdict = tt } }

news_plain : (why : NewsFor) → IsPlain (news_name why)
unfolding news_name
news_plain news_for.Noop = refl
news_plain news_for.Idle = refl

news_work_sound : {name : List ℕ} (view : View) (why : NewsFor) (box : Content) → IsSoundBox box → SoundWorked name (news_at view why box)
unfolding IsSoundVerdict
news_work_sound view why box all =
    record { left = tt; reply = news_sound view [] (rows_of box) true [] _ (All-nil IsSoundLine) (rows_are box all) (news_plain why) }

pub left_sound : (view : View) (name : List ℕ) → IsPlain name → SoundReply (left_by view name).reply
unfolding IsSoundVerdict
left_sound view name plain = record { lines = All-nil IsSoundLine; verdict = plain }

close_sound : {name : List ℕ} (view : View) (box : Content) → IsSoundBox box → SoundWorked name (close_at view box)
close_sound view box all = record { left = expunged_is box None all; reply = left_sound view (codes "CLOSE") refl }

expunge_sound : {name : List ℕ} (view : View) (only : Option (List ℕ)) (box : Content) → IsSoundBox box → SoundWorked name (expunge_at view only box)
unfolding IsSoundVerdict
expunge_sound view only box all =
    let after = expunged_is box only all in
    record {
      left = after;
      reply = news_sound view [] (rows_of (expunged box only)) true [] _ (All-nil IsSoundLine)
          (rows_are (expunged box only) after) (expunge_plain only);
    }

stored_sound : {name : List ℕ} (view : View) (it : FlagStore) (box : Content) (many : Bool) → HasRuledKeywords it.flags → IsSoundBox box
    → SoundWorked name (stored_at view it box many)
unfolding IsSoundVerdict
stored_sound view it box true ruled all =
    record { left = tt; reply = news_sound view [] (rows_of box) it.by_uid [] _ (All-nil IsSoundLine) (rows_are box all) tt }
stored_sound view it box false ruled all =
    let rows = rows_stored box it.uids it.mode it.flags in
    let box_after = stored box it.uids it.mode it.flags in
    let after = stored_is box it.uids it.mode it.flags ruled all in
    record {
      left = after;
      reply = news_sound view (own_lines it rows view.rows) (rows_of box_after) it.by_uid _ _
          (each_own IsSoundLine IsSoundRow of_lines it rows view.rows (changes_are box it.uids it.mode it.flags ruled all)) (rows_are box_after after)
          (store_plain it.by_uid);
    }

told_sound : (view : View) (it : Fetching) (before : List Message) (now : List Row) → All IsSoundMessage before → All IsSoundRow now
    → SoundReply (fetch_told view it before now).reply
unfolding IsSoundVerdict
told_sound view it before now each all =
    news_sound view (fetch_lines it view.rows now before) now it.by_uid _ _
    (each_fetch IsSoundLine IsSoundRow IsSoundMessage it (fetched_sound it) view.rows now before all each) all (fetch_plain it.by_uid)

seen_ruled : HasRuledKeywords seen_flags
seen_ruled = All-nil (λ keyword. keyword_fault keyword ≡ None)

fetch_sound : {name : List ℕ} (view : View) (it : Fetching) (box : Content) → IsSoundBox box → SoundWorked name (fetch_at view it box)
fetch_sound view it box all =
    let before = messages_at box.messages it.uids in
    let each = messages_found box.messages it.uids all in
    let box_after = stored box it.uids Add seen_flags in
    let after = stored_is box it.uids Add seen_flags seen_ruled all in
    either_sound (sees view it) (record { left = changed box_after; turn = fetch_told view it before (rows_of box_after) })
    (record { left = kept; turn = fetch_told view it before (rows_of box) })
    (record { left = after; reply = told_sound view it before (rows_of box_after) each (rows_are box_after after) })
    (record { left = tt; reply = told_sound view it before (rows_of box) each (rows_are box all) })

search_plain : (by_uid : Bool) → IsPlain (search_name by_uid)
search_plain true = refl
search_plain false = refl

search_sound : {name : List ℕ} (view : View) (it : Searching) (box : Content) → IsSoundBox box → SoundWorked name (search_at view it box)
unfolding IsSoundLine IsSoundVerdict
search_sound view it box all =
    let numbers = numbers_told it.by_uid view.rows (found_uids it view.rows (map summary_of (messages_at box.messages (uids view.rows)))) in
    record {
      left = tt;
      reply = news_sound view (Search it.by_uid numbers ∷ []) (rows_of box) it.by_uid [] _
          (All-cons IsSoundLine (Search it.by_uid numbers) [] tt (All-nil IsSoundLine)) (rows_are box all) (search_plain it.by_uid);
    }

there_sound : {name : List ℕ} (view : View) (work : ViewWork) (box : Content) → SoundViewWork work → IsSoundBox box → SoundWorked name (work_there view work box)
unfolding work_there
there_sound view (view_work.News why) box sound all = news_work_sound view why box all
there_sound view view_work.Close box sound all = close_sound view box all
there_sound view (view_work.Expunge only) box sound all = expunge_sound view only box all
there_sound view (view_work.Store it) box sound all =
    stored_sound view it box (has_too_many_flags (rows_stored box it.uids it.mode it.flags)) sound all
there_sound view (view_work.Fetch it) box sound all = fetch_sound view it box all
there_sound view (view_work.Search it) box sound all = search_sound view it box all

view_sound : {name : List ℕ} (view : View) (work : ViewWork) (box : Option Content) → SoundViewWork work → IfSome box IsSoundBox → SoundWorked name (viewed_on view work box)
unfolding viewed_on
view_sound view work None sound all = gone_sound
view_sound view work (Some box) sound all =
    either_sound (box.serial == view.serial) (work_there view work box) found_gone (there_sound view work box sound all) gone_sound

pub work_sound : (name : List ℕ) (work : Work) (serial : ℕ) (full : Bool) (box : Option Content) → SoundWork name work → IfSome box IsSoundBox
    → SoundWorked name (work_on name work serial full box)
unfolding work_on
work_sound name Make serial full box sound all = created_sound name serial full box sound
work_sound name Delete serial full box sound all = deleted_sound box
work_sound name (append_work message) serial full box sound all = appended_sound message box sound all
work_sound name (status_work shown items) serial full box sound all = counted_sound shown items box sound
work_sound name (select_work it) serial full box sound all = selected_sound it name box sound all
work_sound name (viewed_work view it) serial full box sound all = view_sound view it box sound all
