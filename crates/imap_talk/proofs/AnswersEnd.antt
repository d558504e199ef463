-- An answer ends its connection exactly where the session behind it has ended.
use Rattle.std.proofs.Common.{◌≡◌, ℕ, ◌==◌, Bool, true, false, if◌then◌else◌, List, [], ◌∷◌, ◌++◌, map, refl, subst, codes}
use Rattle.std.proofs.Common.{Option, None, Some}
use Rattle.std.specs.Prelude.{All, ⊤}
use Rattle.std.proofs.lemmas.List.Elements.{All-nil, All-cons, All-append}
use Rattle.std.specs.List.{list_any}
use Rattle.std.proofs.lemmas.List.Folds.{list_any_none}
use Rattle.mail_message.specs.Boxes.{Content, messages_at, snapshot_of, summary_of}
use Rattle.mail_message.specs.declared.message.Message.{Message}
use Rattle.mail_message.specs.declared.message.Row.{Row}
use Rattle.mail_message.specs.declared.message.Snapshot.{Snapshot}
use Rattle.mail_message.specs.declared.message.Summary.{Summary}
use Rattle.mail_message.specs.declared.mode.Mode.TheVariants.{Add}
use Rattle.mail_store.specs.Append.{append_fault}
use Rattle.mail_store.specs.Expunge.{expunged}
use Rattle.mail_store.specs.Store.{stored, rows_stored, has_too_many_flags}
use Rattle.mail_store.specs.declared.fault.StoreFault.{StoreFault}
use Rattle.imap_types.specs.declared.command.Command.{Command}
use Rattle.imap_types.specs.declared.command.StatusItem.{StatusItem}
use Rattle.mur_model.specs.declared.commands.fetch.Fetching.{Fetching}
use Rattle.name_listing.specs.Found.{found_lines}
use Rattle.name_listing.specs.Listing.{Lines}
use Rattle.name_listing.specs.Told.{line_of}
use Rattle.mur_model.specs.declared.commands.list.Listing.{Listing}
use Rattle.mur_model.specs.Listing.{list_reply, shown_to}
use Rattle.mur_model.specs.Needed.{Needed, Turned, Work, Make, Delete, Append as append_work, Status as status_work, Select as select_work, Viewed as viewed_work}
use Rattle.mur_model.specs.declared.work.NewsFor.{NewsFor}
use Rattle.mur_model.specs.declared.work.ViewWork.{ViewWork}
use Rattle.mur_model.specs.declared.work.ViewWork.TheVariants as view_work
use Rattle.mur_model.specs.declared.news.Told.{Told}
use Rattle.imap_types.specs.declared.reply.NoText.{NoText}
use Rattle.imap_types.specs.declared.reply.NoText.TheVariants.{NonExistent}
use Rattle.imap_types.specs.declared.reply.ReplyLine.{ReplyLine}
use Rattle.imap_types.specs.declared.reply.ReplyLine.TheVariants.{Search}
use Rattle.imap_types.specs.declared.reply.Verdict.{Verdict}
use Rattle.imap_types.specs.declared.reply.Verdict.TheVariants.{No as no_reply}
use Rattle.mur_model.specs.declared.commands.search.Searching.{Searching}
use Rattle.mur_model.specs.declared.commands.select.Opening.{Opening}
use Rattle.mur_model.specs.declared.session.Sess.{Sess}
use Rattle.mur_model.specs.declared.session.Turn.{Turn}
use Rattle.mur_model.specs.declared.setting.Setting.{Setting}
use Rattle.mur_model.specs.declared.store.Store.{Store}
use Rattle.mur_model.specs.declared.commands.store.FlagStore.{FlagStore}
use Rattle.mur_model.specs.declared.view.View.{View}
use Rattle.mur_model.specs.Act.{work_on, worked_at, session_after}
use Rattle.mur_model.specs.Act.{need_of}
use Rattle.mur_model.specs.Append.{append_on, append_to, append_reply}
use Rattle.mur_model.specs.ClientView.{uids}
use Rattle.mur_model.specs.Close.{left_by}
use Rattle.mur_model.specs.Create.{create_on, make}
use Rattle.mur_model.specs.Delete.{delete_on}
use Rattle.mur_model.specs.Expunge.{expunge_told}
use Rattle.mur_model.specs.Fetch.{fetch_at, fetch_told, fetch_lines, sees, seen_flags}
use Rattle.mur_model.specs.Left.{Worked, replied, kept, changed}
use Rattle.mur_model.specs.News.{news}
use Rattle.mur_model.specs.Noop.{news_told}
use Rattle.imap_types.specs.Reply.{reply_of}
use Rattle.mur_model.specs.Select.{select_on, select_told, unselected}
use Rattle.mur_model.specs.Search.{search_told}
use Rattle.mur_model.specs.Selected.{gone, rows_of, with_news}
use Rattle.mur_model.specs.Status.{status_on, status_reply}
use Rattle.mur_model.specs.Store.{box_at, is_full}
use Rattle.mur_model.specs.StoreFlags.{stored_at, store_told, store_refused, own_lines}
use Rattle.mur_model.specs.Viewing.{found_gone, viewed_on, work_there}
use Rattle.mur_model.proofs.EachNeed.{OfAnswers, OfWorks, each_by_works, of_refusals}
use Rattle.imap_talk.specs.SessionEnds.{has_ended, ends_session, TurnEnds}
use Rattle.imap_talk.specs.Transcript.{is_bye, ends}
use Rattle.imap_talk.proofs.TurnLines.{OfLines, each_news, each_own, each_fetch}

-- what is told of a mailbox

abbrev IsNoBye : ReplyLine → Type 0
IsNoBye line = is_bye line ≡ false

abbrev IsAny : {X : Type 0} → X → Type 0
IsAny item = ⊤

any_all : {X : Type 0} (items : List X) → All IsAny items
any_all items = λ k d within. tt

of_lines : OfLines IsNoBye IsAny
unfolding is_bye
of_lines = record { exists = λ count. refl; expunge = λ number. refl; flags = λ by_uid number row is. refl }

told_ends : (view : View) (lines : List ReplyLine) (told : Told) (verdict : Verdict) → All IsNoBye lines → All IsNoBye told.lines
    → TurnEnds (with_news view lines told verdict)
unfolding ends
told_ends view lines told verdict own others = list_any_none is_bye (lines ++ told.lines) (All-append IsNoBye lines told.lines own others)

pub news_ends : (view : View) (lines : List ReplyLine) (now : List Row) (expunges : Bool) (known : List ℕ) (verdict : Verdict) → All IsNoBye lines
    → TurnEnds (with_news view lines (news view.rows now expunges known) verdict)
news_ends view lines now expunges known verdict own =
    told_ends view lines (news view.rows now expunges known) verdict own (each_news IsNoBye IsAny of_lines view.rows now expunges known (any_all now))

pub news_told_ends : (view : View) (why : NewsFor) (now : List Row) → TurnEnds (news_told view why now)
news_told_ends view why now = news_ends view [] now true [] _ (All-nil IsNoBye)

pub expunge_ends : (view : View) (only : Option (List ℕ)) (now : List Row) → TurnEnds (expunge_told view only now)
expunge_ends view only now = news_ends view [] now true [] _ (All-nil IsNoBye)

pub store_ends : (view : View) (it : FlagStore) (changes now : List Row) → TurnEnds (store_told view it changes now)
store_ends view it changes now =
    news_ends view (own_lines it changes view.rows) now it.by_uid _ _ (each_own IsNoBye IsAny of_lines it changes view.rows (any_all changes))

pub refusal_ends : (view : View) (it : FlagStore) (now : List Row) → TurnEnds (store_refused view it now)
refusal_ends view it now = news_ends view [] now it.by_uid [] _ (All-nil IsNoBye)

pub fetch_ends : (view : View) (it : Fetching) (before : List Message) (now : List Row) → TurnEnds (fetch_told view it before now)
unfolding is_bye
fetch_ends view it before now =
    news_ends view (fetch_lines it view.rows now before) now it.by_uid _ _
    (each_fetch IsNoBye IsAny IsAny it (λ number message row changes one is. refl) view.rows now before (any_all now) (any_all before))

pub search_ends : (view : View) (it : Searching) (messages : List Summary) (now : List Row) → TurnEnds (search_told view it messages now)
unfolding is_bye
search_ends view it messages now =
    news_ends view (Search it.by_uid _ ∷ []) now it.by_uid [] _ (All-cons IsNoBye (Search it.by_uid _) [] refl (All-nil IsNoBye))

pub select_ends : (it : Opening) (name : List ℕ) (seen : Snapshot) → TurnEnds (select_told it name seen)
unfolding ends is_bye
select_ends it name seen = by it.was_selected it.is_writable
  where
    by : (was_selected is_writable : Bool) → TurnEnds (select_told (record it { was_selected = was_selected; is_writable = is_writable }) name seen)
    by true true = refl
    by true false = refl
    by false true = refl
    by false false = refl

pub unselected_ends : (user : List ℕ) (was_selected : Bool) (why : NoText) → TurnEnds (unselected user was_selected why)
unfolding ends is_bye
unselected_ends user true why = refl
unselected_ends user false why = refl

pub left_ends : (view : View) (name : List ℕ) → TurnEnds (left_by view name)
unfolding ends
left_ends view name = refl

-- a reply that has a tagged line alone
pub plain_ends : (verdict : Verdict) → TurnEnds (replied (reply_of verdict))
unfolding ends
plain_ends verdict = refl

pub count_ends : (shown : List ℕ) (items : List StatusItem) (seen : Snapshot) → TurnEnds (replied (status_reply shown items seen))
unfolding status_reply is_bye ends
count_ends shown items seen = refl

-- the work at a mailbox

made_ends : (name : List ℕ) (serial : ℕ) (full : Bool) → TurnEnds (make name serial full).turn
unfolding make ends
made_ends name serial true = refl
made_ends name serial false = refl

created_ends : (name : List ℕ) (serial : ℕ) (full : Bool) (box : Option Content) → TurnEnds (create_on name serial full box).turn
unfolding create_on ends
created_ends name serial full (Some there) = refl
created_ends name serial full None = made_ends name serial full

deleted_ends : (box : Option Content) → TurnEnds (delete_on box).turn
unfolding delete_on ends
deleted_ends None = refl
deleted_ends (Some there) = refl

appended_by : (message : Message) (box : Content) (fault : Option StoreFault) → TurnEnds (append_to message box fault).turn
unfolding append_to append_reply ends
appended_by message box (Some fault) = refl
appended_by message box None = refl

appended_ends : (message : Message) (box : Option Content) → TurnEnds (append_on message box).turn
unfolding append_on ends
appended_ends message None = refl
appended_ends message (Some box) = appended_by message box (append_fault box (message ∷ []))

counted_ends : (shown : List ℕ) (items : List StatusItem) (box : Option Content) → TurnEnds (status_on shown items box).turn
unfolding status_on
counted_ends shown items None = plain_ends (no_reply NonExistent)
counted_ends shown items (Some box) = count_ends shown items (snapshot_of box)

selected_ends : (it : Opening) (name : List ℕ) (box : Option Content) → TurnEnds (select_on it name box).turn
unfolding select_on
selected_ends it name None = unselected_ends it.user it.was_selected _
selected_ends it name (Some box) = select_ends it name (snapshot_of box)

either_ends : (test : Bool) (one other : Worked) → TurnEnds one.turn → TurnEnds other.turn → TurnEnds (if test then one else other).turn
either_ends true one other is is_other = is
either_ends false one other is is_other = is_other

pub gone_ends : TurnEnds gone
unfolding is_bye ends
gone_ends = refl

stored_ends : (view : View) (it : FlagStore) (box : Content) (many : Bool) → TurnEnds (stored_at view it box many).turn
stored_ends view it box true = refusal_ends view it (rows_of box)
stored_ends view it box false =
    store_ends view it (rows_stored box it.uids it.mode it.flags) (rows_of (stored box it.uids it.mode it.flags))

fetched_ends : (view : View) (it : Fetching) (box : Content) → TurnEnds (fetch_at view it box).turn
fetched_ends view it box =
    let before = messages_at box.messages it.uids in
    let after = stored box it.uids Add seen_flags in
    either_ends (sees view it) (record { left = changed after; turn = fetch_told view it before (rows_of after) })
    (record { left = kept; turn = fetch_told view it before (rows_of box) })
    (fetch_ends view it before (rows_of after)) (fetch_ends view it before (rows_of box))

there_ends : (view : View) (work : ViewWork) (box : Content) → TurnEnds (work_there view work box).turn
unfolding work_there
there_ends view (view_work.News why) box = news_told_ends view why (rows_of box)
there_ends view view_work.Close box = left_ends view (codes "CLOSE")
there_ends view (view_work.Expunge only) box = expunge_ends view only (rows_of (expunged box only))
there_ends view (view_work.Store it) box = stored_ends view it box (has_too_many_flags (rows_stored box it.uids it.mode it.flags))
there_ends view (view_work.Fetch it) box = fetched_ends view it box
there_ends view (view_work.Search it) box = search_ends view it (map summary_of (messages_at box.messages (uids view.rows))) (rows_of box)

view_ends : (view : View) (work : ViewWork) (box : Option Content) → TurnEnds (viewed_on view work box).turn
unfolding viewed_on
view_ends view work None = gone_ends
view_ends view work (Some box) =
    either_ends (box.serial == view.serial) (work_there view work box) found_gone (there_ends view work box) gone_ends

pub work_ends : (name : List ℕ) (work : Work) (serial : ℕ) (full : Bool) (box : Option Content) → TurnEnds (work_on name work serial full box).turn
unfolding work_on
work_ends name Make serial full box = created_ends name serial full box
work_ends name Delete serial full box = deleted_ends box
work_ends name (append_work message) serial full box = appended_ends message box
work_ends name (status_work shown items) serial full box = counted_ends shown items box
work_ends name (select_work it) serial full box = selected_ends it name box
work_ends name (viewed_work view it) serial full box = view_ends view it box

pub worked_ends : (store : Store) (name : List ℕ) (work : Work) (serial : ℕ) → TurnEnds (worked_at store name work serial).turn
worked_ends store name work serial = work_ends name work serial (is_full store) (box_at store name)

-- the lines of a LIST

lines_end : (lines : Lines) → list_any is_bye (map line_of lines) ≡ false
unfolding is_bye
lines_end [] = refl
lines_end (told ∷ lines) = lines_end lines

-- its reply doesn't end the session
pub list_ends : (it : Listing) (names : List (List ℕ)) → ends (list_reply it names) ≡ false
unfolding ends list_reply
list_ends it names = lines_end (found_lines it.pattern (shown_to it names))

-- what a command needs

-- what comes of a command at once
abbrev pub NeedEnds : Needed → Type 0
NeedEnds (Turned turn) = TurnEnds turn
NeedEnds need = ⊤

answers_end : OfAnswers NeedEnds
unfolding is_bye ends
answers_end = of_refusals (λ verdict. tt) (λ name plain. refl) (λ name user plain. refl) refl refl

works_end : OfWorks NeedEnds
unfolding is_bye ends
works_end = record {
  answers = answers_end;
  enable = refl;
  separator = refl;
  names = λ it. tt;
  unselected = unselected_ends;
  left = λ view name plain. left_ends view name;
  work = λ name it. tt;
}

pub need_ends : (setting : Setting) (session : Sess) (it : Command) → NeedEnds (need_of setting session it)
need_ends setting session it = each_by_works setting works_end session it

pub turned_ends : (setting : Setting) (session : Sess) (it : Command) (turn : Turn) → need_of setting session it ≡ Turned turn → TurnEnds turn
turned_ends setting session it turn is = subst NeedEnds is (need_ends setting session it)

-- what comes of it

-- the session behind a turn has ended where the turn ends it, as it hadn't before
pub ended_by : (session : Sess) (later : Option Sess) → has_ended session ≡ false → has_ended (session_after session later) ≡ ends_session later
ended_by session None goes_on = goes_on
ended_by session (Some later) goes_on = refl
