-- What comes of a command leaves its client knowing the numbers of the view.
use Rattle.std.proofs.Common.{◌≡◌, ℕ, ◌+◌, ◌-◌, Bool, true, false, if◌then◌else◌, List, [], ◌∷◌, ◌++◌, length, replicate, Option, None, Some}
use Rattle.std.proofs.Common.{refl, sym, ◌∙◌, ap, subst, arith}
use Rattle.std.proofs.lemmas.Grind.{common_steps}
use Rattle.std.proofs.lemmas.List.{length-map}
use Rattle.std.specs.Option.{IfSome, option_map}
use Rattle.session_core.specs.declared.result.OpResult.{OpResult}
use Rattle.session_core.specs.declared.result.OpResult.TheVariants.{Done, Missing}
use Rattle.link_msg.specs.declared.outcome.Outcome.{Outcome}
use Rattle.link_msg.specs.declared.outcome.Outcome.TheVariants.{None as nothing, Messages, Summaries, Rows, Uids, Exists, Limit as full, Gone}
use Rattle.mail_message.specs.declared.item.Item.{Item}
use Rattle.mail_message.specs.declared.message.Message.{Message}
use Rattle.mail_message.specs.declared.message.Row.{Row}
use Rattle.mail_message.specs.declared.message.Snapshot.{Snapshot}
use Rattle.mail_message.specs.declared.message.Summary.{Summary}
use Rattle.mail_message.specs.RowOrder.{row_at}
use Rattle.imap_types.specs.declared.command.Command.{Command}
use Rattle.imap_types.specs.declared.command.StatusItem.{StatusItem}
use Rattle.mur_model.specs.Needed.{Needed, Refusal, Turned, Mailbox, Names}
use Rattle.mur_model.specs.declared.setting.Setting.{Setting}
use Rattle.mur_model.specs.declared.commands.fetch.Fetching.{Fetching}
use Rattle.mur_model.specs.declared.work.ViewWork.{ViewWork}
use Rattle.mur_model.specs.declared.work.ViewWork.TheVariants.{News, Close, Expunge, Store, Fetch, Search}
use Rattle.imap_types.specs.declared.reply.Reply.{Reply}
use Rattle.imap_types.specs.declared.reply.ReplyLine.{ReplyLine}
use Rattle.mur_model.specs.declared.commands.search.Searching.{Searching}
use Rattle.mur_model.specs.declared.commands.select.Opening.{Opening}
use Rattle.mur_model.specs.declared.session.Sess.{Sess}
use Rattle.mur_model.specs.declared.session.Sess.TheVariants.{Off, In, Selected, Ended}
use Rattle.mur_model.specs.declared.session.Turn.{Turn}
use Rattle.mur_model.specs.declared.commands.store.FlagStore.{FlagStore}
use Rattle.mur_model.specs.declared.view.View.{View}
use Rattle.mur_model.specs.Act.{need_of, session_after}
use Rattle.mur_model.specs.ClientView.{Agrees, Known, known_after, known_after_all, uids}
use Rattle.mur_model.specs.Fetch.{fetch_reply_line, fetch_lines, items_told, number_in}
use Rattle.mur_model.specs.FetchRows.{row_line, row_lines}
use Rattle.mur_model.specs.FetchSummaries.{summary_line, summary_lines}
use Rattle.mur_model.specs.Left.{replied}
use Rattle.mur_model.specs.News.{news}
use Rattle.mur_model.specs.Search.{search_reply_line}
use Rattle.mur_model.specs.SearchRows.{bare_at}
use Rattle.mur_model.specs.Select.{select_told}
use Rattle.mur_model.specs.Status.{status_reply as reply_with_counts}
use Rattle.mur_model.specs.Append.{append_reply as reply_with_uid}
use Rattle.mur_model.specs.StoreFlags.{own_lines, stored_line, stored_lines}
use Rattle.mur_model.proofs.ClientLaw.{after_both, news_agree, nothing_known}
use Rattle.mur_model.specs.declared.need.Awaited.{Awaited}
use Rattle.mur_model.specs.declared.need.Awaited.TheVariants as awaits
use Rattle.session_core.proofs.AtOnceLaw.{AreStill, IsQuiet, LeavesQuietly, need_quiet}
use Rattle.session_core.specs.Append as append
use Rattle.session_core.specs.Create as create
use Rattle.session_core.specs.Delete as delete
use Rattle.session_core.specs.Finish.{Finished, finished_by, turn_of}
use Rattle.mur_model.specs.declared.need.Need.{Need}
use Rattle.mur_model.specs.declared.need.Begun.{Begun}
use Rattle.mur_model.specs.Need.{begun_of, told_with}
use Rattle.session_core.specs.Need.{Behind, session_behind, begun_by_need, told_reply}
use Rattle.session_core.specs.Numbers.{Knows, KnowsBehind, known_before}
use Rattle.session_core.specs.Select as select
use Rattle.session_core.specs.Status as status
use Rattle.session_core.specs.Viewed.{viewed_done, viewed_in, viewed_told, viewed_turn}

both_still : (lines more : List ReplyLine) → AreStill lines → AreStill more → AreStill (lines ++ more)
both_still lines more one other known = after_both known lines more ∙ ap (λ k. known_after_all k more) (one known) ∙ other known

fetched_still : (it : Fetching) (message : Message) (number : Option ℕ) (row : Option Row) → AreStill (fetch_reply_line it message number row)
unfolding known_after
fetched_still it message None row known = refl
fetched_still it message (Some number) None known = refl
fetched_still it message (Some number) (Some row) known = refl

fetch_still : (it : Fetching) (rows now : List Row) (before : List Message) → AreStill (fetch_lines it rows now before)
fetch_still it rows now [] known = refl
fetch_still it rows now (message ∷ before) known =
    both_still (fetch_reply_line it message (number_in rows message.uid) (row_at now message.uid)) (fetch_lines it rows now before)
    (fetched_still it message (number_in rows message.uid) (row_at now message.uid)) (fetch_still it rows now before) known

line_still : (by_uid : Bool) (number : ℕ) (row : Option Row) → AreStill (stored_line by_uid number row)
unfolding known_after
line_still by_uid number None known = refl
line_still by_uid number (Some row) known = refl

stored_still : (by_uid : Bool) (changes : List Row) (number : ℕ) (rows : List Row) → AreStill (stored_lines by_uid changes number rows)
stored_still by_uid changes number [] known = refl
stored_still by_uid changes number (row ∷ rows) known =
    both_still (stored_line by_uid number (row_at changes row.uid)) (stored_lines by_uid changes (number + 1) rows)
    (line_still by_uid number (row_at changes row.uid)) (stored_still by_uid changes (number + 1) rows) known

unless_still : (silent : Bool) (lines : List ReplyLine) → AreStill lines → AreStill (if silent then [] else lines)
unless_still true lines still known = refl
unless_still false lines still known = still known

own_still : (it : FlagStore) (changes rows : List Row) → AreStill (own_lines it changes rows)
own_still it changes rows = unless_still it.is_silent (stored_lines it.by_uid changes 1 rows) (stored_still it.by_uid changes 1 rows)

row_still : (items : List Item) (number : Option ℕ) (row : Option Row) → AreStill (row_line items number row)
unfolding known_after
row_still items None row known = refl
row_still items (Some number) None known = refl
row_still items (Some number) (Some row) known = refl

rows_still : (items : List Item) (rows now : List Row) (uids : List ℕ) → AreStill (row_lines items rows now uids)
rows_still items rows now [] known = refl
rows_still items rows now (uid ∷ uids) known =
    both_still (row_line items (number_in rows uid) (row_at now uid)) (row_lines items rows now uids)
    (row_still items (number_in rows uid) (row_at now uid)) (rows_still items rows now uids) known

summary_still : (items : List Item) (summary : Summary) (number : Option ℕ) → AreStill (summary_line items summary number)
unfolding known_after
summary_still items summary None known = refl
summary_still items summary (Some number) known = refl

summaries_still : (items : List Item) (rows : List Row) (summaries : List Summary) → AreStill (summary_lines items rows summaries)
summaries_still items rows [] known = refl
summaries_still items rows (summary ∷ summaries) known =
    both_still (summary_line items summary (number_in rows summary.uid)) (summary_lines items rows summaries)
    (summary_still items summary (number_in rows summary.uid)) (summaries_still items rows summaries) known

-- what the client knows behind a reply, and the session behind it
abbrev Leaves : Known → Sess → Reply → Option Sess → Type 0
Leaves known session reply later = Knows (known_after_all known reply.lines) (session_after session later)

abbrev TurnLeaves : Known → Sess → Turn → Type 0
TurnLeaves known session turn = Leaves known session turn.reply turn.session

-- a reply whose lines change no number leaves the session as it was
still_leaves : (known : Known) (session : Sess) (reply : Reply) → AreStill reply.lines → Knows known session → Leaves known session reply None
still_leaves known session reply still knows = subst (λ k. Knows k session) (sym (still known)) knows

-- the news tell of what has changed
news_leave : (known : Known) (view : View) (lines : List ReplyLine) (now : List Row) (expunges : Bool) (told_already : List ℕ)
    → AreStill lines → Agrees known (uids view.rows)
    → (let session_behind = news view.rows now expunges told_already in
    Knows (known_after_all known (lines ++ session_behind.lines)) (Selected (record view { rows = session_behind.rows })))
unfolding Knows
news_leave known view lines now expunges told_already still agrees =
    let session_behind = news view.rows now expunges told_already in
    subst (λ k. Agrees k (uids session_behind.rows)) (sym (after_both known lines session_behind.lines ∙ ap (λ k. known_after_all k session_behind.lines) (still known)))
    (news_agree view.rows now expunges told_already known agrees)

none_still : AreStill []
none_still known = refl

search_still : (it : Searching) (rows : List Row) (messages : List Summary) → AreStill (search_reply_line it rows messages ∷ [])
unfolding known_after
search_still it rows messages known = refl

-- a command at the mailbox that is selected
viewed_leaves : (known : Known) (session : Sess) (view : View) (work : ViewWork) (outcome : Outcome) (seen : Snapshot) → Agrees known (uids view.rows)
    → IfSome (viewed_done view work outcome seen) (TurnLeaves known session)
unfolding viewed_done Knows
viewed_leaves known session view (News why) nothing seen agrees = news_leave known view [] seen.rows true [] none_still agrees
viewed_leaves known session view Close (Uids uids) seen agrees = tt
viewed_leaves known session view (Expunge only) (Uids uids) seen agrees = news_leave known view [] seen.rows true [] none_still agrees
viewed_leaves known session view (Store it) (Rows changes) seen agrees =
    news_leave known view (own_lines it changes view.rows) seen.rows it.by_uid _ (own_still it changes view.rows) agrees
viewed_leaves known session view (Store it) full seen agrees = news_leave known view [] seen.rows it.by_uid [] none_still agrees
viewed_leaves known session view (Fetch it) nothing seen agrees =
    news_leave known view (row_lines (items_told it false) view.rows seen.rows it.uids) seen.rows it.by_uid _
    (rows_still (items_told it false) view.rows seen.rows it.uids) agrees
viewed_leaves known session view (Fetch it) (Summaries summaries) seen agrees =
    news_leave known view (summary_lines (items_told it false) view.rows summaries) seen.rows it.by_uid _
    (summaries_still (items_told it false) view.rows summaries) agrees
viewed_leaves known session view (Fetch it) (Messages before) seen agrees =
    news_leave known view (fetch_lines it view.rows seen.rows before) seen.rows it.by_uid _ (fetch_still it view.rows seen.rows before) agrees
viewed_leaves known session view (Search it) nothing seen agrees =
    let messages : List Summary = bare_at seen.rows (uids view.rows) in
    news_leave known view (search_reply_line it view.rows messages ∷ []) seen.rows it.by_uid [] (search_still it view.rows messages) agrees
viewed_leaves known session view (Search it) (Summaries found) seen agrees =
    news_leave known view (search_reply_line it view.rows found ∷ []) seen.rows it.by_uid [] (search_still it view.rows found) agrees
viewed_leaves known session view work outcome seen agrees = tt

outcome_leaves : (known : Known) (session : Sess) (view : View) (work : ViewWork) (outcome : Outcome) (seen : Snapshot) → Agrees known (uids view.rows)
    → IfSome (viewed_told view work outcome seen) (TurnLeaves known session)
unfolding viewed_told Knows
outcome_leaves known session view work Gone seen agrees = tt
outcome_leaves known session view work outcome seen agrees = viewed_leaves known session view work outcome seen agrees

view_leaves : (known : Known) (session : Sess) (view : View) (work : ViewWork) (result : OpResult) → Agrees known (uids view.rows)
    → IfSome (viewed_turn view work result) (TurnLeaves known session)
unfolding viewed_turn Knows
view_leaves known session view work (Done outcome seen) agrees = outcome_leaves known session view work outcome seen agrees
view_leaves known session view work Missing agrees = tt

-- a mailbox that is selected: as many messages as its EXISTS says

selected_leaves : (session : Sess) (it : Opening) (name : List ℕ) (seen : Snapshot) → TurnLeaves [] session (select_told it name seen)
unfolding Knows known_after
selected_leaves session it name seen = by it.was_selected it.is_writable
  where
    same : length seen.rows - length {A = Option ℕ} [] ≡ length (uids seen.rows)
    same = grind (arith, common_steps, length-map seen.rows (λ (row : Row). row.uid))

    all : Agrees ([] ++ replicate (length seen.rows - length {A = Option ℕ} []) None) (uids seen.rows)
    all = subst (λ n. Agrees (replicate n None) (uids seen.rows)) (sym same) (nothing_known (uids seen.rows))

    by : (was_selected is_writable : Bool)
        → TurnLeaves [] session (select_told (record it { was_selected = was_selected; is_writable = is_writable }) name seen)
    by true true = all
    by true false = all
    by false true = all
    by false false = all

select_done_leaves : (session : Sess) (name : List ℕ) (it : Opening) (outcome : Outcome) (seen : Snapshot)
    → IfSome (select.select_done name it outcome seen) (TurnLeaves [] session)
unfolding select.select_done
select_done_leaves session name it nothing seen = selected_leaves session it name seen
select_done_leaves session name it outcome seen = tt

select_leaves : (session : Sess) (name : List ℕ) (it : Opening) (result : OpResult) → IfSome (select.select_turn name it result) (TurnLeaves [] session)
unfolding select.select_turn Knows
select_leaves session name it (Done outcome seen) = select_done_leaves session name it outcome seen
select_leaves session name it Missing = tt

-- the replies of other commands

abbrev HasStill : Reply → Type 0
HasStill reply = AreStill reply.lines

created_still : (result : OpResult) → IfSome (create.reply_to_create result) HasStill
unfolding create.reply_to_create create.reply_to_created
created_still (Done outcome seen) = by outcome
  where
    by : (outcome : Outcome) → IfSome (create.reply_to_created outcome) HasStill
    by nothing = none_still
    by Exists = none_still
    by full = none_still
    by outcome = tt
created_still Missing = tt

deleted_still : (result : OpResult) → IfSome (delete.reply_to_delete result) HasStill
unfolding delete.reply_to_delete delete.reply_to_deleted
deleted_still (Done outcome seen) = by outcome
  where
    by : (outcome : Outcome) → IfSome (delete.reply_to_deleted outcome) HasStill
    by nothing = none_still
    by outcome = tt
deleted_still Missing = none_still

appended_still : (result : OpResult) → IfSome (append.reply_to_append result) HasStill
unfolding append.reply_to_append append.reply_to_appended append.reply_to_uids reply_with_uid
appended_still (Done outcome seen) = by outcome
  where
    uids_still : (serial : ℕ) (uids : List ℕ) → IfSome (append.reply_to_uids serial uids) HasStill
    uids_still serial [] = tt
    uids_still serial (uid ∷ []) = none_still
    uids_still serial (uid ∷ other ∷ uids) = tt

    by : (outcome : Outcome) → IfSome (append.reply_to_appended outcome seen) HasStill
    by (Uids uids) = uids_still seen.serial uids
    by full = none_still
    by outcome = tt
appended_still Missing = none_still

counted_still : (shown : List ℕ) (items : List StatusItem) (result : OpResult) → IfSome (status.reply_to_status shown items result) HasStill
unfolding status.reply_to_status status.reply_to_counted reply_with_counts known_after
counted_still shown items (Done outcome seen) = by outcome
  where
    by : (outcome : Outcome) → IfSome (status.reply_to_counted shown items outcome seen) HasStill
    by nothing = λ known. refl
    by outcome = tt
counted_still shown items Missing = none_still

replied_leave : (known : Known) (session : Sess) (reply : Option Reply) → IfSome reply HasStill → Knows known session
    → IfSome (option_map replied reply) (TurnLeaves known session)
replied_leave known session None still knows = tt
replied_leave known session (Some reply) still knows = still_leaves known session reply still knows

viewed_in_leaves : (known : Known) (session : Sess) (work : ViewWork) (result : OpResult) → Knows known session
    → IfSome (viewed_in session work result) (TurnLeaves known session)
unfolding viewed_in Knows
viewed_in_leaves known (Selected view) work result knows = view_leaves known (Selected view) view work result knows
viewed_in_leaves known session work result knows = tt

turn_leaves : (known : Known) (session : Sess) (awaited : Awaited) (result : OpResult) → Knows known session
    → IfSome (turn_of session awaited result) (TurnLeaves (known_before awaited known) session)
unfolding turn_of known_before
turn_leaves known session awaits.Create result knows = replied_leave known session (create.reply_to_create result) (created_still result) knows
turn_leaves known session awaits.Delete result knows = replied_leave known session (delete.reply_to_delete result) (deleted_still result) knows
turn_leaves known session awaits.Append result knows = replied_leave known session (append.reply_to_append result) (appended_still result) knows
turn_leaves known session (awaits.Status shown items) result knows =
    replied_leave known session (status.reply_to_status shown items result) (counted_still shown items result) knows
turn_leaves known session (awaits.Select name it) result knows = select_leaves session name it result
turn_leaves known session (awaits.Viewed work) result knows = viewed_in_leaves known session work result knows

-- the same of what is needed

told_leaves : (known : Known) (session : Sess) (reply : Reply) (later : Option Sess) → Leaves known session reply later
    → let session_behind = told_reply session reply later in KnowsBehind known session_behind.session session_behind.need
unfolding told_with KnowsBehind
told_leaves known session reply None leaves = leaves
told_leaves known session reply (Some Off) leaves = leaves
told_leaves known session reply (Some (In user)) leaves = leaves
told_leaves known session reply (Some (Selected view)) leaves = leaves
told_leaves known session reply (Some Ended) leaves = leaves

finished_leaves : (known : Known) (session : Sess) (turn : Option Turn) → IfSome turn (TurnLeaves known session)
    → let session_behind = finished_by session turn in IfSome session_behind.need (KnowsBehind known session_behind.session)
unfolding finished_by
finished_leaves known session None leaves = tt
finished_leaves known session (Some turn) leaves = told_leaves known session turn.reply turn.session leaves

-- what comes of a command at once

quiet_leaves : (known : Known) (session : Sess) (reply : Reply) (later : Option Sess) → LeavesQuietly later reply → Knows known session
    → Leaves known session reply later
unfolding LeavesQuietly Knows
quiet_leaves known session reply None quiet knows = still_leaves known session reply quiet knows
quiet_leaves known session reply (Some Off) quiet knows = tt
quiet_leaves known session reply (Some (In user)) quiet knows = tt
quiet_leaves known session reply (Some (Selected view)) quiet knows = absurd quiet
quiet_leaves known session reply (Some Ended) quiet knows = tt

begun_leaves : (known : Known) (session : Sess) (needed : Needed) → IsQuiet needed → Knows known session
    → let session_behind = begun_by_need session needed in KnowsBehind known session_behind.session session_behind.need
unfolding IsQuiet KnowsBehind begun_of
begun_leaves known session (Refusal verdict) quiet knows = knows
begun_leaves known session (Turned turn) quiet knows =
    told_leaves known session turn.reply turn.session (quiet_leaves known session turn.reply turn.session quiet knows)
begun_leaves known session (Mailbox name work) quiet knows = knows
begun_leaves known session (Names it) quiet knows = knows

apart_knows : (known : Known) (session_behind : Behind) (session : Sess) (need : Need) → record { session = session; need = need } ≡ session_behind
    → KnowsBehind known session_behind.session session_behind.need → KnowsBehind known session need
apart_knows known session_behind session need is knows = subst (λ (b : Behind). KnowsBehind known b.session b.need) (sym is) knows

pub begin_knows : (setting : Setting) (before session : Sess) (it : Command) (begun : Begun) (need : Need) → begun ≡ begun_of (need_of setting before it)
    → record { session = session; need = need } ≡ session_behind before begun
    → (known : Known) → Knows known before → KnowsBehind known session need
begin_knows setting before session it begun need same is known knows =
    apart_knows known (begun_by_need before (need_of setting before it)) session need (is ∙ ap (session_behind before) same)
    (begun_leaves known before (need_of setting before it) (need_quiet setting before it) knows)

some_knows : (known : Known) (finished : Finished) (session : Sess) (need : Option Need) → record { session = session; need = need } ≡ finished
    → IfSome finished.need (KnowsBehind known finished.session) → IfSome need (KnowsBehind known session)
some_knows known finished session need is knows = subst (λ (f : Finished). IfSome f.need (KnowsBehind known f.session)) (sym is) knows

pub finish_knows : (before session : Sess) (awaited : Awaited) (result : OpResult) (turn : Option Turn) (need : Option Need)
    → turn ≡ turn_of before awaited result → record { session = session; need = need } ≡ finished_by before turn
    → (known : Known) → Knows known before → IfSome need (KnowsBehind (known_before awaited known) session)
finish_knows before session awaited result turn need same is known knows =
    some_knows (known_before awaited known) (finished_by before (turn_of before awaited result)) session need (is ∙ ap (finished_by before) same)
    (finished_leaves (known_before awaited known) before (turn_of before awaited result) (turn_leaves known before awaited result knows))
