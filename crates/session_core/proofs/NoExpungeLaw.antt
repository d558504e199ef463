-- No EXPUNGE line stands in the reply to a FETCH, a STORE or a SEARCH by numbers.
use Rattle.std.proofs.Common.{◌≡◌, ℕ, zero, suc, ◌+◌, Bool, true, false, not, ◌&&◌, if◌then◌else◌, List, [], ◌∷◌, ◌++◌, length}
use Rattle.std.proofs.Common.{Option, None, Some, sym, ap, ◌∙◌, subst}
use Rattle.std.specs.Option.{IfSome}
use Rattle.session_core.specs.declared.result.OpResult.{OpResult}
use Rattle.session_core.specs.declared.result.OpResult.TheVariants.{Done, Missing}
use Rattle.link_msg.specs.declared.outcome.Outcome.{Outcome}
use Rattle.link_msg.specs.declared.outcome.Outcome.TheVariants.{None as nothing, Messages, Summaries, Rows, Limit as full, Gone}
use Rattle.mail_message.specs.declared.item.Item.{Item}
use Rattle.mail_message.specs.declared.message.Message.{Message}
use Rattle.mail_message.specs.declared.message.Row.{Row}
use Rattle.mail_message.specs.declared.message.Snapshot.{Snapshot}
use Rattle.mail_message.specs.declared.message.Summary.{Summary}
use Rattle.mail_message.specs.RowOrder.{row_at}
use Rattle.mur_model.specs.declared.commands.fetch.Fetching.{Fetching}
use Rattle.mur_model.specs.declared.work.ViewWork.{ViewWork}
use Rattle.mur_model.specs.declared.work.ViewWork.TheVariants.{Store, Fetch, Search}
use Rattle.imap_types.specs.declared.reply.Reply.{Reply}
use Rattle.imap_types.specs.declared.reply.ReplyLine.{ReplyLine}
use Rattle.imap_types.specs.declared.reply.ReplyLine.TheVariants.{Expunge, Fetch as fetch_told}
use Rattle.mur_model.specs.declared.commands.search.Searching.{Searching}
use Rattle.mur_model.specs.declared.session.Sess.{Sess}
use Rattle.mur_model.specs.declared.session.Sess.TheVariants.{Off, In, Selected, Ended}
use Rattle.mur_model.specs.declared.session.Turn.{Turn}
use Rattle.mur_model.specs.declared.commands.store.FlagStore.{FlagStore}
use Rattle.mur_model.specs.declared.view.View.{View}
use Rattle.mur_model.specs.ClientView.{uids}
use Rattle.mur_model.specs.Fetch.{fetch_reply_line, fetch_lines, items_told, number_in}
use Rattle.mur_model.specs.FetchRows.{row_line, row_lines}
use Rattle.mur_model.specs.FetchSummaries.{summary_line, summary_lines}
use Rattle.mur_model.specs.News.{changed_line, changed_lines, exists_lines, flag_parts, is_among, news, rows_behind}
use Rattle.mail_message.specs.SameFlags.{is_same_flags}
use Rattle.mur_model.specs.Search.{search_reply_line}
use Rattle.mur_model.specs.SearchRows.{bare_at}
use Rattle.mur_model.specs.StoreFlags.{own_lines, stored_line, stored_lines}
use Rattle.mur_model.specs.declared.need.Awaited.{Awaited}
use Rattle.mur_model.specs.declared.need.Awaited.TheVariants.{Viewed}
use Rattle.mur_model.specs.declared.need.Need.{Need}
use Rattle.session_core.specs.Finish.{Finished, finished_by, turn_of}
use Rattle.mur_model.specs.Need.{told_with}
use Rattle.session_core.specs.Need.{told_reply}
use Rattle.session_core.specs.Numbers.{HasNoExpunge, IsByNumbers, TellsNoExpunge}
use Rattle.session_core.specs.Viewed.{viewed_done, viewed_in, viewed_told, viewed_turn}

both_none : (lines more : List ReplyLine) → HasNoExpunge lines → HasNoExpunge more → HasNoExpunge (lines ++ more)
unfolding HasNoExpunge
both_none [] more one other = other
both_none (Expunge number ∷ lines) more one other = absurd one
both_none (line ∷ lines) more one other = both_none lines more one other

-- the news

one_or_none : (test : Bool) (number : ℕ) (parts : List (List ℕ)) → HasNoExpunge (if test then fetch_told number parts ∷ [] else [])
unfolding HasNoExpunge
one_or_none true number parts = tt
one_or_none false number parts = tt

changed_none : (is_told : Bool) (number : ℕ) (row : Row) (it : Option Row) → HasNoExpunge (changed_line is_told number row it)
unfolding HasNoExpunge
changed_none is_told number row None = tt
changed_none is_told number row (Some it) = one_or_none (not is_told && not (is_same_flags row.flags it.flags)) number (flag_parts true it)

all_changed_none : (now : List Row) (told_already : List ℕ) (number : ℕ) (rows : List Row) → HasNoExpunge (changed_lines now told_already number rows)
unfolding HasNoExpunge
all_changed_none now told_already number [] = tt
all_changed_none now told_already number (row ∷ rows) =
    both_none (changed_line (is_among told_already row.uid) number row (row_at now row.uid)) (changed_lines now told_already (number + 1) rows)
    (changed_none (is_among told_already row.uid) number row (row_at now row.uid)) (all_changed_none now told_already (number + 1) rows)

exists_none : (before more : ℕ) → HasNoExpunge (exists_lines before more)
unfolding HasNoExpunge
exists_none before zero = tt
exists_none before (suc more) = tt

news_none : (rows now : List Row) (told_already : List ℕ) → HasNoExpunge (news rows now false told_already).lines
unfolding news
news_none rows now told_already =
    both_none (exists_lines (length rows) (length (rows_behind rows now))) (changed_lines now told_already 1 rows)
    (exists_none (length rows) (length (rows_behind rows now))) (all_changed_none now told_already 1 rows)

behind_none : (rows now : List Row) (by_uid : Bool) (told_already : List ℕ) (lines : List ReplyLine) → by_uid ≡ false → HasNoExpunge lines
    → HasNoExpunge (lines ++ (news rows now by_uid told_already).lines)
behind_none rows now by_uid told_already lines is own =
    subst (λ b. HasNoExpunge (lines ++ (news rows now b told_already).lines)) (sym is)
    (both_none lines (news rows now false told_already).lines own (news_none rows now told_already))

-- the command's own lines

fetched_none : (it : Fetching) (message : Message) (number : Option ℕ) (row : Option Row) → HasNoExpunge (fetch_reply_line it message number row)
unfolding HasNoExpunge
fetched_none it message None row = tt
fetched_none it message (Some number) None = tt
fetched_none it message (Some number) (Some row) = tt

fetch_none : (it : Fetching) (rows now : List Row) (before : List Message) → HasNoExpunge (fetch_lines it rows now before)
unfolding HasNoExpunge
fetch_none it rows now [] = tt
fetch_none it rows now (message ∷ before) =
    both_none (fetch_reply_line it message (number_in rows message.uid) (row_at now message.uid)) (fetch_lines it rows now before)
    (fetched_none it message (number_in rows message.uid) (row_at now message.uid)) (fetch_none it rows now before)

row_none : (items : List Item) (number : Option ℕ) (row : Option Row) → HasNoExpunge (row_line items number row)
unfolding HasNoExpunge
row_none items None row = tt
row_none items (Some number) None = tt
row_none items (Some number) (Some row) = tt

rows_none : (items : List Item) (rows now : List Row) (uids : List ℕ) → HasNoExpunge (row_lines items rows now uids)
unfolding HasNoExpunge
rows_none items rows now [] = tt
rows_none items rows now (uid ∷ uids) =
    both_none (row_line items (number_in rows uid) (row_at now uid)) (row_lines items rows now uids)
    (row_none items (number_in rows uid) (row_at now uid)) (rows_none items rows now uids)

summary_none : (items : List Item) (summary : Summary) (number : Option ℕ) → HasNoExpunge (summary_line items summary number)
unfolding HasNoExpunge
summary_none items summary None = tt
summary_none items summary (Some number) = tt

summaries_none : (items : List Item) (rows : List Row) (summaries : List Summary) → HasNoExpunge (summary_lines items rows summaries)
unfolding HasNoExpunge
summaries_none items rows [] = tt
summaries_none items rows (summary ∷ summaries) =
    both_none (summary_line items summary (number_in rows summary.uid)) (summary_lines items rows summaries)
    (summary_none items summary (number_in rows summary.uid)) (summaries_none items rows summaries)

line_none : (by_uid : Bool) (number : ℕ) (row : Option Row) → HasNoExpunge (stored_line by_uid number row)
unfolding HasNoExpunge
line_none by_uid number None = tt
line_none by_uid number (Some row) = tt

stored_none : (by_uid : Bool) (changes : List Row) (number : ℕ) (rows : List Row) → HasNoExpunge (stored_lines by_uid changes number rows)
unfolding HasNoExpunge
stored_none by_uid changes number [] = tt
stored_none by_uid changes number (row ∷ rows) =
    both_none (stored_line by_uid number (row_at changes row.uid)) (stored_lines by_uid changes (number + 1) rows)
    (line_none by_uid number (row_at changes row.uid)) (stored_none by_uid changes (number + 1) rows)

unless_none : (silent : Bool) (lines : List ReplyLine) → HasNoExpunge lines → HasNoExpunge (if silent then [] else lines)
unfolding HasNoExpunge
unless_none true lines none = tt
unless_none false lines none = none

own_none : (it : FlagStore) (changes rows : List Row) → HasNoExpunge (own_lines it changes rows)
own_none it changes rows = unless_none it.is_silent (stored_lines it.by_uid changes 1 rows) (stored_none it.by_uid changes 1 rows)

search_none : (it : Searching) (rows : List Row) (messages : List Summary) → HasNoExpunge (search_reply_line it rows messages ∷ [])
unfolding HasNoExpunge
search_none it rows messages = tt

-- the replies

abbrev TurnHasNone : Turn → Type 0
TurnHasNone turn = HasNoExpunge turn.reply.lines

nothing_none : HasNoExpunge []
unfolding HasNoExpunge
nothing_none = tt

done_none : (view : View) (work : ViewWork) (outcome : Outcome) (seen : Snapshot) → IsByNumbers (Viewed work)
    → IfSome (viewed_done view work outcome seen) TurnHasNone
unfolding viewed_done IsByNumbers HasNoExpunge
done_none view (Store it) (Rows changes) seen by =
    behind_none view.rows seen.rows it.by_uid _ (own_lines it changes view.rows) by (own_none it changes view.rows)
done_none view (Store it) full seen by = behind_none view.rows seen.rows it.by_uid [] [] by nothing_none
done_none view (Fetch it) nothing seen by =
    behind_none view.rows seen.rows it.by_uid _ (row_lines (items_told it false) view.rows seen.rows it.uids) by
    (rows_none (items_told it false) view.rows seen.rows it.uids)
done_none view (Fetch it) (Summaries summaries) seen by =
    behind_none view.rows seen.rows it.by_uid _ (summary_lines (items_told it false) view.rows summaries) by
    (summaries_none (items_told it false) view.rows summaries)
done_none view (Fetch it) (Messages before) seen by =
    behind_none view.rows seen.rows it.by_uid _ (fetch_lines it view.rows seen.rows before) by (fetch_none it view.rows seen.rows before)
done_none view (Search it) nothing seen by =
    let messages : List Summary = bare_at seen.rows (uids view.rows) in
    behind_none view.rows seen.rows it.by_uid [] (search_reply_line it view.rows messages ∷ []) by (search_none it view.rows messages)
done_none view (Search it) (Summaries found) seen by =
    behind_none view.rows seen.rows it.by_uid [] (search_reply_line it view.rows found ∷ []) by (search_none it view.rows found)
done_none view (Store it) outcome seen by = tt
done_none view (Fetch it) outcome seen by = tt
done_none view (Search it) outcome seen by = tt
done_none view work outcome seen by = absurd by

gone_or_none : (view : View) (work : ViewWork) (outcome : Outcome) (seen : Snapshot) → IsByNumbers (Viewed work)
    → IfSome (viewed_told view work outcome seen) TurnHasNone
unfolding viewed_told HasNoExpunge
gone_or_none view work Gone seen by = tt
gone_or_none view work outcome seen by = done_none view work outcome seen by

view_none : (view : View) (work : ViewWork) (result : OpResult) → IsByNumbers (Viewed work) → IfSome (viewed_turn view work result) TurnHasNone
unfolding viewed_turn HasNoExpunge
view_none view work (Done outcome seen) by = gone_or_none view work outcome seen by
view_none view work Missing by = tt

viewed_in_none : (session : Sess) (work : ViewWork) (result : OpResult) → IsByNumbers (Viewed work) → IfSome (viewed_in session work result) TurnHasNone
unfolding viewed_in
viewed_in_none (Selected view) work result by = view_none view work result by
viewed_in_none session work result by = tt

turn_none : (session : Sess) (awaited : Awaited) (result : OpResult) → IsByNumbers awaited → IfSome (turn_of session awaited result) TurnHasNone
unfolding turn_of IsByNumbers
turn_none session (Viewed work) result by = viewed_in_none session work result by
turn_none session awaited result by = absurd by

told_none : (session : Sess) (reply : Reply) (later : Option Sess) → HasNoExpunge reply.lines → TellsNoExpunge (told_reply session reply later).need
unfolding told_with TellsNoExpunge
told_none session reply None none = none
told_none session reply (Some Off) none = none
told_none session reply (Some (In user)) none = none
told_none session reply (Some (Selected view)) none = none
told_none session reply (Some Ended) none = none

finished_none : (session : Sess) (turn : Option Turn) → IfSome turn TurnHasNone → IfSome (finished_by session turn).need TellsNoExpunge
unfolding finished_by
finished_none session None none = tt
finished_none session (Some turn) none = told_none session turn.reply turn.session none

pub finish_tells_none : (before session : Sess) (awaited : Awaited) (result : OpResult) (turn : Option Turn) (need : Option Need)
    → turn ≡ turn_of before awaited result → record { session = session; need = need } ≡ finished_by before turn → IsByNumbers awaited
    → IfSome need TellsNoExpunge
finish_tells_none before session awaited result turn need same is by =
    subst (λ (f : Finished). IfSome f.need TellsNoExpunge) (sym (is ∙ ap (finished_by before) same))
    (finished_none before (turn_of before awaited result) (turn_none before awaited result by))
