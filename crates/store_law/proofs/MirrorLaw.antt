-- Of each message whose UID or flags a client was told, it knows those of its session's view, behind each command.
use Rattle.std.proofs.Common.{◌≡◌, ℕ, suc, ◌+◌, ◌==◌, ◌||◌, Bool, true, false, if◌then◌else◌, List, [], ◌∷◌, ◌++◌, length, Option, None, Some, is_some}
use Rattle.std.proofs.Common.{refl, sym, ◌∙◌, ap, subst, append-nil}
use Rattle.std.specs.Prelude.{IfSome}
use Rattle.std.specs.List.{list_any}
use Rattle.mail_fetch.specs.FlagText.{flags_text}
use Rattle.mail_fetch.specs.Parts.{uid_text}
use Rattle.mail_message.specs.Boxes.{Content, messages_at}
use Rattle.mail_message.specs.RowOrder.{row_at}
use Rattle.mail_message.specs.declared.message.Message.{Message}
use Rattle.mail_message.specs.declared.message.Row.{Row}
use Rattle.mail_message.specs.declared.mode.Mode.{Mode}
use Rattle.mail_message.specs.declared.mode.Mode.TheVariants.{Add}
use Rattle.mail_message.specs.declared.set.SetPart.{SetPart}
use Rattle.mail_message.specs.FlagSets.{Flags}
use Rattle.mail_store.specs.Expunge.{expunged}
use Rattle.mail_store.specs.Named.{set_of}
use Rattle.mail_store.specs.Store.{stored, rows_stored, has_too_many_flags}
use Rattle.imap_types.specs.declared.command.Command.TheVariants as command
use Rattle.imap_types.specs.declared.reply.ReplyLine.{ReplyLine}
use Rattle.mur_model.specs.declared.commands.fetch.Fetching.{Fetching}
use Rattle.mur_model.specs.declared.commands.search.Searching.{Searching}
use Rattle.mur_model.specs.declared.commands.store.FlagStore.{FlagStore}
use Rattle.mur_model.specs.declared.view.View.{View}
use Rattle.mur_model.specs.declared.work.ViewWork.TheVariants as view_work
use Rattle.mur_model.specs.ClientView.{uids}
use Rattle.mur_model.specs.Fetch.{fetch_at, fetch_lines, fetch_told, flag_uids, seen_flags, sees}
use Rattle.mur_model.specs.Left.{Worked, changed, kept}
use Rattle.mur_model.specs.News.{flag_parts, fresh_row, is_among, news}
use Rattle.mur_model.specs.Selected.{rows_of}
use Rattle.mur_model.specs.StoreFlags.{own_lines, stored_at, stored_line, stored_lines}
use Rattle.mur_model.specs.Viewing.{work_there}
use Rattle.store_law.specs.Mirror.{IsSeenOf, Mirror, Mirrors, OfView, Seen, asked, names, no_uid, read_line, read_lines, with_silent}
use Rattle.store_law.proofs.MirrorFetch.{alike, fetched_mirrors}
use Rattle.store_law.proofs.MirrorNews.{Becomes, fetch_reads, found_uid, lines_by, news_mirrors, row_told, rows_told_by, silent_mirrors, stays_seen, told_row}
use Rattle.store_law.proofs.MirrorNews.{unseen_mirrors, walked}
use Rattle.store_law.proofs.MirrorSteps.{Keeps, TurnKeeps, store_of}
use Rattle.store_law.proofs.RisingStores.{Rises, expunged_rises, stored_rises}
use Rattle.store_law.proofs.RisingViews.{RowsRise, news_rise, rows_rise}
use Rattle.store_law.proofs.SilentStores.{silent_agree}
use Rattle.store_law.proofs.StoredFlags.{TellsFlags, among_set, any_row, stored_told, told_named}

-- it agrees with rows that rise
abbrev pub Agrees : Mirror → List Row → Type 0
Agrees mirror rows = Mirrors mirror rows × RowsRise 0 rows

-- ---- the news

news_agree : (own : List ReplyLine) (rows now : List Row) (expunges : Bool) (told : List ℕ) (mirror : Mirror) → RowsRise 0 rows → RowsRise 0 now
    → Mirrors (read_lines mirror own) (rows_told_by (is_among told) now rows)
    → Agrees (read_lines mirror (own ++ (news rows now expunges told).lines)) (news rows now expunges told).rows
news_agree own rows now expunges told mirror rises rise agrees =
    (news_mirrors own rows now expunges told mirror agrees, news_rise rows now expunges told rises rise)

none_told : (now rows : List Row) → rows_told_by (λ uid. false) now rows ≡ rows
none_told now [] = refl
none_told now (row ∷ rows) = ap (λ more. row ∷ more) (none_told now rows)

none_among : (now rows : List Row) → rows_told_by (is_among []) now rows ≡ rows
unfolding is_among
none_among now rows = none_told now rows

plain_agree : (rows now : List Row) (expunges : Bool) (mirror : Mirror) → RowsRise 0 now → Agrees mirror rows
    → Agrees (read_lines mirror (news rows now expunges []).lines) (news rows now expunges []).rows
plain_agree rows now expunges mirror rise agrees =
    news_agree [] rows now expunges [] mirror agrees.1 rise (subst (Mirrors mirror) (sym (none_among now rows)) agrees.0)

-- ---- STORE

line_tells : (by_uid : Bool) (front rest : Mirror) (seen : Seen) (number : ℕ) (row change : Row) (found : Option Row) → number ≡ suc (length front)
    → change.uid ≡ row.uid → IfSome found (λ (it : Row). it.uid ≡ row.uid) → TellsFlags change.flags found
    → IfSome seen.uid (λ text. text ≡ uid_text row.uid)
    → Becomes front rest seen (stored_line by_uid number (Some change)) (fresh_row row found)
line_tells by_uid front rest seen number row change None is own uid flags so = absurd flags
line_tells true front rest seen number row change (Some it) is own uid flags so =
    fetch_reads front rest seen (record { uid = Some (uid_text change.uid); flags = Some (flags_text change.flags); silenced = no_uid }) number
    (flag_parts true change) it is refl (ap uid_text (own ∙ sym uid), λ silent. ap flags_text (sym flags))
line_tells false front rest seen number row change (Some it) is own uid flags so =
    fetch_reads front rest seen (record { uid = seen.uid; flags = Some (flags_text change.flags); silenced = no_uid }) number (flag_parts false change) it
    is refl
    (subst (λ n. IfSome seen.uid (λ text. text ≡ uid_text n)) (sym uid) so, λ silent. ap flags_text (sym flags))

module _ (it : FlagStore) (box : Content) where
  abbrev changes : List Row
  changes = rows_stored box it.uids it.mode it.flags

  abbrev after : List Row
  after = rows_of (stored box it.uids it.mode it.flags)

  abbrev is_told : ℕ → Bool
  is_told = is_among (set_of (uids changes))

  told_as : (uid : ℕ) (found : Option Row) → row_at changes uid ≡ found → is_told uid ≡ is_some found
  told_as uid found e = among_set (uids changes) uid ∙ any_row changes uid ∙ ap is_some e

  stored_by : (front rest : Mirror) (seen : Seen) (number : ℕ) (row : Row) (found : Option Row) → row_at changes row.uid ≡ found → number ≡ suc (length front)
      → IsSeenOf seen row → Becomes front rest seen (stored_line it.by_uid number found) (row_told is_told after row)
  stored_by front rest seen number row None e is so =
      subst (λ b. Becomes front rest seen [] (told_row b row (row_at after row.uid))) (sym (told_as row.uid None e)) (stays_seen front rest seen row so)
  stored_by front rest seen number row (Some change) e is so =
      subst (λ b. Becomes front rest seen (stored_line it.by_uid number (Some change)) (told_row b row (row_at after row.uid)))
      (sym (told_as row.uid (Some change) e))
      (line_tells it.by_uid front rest seen number row change (row_at after row.uid) is
      (subst (λ (r : Option Row). IfSome r (λ (one : Row). one.uid ≡ row.uid)) e (found_uid changes row.uid)) (found_uid after row.uid)
      (stored_told box it.uids it.mode it.flags row.uid change e) so.0)

  stored_as : (number : ℕ) (rows : List Row)
      → stored_lines it.by_uid changes number rows ≡ lines_by (λ n row. stored_line it.by_uid n (row_at changes row.uid)) number rows
  stored_as number [] = refl
  stored_as number (row ∷ rows) = ap (λ lines. stored_line it.by_uid number (row_at changes row.uid) ++ lines) (stored_as (number + 1) rows)

  lines_tell : (mirror : Mirror) (rows : List Row) → Mirrors mirror rows
      → Mirrors (read_lines mirror (stored_lines it.by_uid changes 1 rows)) (rows_told_by is_told after rows)
  unfolding Mirrors
  lines_tell mirror rows agrees =
      let all = walked (λ n row. stored_line it.by_uid n (row_at changes row.uid)) (row_told (λ uid. false) after) (row_told is_told after)
      (λ front rest seen number row is so. stored_by front rest seen number row (row_at changes row.uid) refl is so) 1 [] [] mirror rows [] refl tt
      (subst (Mirrors mirror) (sym (append-nil (rows_told_by (λ uid. false) after rows) ∙ none_told after rows)) agrees) in
      subst (λ lines. Mirrors (read_lines mirror lines) (rows_told_by is_told after rows)) (sym (stored_as 1 rows))
      (subst (Mirrors (read_lines mirror (lines_by (λ n row. stored_line it.by_uid n (row_at changes row.uid)) 1 rows)))
      (append-nil (rows_told_by is_told after rows)) all)

store_agrees : (mirror : Mirror) (view : View) (it : FlagStore) (box : Content) (many : Bool) → Rises box → RowsRise 0 view.rows
    → (many ≡ true → Mirrors mirror view.rows)
    → Mirrors (read_lines mirror (own_lines it (changes it box) view.rows)) (rows_told_by (is_told it box) (after it box) view.rows)
    → TurnKeeps Agrees mirror view (stored_at view it box many).turn
unfolding OfView
store_agrees mirror view it box true rises view_rises before tells =
    plain_agree view.rows (rows_of box) it.by_uid mirror (rows_rise box rises) (before refl, view_rises)
store_agrees mirror view it box false rises view_rises before tells =
    news_agree (own_lines it (changes it box) view.rows) view.rows (after it box) it.by_uid (set_of (uids (changes it box))) mirror view_rises
    (rows_rise (stored box it.uids it.mode it.flags) (stored_rises box it rises)) tells

-- of a silent STORE a client isn't told, but knows which messages it names
silent_told : (mirror : Mirror) (view : View) (by_uid : Bool) (set : List SetPart) (mode : Mode) (flags : Flags) (box : Content) → Agrees mirror view.rows
    → let it = store_of view by_uid set mode true flags in
    Mirrors (with_silent (names by_uid set (length mirror)) 1 mirror) (rows_told_by (is_told it box) (after it box) view.rows)
silent_told mirror view by_uid set mode flags box agrees =
    let it = store_of view by_uid set mode true flags in
    silent_agree by_uid set (is_told it box) mirror view.rows (after it box) agrees.1 (λ uid is. told_named box it.uids mode flags uid is) agrees.0

-- ---- FETCH

fetched_agree : (mirror : Mirror) (view : View) (it : Fetching) (now : List Row) (before : List Message) → RowsRise 0 now → Agrees mirror view.rows
    → TurnKeeps Agrees mirror view (fetch_told view it before now)
unfolding OfView
fetched_agree mirror view it now before rise agrees =
    let told = flag_uids it now before in
    let lines = fetch_lines it view.rows now before in
    news_agree lines view.rows now it.by_uid (set_of told) mirror agrees.1 rise
    (subst (Mirrors (read_lines mirror lines))
    (alike (λ other. false || list_any (λ u. u == other) told) (is_among (set_of told)) now view.rows (λ uid. sym (among_set told uid)))
    (fetched_mirrors it view.rows now (λ uid. false) mirror before agrees.1 (subst (Mirrors mirror) (sym (none_told now view.rows)) agrees.0)))

either_agrees : (mirror : Mirror) (view : View) (test : Bool) (one other : Worked) → TurnKeeps Agrees mirror view one.turn
    → TurnKeeps Agrees mirror view other.turn → TurnKeeps Agrees mirror view (if test then one else other).turn
either_agrees mirror view true one other is is_other = is
either_agrees mirror view false one other is is_other = is_other

fetch_agrees : (mirror : Mirror) (view : View) (it : Fetching) (box : Content) → Rises box → Agrees mirror view.rows
    → TurnKeeps Agrees mirror view (fetch_at view it box).turn
fetch_agrees mirror view it box rises agrees =
    let before = messages_at box.messages it.uids in
    let later = stored box it.uids Add seen_flags in
    either_agrees mirror view (sees view it) (record { left = changed later; turn = fetch_told view it before (rows_of later) })
    (record { left = kept; turn = fetch_told view it before (rows_of box) })
    (fetched_agree mirror view it (rows_of later) before
    (rows_rise later (stored_rises box (record { by_uid = false; uids = it.uids; mode = Add; is_silent = false; flags = seen_flags }) rises)) agrees)
    (fetched_agree mirror view it (rows_of box) before (rows_rise box rises) agrees)

-- ---- each command of a view

search_agrees : (mirror : Mirror) (view : View) (it : Searching) (box : Content) → Rises box → Agrees mirror view.rows
    → TurnKeeps Agrees mirror view (work_there view (view_work.Search it) box).turn
unfolding work_there OfView read_line
search_agrees mirror view it box rises agrees = plain_agree view.rows (rows_of box) it.by_uid mirror (rows_rise box rises) agrees

loud_agrees : (mirror : Mirror) (view : View) (it : FlagStore) (box : Content) → Rises box → Agrees mirror view.rows → it.is_silent ≡ false
    → TurnKeeps Agrees mirror view (work_there view (view_work.Store it) box).turn
unfolding work_there
loud_agrees mirror view it box rises agrees loud =
    store_agrees mirror view it box (has_too_many_flags (rows_stored box it.uids it.mode it.flags)) rises agrees.1 (λ many. agrees.0)
    (subst (λ silent. Mirrors (read_lines mirror (if silent then [] else stored_lines it.by_uid (changes it box) 1 view.rows))
    (rows_told_by (is_told it box) (after it box) view.rows)) (sym loud) (lines_tell it box mirror view.rows agrees.0))

silent_agrees : (mirror : Mirror) (view : View) (by_uid : Bool) (set : List SetPart) (mode : Mode) (flags : Flags) (box : Content) → Rises box
    → Agrees mirror view.rows
    → TurnKeeps Agrees (asked mirror (command.Store by_uid set mode true flags)) view
    (work_there view (view_work.Store (store_of view by_uid set mode true flags)) box).turn
unfolding work_there asked
silent_agrees mirror view by_uid set mode flags box rises agrees =
    let it = store_of view by_uid set mode true flags in
    let left : Mirror = with_silent (names by_uid set (length mirror)) 1 mirror in
    store_agrees left view it box (has_too_many_flags (rows_stored box it.uids it.mode it.flags)) rises agrees.1
    (λ many. silent_mirrors (names by_uid set (length mirror)) 1 mirror view.rows agrees.0)
    (silent_told mirror view by_uid set mode flags box agrees)

pub keeps_mirror : Keeps Agrees
unfolding work_there OfView
keeps_mirror = record {
  begins = λ box rises. (unseen_mirrors (rows_of box), rows_rise box rises);
  silences = λ is_named number mirror rows agrees. (silent_mirrors is_named number mirror rows agrees.0, agrees.1);
  news = λ mirror view why box rises agrees. plain_agree view.rows (rows_of box) true mirror (rows_rise box rises) agrees;
  expunge = λ mirror view only box rises agrees.
      plain_agree view.rows (rows_of (expunged box only)) true mirror (rows_rise (expunged box only) (expunged_rises box only rises)) agrees;
  store = loud_agrees;
  silent = silent_agrees;
  fetch = λ mirror view it box rises agrees. fetch_agrees mirror view it box rises agrees;
  search = search_agrees;
}
