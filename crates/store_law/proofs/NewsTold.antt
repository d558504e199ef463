-- Once it was answered OK a command that tells it all, a client knows its mailbox as it is.
use Rattle.std.proofs.Common.{◌≡◌, ℕ, ◌==◌, Bool, true, false, if◌then◌else◌, List, [], length, Option, None, Some, refl, ◌∙◌, ap, subst, arith}
use Rattle.std.specs.Prelude.{⊤, IfSome}
use Rattle.std.specs.Cmp.Lexicographic.{slice_cmp}
use Rattle.std.specs.Ordering.{nat_cmp}
use Rattle.std.proofs.lemmas.Bool.Decides.{nat_tests}
use Rattle.mail_message.specs.Boxes.{Content, messages_at}
use Rattle.mail_message.specs.declared.message.Row.{Row}
use Rattle.mail_message.specs.declared.mode.Mode.TheVariants.{Add}
use Rattle.mail_message.specs.declared.set.SetPart.{SetPart}
use Rattle.mail_store.specs.Expunge.{expunged}
use Rattle.mail_store.specs.Named.{set_of}
use Rattle.mail_store.specs.Store.{has_too_many_flags, rows_stored, stored}
use Rattle.mur_base.specs.declared.point.Point.{Point}
use Rattle.mur_base.proofs.MapLaws.{names_apart, value_at-with_value}
use Rattle.imap_types.specs.declared.command.Command.{Command}
use Rattle.imap_types.specs.declared.command.Command.TheVariants as command
use Rattle.imap_types.specs.declared.reply.BadText.TheVariants.{Syntax}
use Rattle.imap_types.specs.declared.reply.Code.{Code}
use Rattle.imap_types.specs.declared.reply.Verdict.TheVariants.{Bad as bad_reply, Ok as ok_reply}
use Rattle.mur_model.specs.declared.commands.fetch.Fetching.{Fetching}
use Rattle.mur_model.specs.declared.commands.search.Searching.{Searching}
use Rattle.mur_model.specs.declared.commands.store.FlagStore.{FlagStore}
use Rattle.mur_model.specs.declared.session.Sess.{Sess}
use Rattle.mur_model.specs.declared.session.Sess.TheVariants.{Off, In, Selected as selected, Ended}
use Rattle.mur_model.specs.declared.setting.Setting.{Setting}
use Rattle.mur_model.specs.declared.store.Store.{Store}
use Rattle.mur_model.specs.declared.view.View.{View}
use Rattle.mur_model.specs.declared.work.NewsFor.TheVariants as news_for
use Rattle.mur_model.specs.declared.work.ViewWork.{ViewWork}
use Rattle.mur_model.specs.declared.work.ViewWork.TheVariants as view_work
use Rattle.mur_model.specs.Act.{act_by, act_of, need_of, need_selected, need_taken, session_after, work_on}
use Rattle.mur_model.specs.AtOnce.{is_done}
use Rattle.mur_model.specs.ClientView.{uids}
use Rattle.mur_model.specs.Expunge.{expunge_named}
use Rattle.mur_model.specs.Fetch.{each_once, fetch_at, fetch_named, flag_uids, sees, seen_flags}
use Rattle.mur_model.specs.History.{Course, IsLegal, Talk}
use Rattle.mur_model.specs.Keys.{have_all_numbers, keys_at}
use Rattle.mur_model.specs.Left.{Left, Worked, box_after, kept, made, changed, removed, store_after}
use Rattle.mur_model.specs.NamedRows.{last_uid, named_uids, names_messages}
use Rattle.mur_model.specs.Needed.{Needed, Refusal, at_mailbox, no_such_number, read_only}
use Rattle.mur_model.specs.News.{news}
use Rattle.mur_model.specs.Selected.{rows_of}
use Rattle.mur_model.specs.Store.{box_at}
use Rattle.mur_model.specs.StoreFlags.{store_named, stored_at}
use Rattle.mur_model.specs.Traits.{is_in, may_be, traits_of}
use Rattle.mur_model.specs.Viewing.{found_gone, viewed_on, work_there}
use Rattle.store_law.specs.Mirror.{Mirror, OfView, mirror_of}
use Rattle.store_law.specs.NewsTold.{IsToldAll, KnowsAll, NewsAreTold, tells_all}
use Rattle.store_law.proofs.BoxesGrow.{Grows, LeftGrows, there_grows}
use Rattle.store_law.proofs.MirrorLaw.{Agrees, keeps_mirror}
use Rattle.store_law.proofs.MirrorsAlong.{mirrored}
use Rattle.store_law.proofs.MirrorSteps.{act_keeps}
use Rattle.store_law.proofs.NewsWhole.{Covers, told_whole}
use Rattle.store_law.proofs.RisingStores.{AllRise, Rises, box_rises, expunged_rises, points_rise, stored_rises}
use Rattle.store_law.proofs.RisingViews.{rows_rise}
use Rattle.store_law.proofs.ViewsCover.{AllGiven, CoversBox, IsCovered, grown_covers, none_covered, points_covered}

-- the session's view is its mailbox
record IsWhole (view : View) (later : Store) (session : Sess) : Type 0 where
  box : Content
  there : box_at later view.name ≡ Some box
  same : box.serial ≡ view.serial
  shown : session ≡ selected (record view { rows = rows_of box })

-- work that tells all
abbrev TellsAll : ViewWork → Type 0
TellsAll (view_work.News why) = ⊤
TellsAll view_work.Close = ⊥
TellsAll (view_work.Expunge only) = ⊤
TellsAll (view_work.Store it) = it.by_uid ≡ true
TellsAll (view_work.Fetch it) = it.by_uid ≡ true
TellsAll (view_work.Search it) = it.by_uid ≡ true

module _ (store : Store) (view : View) (code : Code) (name : List ℕ) where
  module _ (box : Content) (rises : Rises box) (at : box_at store view.name ≡ Some box) (same : box.serial ≡ view.serial)
      (covers : Covers view.rows (rows_of box) box.next) where
    told_is : (left : Left) (expunges : Bool) (told : List ℕ) → expunges ≡ true → LeftGrows box left → Rises (box_after box left)
        → IsWhole view (store_after store view.name left)
        (selected (record view { rows = (news view.rows (rows_of (box_after box left)) expunges told).rows }))
    unfolding store_after box_after
    told_is left false told e grows rising = cc
    told_is kept true told e grows rising = record {
      box = box;
      there = at;
      same = same;
      shown = ap (λ (rows : List Row). selected (record view { rows = rows }))
          (told_whole view.rows (rows_of box) box.next covers told (rows_rise box rising));
    }
    told_is (made other) true told e grows rising = absurd grows
    told_is removed true told e grows rising = absurd grows
    told_is (changed later) true told e grows rising = record {
      box = later;
      there = value_at-with_value (slice_cmp nat_cmp) names_apart store.boxes view.name later box at;
      same = grows.serial ∙ same;
      shown = ap (λ (rows : List Row). selected (record view { rows = rows }))
          (told_whole view.rows (rows_of later) later.next (grown_covers view.rows box later grows covers) told (rows_rise later rising));
    }

    -- what work leaves where it was answered OK
    abbrev Leaves : Worked → Type 0
    Leaves worked = worked.turn.reply.verdict ≡ ok_reply code name
        → IsWhole view (store_after store view.name worked.left) (session_after (selected view) worked.turn.session)

    stored_is : (it : FlagStore) (many : Bool) → it.by_uid ≡ true → LeftGrows box (stored_at view it box many).left → Leaves (stored_at view it box many)
    unfolding box_after
    stored_is it true e grows ok = cc
    stored_is it false e grows ok =
        told_is (changed (stored box it.uids it.mode it.flags)) it.by_uid (set_of (uids (rows_stored box it.uids it.mode it.flags))) e grows
        (stored_rises box it rises)

    fetched_is : (it : Fetching) (test : Bool) → sees view it ≡ test → it.by_uid ≡ true → LeftGrows box (fetch_at view it box).left
        → IsWhole view (store_after store view.name (fetch_at view it box).left) (session_after (selected view) (fetch_at view it box).turn.session)
    unfolding box_after
    fetched_is it true e by_uid grows =
        let later = stored box it.uids Add seen_flags in
        let grown : Grows box later = rw e at grows in
        rw e (told_is (changed later) it.by_uid (set_of (flag_uids it (rows_of later) (messages_at box.messages it.uids))) by_uid grown
        (stored_rises box (record { by_uid = false; uids = it.uids; mode = Add; is_silent = false; flags = seen_flags }) rises))
    fetched_is it false e by_uid grows =
        rw e (told_is kept it.by_uid (set_of (flag_uids it (rows_of box) (messages_at box.messages it.uids))) by_uid tt rises)

    there_is : (work : ViewWork) → TellsAll work → Leaves (work_there view work box)
    unfolding work_there box_after
    there_is (view_work.News why) tells ok = told_is kept true [] refl tt rises
    there_is view_work.Close tells ok = absurd tells
    there_is (view_work.Expunge only) tells ok =
        told_is (changed (expunged box only)) true [] refl (there_grows view (view_work.Expunge only) box) (expunged_rises box only rises)
    there_is (view_work.Store it) tells ok =
        stored_is it (has_too_many_flags (rows_stored box it.uids it.mode it.flags)) tells (there_grows view (view_work.Store it) box) ok
    there_is (view_work.Fetch it) tells ok = fetched_is it (sees view it) refl tells (there_grows view (view_work.Fetch it) box)
    there_is (view_work.Search it) tells ok = told_is kept it.by_uid [] tells tt rises

  found_is : (found : Option Content) → box_at store view.name ≡ found → IfSome found Rises → CoversBox store view → (work : ViewWork) → TellsAll work
      → (viewed_on view work found).turn.reply.verdict ≡ ok_reply code name
      → IsWhole view (store_after store view.name (viewed_on view work found).left) (session_after (selected view) (viewed_on view work found).turn.session)
  unfolding viewed_on
  found_is None at rises it work tells ok = cc
  found_is (Some box) at rises it work tells ok = by (box.serial == view.serial) refl ok
    where
      by : (meets : Bool) → (box.serial == view.serial) ≡ meets → let worked = if meets then work_there view work box else found_gone in
          worked.turn.reply.verdict ≡ ok_reply code name
          → IsWhole view (store_after store view.name worked.left) (session_after (selected view) worked.turn.session)
      by true e ok =
          let same : box.serial ≡ view.serial = grind (arith, nat_tests, e) in there_is box rises at same (it.covers box at same) work tells ok
      by false e ok = cc

  module _ (rise : AllRise store) (it : CoversBox store view) (serial : ℕ) where
    -- what a need leaves where it was answered OK
    abbrev Does : Needed → Type 0
    Does need = (act_by store (selected view) serial need).reply.verdict ≡ ok_reply code name
        → IsWhole view (act_by store (selected view) serial need).store (act_by store (selected view) serial need).session

    either_does : (test : Bool) (one other : Needed) → Does one → Does other → Does (if test then one else other)
    either_does true one other is is_other = is
    either_does false one other is is_other = is_other

    view_does : (work : ViewWork) → TellsAll work → Does (at_mailbox view work)
    unfolding act_by work_on
    view_does work tells = found_is (box_at store view.name) refl (box_rises store view.name rise) it work tells

    number_does : Does no_such_number
    unfolding act_by
    number_does ok = cc

    only_does : Does read_only
    unfolding act_by
    only_does ok = cc

    expunge_does : (only : Option (List SetPart)) → Does (expunge_named view only)
    expunge_does None = view_does (view_work.Expunge None) tt
    expunge_does (Some set) = view_does (view_work.Expunge (Some (named_uids true set view.rows))) tt

    line_does : Does (Refusal (bad_reply Syntax))
    unfolding act_by
    line_does ok = cc

    selected_does : (setting : Setting) (it : Command) → tells_all it ≡ true → Does (need_of setting (selected view) it)
    unfolding need_of need_taken need_selected is_in may_be traits_of tells_all
    selected_does setting command.Noop tells = view_does (view_work.News news_for.Noop) tt
    selected_does setting (command.Idle (Some line)) tells =
        either_does (is_done line) (at_mailbox view (view_work.News news_for.Idle)) (Refusal (bad_reply Syntax)) (view_does (view_work.News news_for.Idle) tt)
        line_does
    selected_does setting (command.Expunge only) tells =
        either_does view.is_writable (expunge_named view only) read_only (expunge_does only) only_does
    selected_does setting (command.Fetch by_uid set items) tells =
        either_does (names_messages view by_uid set) (fetch_named view by_uid set items) no_such_number
        (view_does (view_work.Fetch (record { by_uid = by_uid; uids = named_uids by_uid set view.rows; items = each_once [] items })) tells) number_does
    selected_does setting (command.Store by_uid set mode is_silent flags) tells =
        let one = store_named view by_uid set mode is_silent flags in
        either_does (names_messages view by_uid set) (if view.is_writable then one else read_only) no_such_number
        (either_does view.is_writable one read_only
        (view_does (view_work.Store (record { by_uid = by_uid; uids = named_uids by_uid set view.rows; mode = mode; is_silent = is_silent; flags = flags }))
        tells) only_does) number_does
    selected_does setting (command.Search by_uid keys) tells =
        let one : Searching = record { by_uid = by_uid; keys = keys_at (length view.rows) (last_uid view.rows) keys } in
        either_does (have_all_numbers (length view.rows) keys) (at_mailbox view (view_work.Search one)) no_such_number (view_does (view_work.Search one) tells)
        number_does
    selected_does setting it tells = cc

-- ---- what its client knows

known_by : (mirror : Mirror) (later : Store) (session : Sess) (view : View) → IsWhole view later session → OfView Agrees mirror session
    → KnowsAll mirror later view
unfolding OfView
known_by mirror later session view it agrees =
    let so : OfView Agrees mirror (selected (record view { rows = rows_of it.box })) = subst (OfView Agrees mirror) it.shown agrees in
    record { box = it.box; there = it.there; same = it.same; knows = so.0 }

told_all : (setting : Setting) (store : Store) (mirror : Mirror) (session : Sess) → AllRise store → OfView Agrees mirror session → IsCovered store session
    → IsToldAll setting store mirror session
unfolding IsToldAll IsCovered act_of
told_all setting store mirror Off rise agrees covered = tt
told_all setting store mirror (In user) rise agrees covered = tt
told_all setting store mirror Ended rise agrees covered = tt
told_all setting store mirror (selected view) rise agrees covered =
    λ it serial code name tells ok. known_by _ _ _ view (selected_does store view code name rise covered serial setting it tells ok)
    (act_keeps Agrees keeps_mirror setting store (selected view) it serial mirror rise agrees)

pub news_are_told : (setting : Setting) (first : Course) (talk : Talk) (points : List Point) (last : Course) → IsLegal setting first talk points last
    → AllRise first.store → AllGiven first.store → ((conn : ℕ) → first.sessions conn ≡ Off) → NewsAreTold setting talk points last
news_are_told setting first talk points last legal rise given off = λ conn loses_none.
    told_all setting last.store (mirror_of [] (talk.requests conn) (talk.answers conn)) (last.sessions conn)
    (points_rise setting talk first last points legal.follows rise)
    (mirrored Agrees keeps_mirror setting first talk points last legal rise conn (off conn) loses_none)
    (points_covered setting talk first last points legal.follows rise given (none_covered first.store first.sessions off) conn)
