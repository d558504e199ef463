-- What a client's mirror has in common with the view of its session, it has behind each command, where the news and the lines of each keep it so.
use Rattle.std.proofs.Common.{◌≡◌, ℕ, ◌-◌, ◌==◌, Bool, true, false, if◌then◌else◌, List, [], ◌∷◌, length, replicate, Option, None, Some, refl, sym}
use Rattle.std.proofs.Common.{ap, arith, subst}
use Rattle.std.specs.Prelude.{⊤, IfSome}
use Rattle.mail_message.specs.Boxes.{Content, snapshot_of}
use Rattle.mail_message.specs.declared.message.Message.{Message}
use Rattle.mail_message.specs.declared.message.Row.{Row}
use Rattle.mail_message.specs.declared.mode.Mode.{Mode}
use Rattle.mail_message.specs.declared.set.SetPart.{SetPart}
use Rattle.mail_message.specs.FlagSets.{Flags}
use Rattle.mail_store.specs.Append.{append_fault}
use Rattle.mail_store.specs.declared.fault.StoreFault.{StoreFault}
use Rattle.mur_base.specs.Inbox.{taken_name}
use Rattle.mur_base.specs.Names.{mail_name_fault}
use Rattle.mur_base.specs.declared.name.NameFault.{NameFault}
use Rattle.imap_types.specs.declared.command.Command.{Command}
use Rattle.imap_types.specs.declared.command.Command.TheVariants as command
use Rattle.imap_types.specs.declared.command.StatusItem.{StatusItem}
use Rattle.imap_types.specs.declared.reply.Reply.{Reply}
use Rattle.mur_model.specs.Needed.{Needed, Refusal, Turned, Mailbox, Names, Work, Make, Delete as delete_work, Append as append_work, Status as status_work, Select as select_work, Viewed as viewed_work}
use Rattle.mur_model.specs.declared.commands.fetch.Fetching.{Fetching}
use Rattle.mur_model.specs.declared.commands.search.Searching.{Searching}
use Rattle.mur_model.specs.declared.commands.store.FlagStore.{FlagStore}
use Rattle.mur_model.specs.declared.session.Sess.{Sess}
use Rattle.mur_model.specs.declared.session.Sess.TheVariants.{Off, In, Selected as selected, Ended}
use Rattle.mur_model.specs.declared.session.Turn.{Turn}
use Rattle.mur_model.specs.declared.setting.Setting.{Setting}
use Rattle.mur_model.specs.declared.store.Store.{Store}
use Rattle.mur_model.specs.declared.view.View.{View}
use Rattle.mur_model.specs.declared.work.NewsFor.{NewsFor}
use Rattle.mur_model.specs.declared.work.ViewWork.{ViewWork}
use Rattle.mur_model.specs.declared.work.ViewWork.TheVariants as view_work
use Rattle.mur_model.specs.Act.{act_by, act_of, need_begun, need_in, need_of, need_selected, need_taken, session_after, work_on}
use Rattle.mur_model.specs.Append.{append_on, append_reply, append_to}
use Rattle.mur_model.specs.Create.{create_on, make}
use Rattle.mur_model.specs.Delete.{delete_on}
use Rattle.mur_model.specs.Left.{Worked}
use Rattle.mur_model.specs.NamedRows.{named_uids}
use Rattle.mur_model.specs.Rights.{has_rights}
use Rattle.mur_model.specs.Select.{opening, select, select_as, select_by, select_on, select_told}
use Rattle.mur_model.specs.Selected.{rows_of}
use Rattle.mur_model.specs.Status.{status_on, status_reply}
use Rattle.mur_model.specs.Store.{box_at, is_full}
use Rattle.mur_model.specs.Traits.{is_in, may_be, traits_of}
use Rattle.mur_model.specs.Viewing.{found_gone, viewed_on, work_there}
use Rattle.mur_model.proofs.EachNeed.{OfWorks, each_by_works, of_refusals}
use Rattle.mur_model.proofs.OwnView.{IsOfNeeded, IsOfWork, need_own}
use Rattle.store_law.specs.Mirror.{Mirror, OfView, asked, names, read_line, read_lines, unseen, with_silent}
use Rattle.mur_model.specs.Listing.{list_reply, names_in}
use Rattle.store_law.proofs.ListedLines.{list_still}
use Rattle.store_law.proofs.NeedsFit.{Fits, FitsWork, Selects, StoreOf, need_fits}
use Rattle.store_law.proofs.RisingStores.{AllRise, Rises, box_rises}

-- what is so of a mirror and rows, is so of the view behind a turn that is told by these lines
abbrev pub TurnKeeps : (Mirror → List Row → Type 0) → Mirror → View → Turn → Type 0
TurnKeeps R mirror view turn = OfView R (read_lines mirror turn.reply.lines) (session_after (selected view) turn.session)

-- the STORE that a command asks for
abbrev pub store_of : View → Bool → List SetPart → Mode → Bool → Flags → FlagStore
store_of view by_uid set mode is_silent flags =
    record { by_uid = by_uid; uids = named_uids by_uid set view.rows; mode = mode; is_silent = is_silent; flags = flags }

-- what keeps it: a mailbox that is selected, a silent STORE, and what each command of a view tells
pub record Keeps (R : Mirror → List Row → Type 0) : Type 0 where
  pub begins : (box : Content) → Rises box → R (replicate (length (rows_of box)) unseen) (rows_of box)
  pub silences : (is_named : ℕ → ℕ → Bool) (number : ℕ) (mirror : Mirror) (rows : List Row) → R mirror rows → R (with_silent is_named number mirror) rows
  pub news : (mirror : Mirror) (view : View) (why : NewsFor) (box : Content) → Rises box → R mirror view.rows
      → TurnKeeps R mirror view (work_there view (view_work.News why) box).turn
  pub expunge : (mirror : Mirror) (view : View) (only : Option (List ℕ)) (box : Content) → Rises box → R mirror view.rows
      → TurnKeeps R mirror view (work_there view (view_work.Expunge only) box).turn
  pub store : (mirror : Mirror) (view : View) (it : FlagStore) (box : Content) → Rises box → R mirror view.rows → it.is_silent ≡ false
      → TurnKeeps R mirror view (work_there view (view_work.Store it) box).turn
  pub silent : (mirror : Mirror) (view : View) (by_uid : Bool) (set : List SetPart) (mode : Mode) (flags : Flags) (box : Content) → Rises box
      → R mirror view.rows
      → TurnKeeps R (asked mirror (command.Store by_uid set mode true flags)) view
      (work_there view (view_work.Store (store_of view by_uid set mode true flags)) box).turn
  pub fetch : (mirror : Mirror) (view : View) (it : Fetching) (box : Content) → Rises box → R mirror view.rows
      → TurnKeeps R mirror view (work_there view (view_work.Fetch it) box).turn
  pub search : (mirror : Mirror) (view : View) (it : Searching) (box : Content) → Rises box → R mirror view.rows
      → TurnKeeps R mirror view (work_there view (view_work.Search it) box).turn

-- ---- replies that tell nothing of a view

-- a turn leaves the session as it was, by lines that tell nothing, or with no mailbox selected
abbrev pub IsStillBy : Option Sess → Reply → Type 0
IsStillBy None reply = (mirror : Mirror) → read_lines mirror reply.lines ≡ mirror
IsStillBy (Some Off) reply = ⊤
IsStillBy (Some (In user)) reply = ⊤
IsStillBy (Some (selected view)) reply = ⊥
IsStillBy (Some Ended) reply = ⊤

abbrev pub IsStill : Turn → Type 0
IsStill turn = IsStillBy turn.session turn.reply

abbrev pub NeedIsStill : Needed → Type 0
NeedIsStill (Turned turn) = IsStill turn
NeedIsStill need = ⊤

pub works_still : OfWorks NeedIsStill
unfolding read_line
works_still = record {
  answers = of_refusals (λ verdict. tt) (λ name plain. λ mirror. refl) (λ name user plain. tt) (λ mirror. refl) tt;
  enable = λ mirror. refl;
  separator = λ mirror. refl;
  names = λ it. tt;
  unselected = λ user was_selected why. tt;
  left = λ view name plain. tt;
  work = λ name it. tt;
}

made_still : (name : List ℕ) (serial : ℕ) (full : Bool) → IsStill (make name serial full).turn
unfolding make
made_still name serial true = λ mirror. refl
made_still name serial false = λ mirror. refl

pub created_still : (name : List ℕ) (serial : ℕ) (full : Bool) (found : Option Content) → IsStill (create_on name serial full found).turn
unfolding create_on
created_still name serial full None = made_still name serial full
created_still name serial full (Some box) = λ mirror. refl

pub deleted_still : (found : Option Content) → IsStill (delete_on found).turn
unfolding delete_on
deleted_still None = λ mirror. refl
deleted_still (Some box) = λ mirror. refl

appended_still : (message : Message) (box : Content) (fault : Option StoreFault) → IsStill (append_to message box fault).turn
unfolding append_to append_reply
appended_still message box (Some fault) = λ mirror. refl
appended_still message box None = λ mirror. refl

pub append_still : (message : Message) (found : Option Content) → IsStill (append_on message found).turn
unfolding append_on
append_still message None = λ mirror. refl
append_still message (Some box) = appended_still message box (append_fault box (message ∷ []))

pub status_still : (shown : List ℕ) (items : List StatusItem) (found : Option Content) → IsStill (status_on shown items found).turn
unfolding status_on status_reply read_line
status_still shown items None = λ mirror. refl
status_still shown items (Some box) = λ mirror. refl

module _ (R : Mirror → List Row → Type 0) (keeps : Keeps R) where
  still_behind : (mirror : Mirror) (session : Sess) (later : Option Sess) (reply : Reply) → OfView R mirror session → IsStillBy later reply
      → OfView R (read_lines mirror reply.lines) (session_after session later)
  unfolding OfView
  still_behind mirror session None reply is still = subst (λ m. OfView R m session) (sym (still mirror)) is
  still_behind mirror session (Some Off) reply is still = tt
  still_behind mirror session (Some (In user)) reply is still = tt
  still_behind mirror session (Some (selected view)) reply is still = absurd still
  still_behind mirror session (Some Ended) reply is still = tt

  -- ---- a mailbox that is selected

  begun : (box : Content) → Rises box → R (replicate (length (rows_of box) - 0) unseen) (rows_of box)
  begun box rises =
      let all : length (rows_of box) - 0 ≡ length (rows_of box) = omega arith in
      subst (λ n. R (replicate n unseen) (rows_of box)) (sym all) (keeps.begins box rises)

  told_behind : (name user : List ℕ) (is_writable was_selected : Bool) (box : Content) (session : Sess) → Rises box
      → let turn = select_told (opening user name is_writable was_selected) name (snapshot_of box) in
      OfView R (read_lines [] turn.reply.lines) (session_after session turn.session)
  unfolding OfView read_line
  told_behind name user true true box session rises = begun box rises
  told_behind name user true false box session rises = begun box rises
  told_behind name user false true box session rises = begun box rises
  told_behind name user false false box session rises = begun box rises

  select_found : (name user : List ℕ) (is_writable was_selected : Bool) (found : Option Content) (session : Sess) → IfSome found Rises
      → let turn = (select_on (opening user name is_writable was_selected) name found).turn in
      OfView R (read_lines [] turn.reply.lines) (session_after session turn.session)
  unfolding OfView select_on
  select_found name user is_writable was_selected None session rises = tt
  select_found name user is_writable was_selected (Some box) session rises = told_behind name user is_writable was_selected box session rises

  module _ (setting : Setting) (store : Store) (rise : AllRise store) (session : Sess) (serial : ℕ) where
    -- what comes of a need where nothing is known before
    abbrev Begins : Needed → Type 0
    Begins need = OfView R (read_lines [] (act_by store session serial need).reply.lines) (act_by store session serial need).session

    select_may : (name user : List ℕ) (is_writable was_selected may : Bool) → Begins (select_by name (opening user name is_writable was_selected) may)
    unfolding select_by act_by work_on OfView
    select_may name user is_writable was_selected true =
        select_found name user is_writable was_selected (box_at store name) session (box_rises store name rise)
    select_may name user is_writable was_selected false = tt

    select_named : (name user : List ℕ) (is_writable was_selected : Bool) (fault : Option NameFault)
        → Begins (select_as setting user name is_writable was_selected fault)
    unfolding select_as act_by OfView
    select_named name user is_writable was_selected (Some fault) = tt
    select_named name user is_writable was_selected None = select_may name user is_writable was_selected (has_rights setting.users user name)

    select_behind : (user text : List ℕ) (is_writable was_selected : Bool) → Begins (select setting user text is_writable was_selected)
    unfolding select
    select_behind user text is_writable was_selected =
        select_named (taken_name user text) user is_writable was_selected (mail_name_fault (taken_name user text))

  select_so : (setting : Setting) (store : Store) (session : Sess) (serial : ℕ) (text : List ℕ) → AllRise store
      → let acted = act_of setting store session (command.Select text) serial in OfView R (read_lines [] acted.reply.lines) acted.session
  unfolding act_of act_by need_of need_taken need_in need_selected need_begun is_in may_be traits_of OfView
  select_so setting store Off serial text rise = tt
  select_so setting store (In user) serial text rise = select_behind setting store rise (In user) serial user text true false
  select_so setting store (selected view) serial text rise = select_behind setting store rise (selected view) serial view.user text true true
  select_so setting store Ended serial text rise = tt

  examine_so : (setting : Setting) (store : Store) (session : Sess) (serial : ℕ) (text : List ℕ) → AllRise store
      → let acted = act_of setting store session (command.Examine text) serial in OfView R (read_lines [] acted.reply.lines) acted.session
  unfolding act_of act_by need_of need_taken need_in need_selected need_begun is_in may_be traits_of OfView
  examine_so setting store Off serial text rise = tt
  examine_so setting store (In user) serial text rise = select_behind setting store rise (In user) serial user text false false
  examine_so setting store (selected view) serial text rise = select_behind setting store rise (selected view) serial view.user text false true
  examine_so setting store Ended serial text rise = tt

  -- ---- any other command

  module _ (store : Store) (rise : AllRise store) (session : Sess) (it : Command) (serial : ℕ) (mirror : Mirror) (is : OfView R mirror session)
      (no_select : (is_writable : Bool) → Selects it is_writable → ⊥)
      (stores : (view : View) (one : FlagStore) (box : Content) → StoreOf it view one → session ≡ selected view → Rises box
      → TurnKeeps R mirror view (work_there view (view_work.Store one) box).turn) where
    either_behind : (view : View) (test : Bool) (one other : Worked) → TurnKeeps R mirror view one.turn → TurnKeeps R mirror view other.turn
        → TurnKeeps R mirror view (if test then one else other).turn
    either_behind view true one other one_is other_is = one_is
    either_behind view false one other one_is other_is = other_is

    there_behind : (name : List ℕ) (view : View) (work : ViewWork) (box : Content) → Rises box → session ≡ selected view → R mirror view.rows
        → FitsWork session it name (viewed_work view work) → TurnKeeps R mirror view (work_there view work box).turn
    unfolding work_there OfView
    there_behind name view (view_work.News why) box rises own so fits = keeps.news mirror view why box rises so
    there_behind name view view_work.Close box rises own so fits = tt
    there_behind name view (view_work.Expunge only) box rises own so fits = keeps.expunge mirror view only box rises so
    there_behind name view (view_work.Store one) box rises own so fits = stores view one box fits.2 own rises
    there_behind name view (view_work.Fetch one) box rises own so fits = keeps.fetch mirror view one box rises so
    there_behind name view (view_work.Search one) box rises own so fits = keeps.search mirror view one box rises so

    viewed_behind : (name : List ℕ) (view : View) (work : ViewWork) (found : Option Content) → IfSome found Rises → session ≡ selected view → R mirror view.rows
        → FitsWork session it name (viewed_work view work) → TurnKeeps R mirror view (viewed_on view work found).turn
    unfolding viewed_on OfView
    viewed_behind name view work None rises own so fits = tt
    viewed_behind name view work (Some box) rises own so fits =
        either_behind view (box.serial == view.serial) (work_there view work box) found_gone (there_behind name view work box rises own so fits) tt

    work_behind : (name : List ℕ) (work : Work) (full : Bool) (found : Option Content) → IfSome found Rises → IsOfWork session work
        → FitsWork session it name work
        → let turn = (work_on name work serial full found).turn in OfView R (read_lines mirror turn.reply.lines) (session_after session turn.session)
    unfolding work_on IsOfWork OfView
    work_behind name Make full found rises own fits = still_behind mirror session _ _ is (created_still name serial full found)
    work_behind name delete_work full found rises own fits = still_behind mirror session _ _ is (deleted_still found)
    work_behind name (append_work message) full found rises own fits = still_behind mirror session _ _ is (append_still message found)
    work_behind name (status_work shown items) full found rises own fits = still_behind mirror session _ _ is (status_still shown items found)
    work_behind name (select_work opened) full found rises own fits = absurd (no_select opened.is_writable fits)
    work_behind name (viewed_work view work) full found rises own fits =
        let so : OfView R mirror (selected view) = subst (OfView R mirror) own is in
        let turn = (viewed_on view work found).turn in
        subst (λ (s : Sess). OfView R (read_lines mirror turn.reply.lines) (session_after s turn.session)) (sym own)
        (viewed_behind name view work found rises own so fits)

    need_behind : (need : Needed) → NeedIsStill need → IsOfNeeded session need → Fits session it need
        → let acted = act_by store session serial need in OfView R (read_lines mirror acted.reply.lines) acted.session
    unfolding act_by IsOfNeeded
    need_behind (Refusal verdict) still own fits = is
    need_behind (Turned turn) still own fits = still_behind mirror session turn.session turn.reply is still
    need_behind (Mailbox name work) still own fits =
        work_behind name work (is_full store) (box_at store name) (box_rises store name rise) own fits
    need_behind (Names listing) still own fits = still_behind mirror session None (list_reply listing (names_in store)) is (list_still listing (names_in store))

  -- a silent STORE is kept in mind, and no other command
  asked_view : (is_named : ℕ → ℕ → Bool) (mirror : Mirror) (session : Sess) → OfView R mirror session → OfView R (with_silent is_named 1 mirror) session
  unfolding OfView
  asked_view is_named mirror Off is = tt
  asked_view is_named mirror (In user) is = tt
  asked_view is_named mirror (selected view) is = keeps.silences is_named 1 mirror view.rows is
  asked_view is_named mirror Ended is = tt

  pub act_keeps : (setting : Setting) (store : Store) (session : Sess) (it : Command) (serial : ℕ) (mirror : Mirror) → AllRise store
      → OfView R mirror session
      → let acted = act_of setting store session it serial in OfView R (read_lines (asked mirror it) acted.reply.lines) acted.session
  unfolding asked act_of OfView
  act_keeps setting store session (command.Select text) serial mirror rise is = select_so setting store session serial text rise
  act_keeps setting store session (command.Examine text) serial mirror rise is = examine_so setting store session serial text rise
  act_keeps setting store session (command.Store by_uid set mode true flags) serial mirror rise is =
      let it : Command = command.Store by_uid set mode true flags in
      need_behind store rise session it serial (asked mirror it) (asked_view (names by_uid set (length mirror)) mirror session is) (λ is_writable no. no)
      (λ view one box of own rises. subst (λ o. TurnKeeps R (asked mirror it) view (work_there view (view_work.Store o) box).turn) (sym of)
      (keeps.silent mirror view by_uid set mode flags box rises (subst (OfView R mirror) own is))) (need_of setting session it) (each_by_works setting works_still session it)
      (need_own setting session it) (need_fits setting session it)
  act_keeps setting store session (command.Store by_uid set mode false flags) serial mirror rise is =
      let it : Command = command.Store by_uid set mode false flags in
      need_behind store rise session it serial mirror is (λ is_writable no. no)
      (λ view one box of own rises. keeps.store mirror view one box rises (subst (OfView R mirror) own is) (ap (λ (s : FlagStore). s.is_silent) of)) (need_of setting session it)
      (each_by_works setting works_still session it) (need_own setting session it) (need_fits setting session it)
  act_keeps setting store session it serial mirror rise is =
      need_behind store rise session it serial mirror is (λ is_writable no. no) (λ view one box of own rises. absurd of) (need_of setting session it)
      (each_by_works setting works_still session it) (need_own setting session it) (need_fits setting session it)
