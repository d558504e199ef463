-- A mailbox is selected as its client asked: to be changed by a SELECT, to be read by an EXAMINE, until another one is selected.
use Rattle.std.proofs.Common.{◌≡◌, ℕ, ◌==◌, Bool, true, false, if◌then◌else◌, List, [], ◌∷◌, Option, None, Some, refl, sym, ◌∙◌, subst}
use Rattle.std.specs.Prelude.{⊤}
use Rattle.mail_message.specs.Boxes.{Content, messages_at}
use Rattle.mail_message.specs.declared.message.Message.{Message}
use Rattle.mail_message.specs.declared.mode.Mode.TheVariants.{Add}
use Rattle.mail_store.specs.Append.{append_fault}
use Rattle.mail_store.specs.Store.{stored, rows_stored, has_too_many_flags}
use Rattle.mail_store.specs.declared.fault.StoreFault.{StoreFault}
use Rattle.mur_base.specs.Inbox.{taken_name}
use Rattle.mur_base.specs.Names.{mail_name_fault}
use Rattle.mur_base.specs.declared.name.NameFault.{NameFault}
use Rattle.imap_types.specs.declared.command.Command.{Command}
use Rattle.imap_types.specs.declared.command.Command.TheVariants as command
use Rattle.mur_model.specs.Needed.{Needed, Refusal, Turned, Mailbox, Names, Work, Make, Delete as delete_work, Append as append_work, Status as status_work, Select as select_work, Viewed as viewed_work}
use Rattle.mur_model.specs.declared.commands.fetch.Fetching.{Fetching}
use Rattle.mur_model.specs.declared.commands.store.FlagStore.{FlagStore}
use Rattle.mur_model.specs.declared.session.Sess.{Sess}
use Rattle.mur_model.specs.declared.session.Sess.TheVariants.{Off, In, Selected as selected, Ended}
use Rattle.mur_model.specs.declared.setting.Setting.{Setting}
use Rattle.mur_model.specs.declared.store.Store.{Store}
use Rattle.mur_model.specs.declared.view.View.{View}
use Rattle.mur_model.specs.declared.work.ViewWork.{ViewWork}
use Rattle.mur_model.specs.declared.work.ViewWork.TheVariants as view_work
use Rattle.mur_model.specs.Act.{act_by, act_of, need_begun, need_in, need_of, need_selected, need_taken, session_after, work_on}
use Rattle.mur_model.specs.Append.{append_on, append_to}
use Rattle.mur_model.specs.Create.{create_on, make}
use Rattle.mur_model.specs.Delete.{delete_on}
use Rattle.mur_model.specs.Fetch.{fetch_at, fetch_told, sees, seen_flags}
use Rattle.mur_model.specs.Left.{Worked, kept, changed}
use Rattle.mur_model.specs.Rights.{has_rights}
use Rattle.mur_model.specs.Select.{opening, select, select_as, select_by, select_on}
use Rattle.mur_model.specs.Selected.{rows_of}
use Rattle.mur_model.specs.Status.{status_on}
use Rattle.mur_model.specs.Store.{box_at, is_full}
use Rattle.mur_model.specs.StoreFlags.{stored_at}
use Rattle.mur_model.specs.Traits.{is_in, may_be, traits_of}
use Rattle.mur_model.specs.Viewing.{found_gone, viewed_on, work_there}
use Rattle.mur_model.proofs.EachNeed.{OfWorks, each_by_works, of_refusals}
use Rattle.mur_model.proofs.OwnView.{IsOfNeeded, IsOfWork, need_own}
use Rattle.store_law.specs.Examined.{is_to_change, IsOpenedSo, ReadsWhatIsExamined}
use Rattle.store_law.proofs.ExaminedLaw.{reads_only}
use Rattle.store_law.proofs.NeedsFit.{Fits, FitsWork, Selects, need_fits}

-- ---- a SELECT or an EXAMINE

module _ (setting : Setting) (store : Store) (session : Sess) (serial : ℕ) (to_change : Bool) where
  select_may : (name user : List ℕ) (was_selected may : Bool)
      → IsOpenedSo to_change (act_by store session serial (select_by name (opening user name to_change was_selected) may)).session
  unfolding select_by act_by work_on IsOpenedSo select_on
  select_may name user was_selected true = by (box_at store name)
    where
      by : (found : Option Content)
          → IsOpenedSo to_change (session_after session (select_on (opening user name to_change was_selected) name found).turn.session)
      by None = tt
      by (Some box) = refl
  select_may name user was_selected false = tt

  select_named : (name user : List ℕ) (was_selected : Bool) (fault : Option NameFault)
      → IsOpenedSo to_change (act_by store session serial (select_as setting user name to_change was_selected fault)).session
  unfolding select_as act_by IsOpenedSo
  select_named name user was_selected (Some fault) = tt
  select_named name user was_selected None = select_may name user was_selected (has_rights setting.users user name)

  select_opens : (user text : List ℕ) (was_selected : Bool)
      → IsOpenedSo to_change (act_by store session serial (select setting user text to_change was_selected)).session
  unfolding select
  select_opens user text was_selected = select_named (taken_name user text) user was_selected (mail_name_fault (taken_name user text))

select_so : (setting : Setting) (store : Store) (session : Sess) (serial : ℕ) (text : List ℕ)
    → IsOpenedSo true (act_of setting store session (command.Select text) serial).session
unfolding act_of act_by need_of need_taken need_in need_selected need_begun is_in may_be traits_of IsOpenedSo
select_so setting store Off serial text = tt
select_so setting store (In user) serial text = select_opens setting store (In user) serial true user text false
select_so setting store (selected view) serial text = select_opens setting store (selected view) serial true view.user text true
select_so setting store Ended serial text = tt

examine_so : (setting : Setting) (store : Store) (session : Sess) (serial : ℕ) (text : List ℕ)
    → IsOpenedSo false (act_of setting store session (command.Examine text) serial).session
unfolding act_of act_by need_of need_taken need_in need_selected need_begun is_in may_be traits_of IsOpenedSo
examine_so setting store Off serial text = tt
examine_so setting store (In user) serial text = select_opens setting store (In user) serial false user text false
examine_so setting store (selected view) serial text = select_opens setting store (selected view) serial false view.user text true
examine_so setting store Ended serial text = tt

-- ---- any other command

-- a turn leaves a session as it was, or with no mailbox selected
abbrev pub SelectsNone : Option Sess → Type 0
SelectsNone (Some (selected view)) = ⊥
SelectsNone session = ⊤

abbrev pub NeedSelectsNone : Needed → Type 0
NeedSelectsNone (Turned turn) = SelectsNone turn.session
NeedSelectsNone need = ⊤

none_selected : OfWorks NeedSelectsNone
none_selected = record {
  answers = of_refusals (λ verdict. tt) (λ name plain. tt) (λ name user plain. tt) tt tt;
  enable = tt;
  separator = tt;
  names = λ it. tt;
  unselected = λ user was_selected why. tt;
  left = λ view name plain. tt;
  work = λ name it. tt;
}

-- it leaves the session as it was, with no mailbox selected, or with the one of the view
abbrev StaysWith : View → Option Sess → Type 0
StaysWith view None = ⊤
StaysWith view (Some Off) = ⊤
StaysWith view (Some (In user)) = ⊤
StaysWith view (Some (selected later)) = later.is_writable ≡ view.is_writable
StaysWith view (Some Ended) = ⊤

made_none : (name : List ℕ) (serial : ℕ) (full : Bool) → SelectsNone (make name serial full).turn.session
unfolding make
made_none name serial true = tt
made_none name serial false = tt

appended_none : (message : Message) (box : Content) (fault : Option StoreFault) → SelectsNone (append_to message box fault).turn.session
unfolding append_to
appended_none message box (Some fault) = tt
appended_none message box None = tt

either_stays : (view : View) (test : Bool) (one other : Worked) → StaysWith view one.turn.session → StaysWith view other.turn.session
    → StaysWith view (if test then one else other).turn.session
either_stays view true one other is is_other = is
either_stays view false one other is is_other = is_other

stored_stays : (view : View) (it : FlagStore) (box : Content) (many : Bool) → StaysWith view (stored_at view it box many).turn.session
stored_stays view it box true = refl
stored_stays view it box false = refl

fetched_stays : (view : View) (it : Fetching) (box : Content) → StaysWith view (fetch_at view it box).turn.session
fetched_stays view it box =
    let before = messages_at box.messages it.uids in
    let after = stored box it.uids Add seen_flags in
    either_stays view (sees view it) (record { left = changed after; turn = fetch_told view it before (rows_of after) })
    (record { left = kept; turn = fetch_told view it before (rows_of box) }) refl refl

there_stays : (view : View) (work : ViewWork) (box : Content) → StaysWith view (work_there view work box).turn.session
unfolding work_there
there_stays view (view_work.News why) box = refl
there_stays view view_work.Close box = tt
there_stays view (view_work.Expunge only) box = refl
there_stays view (view_work.Store it) box = stored_stays view it box (has_too_many_flags (rows_stored box it.uids it.mode it.flags))
there_stays view (view_work.Fetch it) box = fetched_stays view it box
there_stays view (view_work.Search it) box = refl

viewed_stays : (view : View) (work : ViewWork) (found : Option Content) → StaysWith view (viewed_on view work found).turn.session
unfolding viewed_on
viewed_stays view work None = tt
viewed_stays view work (Some box) = either_stays view (box.serial == view.serial) (work_there view work box) found_gone (there_stays view work box) tt

-- what comes of them

none_behind : (to_change : Bool) (session : Sess) (later : Option Sess) → IsOpenedSo to_change session → SelectsNone later
    → IsOpenedSo to_change (session_after session later)
unfolding IsOpenedSo
none_behind to_change session None is none = is
none_behind to_change session (Some Off) is none = tt
none_behind to_change session (Some (In user)) is none = tt
none_behind to_change session (Some (selected view)) is none = absurd none
none_behind to_change session (Some Ended) is none = tt

with_behind : (to_change : Bool) (view : View) (later : Option Sess) → view.is_writable ≡ to_change → StaysWith view later
    → IsOpenedSo to_change (session_after (selected view) later)
unfolding IsOpenedSo
with_behind to_change view None is stays = is
with_behind to_change view (Some Off) is stays = tt
with_behind to_change view (Some (In user)) is stays = tt
with_behind to_change view (Some (selected later)) is stays = stays ∙ is
with_behind to_change view (Some Ended) is stays = tt

module _ (store : Store) (session : Sess) (it : Command) (serial : ℕ) (to_change : Bool) (is : IsOpenedSo to_change session)
    (no_select : (is_writable : Bool) → Selects it is_writable → ⊥) where
  work_behind : (name : List ℕ) (work : Work) (full : Bool) (found : Option Content) → IsOfWork session work → FitsWork session it name work
      → IsOpenedSo to_change (session_after session (work_on name work serial full found).turn.session)
  unfolding work_on create_on delete_on append_on status_on IsOfWork IsOpenedSo
  work_behind name Make full None own fits = none_behind to_change session _ is (made_none name serial full)
  work_behind name Make full (Some box) own fits = is
  work_behind name delete_work full None own fits = is
  work_behind name delete_work full (Some box) own fits = is
  work_behind name (append_work message) full None own fits = is
  work_behind name (append_work message) full (Some box) own fits =
      none_behind to_change session _ is (appended_none message box (append_fault box (message ∷ [])))
  work_behind name (status_work shown items) full None own fits = is
  work_behind name (status_work shown items) full (Some box) own fits = is
  work_behind name (select_work opened) full found own fits = absurd (no_select opened.is_writable fits)
  work_behind name (viewed_work view work) full found own fits =
      viewed_behind (subst (IsOpenedSo to_change) own is)
    where
      viewed_behind : IsOpenedSo to_change (selected view)
          → IsOpenedSo to_change (session_after session (viewed_on view work found).turn.session)
      viewed_behind so = subst (λ (s : Sess). IsOpenedSo to_change (session_after s (viewed_on view work found).turn.session)) (sym own)
          (with_behind to_change view (viewed_on view work found).turn.session so (viewed_stays view work found))

  need_behind : (need : Needed) → NeedSelectsNone need → IsOfNeeded session need → Fits session it need
      → IsOpenedSo to_change (act_by store session serial need).session
  unfolding act_by IsOfNeeded
  need_behind (Refusal verdict) none own fits = is
  need_behind (Turned turn) none own fits = none_behind to_change session turn.session is none
  need_behind (Mailbox name work) none own fits = work_behind name work (is_full store) (box_at store name) own fits
  need_behind (Names listing) none own fits = is

opens_as_asked : (setting : Setting) (store : Store) (session : Sess) (it : Command) (serial : ℕ) (to_change : Bool) → IsOpenedSo to_change session
    → IsOpenedSo (is_to_change to_change it) (act_of setting store session it serial).session
unfolding is_to_change act_of
opens_as_asked setting store session (command.Select text) serial to_change is = select_so setting store session serial text
opens_as_asked setting store session (command.Examine text) serial to_change is = examine_so setting store session serial text
opens_as_asked setting store session it serial to_change is =
    need_behind store session it serial to_change is (λ is_writable no. no) (need_of setting session it) (each_by_works setting none_selected session it)
    (need_own setting session it) (need_fits setting session it)

pub reads_what_is_examined : (setting : Setting) → ReadsWhatIsExamined setting
reads_what_is_examined setting = record { opens_as_asked = opens_as_asked setting; changes_none = reads_only setting }
