-- A mailbox is selected as its client asked, and a session that has one selected to be read changes none.
use Rattle.std.proofs.Common.{◌≡◌, ◌≢◌, ℕ, ◌==◌, Bool, true, false, if◌then◌else◌, List, [], ◌∷◌, Option, None, Some, refl, sym, ◌∙◌, ap, subst}
use Rattle.std.proofs.Math.Logic.{⊎_elim}
use Rattle.std.specs.Prelude.{IfSome}
use Rattle.std.specs.List.{Contains}
use Rattle.std.specs.Cmp.Lexicographic.{slice_cmp}
use Rattle.std.specs.Ordering.{nat_cmp}
use Rattle.std.proofs.lemmas.List.Elements.{All-contains_itself, All-head}
use Rattle.mail_message.specs.Boxes.{Content, empty_box}
use Rattle.mail_store.specs.Expunge.{expunged}
use Rattle.mail_store.specs.Store.{stored, rows_stored, has_too_many_flags}
use Rattle.mur_base.proofs.MapLaws.{names_apart, same_or_other, value_at-with_entry-other, value_at-with_value, value_at-with_value-other}
use Rattle.imap_types.specs.declared.command.Command.{Command}
use Rattle.imap_types.specs.declared.command.Command.TheVariants as command
use Rattle.mur_model.specs.declared.session.Sess.{Sess}
use Rattle.mur_model.specs.Needed.{Needed, Refusal, Turned, Mailbox, Names, Work, Make, Delete as delete_work, Append as append_work, Status as status_work, Select as select_work, Viewed as viewed_work}
use Rattle.mur_model.specs.declared.commands.fetch.Fetching.{Fetching}
use Rattle.mur_model.specs.declared.commands.store.FlagStore.{FlagStore}
use Rattle.mur_model.specs.declared.session.Sess.TheVariants.{Selected as selected}
use Rattle.mur_model.specs.declared.setting.Setting.{Setting}
use Rattle.mur_model.specs.declared.store.Store.{Store}
use Rattle.mur_model.specs.declared.view.View.{View}
use Rattle.mur_model.specs.declared.work.ViewWork.{ViewWork}
use Rattle.mur_model.specs.declared.work.ViewWork.TheVariants as view_work
use Rattle.mur_model.specs.Act.{act_by, act_of, need_of, work_on}
use Rattle.mur_model.specs.Append.{append_on}
use Rattle.mur_model.specs.Create.{create_on, make}
use Rattle.mur_model.specs.Delete.{delete_on}
use Rattle.mur_model.specs.Fetch.{fetch_at, sees}
use Rattle.mur_model.specs.Left.{Left, Worked, kept, made, changed, removed, store_after}
use Rattle.mur_model.specs.Select.{select_on}
use Rattle.mur_model.specs.Status.{status_on}
use Rattle.mur_model.specs.Store.{box_at, is_full, with_box}
use Rattle.mur_model.specs.StoreFlags.{stored_at}
use Rattle.mur_model.specs.Viewing.{found_gone, viewed_on, work_there}
use Rattle.mur_model.proofs.OwnView.{IsOfNeeded, IsOfWork, need_own}
use Rattle.store_law.specs.Examined.{changes_named, AllStay}
use Rattle.store_law.specs.NoneLost.{Deletes, MayChange}
use Rattle.store_law.proofs.NeedsFit.{Fits, FitsView, FitsWork, IsMeant, MayChangeThese, need_fits}

-- ---- a mailbox that is there stays, where a session reads

abbrev IsWhole : Content → Left → Type 0
IsWhole box kept = Unit {0}
IsWhole box (made content) = ⊥
IsWhole box (changed content) = content ≡ box
IsWhole box removed = ⊥

either_whole : (box : Content) (test : Bool) (one other : Worked) → (test ≡ true → IsWhole box one.left) → IsWhole box other.left
    → IsWhole box (if test then one else other).left
either_whole box true one other is is_other = is refl
either_whole box false one other is is_other = is_other

deletes_named : (session : Sess) (it : Command) (name : List ℕ) → Deletes session it name → changes_named it ≡ true
unfolding Deletes changes_named
deletes_named session (command.Delete text) name deletes = refl
deletes_named session it name deletes = absurd deletes

contains_first : (uid : ℕ) (uids : List ℕ) → Contains (uid ∷ uids) uid
contains_first uid uids = All-head (Contains (uid ∷ uids)) uid uids (All-contains_itself (uid ∷ uids))

module _ (view : View) (it : Command) (name : List ℕ) (reads : view.is_writable ≡ false) where
  -- what may be changed in a view is none of one that is read
  none_changes : (P : ℕ → Type 0) (uid : ℕ) → MayChangeThese (selected view) it name view P → P uid → ⊥
  unfolding MayChange
  none_changes P uid may is =
      let writable = (may (empty_box view.serial []) uid refl is).2 in
      let both : false ≡ true = sym reads ∙ writable in cc

  expunged_whole : (box : Content) (only : Option (List ℕ)) → MayChangeThese (selected view) it name view (IsMeant only) → expunged box only ≡ box
  expunged_whole box None may = absurd (none_changes (IsMeant None) 0 may tt)
  expunged_whole box (Some []) may = refl
  expunged_whole box (Some (uid ∷ uids)) may = absurd (none_changes (Contains (uid ∷ uids)) uid may (contains_first uid uids))

  stored_whole : (asked : FlagStore) (box : Content) (many : Bool) (uids : List ℕ) → asked.uids ≡ uids
      → MayChangeThese (selected view) it name view (Contains uids)
      → IsWhole box (stored_at view asked box many).left
  stored_whole asked box true uids are may = tt
  stored_whole asked box false [] are may = ap (λ named. stored box named asked.mode asked.flags) are
  stored_whole asked box false (uid ∷ uids) are may = absurd (none_changes (Contains (uid ∷ uids)) uid may (contains_first uid uids))

  fetched_whole : (asked : Fetching) (box : Content) → IsWhole box (fetch_at view asked box).left
  fetched_whole asked box =
      either_whole box (sees view asked) _ _ (λ seen. (let both : false ≡ true = rw reads at seen in cc)) tt

  there_whole : (work : ViewWork) (box : Content) → FitsView (selected view) it name view work → IsWhole box (work_there view work box).left
  unfolding work_there
  there_whole (view_work.News why) box fits = tt
  there_whole view_work.Close box fits = expunged_whole box None fits.0
  there_whole (view_work.Expunge only) box fits = expunged_whole box only fits.0
  there_whole (view_work.Store asked) box fits =
      stored_whole asked box (has_too_many_flags (rows_stored box asked.uids asked.mode asked.flags)) asked.uids refl fits.0
  there_whole (view_work.Fetch asked) box fits = fetched_whole asked box
  there_whole (view_work.Search asked) box fits = tt

  work_whole : (work : Work) (serial : ℕ) (full : Bool) (box : Content) → changes_named it ≡ false → IsOfWork (selected view) work
      → FitsWork (selected view) it name work → IsWhole box (work_on name work serial full (Some box)).left
  unfolding work_on create_on delete_on append_on status_on select_on viewed_on IsOfWork
  work_whole Make serial full box more own fits = tt
  work_whole delete_work serial full box more own fits =
      (let both : false ≡ true = sym more ∙ deletes_named (selected view) it name fits in cc)
  work_whole (append_work message) serial full box more own fits = (let both : false ≡ true = sym more ∙ fits in cc)
  work_whole (status_work shown items) serial full box more own fits = tt
  work_whole (select_work opened) serial full box more own fits = tt
  work_whole (viewed_work other work) serial full box more own fits =
      let same : view ≡ other = cc in
      subst (λ (v : View). IsWhole box (viewed_on v work (Some box)).left) same
      (either_whole box (box.serial == view.serial) (work_there view work box) found_gone
      (λ here. there_whole work box (subst (λ (v : View). FitsView (selected view) it name v work) (sym same) fits)) tt)

-- a mailbox that wasn't there is made at most
abbrev IsNone : Left → Type 0
IsNone kept = Unit {0}
IsNone (made content) = Unit {0}
IsNone (changed content) = ⊥
IsNone removed = ⊥

made_none : (name : List ℕ) (serial : ℕ) (full : Bool) → IsNone (make name serial full).left
unfolding make
made_none name serial true = tt
made_none name serial false = tt

work_none : (name : List ℕ) (work : Work) (serial : ℕ) (full : Bool) → IsNone (work_on name work serial full None).left
unfolding work_on create_on delete_on append_on status_on select_on viewed_on
work_none name Make serial full = made_none name serial full
work_none name delete_work serial full = tt
work_none name (append_work message) serial full = tt
work_none name (status_work shown items) serial full = tt
work_none name (select_work opened) serial full = tt
work_none name (viewed_work view work) serial full = tt

stays_by : (found later : Option Content) → later ≡ found → IfSome found (λ box. later ≡ Some box)
stays_by None later same = tt
stays_by (Some box) later same = same

whole_stays : (store : Store) (name : List ℕ) (box : Content) (left : Left) → box_at store name ≡ Some box → IsWhole box left
    → AllStay store (store_after store name left)
unfolding store_after
whole_stays store name box kept at whole = λ other. stays_by (box_at store other) (box_at store other) refl
whole_stays store name box (made content) at whole = absurd whole
whole_stays store name box removed at whole = absurd whole
whole_stays store name box (changed content) at whole = λ other. ⊎_elim
    (λ (e : other ≡ name). subst (λ n. IfSome (box_at store n) (λ b. box_at (with_box store name content) n ≡ Some b)) (sym e)
    (stays_by (box_at store name) (box_at (with_box store name content) name)
    (value_at-with_value (slice_cmp nat_cmp) names_apart store.boxes name content box at ∙ ap (λ (b : Content). Some b) whole ∙ sym at)))
    (λ (ne : other ≢ name). stays_by (box_at store other) (box_at (with_box store name content) other)
    (value_at-with_value-other (slice_cmp nat_cmp) names_apart store.boxes name other content ne))
    (same_or_other (slice_cmp nat_cmp) names_apart other name)

none_stays : (store : Store) (name : List ℕ) (left : Left) → box_at store name ≡ None → IsNone left → AllStay store (store_after store name left)
unfolding store_after
none_stays store name kept none is = λ other. stays_by (box_at store other) (box_at store other) refl
none_stays store name (made content) none is = λ other. ⊎_elim
    (λ (e : other ≡ name). subst (λ (f : Option Content). IfSome f (λ b. box_at (store_after store name (made content)) other ≡ Some b))
    (sym (ap (box_at store) e ∙ none)) tt)
    (λ (ne : other ≢ name). stays_by (box_at store other) (box_at (store_after store name (made content)) other)
    (value_at-with_entry-other (slice_cmp nat_cmp) names_apart store.boxes name other content ne))
    (same_or_other (slice_cmp nat_cmp) names_apart other name)
none_stays store name (changed content) none is = absurd is
none_stays store name removed none is = absurd is

found_stays : (store : Store) (view : View) (it : Command) (name : List ℕ) (work : Work) (serial : ℕ) (found : Option Content)
    → view.is_writable ≡ false → changes_named it ≡ false → box_at store name ≡ found → IsOfWork (selected view) work → FitsWork (selected view) it name work
    → AllStay store (store_after store name (work_on name work serial (is_full store) found).left)
found_stays store view it name work serial None reads more at own fits = none_stays store name _ at (work_none name work serial (is_full store))
found_stays store view it name work serial (Some box) reads more at own fits =
    whole_stays store name box _ at (work_whole view it name reads work serial (is_full store) box more own fits)

need_stays : (store : Store) (view : View) (it : Command) (serial : ℕ) (need : Needed) → view.is_writable ≡ false → changes_named it ≡ false
    → IsOfNeeded (selected view) need → Fits (selected view) it need → AllStay store (act_by store (selected view) serial need).store
unfolding act_by IsOfNeeded
need_stays store view it serial (Refusal verdict) reads more own fits = λ name. stays_by (box_at store name) (box_at store name) refl
need_stays store view it serial (Turned turn) reads more own fits = λ name. stays_by (box_at store name) (box_at store name) refl
need_stays store view it serial (Mailbox name work) reads more own fits =
    found_stays store view it name work serial (box_at store name) reads more refl own fits
need_stays store view it serial (Names listing) reads more own fits = λ name. stays_by (box_at store name) (box_at store name) refl

pub reads_only : (setting : Setting) (store : Store) (view : View) (it : Command) (serial : ℕ) → view.is_writable ≡ false → changes_named it ≡ false
    → AllStay store (act_of setting store (selected view) it serial).store
unfolding act_of
reads_only setting store view it serial reads more =
    need_stays store view it serial (need_of setting (selected view) it) reads more (need_own setting (selected view) it)
    (need_fits setting (selected view) it)
