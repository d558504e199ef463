-- Where each mailbox of a store has its UIDs below its UIDNEXT, no command loses a mailbox, a message or a flag of one.
use Rattle.std.proofs.Math.Logic.{⊎_elim}
use Rattle.std.proofs.Common.{◌≡◌, ◌≢◌, ℕ, ◌==◌, ◌&&◌, ◌||◌, Bool, true, false, if◌then◌else◌, List, [], ◌∷◌, Option, None, Some}
use Rattle.std.proofs.Common.{inl, inr, refl, sym, ◌∙◌, ap, subst, arith}
use Rattle.std.specs.Prelude.{IfSome}
use Rattle.std.specs.List.{Contains, list_any}
use Rattle.std.specs.Ordering.{nat_cmp}
use Rattle.std.specs.Cmp.Lexicographic.{slice_cmp}
use Rattle.std.proofs.lemmas.Bool.Decides.{nat_tests}
use Rattle.mail_store.specs.Kept.{AreUidsBelowNext}
use Rattle.mail_store.proofs.AppendKeeps.{appended_keeps}
use Rattle.mail_message.specs.Boxes.{Content, message_at}
use Rattle.mail_message.specs.FlagSets.{Flags, flags_after, with_flag}
use Rattle.mail_message.specs.declared.flag_name.FlagName.TheVariants.{System}
use Rattle.mail_message.specs.declared.message.Message.{Message}
use Rattle.mail_message.specs.declared.mode.Mode.{Mode}
use Rattle.mail_message.specs.declared.mode.Mode.TheVariants.{Add}
use Rattle.mail_message.specs.declared.system_flags.SystemFlag.TheVariants.{Seen}
use Rattle.mail_store.specs.Append.{appended, append_fault}
use Rattle.mail_store.specs.Expunge.{expunged}
use Rattle.mail_store.specs.Store.{has_too_many_flags, rows_stored, stored}
use Rattle.mail_store.specs.declared.fault.StoreFault.{StoreFault}
use Rattle.mail_store.proofs.FollowsLaws.{appended_follows, stored_follows, expunged_follows}
use Rattle.mur_base.proofs.MapLaws.{names_apart, same_or_other, value_at-with_value, value_at-with_value-other, value_at-with_entry-other}
use Rattle.imap_types.specs.declared.command.Command.{Command}
use Rattle.mur_model.specs.declared.commands.fetch.Fetching.{Fetching}
use Rattle.mur_model.specs.Needed.{Needed, Refusal, Turned, Mailbox, Names, Work, Make, Delete as delete_work, Append as append_work, Status as status_work, Select as select_work, Viewed as viewed_work}
use Rattle.mur_model.specs.declared.work.ViewWork.{ViewWork}
use Rattle.mur_model.specs.declared.work.ViewWork.TheVariants as view_work
use Rattle.mur_model.specs.declared.session.Sess.{Sess}
use Rattle.mur_model.specs.declared.setting.Setting.{Setting}
use Rattle.mur_model.specs.declared.store.Store.{Store}
use Rattle.mur_model.specs.declared.commands.store.FlagStore.{FlagStore}
use Rattle.mur_model.specs.declared.view.View.{View}
use Rattle.mur_model.specs.Act.{act_by, act_of, need_of, work_on}
use Rattle.mur_model.specs.Append.{append_on, append_to}
use Rattle.mur_model.specs.Create.{create_on, make}
use Rattle.mur_model.specs.Delete.{delete_on}
use Rattle.mur_model.specs.Fetch.{fetch_at, is_body, seen_flags, sees}
use Rattle.mur_model.specs.Left.{Left, Worked, kept, made, changed, removed, store_after}
use Rattle.mur_model.specs.Select.{select_on}
use Rattle.mur_model.specs.Status.{status_on}
use Rattle.mur_model.specs.Store.{box_at, is_full, with_box, with_new_box, without_box}
use Rattle.mur_model.specs.StoreFlags.{stored_at}
use Rattle.mur_model.specs.Viewing.{found_gone, viewed_on, work_there}
use Rattle.mur_model.proofs.BoxGone.{box_gone, others_there}
use Rattle.store_law.specs.NoneLost.{AllGoOn, BoxGoesOn, ChangesOne, Deletes, Expunges, GoesOnAt, LosesNone, MayChange, MayLabel, MessageGoesOn}
use Rattle.store_law.proofs.MessagesLeft.{IsLeftBy, IsStoredFlags, IsWithFlags, expunged_left, stored_left, uid_of_found}
use Rattle.store_law.proofs.NeedsFit.{Fits, FitsView, FitsWork, IsMeant, need_fits}
use Rattle.store_law.proofs.RisingStores.{Rises}

-- ---- \Seen is all that a FETCH adds

or_false : (b : Bool) → (b || false) ≡ b
or_false true = refl
or_false false = refl

or_true : (b : Bool) → (b || true) ≡ true
or_true true = refl
or_true false = refl

seen_alone : (old : Flags) → flags_after Add old seen_flags ≡ with_flag old (System Seen)
seen_alone old = λ i. record {
  system = record {
    answered = or_false old.system.answered i;
    flagged = or_false old.system.flagged i;
    deleted = or_false old.system.deleted i;
    seen = or_true old.system.seen i;
    draft = or_false old.system.draft i;
  };
  keywords = old.keywords;
}

-- ---- a mailbox goes on

-- each UID is one message's, and below UIDNEXT
abbrev pub IsNumbered : Content → Type 0
IsNumbered box = AreUidsBelowNext box × Rises box

pub both_hold : (found : Option Content) → IfSome found AreUidsBelowNext → IfSome found Rises → IfSome found IsNumbered
both_hold None below rises = tt
both_hold (Some box) below rises = (below, rises)

module _ (session : Sess) (it : Command) (name : List ℕ) where
  found_goes_on : (box : Content) (message : Message) (found : Option Message) → found ≡ Some message → MessageGoesOn session it name box message found
  found_goes_on box message found is = subst (MessageGoesOn session it name box message) (sym is) (refl, inl refl)

  as_it_was : (box : Content) → BoxGoesOn session it name box box
  as_it_was box = record {
    follows = (refl, omega arith);
    messages = λ uid message at. found_goes_on box message (message_at box.messages uid) at;
  }

  appended_goes_on : (box : Content) (message : Message) → AreUidsBelowNext box → BoxGoesOn session it name box (appended box (message ∷ []))
  appended_goes_on box message below = record {
    follows = appended_follows box (message ∷ []);
    messages = λ uid other at. found_goes_on box other _ (appended_keeps box (message ∷ []) below uid other at);
  }

  expunged_by : (box : Content) (meant : Type 0) (message : Message) (found : Option Message) → (meant → MayChange session it name box message.uid)
      → Expunges it → IsLeftBy meant message found → MessageGoesOn session it name box message found
  expunged_by box meant message None may is left = (may left.1, is, left.0)
  expunged_by box meant message (Some later) may is left = found_goes_on box message (Some later) (ap (λ (m : Message). Some m) left)

  expunged_goes_on : (box : Content) (only : Option (List ℕ)) → Rises box → ((uid : ℕ) → IsMeant only uid → MayChange session it name box uid)
      → Expunges it → BoxGoesOn session it name box (expunged box only)
  expunged_goes_on box only rises may is = record {
    follows = expunged_follows box only;
    messages = λ uid message at.
        let own : message.uid ≡ uid = uid_of_found box.messages uid message at in
        expunged_by box (IsMeant only uid) message (message_at (expunged box only).messages uid)
        (λ meant. may message.uid (subst (IsMeant only) (sym own) meant)) is (expunged_left box only uid message rises at);
  }

  stored_by : (box : Content) (uids : List ℕ) (mode : Mode) (flags : Flags) (message : Message) (found : Option Message)
      → (Contains uids message.uid → MayChange session it name box message.uid) → ((old : Flags) → MayLabel it old (flags_after mode old flags))
      → IsWithFlags (IsStoredFlags mode flags uids message) message found → MessageGoesOn session it name box message found
  stored_by box uids mode flags message None may labels is = absurd is
  stored_by box uids mode flags message (Some later) may labels is = (
    is.0,
    ⊎_elim (λ (same : later.flags ≡ message.flags). inl same)
        (λ (new : (later.flags ≡ flags_after mode message.flags flags) × Contains uids message.uid).
        inr (may new.1, subst (MayLabel it message.flags) (sym new.0) (labels message.flags))) is.1,
  )

  stored_goes_on : (box : Content) (uids : List ℕ) (mode : Mode) (flags : Flags)
      → ((uid : ℕ) → Contains uids uid → MayChange session it name box uid)
      → ((old : Flags) → MayLabel it old (flags_after mode old flags)) → BoxGoesOn session it name box (stored box uids mode flags)
  stored_goes_on box uids mode flags may labels = record {
    follows = stored_follows box uids mode flags;
    messages = λ uid message at.
        stored_by box uids mode flags message (message_at (stored box uids mode flags).messages uid) (may message.uid) labels
        (stored_left box uids mode flags uid message at);
  }

  -- ---- what work leaves of a mailbox that is there

  abbrev LeavesIt : Content → Left → Type 0
  LeavesIt box kept = Unit {0}
  LeavesIt box (made content) = ⊥
  LeavesIt box (changed content) = BoxGoesOn session it name box content
  LeavesIt box removed = Deletes session it name

  either_leaves : (box : Content) (test : Bool) (one other : Worked) → (test ≡ true → LeavesIt box one.left) → LeavesIt box other.left
      → LeavesIt box (if test then one else other).left
  either_leaves box true one other is is_other = is refl
  either_leaves box false one other is is_other = is_other

  append_leaves : (message : Message) (box : Content) (fault : Option StoreFault) → AreUidsBelowNext box → LeavesIt box (append_to message box fault).left
  unfolding append_to
  append_leaves message box (Some fault) below = tt
  append_leaves message box None below = appended_goes_on box message below

  stored_leaves : (view : View) (asked : FlagStore) (box : Content) (many : Bool)
      → ((uid : ℕ) → Contains asked.uids uid → MayChange session it name box uid)
      → ((old : Flags) → MayLabel it old (flags_after asked.mode old asked.flags)) → LeavesIt box (stored_at view asked box many).left
  stored_leaves view asked box true may labels = tt
  stored_leaves view asked box false may labels = stored_goes_on box asked.uids asked.mode asked.flags may labels

  both_true : (a b : Bool) → (a && b) ≡ true → a ≡ true
  both_true true b is = refl
  both_true false b is = is

  other_true : (a b : Bool) → (a && b) ≡ true → b ≡ true
  other_true true b is = is
  other_true false b is = cc

  fetched_leaves : (view : View) (asked : Fetching) (box : Content)
      → (view.is_writable ≡ true → (uid : ℕ) → Contains asked.uids uid → MayChange session it name box uid)
      → (list_any is_body asked.items ≡ true → (old : Flags) → MayLabel it old (with_flag old (System Seen))) → LeavesIt box (fetch_at view asked box).left
  fetched_leaves view asked box may labels =
      either_leaves box (sees view asked) _ _
      (λ seen. stored_goes_on box asked.uids Add seen_flags (may (both_true view.is_writable (list_any is_body asked.items) seen))
      (λ old. subst (MayLabel it old) (sym (seen_alone old)) (labels (other_true view.is_writable (list_any is_body asked.items) seen) old))) tt

  there_leaves : (view : View) (work : ViewWork) (box : Content) → Rises box → box.serial ≡ view.serial → FitsView session it name view work
      → LeavesIt box (work_there view work box).left
  unfolding work_there
  there_leaves view (view_work.News why) box rises same fits = tt
  there_leaves view view_work.Close box rises same fits = expunged_goes_on box None rises (λ uid. fits.0 box uid same) fits.1
  there_leaves view (view_work.Expunge only) box rises same fits = expunged_goes_on box only rises (λ uid. fits.0 box uid same) fits.1
  there_leaves view (view_work.Store asked) box rises same fits =
      stored_leaves view asked box (has_too_many_flags (rows_stored box asked.uids asked.mode asked.flags)) (λ uid. fits.0 box uid same) fits.1
  there_leaves view (view_work.Fetch asked) box rises same fits = fetched_leaves view asked box (λ writable uid. fits.0 writable box uid same) fits.1
  there_leaves view (view_work.Search asked) box rises same fits = tt

  viewed_leaves : (view : View) (work : ViewWork) (box : Content) → Rises box → FitsView session it name view work
      → LeavesIt box (viewed_on view work (Some box)).left
  unfolding viewed_on
  viewed_leaves view work box rises fits =
      either_leaves box (box.serial == view.serial) (work_there view work box) found_gone
      (λ h. there_leaves view work box rises (let same : box.serial ≡ view.serial = grind (arith, nat_tests, h) in same) fits) tt

  work_leaves : (work : Work) (serial : ℕ) (full : Bool) (box : Content) → IsNumbered box → FitsWork session it name work
      → LeavesIt box (work_on name work serial full (Some box)).left
  unfolding work_on create_on delete_on append_on status_on select_on
  work_leaves Make serial full box numbered fits = tt
  work_leaves delete_work serial full box numbered fits = fits
  work_leaves (append_work message) serial full box numbered fits = append_leaves message box (append_fault box (message ∷ [])) numbered.0
  work_leaves (status_work shown items) serial full box numbered fits = tt
  work_leaves (select_work opened) serial full box numbered fits = tt
  work_leaves (viewed_work view work) serial full box numbered fits = viewed_leaves view work box numbered.1 fits

-- ---- and of a name that has none: it may be made

abbrev NoneChanged : Left → Type 0
NoneChanged kept = Unit {0}
NoneChanged (made content) = Unit {0}
NoneChanged (changed content) = ⊥
NoneChanged removed = ⊥

made_changes_none : (name : List ℕ) (serial : ℕ) (full : Bool) → NoneChanged (make name serial full).left
unfolding make
made_changes_none name serial true = tt
made_changes_none name serial false = tt

work_changes_none : (name : List ℕ) (work : Work) (serial : ℕ) (full : Bool) → NoneChanged (work_on name work serial full None).left
unfolding work_on create_on delete_on append_on status_on select_on viewed_on
work_changes_none name Make serial full = made_changes_none name serial full
work_changes_none name delete_work serial full = tt
work_changes_none name (append_work message) serial full = tt
work_changes_none name (status_work shown items) serial full = tt
work_changes_none name (select_work opened) serial full = tt
work_changes_none name (viewed_work view work) serial full = tt

-- ---- each mailbox of the store goes on

module _ (session : Sess) (it : Command) where
  same_goes_on : (name : List ℕ) (found later : Option Content) → later ≡ found → IfSome found (λ box. GoesOnAt session it name box later)
  same_goes_on name None later is = tt
  same_goes_on name (Some box) later is = subst (GoesOnAt session it name box) (sym is) (as_it_was session it name box)

  still_there : (store : Store) → AllGoOn session it store store
  still_there store = λ name. same_goes_on name (box_at store name) (box_at store name) refl

  goes_on_by : (name : List ℕ) (box content : Content) (found later : Option Content) → found ≡ Some box → later ≡ Some content
      → BoxGoesOn session it name box content → IfSome found (λ b. GoesOnAt session it name b later)
  goes_on_by name box content found later was is goes =
      subst (λ (f : Option Content). IfSome f (λ b. GoesOnAt session it name b later)) (sym was) (subst (GoesOnAt session it name box) (sym is) goes)

  changed_goes_on : (store : Store) (name : List ℕ) (box content : Content) → box_at store name ≡ Some box → BoxGoesOn session it name box content
      → AllGoOn session it store (with_box store name content)
  changed_goes_on store name box content at goes = λ other. ⊎_elim
      (λ (e : other ≡ name). subst (λ n. IfSome (box_at store n) (λ b. GoesOnAt session it n b (box_at (with_box store name content) n))) (sym e)
      (goes_on_by name box content (box_at store name) (box_at (with_box store name content) name) at
      (value_at-with_value (slice_cmp nat_cmp) names_apart store.boxes name content box at) goes))
      (λ (ne : other ≢ name). same_goes_on other (box_at store other) (box_at (with_box store name content) other)
      (value_at-with_value-other (slice_cmp nat_cmp) names_apart store.boxes name other content ne))
      (same_or_other (slice_cmp nat_cmp) names_apart other name)

  made_goes_on : (store : Store) (name : List ℕ) (content : Content) → box_at store name ≡ None
      → AllGoOn session it store (with_new_box store name content)
  made_goes_on store name content none = λ other. ⊎_elim
      (λ (e : other ≡ name). subst (λ (f : Option Content). IfSome f (λ b. GoesOnAt session it other b (box_at (with_new_box store name content) other)))
      (sym (ap (box_at store) e ∙ none)) tt)
      (λ (ne : other ≢ name). same_goes_on other (box_at store other) (box_at (with_new_box store name content) other)
      (value_at-with_entry-other (slice_cmp nat_cmp) names_apart store.boxes name other content ne))
      (same_or_other (slice_cmp nat_cmp) names_apart other name)

  gone_goes_on : (name : List ℕ) (found later : Option Content) → later ≡ None → Deletes session it name → IfSome found (λ b. GoesOnAt session it name b later)
  gone_goes_on name None later gone deletes = tt
  gone_goes_on name (Some box) later gone deletes = subst (GoesOnAt session it name box) (sym gone) deletes

  removed_goes_on : (store : Store) (name : List ℕ) → Deletes session it name → AllGoOn session it store (without_box store name)
  removed_goes_on store name deletes = λ other. ⊎_elim
      (λ (e : other ≡ name). subst (λ n. IfSome (box_at store n) (λ b. GoesOnAt session it n b (box_at (without_box store name) n))) (sym e)
      (gone_goes_on name (box_at store name) (box_at (without_box store name) name) (box_gone store name) deletes))
      (λ (ne : other ≢ name). same_goes_on other (box_at store other) (box_at (without_box store name) other) (others_there store name other ne))
      (same_or_other (slice_cmp nat_cmp) names_apart other name)

  left_goes_on : (store : Store) (name : List ℕ) (box : Content) (left : Left) → box_at store name ≡ Some box → LeavesIt session it name box left
      → AllGoOn session it store (store_after store name left)
  unfolding store_after
  left_goes_on store name box kept at leaves = still_there store
  left_goes_on store name box (made content) at leaves = absurd leaves
  left_goes_on store name box (changed content) at leaves = changed_goes_on store name box content at leaves
  left_goes_on store name box removed at leaves = removed_goes_on store name leaves

  none_goes_on : (store : Store) (name : List ℕ) (left : Left) → box_at store name ≡ None → NoneChanged left
      → AllGoOn session it store (store_after store name left)
  unfolding store_after
  none_goes_on store name kept none changes = still_there store
  none_goes_on store name (made content) none changes = made_goes_on store name content none
  none_goes_on store name (changed content) none changes = absurd changes
  none_goes_on store name removed none changes = absurd changes

  work_goes_on : (store : Store) (name : List ℕ) (work : Work) (serial : ℕ) (found : Option Content) → IfSome found IsNumbered
      → box_at store name ≡ found → FitsWork session it name work
      → AllGoOn session it store (store_after store name (work_on name work serial (is_full store) found).left)
  work_goes_on store name work serial None numbered at fits = none_goes_on store name _ at (work_changes_none name work serial (is_full store))
  work_goes_on store name work serial (Some box) numbered at fits =
      left_goes_on store name box _ at (work_leaves session it name work serial (is_full store) box numbered fits)

  act_goes_on : (store : Store) (serial : ℕ) (need : Needed) → ((name : List ℕ) → IfSome (box_at store name) IsNumbered) → Fits session it need
      → AllGoOn session it store (act_by store session serial need).store
  unfolding act_by
  act_goes_on store serial (Refusal verdict) numbered fits = still_there store
  act_goes_on store serial (Turned turn) numbered fits = still_there store
  act_goes_on store serial (Mailbox name work) numbered fits = work_goes_on store name work serial (box_at store name) (numbered name) refl fits
  act_goes_on store serial (Names it) numbered fits = still_there store

-- ---- one mailbox at most changes

pub others_stay : (store : Store) (name : List ℕ) (left : Left) (other : List ℕ) → other ≢ name
    → box_at (store_after store name left) other ≡ box_at store other
unfolding store_after
others_stay store name kept other ne = refl
others_stay store name (made content) other ne = value_at-with_entry-other (slice_cmp nat_cmp) names_apart store.boxes name other content ne
others_stay store name (changed content) other ne = value_at-with_value-other (slice_cmp nat_cmp) names_apart store.boxes name other content ne
others_stay store name removed other ne = others_there store name other ne

act_changes_one : (store : Store) (session : Sess) (serial : ℕ) (need : Needed) → ChangesOne store (act_by store session serial need).store
unfolding act_by
act_changes_one store session serial (Refusal verdict) = record { at = []; others = λ other ne. refl }
act_changes_one store session serial (Turned turn) = record { at = []; others = λ other ne. refl }
act_changes_one store session serial (Mailbox name work) = record { at = name; others = λ other ne. others_stay store name _ other ne }
act_changes_one store session serial (Names it) = record { at = []; others = λ other ne. refl }

pub loses_none : (setting : Setting) (store : Store) → ((name : List ℕ) → IfSome (box_at store name) IsNumbered) → LosesNone setting store
unfolding act_of
loses_none setting store numbered session it serial =
    let need = need_of setting session it in
    (act_goes_on session it store serial need numbered (need_fits setting session it), act_changes_one store session serial need)
