-- The messages of each mailbox of a store stand in strictly rising order of UID and below UIDNEXT, whatever commands it took.
use Rattle.std.proofs.Common.{◌≡◌, ℕ, ◌+◌, ◌<◌, ◌≤◌, ◌==◌, Bool, true, false, not, cond, if◌then◌else◌, List, [], ◌∷◌, map, Option, None, Some}
use Rattle.std.proofs.Common.{sym, subst, arith}
use Rattle.std.specs.Prelude.{All, IfSome, ⊤}
use Rattle.std.specs.BTreeMap.{is_at}
use Rattle.std.specs.Cmp.{nat_cmp_is}
use Rattle.std.specs.Cmp.Lexicographic.{slice_cmp}
use Rattle.std.specs.List.{AllByRecursion}
use Rattle.std.specs.List.Sorted.{IsStrictlySortedBy}
use Rattle.std.specs.Map.{values_of}
use Rattle.std.specs.Ordering.{nat_cmp, match_ordering}
use Rattle.std.specs.declared.cmp.Ordering.TheVariants.{Less, Greater}
use Rattle.std.proofs.lemmas.List.Elements.{All-nil}
use Rattle.std.proofs.lemmas.Map.Views.{All-values-insert_entry, All-values-set_value, IfSome-lookup_from_All}
use Rattle.mail_message.specs.Boxes.{Content, IsRising, content_after, content_after_all, has_uid, relabelled, uids_of, with_flags}
use Rattle.mail_message.specs.Boxes.{with_message, without_uid}
use Rattle.mail_message.specs.FlagSets.{Flags}
use Rattle.mail_message.specs.declared.change.Change.TheVariants.{Gone, SetFlags}
use Rattle.mail_message.specs.declared.message.Message.{Message}
use Rattle.mail_message.specs.declared.message.Row.{Row}
use Rattle.mail_message.specs.declared.mode.Mode.TheVariants.{Add}
use Rattle.mail_store.specs.Append.{appended, append_fault}
use Rattle.mail_store.specs.Expunge.{expunged, expunged_uids}
use Rattle.mail_store.specs.Store.{flag_changes, has_too_many_flags, rows_stored, stored}
use Rattle.mail_store.specs.declared.fault.StoreFault.{StoreFault}
use Rattle.mail_store.proofs.TouchedLaws.{next-flags, next-gone}
use Rattle.mur_base.specs.declared.point.Point.{Point}
use Rattle.mur_model.specs.declared.commands.fetch.Fetching.{Fetching}
use Rattle.mur_model.specs.Needed.{Needed, Refusal, Turned, Mailbox, Names, Work, Make, Delete as delete_work, Append as append_work, Status as status_work, Select as select_work, Viewed as viewed_work}
use Rattle.mur_model.specs.declared.work.ViewWork.{ViewWork}
use Rattle.mur_model.specs.declared.work.ViewWork.TheVariants as view_work
use Rattle.imap_types.specs.declared.request.Request.{Request}
use Rattle.imap_types.specs.declared.request.Request.TheVariants.{Command as a_command, Unknown as unknown, TooBig as too_big}
use Rattle.mur_model.specs.declared.session.Sess.{Sess}
use Rattle.mur_model.specs.declared.setting.Setting.{Setting}
use Rattle.mur_model.specs.declared.store.Store.{Store}
use Rattle.mur_model.specs.declared.commands.store.FlagStore.{FlagStore}
use Rattle.mur_model.specs.declared.view.View.{View}
use Rattle.mur_model.specs.Act.{act_by, act_of, need_of, work_on}
use Rattle.mur_model.specs.Answer.{answer_of}
use Rattle.mur_model.specs.Append.{append_on, append_to}
use Rattle.mur_model.specs.Create.{create_on, make}
use Rattle.mur_model.specs.Delete.{delete_on}
use Rattle.mur_model.specs.Fetch.{fetch_at, seen_flags, sees}
use Rattle.mur_model.specs.History.{Course, Talk, Follows}
use Rattle.mur_model.specs.History.Follows.{no_points, a_reply, a_loss, a_refusal}
use Rattle.mur_model.specs.Left.{Left, Worked, kept, made, changed, removed, store_after}
use Rattle.mur_model.specs.Select.{select_on}
use Rattle.mur_model.specs.Status.{status_on}
use Rattle.mur_model.specs.Store.{box_at, empty_store, is_full}
use Rattle.mur_model.specs.StoreFlags.{stored_at}
use Rattle.mur_model.specs.Viewing.{found_gone, viewed_on, work_there}
use Rattle.mur_model.proofs.BoxGone.{each_left}

-- UIDs rise strictly from one on, and below another
abbrev pub RisesTo : ℕ → List Message → ℕ → Type 0
RisesTo low [] next = low ≤ next
RisesTo low (message ∷ messages) next = (low ≤ message.uid) × RisesTo (message.uid + 1) messages next

abbrev pub Rises : Content → Type 0
Rises box = RisesTo 0 box.messages box.next

from_lower : (lower low : ℕ) (messages : List Message) (next : ℕ) → lower ≤ low → RisesTo low messages next → RisesTo lower messages next
from_lower lower low [] next le rises = omega (arith, le, rises)
from_lower lower low (message ∷ messages) next le rises = (omega (arith, le, rises.0), rises.1)

pub rises_below : (low : ℕ) (messages : List Message) (next : ℕ) → RisesTo low messages next → low ≤ next
rises_below low [] next rises = rises
rises_below low (message ∷ messages) next rises = omega (arith, rises.0, rises_below (message.uid + 1) messages next rises.1)

-- ---- what follows

above_is : (low : ℕ) (messages : List Message) (next uid : ℕ) → uid < low → RisesTo low messages next
    → AllByRecursion (λ other. nat_cmp uid other ≡ Less) (uids_of messages)
above_is low [] next uid lt rises = tt
above_is low (message ∷ messages) next uid lt rises =
    let here : uid < message.uid = omega (arith, lt, rises.0) in
    (sym (nat_cmp_is uid message.uid Less here), above_is (message.uid + 1) messages next uid (omega (arith, here)) rises.1)

pub rising_is : (low : ℕ) (messages : List Message) (next : ℕ) → RisesTo low messages next → IsRising messages
unfolding IsStrictlySortedBy
rising_is low [] next rises = tt
rising_is low (message ∷ messages) next rises =
    (above_is (message.uid + 1) messages next message.uid (omega arith) rises.1, rising_is (message.uid + 1) messages next rises.1)

-- ---- what changes leave

put_by : (low next : ℕ) (message other : Message) (messages more : List Message) → other.uid < message.uid → low ≤ other.uid
    → RisesTo (other.uid + 1) more next
    → RisesTo low (match_ordering (nat_cmp message.uid other.uid) (message ∷ other ∷ messages) (message ∷ messages) (other ∷ more)) next
put_by low next message other messages more lt le rises = rw (sym (nat_cmp_is message.uid other.uid Greater lt)) (le, rises)

put_rises : (low : ℕ) (messages : List Message) (message : Message) → RisesTo low messages message.uid
    → RisesTo low (with_message messages message) (message.uid + 1)
put_rises low [] message rises = (rises, omega arith)
put_rises low (other ∷ messages) message rises =
    put_by low (message.uid + 1) message other messages (with_message messages message)
    (omega (arith, rises_below (other.uid + 1) messages message.uid rises.1)) rises.0 (put_rises (other.uid + 1) messages message rises.1)

pub appended_rises : (box : Content) (message : Message) → Rises box → Rises (appended box (message ∷ []))
appended_rises box message rises = put_rises 0 box.messages (record message { uid = box.next }) rises

label_by : (low next : ℕ) (test : Bool) (message : Message) (flags : Flags) (messages : List Message) → low ≤ message.uid
    → RisesTo (message.uid + 1) messages next → RisesTo low ((if test then relabelled message flags else message) ∷ messages) next
label_by low next true message flags messages le rises = (le, rises)
label_by low next false message flags messages le rises = (le, rises)

label_rises : (low next uid : ℕ) (flags : Flags) (messages : List Message) → RisesTo low messages next
    → RisesTo low (map (with_flags uid flags) messages) next
label_rises low next uid flags [] rises = rises
label_rises low next uid flags (message ∷ messages) rises =
    label_by low next (has_uid uid message) message flags (map (with_flags uid flags) messages) rises.0
    (label_rises (message.uid + 1) next uid flags messages rises.1)

labels_rise : (next : ℕ) (box : Content) (rows : List Row) → RisesTo 0 box.messages next
    → RisesTo 0 (content_after_all box (flag_changes rows)).messages next
labels_rise next box [] rises = rises
labels_rise next box (row ∷ rows) rises =
    labels_rise next (content_after box (SetFlags row.uid row.flags)) rows (label_rises 0 next row.uid row.flags box.messages rises)

pub stored_rises : (box : Content) (asked : FlagStore) → Rises box → Rises (stored box asked.uids asked.mode asked.flags)
stored_rises box asked rises =
    let rows = rows_stored box asked.uids asked.mode asked.flags in
    subst (RisesTo 0 (stored box asked.uids asked.mode asked.flags).messages) (sym (next-flags box rows)) (labels_rise box.next box rows rises)

gone_by : (low next : ℕ) (gone : Bool) (message : Message) (messages : List Message) → low ≤ message.uid → RisesTo (message.uid + 1) messages next
    → RisesTo low (cond (not gone) (message ∷ messages) messages) next
gone_by low next true message messages le rises = from_lower low (message.uid + 1) messages next (omega (arith, le)) rises
gone_by low next false message messages le rises = (le, rises)

gone_rises : (low next uid : ℕ) (messages : List Message) → RisesTo low messages next → RisesTo low (without_uid messages uid) next
gone_rises low next uid [] rises = rises
gone_rises low next uid (message ∷ messages) rises =
    gone_by low next (has_uid uid message) message (without_uid messages uid) rises.0 (gone_rises (message.uid + 1) next uid messages rises.1)

rest_rises : (next : ℕ) (box : Content) (uids : List ℕ) → RisesTo 0 box.messages next
    → RisesTo 0 (content_after_all box (map (λ uid. Gone uid) uids)).messages next
rest_rises next box [] rises = rises
rest_rises next box (uid ∷ uids) rises = rest_rises next (content_after box (Gone uid)) uids (gone_rises 0 next uid box.messages rises)

pub expunged_rises : (box : Content) (only : Option (List ℕ)) → Rises box → Rises (expunged box only)
expunged_rises box only rises =
    let uids = expunged_uids box only in
    subst (RisesTo 0 (expunged box only).messages) (sym (next-gone box uids)) (rest_rises box.next box uids rises)

-- ---- what commands leave

abbrev pub LeftRises : Left → Type 0
LeftRises kept = ⊤
LeftRises (made box) = Rises box
LeftRises (changed box) = Rises box
LeftRises removed = ⊤

made_rises : (name : List ℕ) (serial : ℕ) (full : Bool) → LeftRises (make name serial full).left
unfolding make
made_rises name serial true = tt
made_rises name serial false = omega arith

either_rises : (test : Bool) (one other : Worked) → LeftRises one.left → LeftRises other.left → LeftRises (if test then one else other).left
either_rises true one other is is_other = is
either_rises false one other is is_other = is_other

append_rises : (message : Message) (box : Content) (fault : Option StoreFault) → Rises box → LeftRises (append_to message box fault).left
unfolding append_to
append_rises message box (Some fault) rises = tt
append_rises message box None rises = appended_rises box message rises

flags_rise : (view : View) (asked : FlagStore) (box : Content) (many : Bool) → Rises box → LeftRises (stored_at view asked box many).left
flags_rise view asked box true rises = tt
flags_rise view asked box false rises = stored_rises box asked rises

seen_rises : (view : View) (asked : Fetching) (box : Content) → Rises box → LeftRises (fetch_at view asked box).left
seen_rises view asked box rises =
    either_rises (sees view asked) _ _
    (stored_rises box (record { by_uid = false; uids = asked.uids; mode = Add; is_silent = false; flags = seen_flags }) rises) tt

there_rises : (view : View) (work : ViewWork) (box : Content) → Rises box → LeftRises (work_there view work box).left
unfolding work_there
there_rises view (view_work.News why) box rises = tt
there_rises view view_work.Close box rises = expunged_rises box None rises
there_rises view (view_work.Expunge only) box rises = expunged_rises box only rises
there_rises view (view_work.Store asked) box rises =
    flags_rise view asked box (has_too_many_flags (rows_stored box asked.uids asked.mode asked.flags)) rises
there_rises view (view_work.Fetch asked) box rises = seen_rises view asked box rises
there_rises view (view_work.Search asked) box rises = tt

work_rises : (name : List ℕ) (work : Work) (serial : ℕ) (full : Bool) (found : Option Content) → IfSome found Rises
    → LeftRises (work_on name work serial full found).left
unfolding work_on create_on delete_on append_on status_on select_on viewed_on
work_rises name Make serial full None rises = made_rises name serial full
work_rises name delete_work serial full None rises = tt
work_rises name (append_work message) serial full None rises = tt
work_rises name (status_work shown items) serial full None rises = tt
work_rises name (select_work opened) serial full None rises = tt
work_rises name (viewed_work view work) serial full None rises = tt
work_rises name Make serial full (Some box) rises = tt
work_rises name delete_work serial full (Some box) rises = tt
work_rises name (append_work message) serial full (Some box) rises = append_rises message box (append_fault box (message ∷ [])) rises
work_rises name (status_work shown items) serial full (Some box) rises = tt
work_rises name (select_work opened) serial full (Some box) rises = tt
work_rises name (viewed_work view work) serial full (Some box) rises =
    either_rises (box.serial == view.serial) (work_there view work box) found_gone (there_rises view work box rises) tt

abbrev pub AllRise : Store → Type 0
AllRise store = All Rises (values_of store.boxes)

pub box_rises : (store : Store) (name : List ℕ) → AllRise store → IfSome (box_at store name) Rises
box_rises store name all = IfSome-lookup_from_All Rises (is_at (slice_cmp nat_cmp name)) store.boxes all

left_rises : (store : Store) (name : List ℕ) (left : Left) → LeftRises left → AllRise store → AllRise (store_after store name left)
unfolding store_after
left_rises store name kept is all = all
left_rises store name (made box) is all = All-values-insert_entry (slice_cmp nat_cmp) name box Rises store.boxes all is
left_rises store name (changed box) is all = All-values-set_value (is_at (slice_cmp nat_cmp name)) Rises store.boxes box all is
left_rises store name removed is all = each_left (λ (e : List ℕ × Content). e.1) Rises store name all

act_rises : (store : Store) (session : Sess) (serial : ℕ) (need : Needed) → AllRise store → AllRise (act_by store session serial need).store
unfolding act_by
act_rises store session serial (Refusal verdict) all = all
act_rises store session serial (Turned turn) all = all
act_rises store session serial (Mailbox name work) all =
    left_rises store name _ (work_rises name work serial (is_full store) (box_at store name) (box_rises store name all)) all
act_rises store session serial (Names it) all = all

pub answer_rises : (setting : Setting) (store : Store) (session : Sess) (request : Request) (serial : ℕ) → AllRise store
    → AllRise (answer_of setting store session request serial).store
unfolding answer_of act_of
answer_rises setting store session (a_command tag it) serial all = act_rises store session serial (need_of setting session it) all
answer_rises setting store session (unknown tag) serial all = all
answer_rises setting store session (too_big tag) serial all = all

pub points_rise : (setting : Setting) (talk : Talk) (first last : Course) (points : List Point) → Follows setting talk first points last
    → AllRise first.store → AllRise last.store
points_rise setting talk first last points (no_points course) all = all
points_rise setting talk first last points (a_loss course end step conn n request serial rest takes later) all =
    points_rise setting talk _ end rest later (answer_rises setting course.store (course.sessions conn) request serial all)
points_rise setting talk first last points (a_reply course end step conn n request serial rest takes told later) all =
    points_rise setting talk _ end rest later (answer_rises setting course.store (course.sessions conn) request serial all)
points_rise setting talk first last points (a_refusal course end step conn n tag it what why rest refused told later) all =
    points_rise setting talk _ end rest later all

pub none_rises : AllRise empty_store
none_rises = All-nil Rises

pub some_rising : (found : Option Content) → IfSome found Rises → IfSome found (λ box. IsRising box.messages)
some_rising None rises = tt
some_rising (Some box) rises = rising_is 0 box.messages box.next rises
