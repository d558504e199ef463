-- A session that has a mailbox selected misses none of its messages but new ones, along each history.
use Rattle.std.proofs.Common.{◌≡◌, ℕ, ◌+◌, ◌≤◌, ◌==◌, nat_lt, Bool, true, false, if◌then◌else◌, List, [], ◌∷◌, map, Option, None, Some}
use Rattle.std.proofs.Common.{refl, sym, ◌∙◌, ap, subst, ⊎_elim, arith}
use Rattle.std.specs.Prelude.{⊤, IfSome}
use Rattle.std.specs.Cmp.Lexicographic.{slice_cmp}
use Rattle.std.specs.Ordering.{nat_cmp}
use Rattle.std.proofs.lemmas.Bool.Decides.{nat_tests}
use Rattle.mail_message.specs.Boxes.{Content, row_of}
use Rattle.mail_message.specs.declared.message.Message.{Message}
use Rattle.mail_message.specs.declared.message.Row.{Row}
use Rattle.mail_message.specs.declared.mode.Mode.TheVariants.{Add}
use Rattle.mail_store.specs.Expunge.{expunged}
use Rattle.mail_store.specs.Named.{set_of}
use Rattle.mail_store.specs.Store.{has_too_many_flags, rows_stored, stored}
use Rattle.mail_message.specs.Boxes.{messages_at}
use Rattle.mur_base.specs.declared.point.Point.{Point}
use Rattle.mur_base.proofs.MapLaws.{names_apart, value_at-with_value}
use Rattle.imap_types.specs.declared.command.Command.{Command}
use Rattle.imap_types.specs.declared.command.Command.TheVariants as command
use Rattle.imap_types.specs.declared.reply.NoText.{NoText}
use Rattle.imap_types.specs.declared.reply.Reply.{Reply}
use Rattle.imap_types.specs.declared.request.Request.{Request}
use Rattle.imap_types.specs.declared.request.Request.TheVariants.{Command as a_command, Unknown as unknown, TooBig as too_big}
use Rattle.mur_model.specs.declared.commands.fetch.Fetching.{Fetching}
use Rattle.mur_model.specs.declared.commands.select.Opening.{Opening}
use Rattle.mur_model.specs.declared.commands.store.FlagStore.{FlagStore}
use Rattle.mur_model.specs.declared.session.Sess.{Sess}
use Rattle.mur_model.specs.declared.session.Sess.TheVariants.{Off, In, Selected as selected, Ended}
use Rattle.mur_model.specs.declared.setting.Setting.{Setting}
use Rattle.mur_model.specs.declared.store.Store.{Store}
use Rattle.mur_model.specs.declared.view.View.{View}
use Rattle.mur_model.specs.declared.work.ViewWork.{ViewWork}
use Rattle.mur_model.specs.declared.work.ViewWork.TheVariants as view_work
use Rattle.mur_model.specs.Act.{act_by, act_of, need_of, session_after, work_on, MayAct}
use Rattle.mur_model.specs.Answer.{answer_of, MayTake}
use Rattle.mur_model.specs.ClientView.{uids}
use Rattle.mur_model.specs.Fetch.{fetch_at, flag_uids, seen_flags, sees}
use Rattle.mur_model.specs.History.{Course, Talk, Follows, with_session}
use Rattle.mur_model.specs.History.Follows.{no_points, a_reply, a_loss, a_refusal}
use Rattle.mur_model.specs.Left.{Left, Worked, box_after, kept, made, changed, removed, store_after}
use Rattle.mur_model.specs.Needed.{Needed, Refusal, Turned, Mailbox, Names, Work, Make, Delete as delete_work, Append as append_work, Status as status_work, Select as select_work, Viewed as viewed_work}
use Rattle.mur_model.specs.News.{has_row, is_above, news}
use Rattle.mur_model.specs.Relocation.{refused_for}
use Rattle.mur_model.specs.Select.{select_on}
use Rattle.mur_model.specs.Selected.{rows_of}
use Rattle.mur_model.specs.Store.{box_at, empty_store, is_full, with_box}
use Rattle.mur_model.specs.StoreFlags.{stored_at}
use Rattle.mur_model.specs.Viewing.{found_gone, viewed_on, work_there}
use Rattle.mur_model.proofs.EachNeed.{each_by_works}
use Rattle.mur_model.proofs.OwnView.{IsOfNeeded, IsOfWork, need_own}
use Rattle.store_law.proofs.BoxesGrow.{AllGrow, Grows, GrowsFrom, IsNew, IsUnused, LeftGrows, act_grows, has_message, there_grows, unchanged}
use Rattle.store_law.proofs.LinesLaw.{IsAtOwn, need_at_own}
use Rattle.store_law.proofs.MirrorSteps.{IsStillBy, NeedIsStill, append_still, created_still, deleted_still, status_still, works_still}
use Rattle.store_law.proofs.NewsWhole.{Covers, above_more, news_covers}
use Rattle.store_law.proofs.RisingStores.{AllRise, Rises, RisesTo, answer_rises, box_rises, expunged_rises, rises_below, stored_rises}
use Rattle.store_law.proofs.RisingViews.{rows_rise}

-- the view's UIDVALIDITY was given, and where the mailbox of its name has that still, the view misses none of its messages but new ones
pub record CoversBox (store : Store) (view : View) : Type 0 where
  pub given : ¬ IsUnused store view.serial
  pub covers : (box : Content) → box_at store view.name ≡ Some box → box.serial ≡ view.serial → Covers view.rows (rows_of box) box.next

unfoldable pub IsCovered : Store → Sess → Type 0
IsCovered store (selected view) = CoversBox store view
IsCovered store session = ⊤

-- ---- a mailbox that goes on

has_of : (messages : List Message) (uid : ℕ) → has_row (map row_of messages) uid ≡ has_message messages uid
has_of [] uid = refl
has_of (message ∷ messages) uid = by (message.uid == uid) refl (has_of messages uid)
  where
    by : (same : Bool) → (message.uid == uid) ≡ same → has_row (map row_of messages) uid ≡ has_message messages uid
        → has_row (map row_of (message ∷ messages)) uid ≡ has_message (message ∷ messages) uid
    by true e rest = rw e refl
    by false e rest = rw e rest

pub grown_covers : (rows : List Row) (box later : Content) → Grows box later → Covers rows (rows_of box) box.next → Covers rows (rows_of later) later.next
grown_covers rows box later grows covers = record {
  rises = covers.rises;
  below = above_more rows box.next later.next grows.next covers.below;
  all = λ uid has not_above. ⊎_elim
      (λ (old : has_message box.messages uid ≡ true). covers.all uid (has_of box.messages uid ∙ old) not_above)
      (λ (above : box.next ≤ uid). (let both : false ≡ true = sym not_above ∙ above_more rows box.next uid above covers.below in cc))
      (grows.new uid (sym (has_of later.messages uid) ∙ has));
}

others_covered : (store later : Store) (session : Sess) → AllGrow store later → IsCovered store session → IsCovered later session
unfolding IsCovered
others_covered store later Off all is = tt
others_covered store later (In user) all is = tt
others_covered store later Ended all is = tt
others_covered store later (selected view) all is =
    record {
      given = λ unused. is.given (all.given view.serial unused);
      covers = λ box there same. ⊎_elim
          (λ (from : GrowsFrom store view.name box).
          grown_covers view.rows from.before box from.grows (is.covers from.before from.there (sym from.grows.serial ∙ same)))
          (λ (new : IsNew store later box.serial). absurd (is.given (subst (IsUnused store) same new.0)))
          (all.boxes view.name box there);
    }

covered_by : (store : Store) (view : View) (box : Content) → ¬ IsUnused store view.serial → box_at store view.name ≡ Some box
    → Covers view.rows (rows_of box) box.next → CoversBox store view
covered_by store view box given at covers = record {
  given = given;
  covers = λ other there same.
      let both : Some box ≡ Some other = sym at ∙ there in
      let own : box ≡ other = cc in
      subst (λ (b : Content). Covers view.rows (rows_of b) b.next) own covers;
}

-- ---- behind news

pub below_next : (low : ℕ) (messages : List Message) (next : ℕ) → RisesTo low messages next → is_above (map row_of messages) next ≡ true
below_next low [] next rises = refl
below_next low (message ∷ messages) next rises =
    let below : message.uid + 1 ≤ next = rises_below (message.uid + 1) messages next rises.1 in
    let lt : nat_lt message.uid next ≡ true = grind (arith, nat_tests, below) in
    rw lt (below_next (message.uid + 1) messages next rises.1)

module _ (store : Store) (view : View) (box : Content) (rises : Rises box) (at : box_at store view.name ≡ Some box) (given : ¬ IsUnused store view.serial)
    (covers : Covers view.rows (rows_of box) box.next) where
  -- the view as the news tell it
  abbrev pub newer : Content → Bool → List ℕ → View
  newer later expunges told = record view { rows = (news view.rows (rows_of later) expunges told).rows }

  pub told_covered : (left : Left) (expunges : Bool) (told : List ℕ) → LeftGrows box left → Rises (box_after box left)
      → CoversBox (store_after store view.name left) (newer (box_after box left) expunges told)
  unfolding store_after box_after
  told_covered kept expunges told grows rising =
      covered_by store (newer box expunges told) box given at
      (news_covers view.rows (rows_of box) box.next covers expunges told (rows_rise box rising) (below_next 0 box.messages box.next rising))
  told_covered (made other) expunges told grows rising = absurd grows
  told_covered (changed later) expunges told grows rising =
      covered_by (with_box store view.name later) (newer later expunges told) later given
      (value_at-with_value (slice_cmp nat_cmp) names_apart store.boxes view.name later box at)
      (news_covers view.rows (rows_of later) later.next (grown_covers view.rows box later grows covers) expunges told (rows_rise later rising)
      (below_next 0 later.messages later.next rising))
  told_covered removed expunges told grows rising = absurd grows

  -- what work leaves
  abbrev LeavesCovered : Worked → Type 0
  LeavesCovered worked = IsCovered (store_after store view.name worked.left) (session_after (selected view) worked.turn.session)

  flags_covered : (it : FlagStore) (many : Bool) → LeftGrows box (stored_at view it box many).left → LeavesCovered (stored_at view it box many)
  unfolding IsCovered box_after
  flags_covered it true grows = told_covered kept it.by_uid [] tt rises
  flags_covered it false grows =
      told_covered (changed (stored box it.uids it.mode it.flags)) it.by_uid (set_of (uids (rows_stored box it.uids it.mode it.flags))) grows
      (stored_rises box it rises)

  seen_rises : (it : Fetching) → Rises (stored box it.uids Add seen_flags)
  seen_rises it = stored_rises box (record { by_uid = false; uids = it.uids; mode = Add; is_silent = false; flags = seen_flags }) rises

  fetched_covered : (it : Fetching) (test : Bool) → sees view it ≡ test → LeftGrows box (fetch_at view it box).left → LeavesCovered (fetch_at view it box)
  unfolding IsCovered box_after
  fetched_covered it true e grows =
      let before = messages_at box.messages it.uids in
      let later = stored box it.uids Add seen_flags in
      let grown : Grows box later = rw e at grows in
      rw e (told_covered (changed later) it.by_uid (set_of (flag_uids it (rows_of later) before)) grown (seen_rises it))
  fetched_covered it false e grows =
      let before = messages_at box.messages it.uids in
      rw e (told_covered kept it.by_uid (set_of (flag_uids it (rows_of box) before)) tt rises)

  pub there_covered : (work : ViewWork) → LeavesCovered (work_there view work box)
  unfolding work_there IsCovered box_after
  there_covered (view_work.News why) = told_covered kept true [] tt rises
  there_covered view_work.Close = tt
  there_covered (view_work.Expunge only) =
      told_covered (changed (expunged box only)) true [] (there_grows view (view_work.Expunge only) box) (expunged_rises box only rises)
  there_covered (view_work.Store it) =
      flags_covered it (has_too_many_flags (rows_stored box it.uids it.mode it.flags)) (there_grows view (view_work.Store it) box)
  there_covered (view_work.Fetch it) = fetched_covered it (sees view it) refl (there_grows view (view_work.Fetch it) box)
  there_covered (view_work.Search it) = told_covered kept it.by_uid [] tt rises

-- ---- behind a command

still_covered : (store : Store) (session : Sess) (later : Option Sess) (reply : Reply) → IsStillBy later reply → IsCovered store session
    → IsCovered store (session_after session later)
unfolding IsCovered
still_covered store session None reply still is = is
still_covered store session (Some Off) reply still is = tt
still_covered store session (Some (In user)) reply still is = tt
still_covered store session (Some (selected view)) reply still is = absurd still
still_covered store session (Some Ended) reply still is = tt

-- each mailbox that is there was given its UIDVALIDITY
abbrev pub AllGiven : Store → Type 0
AllGiven store = (name : List ℕ) (box : Content) → box_at store name ≡ Some box → ¬ IsUnused store box.serial

all_given : (store later : Store) → AllGrow store later → AllGiven store → AllGiven later
all_given store later grow all name box there = λ unused. ⊎_elim
    (λ (from : GrowsFrom store name box). all name from.before from.there (subst (IsUnused store) from.grows.serial (grow.given box.serial unused)))
    (λ (new : IsNew store later box.serial). new.1 unused) (grow.boxes name box there)

pub none_given : AllGiven empty_store
none_given name box at = cc

selected_covered : (store : Store) (it : Opening) (name : List ℕ) (found : Option Content) (session : Sess) → box_at store name ≡ found → IfSome found Rises → AllGiven store
    → IsCovered (store_after store name (select_on it name found).left) (session_after session (select_on it name found).turn.session)
unfolding select_on store_after IsCovered
selected_covered store it name None session at rises given = tt
selected_covered store it name (Some box) session at rises given =
    covered_by store _ box (given name box at) at
    (record { rises = rows_rise box rises; below = below_next 0 box.messages box.next rises; all = λ uid has not_above. has })

its_box : (store : Store) (view : View) → IsCovered store (selected view) → CoversBox store view
unfolding IsCovered
its_box store view is = is

module _ (store : Store) (rise : AllRise store) (given : AllGiven store) (session : Sess) (serial : ℕ) (is : IsCovered store session) where
  -- what work leaves of the store, and of the session
  abbrev Behind : List ℕ → Worked → Type 0
  Behind name worked = IsCovered (store_after store name worked.left) (session_after session worked.turn.session)

  viewed_covered : (view : View) (work : ViewWork) (found : Option Content) → box_at store view.name ≡ found → IfSome found Rises → CoversBox store view
      → IsCovered (store_after store view.name (viewed_on view work found).left) (session_after (selected view) (viewed_on view work found).turn.session)
  unfolding viewed_on IsCovered
  viewed_covered view work None at rises it = tt
  viewed_covered view work (Some box) at rises it = by (box.serial == view.serial) refl
    where
      by : (same : Bool) → (box.serial == view.serial) ≡ same → let worked = if same then work_there view work box else found_gone in
          IsCovered (store_after store view.name worked.left) (session_after (selected view) worked.turn.session)
      by true e =
          let same : box.serial ≡ view.serial = grind (arith, nat_tests, e) in there_covered store view box rises at it.given (it.covers box at same) work
      by false e = tt

  work_covered : (name : List ℕ) (work : Work) (full : Bool) (found : Option Content) → box_at store name ≡ found → IfSome found Rises
      → AllGrow store (store_after store name (work_on name work serial full found).left) → IsOfWork session work → IsAtOwn (Mailbox name work)
      → Behind name (work_on name work serial full found)
  unfolding work_on IsOfWork
  work_covered name Make full found at rises grow own here =
      still_covered _ session _ _ (created_still name serial full found) (others_covered store _ session grow is)
  work_covered name delete_work full found at rises grow own here =
      still_covered _ session _ _ (deleted_still found) (others_covered store _ session grow is)
  work_covered name (append_work message) full found at rises grow own here =
      still_covered _ session _ _ (append_still message found) (others_covered store _ session grow is)
  work_covered name (status_work shown items) full found at rises grow own here =
      still_covered _ session _ _ (status_still shown items found) (others_covered store _ session grow is)
  work_covered name (select_work it) full found at rises grow own here = selected_covered store it name found session at rises given
  work_covered name (viewed_work view work) full found at rises grow own here =
      let at_own : box_at store view.name ≡ found = sym (ap (box_at store) here) ∙ at in
      let so : IsCovered store (selected view) = subst (IsCovered store) own is in
      subst (λ n. IsCovered (store_after store n (viewed_on view work found).left) (session_after session (viewed_on view work found).turn.session)) (sym here)
      (subst (λ (s : Sess). IsCovered (store_after store view.name (viewed_on view work found).left) (session_after s (viewed_on view work found).turn.session))
      (sym own) (viewed_covered view work found at_own rises (its_box store view so)))

  act_covered : (need : Needed) → MayAct store serial need → NeedIsStill need → IsOfNeeded session need → IsAtOwn need
      → IsCovered (act_by store session serial need).store (act_by store session serial need).session
  unfolding act_by IsOfNeeded
  act_covered (Refusal verdict) may still own here = is
  act_covered (Turned turn) may still own here = still_covered store session turn.session turn.reply still is
  act_covered (Mailbox name work) may still own here =
      work_covered name work (is_full store) (box_at store name) refl (box_rises store name rise)
      (act_grows store session serial (Mailbox name work) may) own here
  act_covered (Names it) may still own here = is

answer_covered : (setting : Setting) (store : Store) (session : Sess) (request : Request) (serial : ℕ)
    → MayTake setting store session request serial → AllRise store → AllGiven store → IsCovered store session
    → IsCovered (answer_of setting store session request serial).store (answer_of setting store session request serial).session
unfolding answer_of act_of MayTake
answer_covered setting store session (a_command tag it) serial may rise given is =
    act_covered store rise given session serial is (need_of setting session it) may (each_by_works setting works_still session it) (need_own setting session it)
    (need_at_own setting session it)
answer_covered setting store session (unknown tag) serial may rise given is = is
answer_covered setting store session (too_big tag) serial may rise given is = is

answer_grows : (setting : Setting) (store : Store) (session : Sess) (request : Request) (serial : ℕ) → MayTake setting store session request serial
    → AllGrow store (answer_of setting store session request serial).store
unfolding answer_of act_of MayTake
answer_grows setting store session (a_command tag it) serial may = act_grows store session serial (need_of setting session it) may
answer_grows setting store session (unknown tag) serial may = unchanged store
answer_grows setting store session (too_big tag) serial may = unchanged store

-- behind a refusal for a move or for a server
refused_covered : (store : Store) (session : Sess) (it : Command) (why : NoText) → IsCovered store session
    → IsCovered store (session_after session (refused_for session it why).session)
unfolding refused_for IsCovered
refused_covered store (selected view) (command.Select text) why is = tt
refused_covered store (selected view) (command.Examine text) why is = tt
refused_covered store session it why is = is

-- ---- in a history

abbrev pub AllCovered : Store → (ℕ → Sess) → Type 0
AllCovered store sessions = (conn : ℕ) → IsCovered store (sessions conn)

with_covered : (store later : Store) (sessions : ℕ → Sess) (conn : ℕ) (session : Sess) → AllGrow store later → AllCovered store sessions
    → IsCovered later session → AllCovered later (with_session sessions conn session)
unfolding with_session
with_covered store later sessions conn session grow all own other = by (other == conn)
  where
    by : (same : Bool) → IsCovered later (if same then session else sessions other)
    by true = own
    by false = others_covered store later (sessions other) grow (all other)

pub points_covered : (setting : Setting) (talk : Talk) (first last : Course) (points : List Point) → Follows setting talk first points last
    → AllRise first.store → AllGiven first.store → AllCovered first.store first.sessions → AllCovered last.store last.sessions
points_covered setting talk first last points (no_points course) rise given all = all
points_covered setting talk first last points (a_loss course end step conn n request serial rest takes later) rise given all =
    let grow = answer_grows setting course.store (course.sessions conn) request serial takes.free in
    points_covered setting talk _ end rest later (answer_rises setting course.store (course.sessions conn) request serial rise)
    (all_given course.store _ grow given)
    (with_covered course.store _ course.sessions conn _ grow all
    (answer_covered setting course.store (course.sessions conn) request serial takes.free rise given (all conn)))
points_covered setting talk first last points (a_reply course end step conn n request serial rest takes told later) rise given all =
    let grow = answer_grows setting course.store (course.sessions conn) request serial takes.free in
    points_covered setting talk _ end rest later (answer_rises setting course.store (course.sessions conn) request serial rise)
    (all_given course.store _ grow given)
    (with_covered course.store _ course.sessions conn _ grow all
    (answer_covered setting course.store (course.sessions conn) request serial takes.free rise given (all conn)))
points_covered setting talk first last points (a_refusal course end step conn n tag it what why rest refused told later) rise given all =
    points_covered setting talk _ end rest later rise given
    (with_covered course.store course.store course.sessions conn _ (unchanged course.store) all
    (refused_covered course.store (course.sessions conn) it why (all conn)))

off_covered : (store : Store) (session : Sess) → session ≡ Off → IsCovered store session
unfolding IsCovered
off_covered store session off = subst (IsCovered store) (sym off) tt

pub none_covered : (store : Store) (sessions : ℕ → Sess) → ((conn : ℕ) → sessions conn ≡ Off) → AllCovered store sessions
none_covered store sessions off conn = off_covered store (sessions conn) (off conn)
