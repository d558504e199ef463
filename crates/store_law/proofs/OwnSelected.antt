-- No session ever has a mailbox selected on which its user has no rights.
use Rattle.std.proofs.Common.{ℕ, ◌==◌, Bool, true, false, if◌then◌else◌, List, [], ◌∷◌, Option, None, Some}
use Rattle.mail_message.specs.Boxes.{Content}
use Rattle.mail_message.specs.declared.message.Message.{Message}
use Rattle.mail_store.specs.Append.{append_fault}
use Rattle.mail_store.specs.Store.{has_too_many_flags, rows_stored}
use Rattle.mail_store.specs.declared.fault.StoreFault.{StoreFault}
use Rattle.mur_base.specs.declared.point.Point.{Point}
use Rattle.mur_base.specs.declared.user.User.{User}
use Rattle.imap_types.specs.declared.command.Command.{Command}
use Rattle.imap_types.specs.declared.command.Command.TheVariants as command
use Rattle.imap_types.specs.declared.command.StatusItem.{StatusItem}
use Rattle.imap_types.specs.declared.reply.NoText.{NoText}
use Rattle.imap_types.specs.declared.request.Request.{Request}
use Rattle.imap_types.specs.declared.request.Request.TheVariants.{Command as a_command, Unknown as unknown, TooBig as too_big}
use Rattle.mur_model.specs.declared.commands.fetch.Fetching.{Fetching}
use Rattle.mur_model.specs.declared.commands.select.Opening.{Opening}
use Rattle.mur_model.specs.declared.commands.store.FlagStore.{FlagStore}
use Rattle.mur_model.specs.declared.session.Sess.{Sess}
use Rattle.mur_model.specs.declared.session.Sess.TheVariants.{Off, Selected as selected}
use Rattle.mur_model.specs.declared.setting.Setting.{Setting}
use Rattle.mur_model.specs.declared.store.Store.{Store}
use Rattle.mur_model.specs.declared.view.View.{View}
use Rattle.mur_model.specs.declared.work.ViewWork.{ViewWork}
use Rattle.mur_model.specs.declared.work.ViewWork.TheVariants as view_work
use Rattle.mur_model.specs.Act.{act_by, act_of, need_of, session_after, work_on, worked_at}
use Rattle.mur_model.specs.Answer.{answer_of}
use Rattle.mur_model.specs.Append.{append_on, append_to}
use Rattle.mur_model.specs.Create.{create_on, make}
use Rattle.mur_model.specs.Delete.{delete_on}
use Rattle.mur_model.specs.Fetch.{fetch_at, sees}
use Rattle.mur_model.specs.History.{Course, Talk, Follows, with_session}
use Rattle.mur_model.specs.History.Follows.{no_points, a_reply, a_loss, a_refusal}
use Rattle.mur_model.specs.Left.{Worked}
use Rattle.mur_model.specs.Needed.{Needed, Refusal, Turned, Mailbox, Names, Work, Make, Delete as delete_work, Append as append_work, Status as status_work, Select as select_work, Viewed as viewed_work}
use Rattle.mur_model.specs.Relocation.{refused_for}
use Rattle.mur_model.specs.Select.{select_on}
use Rattle.mur_model.specs.Status.{status_on}
use Rattle.mur_model.specs.Store.{box_at, is_full}
use Rattle.mur_model.specs.StoreFlags.{stored_at}
use Rattle.mur_model.specs.Viewing.{found_gone, viewed_on, work_there}
use Rattle.store_law.specs.OthersUnseen.{HasOwnSelected, HasRightsOn}
use Rattle.store_law.proofs.OwnNeeds.{IsOwnWork, LeavesOwn, NeedsOwn, needs_own}

-- ---- behind work

module _ (users : List User) where
  made_own : (name : List ℕ) (serial : ℕ) (full : Bool) → LeavesOwn users (make name serial full).turn.session
  unfolding make
  made_own name serial true = tt
  made_own name serial false = tt

  created_own : (name : List ℕ) (serial : ℕ) (full : Bool) (box : Option Content) → LeavesOwn users (create_on name serial full box).turn.session
  unfolding create_on
  created_own name serial full (Some there) = tt
  created_own name serial full None = made_own name serial full

  deleted_own : (box : Option Content) → LeavesOwn users (delete_on box).turn.session
  unfolding delete_on
  deleted_own None = tt
  deleted_own (Some there) = tt

  appended_own : (message : Message) (box : Content) (fault : Option StoreFault) → LeavesOwn users (append_to message box fault).turn.session
  unfolding append_to
  appended_own message box (Some fault) = tt
  appended_own message box None = tt

  append_own : (message : Message) (box : Option Content) → LeavesOwn users (append_on message box).turn.session
  unfolding append_on
  append_own message None = tt
  append_own message (Some box) = appended_own message box (append_fault box (message ∷ []))

  status_own : (shown : List ℕ) (items : List StatusItem) (box : Option Content) → LeavesOwn users (status_on shown items box).turn.session
  unfolding status_on
  status_own shown items None = tt
  status_own shown items (Some box) = tt

  select_own : (it : Opening) (name : List ℕ) (box : Option Content) → HasRightsOn users it.user name
      → LeavesOwn users (select_on it name box).turn.session
  unfolding select_on HasOwnSelected
  select_own it name None has = tt
  select_own it name (Some box) has = has

  either : (test : Bool) (one other : Worked) → LeavesOwn users one.turn.session → LeavesOwn users other.turn.session
      → LeavesOwn users (if test then one else other).turn.session
  either true one other is is_other = is
  either false one other is is_other = is_other

  stored_own : (view : View) (it : FlagStore) (box : Content) (many : Bool) → HasRightsOn users view.user view.name
      → LeavesOwn users (stored_at view it box many).turn.session
  unfolding HasOwnSelected
  stored_own view it box true has = has
  stored_own view it box false has = has

  fetched_own : (view : View) (it : Fetching) (box : Content) → HasRightsOn users view.user view.name → LeavesOwn users (fetch_at view it box).turn.session
  unfolding HasOwnSelected
  fetched_own view it box has = either (sees view it) _ _ has has

  there_own : (view : View) (work : ViewWork) (box : Content) → HasRightsOn users view.user view.name
      → LeavesOwn users (work_there view work box).turn.session
  unfolding work_there HasOwnSelected
  there_own view (view_work.News why) box has = has
  there_own view view_work.Close box has = tt
  there_own view (view_work.Expunge only) box has = has
  there_own view (view_work.Store it) box has = stored_own view it box (has_too_many_flags (rows_stored box it.uids it.mode it.flags)) has
  there_own view (view_work.Fetch it) box has = fetched_own view it box has
  there_own view (view_work.Search it) box has = has

  viewed_own : (view : View) (work : ViewWork) (box : Option Content) → HasRightsOn users view.user view.name
      → LeavesOwn users (viewed_on view work box).turn.session
  unfolding viewed_on HasOwnSelected
  viewed_own view work None has = tt
  viewed_own view work (Some box) has = either (box.serial == view.serial) (work_there view work box) found_gone (there_own view work box has) tt

  work_own : (session : Sess) (it : Command) (name : List ℕ) (work : Work) (serial : ℕ) (full : Bool) (box : Option Content)
      → IsOwnWork users session it name work
      → LeavesOwn users (work_on name work serial full box).turn.session
  unfolding work_on
  work_own session it name Make serial full box own = created_own name serial full box
  work_own session it name delete_work serial full box own = deleted_own box
  work_own session it name (append_work message) serial full box own = append_own message box
  work_own session it name (status_work shown items) serial full box own = status_own shown items box
  work_own session it name (select_work opened) serial full box own = select_own opened name box own
  work_own session it name (viewed_work view work) serial full box own = viewed_own view work box own

  -- ---- behind a command

  after_own : (session : Sess) (later : Option Sess) → HasOwnSelected users session → LeavesOwn users later
      → HasOwnSelected users (session_after session later)
  after_own session None own leaves = own
  after_own session (Some later) own leaves = leaves

  act_own : (store : Store) (session : Sess) (serial : ℕ) (it : Command) (need : Needed) → HasOwnSelected users session
      → NeedsOwn users session it need → HasOwnSelected users (act_by store session serial need).session
  unfolding act_by
  act_own store session serial it (Refusal verdict) own needs = own
  act_own store session serial it (Turned turn) own needs = after_own session turn.session own needs
  act_own store session serial it (Mailbox name work) own needs =
      after_own session (worked_at store name work serial).turn.session own
      (work_own session it name work serial (is_full store) (box_at store name) needs.1)
  act_own store session serial it (Names listing) own needs = own

answer_own : (setting : Setting) (store : Store) (session : Sess) (request : Request) (serial : ℕ) → HasOwnSelected setting.users session
    → HasOwnSelected setting.users (answer_of setting store session request serial).session
unfolding answer_of act_of
answer_own setting store session (a_command tag it) serial own =
    act_own setting.users store session serial it (need_of setting session it) own (needs_own setting session it own)
answer_own setting store session (unknown tag) serial own = own
answer_own setting store session (too_big tag) serial own = own

-- behind a refusal for a move or for a server
refused_own : (users : List User) (session : Sess) (it : Command) (why : NoText) → HasOwnSelected users session
    → HasOwnSelected users (session_after session (refused_for session it why).session)
unfolding refused_for HasOwnSelected
refused_own users (selected view) (command.Select text) why own = tt
refused_own users (selected view) (command.Examine text) why own = tt
refused_own users session it why own = own

-- ---- in a history

-- each session has its user's own selected, or nothing
abbrev pub HaveOwnSelected : Setting → (ℕ → Sess) → Type 0
HaveOwnSelected setting sessions = (conn : ℕ) → HasOwnSelected setting.users (sessions conn)

with_own : (setting : Setting) (sessions : ℕ → Sess) (conn : ℕ) (session : Sess) → HaveOwnSelected setting sessions → HasOwnSelected setting.users session
    → HaveOwnSelected setting (with_session sessions conn session)
unfolding with_session
with_own setting sessions conn session all own other = by (other == conn)
  where
    by : (same : Bool) → HasOwnSelected setting.users (if same then session else sessions other)
    by true = own
    by false = all other

pub points_own : (setting : Setting) (talk : Talk) (first last : Course) (points : List Point) → Follows setting talk first points last
    → HaveOwnSelected setting first.sessions → HaveOwnSelected setting last.sessions
points_own setting talk first last points (no_points course) all = all
points_own setting talk first last points (a_loss course end step conn n request serial rest takes later) all =
    points_own setting talk _ end rest later
    (with_own setting course.sessions conn _ all (answer_own setting course.store (course.sessions conn) request serial (all conn)))
points_own setting talk first last points (a_reply course end step conn n request serial rest takes told later) all =
    points_own setting talk _ end rest later
    (with_own setting course.sessions conn _ all (answer_own setting course.store (course.sessions conn) request serial (all conn)))
points_own setting talk first last points (a_refusal course end step conn n tag it what why rest refused told later) all =
    points_own setting talk _ end rest later
    (with_own setting course.sessions conn _ all (refused_own setting.users (course.sessions conn) it why (all conn)))

pub none_own : (setting : Setting) → HaveOwnSelected setting (λ _. Off)
unfolding HasOwnSelected
none_own setting conn = tt
