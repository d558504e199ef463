-- What one command does to the store and its session, and its reply (RFC 9051, 6). Refusals are tested in the order state, message number,
-- what can't be done, rights, missing mailbox, limits. A refused command leaves the store as it was, and the session too, but that a SELECT or an
-- EXAMINE leaves no mailbox selected, and a STORE that a limit refuses tells the news.
use Rattle.std.specs.Prelude.{◌≡◌, ℕ, ⊤, Bool, true, false, if◌then◌else◌, List, Option, None, Some, codes}
use Rattle.mail_message.specs.Boxes.{Content}
use Rattle.imap_types.specs.declared.command.Command.{Command}
use Rattle.imap_types.specs.declared.command.Command.TheVariants as command
use Rattle.mur_model.specs.Needed.{Needed, Refusal, Turned, Mailbox, Names, Work, Make, Delete as delete_work, Append as append_work, Status as status_work, Select as select_work, Viewed as viewed_work, at_mailbox}
use Rattle.mur_model.specs.declared.work.ViewWork.TheVariants as work
use Rattle.imap_types.specs.declared.reply.BadText.TheVariants.{State, Syntax}
use Rattle.imap_types.specs.declared.reply.NoText.TheVariants.{Cannot}
use Rattle.imap_types.specs.declared.reply.Reply.{Reply}
use Rattle.imap_types.specs.declared.reply.Verdict.TheVariants.{Bad as bad_reply, No as no_reply}
use Rattle.mur_model.specs.declared.session.Sess.{Sess}
use Rattle.mur_model.specs.declared.session.Sess.TheVariants.{Off, In, Selected as selected, Ended}
use Rattle.mur_model.specs.declared.setting.Setting.{Setting}
use Rattle.mur_model.specs.declared.store.Store.{Store}
use Rattle.mur_model.specs.declared.work.NewsFor.TheVariants as news_for
use Rattle.mur_model.specs.declared.view.View.{View}
use Rattle.mur_model.specs.Append.{new_message, append, append_on}
use Rattle.mur_model.specs.AtOnce.{capability, enable, is_done, logout}
use Rattle.mur_model.specs.Close.{close, left_by}
use Rattle.mur_model.specs.Create.{create, create_on}
use Rattle.mur_model.specs.Delete.{delete, delete_on}
use Rattle.mur_model.specs.Expunge.{expunge}
use Rattle.mur_model.specs.Fetch.{fetch}
use Rattle.mur_model.specs.Left.{Worked, replied, store_after}
use Rattle.mur_model.specs.Listing.{list, list_reply, names_in}
use Rattle.mur_model.specs.Login.{login}
use Rattle.mur_model.specs.Plain.{authenticate}
use Rattle.imap_types.specs.Reply.{reply_of, completed}
use Rattle.mur_model.specs.Search.{search}
use Rattle.mur_model.specs.Select.{select, select_on}
use Rattle.mur_model.specs.Status.{status, status_on}
use Rattle.mur_model.specs.Store.{box_at, is_full, IsFree}
use Rattle.mur_model.specs.StoreFlags.{store}
use Rattle.mur_model.specs.Traits.{is_in, traits_of}
use Rattle.mur_model.specs.Viewing.{viewed_on}

-- the refusal of a command that is read and that no state has, or that lacks the line which it waits for (see Waits)
abbrev pub not_yet : Needed
not_yet = Refusal (bad_reply Syntax)

-- the refusal of a command that nothing carries out
abbrev pub cannot_yet : Needed
cannot_yet = Refusal (no_reply Cannot)

abbrev pub nothing_new : Needed
nothing_new = Turned (replied (completed (codes "NOOP")))

-- a command of a session that hasn't begun
unfoldable pub need_off : Setting → Command → Needed
need_off setting command.Capability = capability
need_off setting command.Noop = nothing_new
need_off setting command.Logout = logout
need_off setting (command.Login user password) = login setting.users (codes "LOGIN") user password
need_off setting (command.Authenticate (Some response)) = authenticate setting.users response
need_off setting it = not_yet

-- an IDLE ends with DONE, and with no other line (RFC 9051, 6.3.13)
abbrev pub idled : List ℕ → Needed → Needed
idled line done = if is_done line then done else Refusal (bad_reply Syntax)

-- a command of this user that a session has whether a mailbox is selected or not
unfoldable pub need_begun : Setting → List ℕ → Bool → Command → Needed
need_begun setting user is_selected command.Capability = capability
need_begun setting user is_selected command.Logout = logout
need_begun setting user is_selected (command.Enable names) = enable
need_begun setting user is_selected (command.Create text) = create setting user text
need_begun setting user is_selected (command.Append text flags date body) = append setting user text (new_message setting flags date body)
need_begun setting user is_selected (command.Status text items) = status setting user text items
need_begun setting user is_selected (command.Select text) = select setting user text true is_selected
need_begun setting user is_selected (command.Examine text) = select setting user text false is_selected
need_begun setting user is_selected (command.Delete text) = delete setting user text
need_begun setting user is_selected (command.List reference mailbox) = list setting user reference mailbox
need_begun setting user is_selected (command.Copy by_uid set text) = cannot_yet
need_begun setting user is_selected (command.Xfer text server partition) = cannot_yet
need_begun setting user is_selected (command.LeftOut line) = Refusal (no_reply Cannot)
need_begun setting user is_selected it = not_yet

-- a command of a session of this user, with no mailbox selected
unfoldable pub need_in : Setting → List ℕ → Command → Needed
need_in setting user command.Noop = nothing_new
need_in setting user (command.Idle (Some line)) = idled line (Turned (replied (completed (codes "IDLE"))))
need_in setting user it = need_begun setting user false it

-- a command of a session that has this view
unfoldable pub need_selected : Setting → View → Command → Needed
need_selected setting view command.Noop = at_mailbox view (work.News news_for.Noop)
need_selected setting view (command.Idle (Some line)) = idled line (at_mailbox view (work.News news_for.Idle))
need_selected setting view command.Close = close view
need_selected setting view command.Unselect = Turned (left_by view (codes "UNSELECT"))
need_selected setting view (command.Expunge only) = expunge view only
need_selected setting view (command.Store by_uid set mode is_silent flags) = store view by_uid set mode is_silent flags
need_selected setting view (command.Fetch by_uid set items) = fetch view by_uid set items
need_selected setting view (command.Search by_uid keys) = search view by_uid keys
need_selected setting view it = need_begun setting view.user true it

-- a command that the state of its session has
unfoldable pub need_taken : Setting → Sess → Command → Needed
need_taken setting Off it = need_off setting it
need_taken setting (In user) it = need_in setting user it
need_taken setting (selected view) it = need_selected setting view it
need_taken setting Ended it = Refusal (bad_reply State)

-- what a command needs of the store: it is refused where the state of its session doesn't have it
unfoldable pub need_of : Setting → Sess → Command → Needed
need_of setting session it = if is_in session (traits_of it).states then need_taken setting session it else Refusal (bad_reply State)

-- what work leaves of the mailbox that stands there; a CREATE gives a new one the serial as its UIDVALIDITY, unless the store is full
unfoldable pub work_on : List ℕ → Work → ℕ → Bool → Option Content → Worked
work_on name Make serial full box = create_on name serial full box
work_on name delete_work serial full box = delete_on box
work_on name (append_work message) serial full box = append_on message box
work_on name (status_work shown items) serial full box = status_on shown items box
work_on name (select_work it) serial full box = select_on it name box
work_on name (viewed_work view it) serial full box = viewed_on view it box

-- store, session and reply after a command
pub record Acted : Type 0 where
  pub store : Store
  pub session : Sess
  pub reply : Reply

-- work at a mailbox of the store
abbrev pub worked_at : Store → List ℕ → Work → ℕ → Worked
worked_at store name work serial = work_on name work serial (is_full store) (box_at store name)

-- the session behind a turn
abbrev pub session_after : Sess → Option Sess → Sess
session_after session None = session
session_after session (Some later) = later

unfoldable pub act_by : Store → Sess → ℕ → Needed → Acted
act_by store session serial (Refusal verdict) = record { store = store; session = session; reply = reply_of verdict }
act_by store session serial (Turned turn) = record { store = store; session = session_after session turn.session; reply = turn.reply }
act_by store session serial (Mailbox name work) =
    let worked = worked_at store name work serial in
    record { store = store_after store name worked.left; session = session_after session (worked.turn).session; reply = (worked.turn).reply }
act_by store session serial (Names it) = record { store = store; session = session; reply = list_reply it (names_in store) }

-- a command in a session; the serial is the UIDVALIDITY of the mailbox that a CREATE makes
unfoldable pub act_of : Setting → Store → Sess → Command → ℕ → Acted
act_of setting store session command serial = act_by store session serial (need_of setting session command)

unfoldable pub MayWork : Store → List ℕ → ℕ → Work → Type 0
MayWork store name serial Make = box_at store name ≡ None → is_full store ≡ false → IsFree store name serial
MayWork store name serial delete_work = ⊤
MayWork store name serial (append_work message) = ⊤
MayWork store name serial (status_work shown items) = ⊤
MayWork store name serial (select_work it) = ⊤
MayWork store name serial (viewed_work view it) = ⊤

unfoldable pub MayAct : Store → ℕ → Needed → Type 0
MayAct store serial (Refusal verdict) = ⊤
MayAct store serial (Turned turn) = ⊤
MayAct store serial (Mailbox name work) = MayWork store name serial work
MayAct store serial (Names it) = ⊤

-- the serial is free where the command makes a mailbox
abbrev pub MayGive : Setting → Store → Sess → Command → ℕ → Type 0
MayGive setting store session command serial = MayAct store serial (need_of setting session command)
