-- A session that has begun stays its user's until it ends: no command makes it another user's, or one that has not begun.
use Rattle.std.proofs.Common.{◌≡◌, ℕ, ◌==◌, Bool, true, false, if◌then◌else◌, List, [], ◌∷◌, Option, None, Some, codes, refl, ap, subst, inl, inr}
use Rattle.std.proofs.lemmas.Option.{same_Some}
use Rattle.std.specs.Prelude.{⊤, ◌⊎◌, length}
use Rattle.mail_message.specs.Boxes.{Content, messages_at}
use Rattle.mail_message.specs.FlagSets.{Flags}
use Rattle.mail_message.specs.declared.message.Message.{Message}
use Rattle.mail_message.specs.declared.mode.Mode.{Mode}
use Rattle.mail_message.specs.declared.mode.Mode.TheVariants.{Add}
use Rattle.mail_message.specs.declared.set.SetPart.{SetPart}
use Rattle.mail_store.specs.Append.{append_fault}
use Rattle.mail_store.specs.Store.{stored, rows_stored, has_too_many_flags}
use Rattle.mail_store.specs.declared.fault.StoreFault.{StoreFault}
use Rattle.mur_base.specs.Inbox.{taken_name}
use Rattle.mur_base.specs.Names.{mail_name_fault}
use Rattle.mur_base.specs.declared.name.NameFault.{NameFault}
use Rattle.imap_types.specs.declared.command.Command.{Command}
use Rattle.imap_types.specs.declared.command.Command.TheVariants as command
use Rattle.imap_types.specs.declared.command.StatusItem.{StatusItem}
use Rattle.imap_types.specs.declared.reply.BadText.TheVariants.{State, Syntax}
use Rattle.imap_types.specs.declared.reply.Verdict.TheVariants.{Bad as bad_reply}
use Rattle.imap_types.specs.Reply.{completed}
use Rattle.mur_model.specs.declared.commands.fetch.Fetching.{Fetching}
use Rattle.mur_model.specs.declared.commands.select.Opening.{Opening}
use Rattle.mur_model.specs.declared.commands.store.FlagStore.{FlagStore}
use Rattle.name_listing.specs.Listing.{asks_separator, pattern_of}
use Rattle.mur_model.specs.declared.session.Sess.{Sess}
use Rattle.mur_model.specs.declared.session.Sess.TheVariants.{Off, In, Selected as selected, Ended}
use Rattle.mur_model.specs.declared.session.Turn.{Turn}
use Rattle.mur_model.specs.declared.setting.Setting.{Setting}
use Rattle.mur_model.specs.declared.store.Store.{Store}
use Rattle.mur_model.specs.declared.view.View.{View}
use Rattle.mur_model.specs.declared.work.NewsFor.TheVariants as news_for
use Rattle.mur_model.specs.declared.work.ViewWork.{ViewWork}
use Rattle.mur_model.specs.declared.work.ViewWork.TheVariants as view_work
use Rattle.mur_model.specs.Act.{act_by, act_of, idled, need_begun, need_in, need_of, need_selected, need_taken, session_after, work_on, worked_at}
use Rattle.mur_model.specs.Append.{append, append_as, append_by, append_on, append_to, new_message}
use Rattle.mur_model.specs.AtOnce.{is_done}
use Rattle.mur_model.specs.Close.{left_by}
use Rattle.mur_model.specs.Create.{create, create_as, create_by, create_meant, create_on, is_inbox, make, without_separator}
use Rattle.mur_model.specs.Delete.{delete, delete_as, delete_by, delete_on}
use Rattle.mur_model.specs.Expunge.{expunge_named}
use Rattle.mur_model.specs.Fetch.{fetch_at, fetch_named, fetch_told, sees, seen_flags}
use Rattle.mur_model.specs.Keys.{have_all_numbers, keys_at}
use Rattle.mur_model.specs.Left.{Worked, kept, changed, replied}
use Rattle.mur_model.specs.Listing.{list, listing_by, separator_told}
use Rattle.mur_model.specs.NamedRows.{last_uid, names_messages}
use Rattle.mur_model.specs.Needed.{Needed, Refusal, Turned, Mailbox, Names, Work, Make, Delete as delete_work, Append as append_work, Status as status_work, Select as select_work, Viewed as viewed_work, at_mailbox, no_such_number, read_only}
use Rattle.mur_model.specs.Rights.{has_rights, may_create}
use Rattle.mur_model.specs.Select.{opening, select, select_as, select_by, select_on}
use Rattle.mur_model.specs.Selected.{rows_of}
use Rattle.mur_model.specs.Status.{status, status_as, status_by, status_on}
use Rattle.mur_model.specs.Store.{box_at, is_full}
use Rattle.mur_model.specs.StoreFlags.{store_named, stored_at}
use Rattle.mur_model.specs.Traits.{is_in, traits_of}
use Rattle.mur_model.specs.Viewing.{found_gone, viewed_on, work_there}
use Rattle.store_law.specs.Logins.{session_user}

-- a session of this user, or one that has ended
abbrev IsOwn : List ℕ → Sess → Type 0
IsOwn user Off = ⊥
IsOwn user (In other) = other ≡ user
IsOwn user (selected view) = view.user ≡ user
IsOwn user Ended = ⊤

-- a turn leaves a session of this user so
abbrev IsOwnLater : List ℕ → Option Sess → Type 0
IsOwnLater user None = ⊤
IsOwnLater user (Some later) = IsOwn user later

abbrev StaysOwn : List ℕ → Turn → Type 0
StaysOwn user turn = IsOwnLater user turn.session

-- ---- the work at a mailbox

made_on : (user name : List ℕ) (serial : ℕ) (full : Bool) → StaysOwn user (make name serial full).turn
unfolding make
made_on user name serial true = tt
made_on user name serial false = tt

created_on : (user name : List ℕ) (serial : ℕ) (full : Bool) (box : Option Content) → StaysOwn user (create_on name serial full box).turn
unfolding create_on
created_on user name serial full (Some there) = tt
created_on user name serial full None = made_on user name serial full

deleted_on : (user : List ℕ) (box : Option Content) → StaysOwn user (delete_on box).turn
unfolding delete_on
deleted_on user None = tt
deleted_on user (Some there) = tt

appended_by : (user : List ℕ) (message : Message) (box : Content) (fault : Option StoreFault) → StaysOwn user (append_to message box fault).turn
unfolding append_to
appended_by user message box (Some fault) = tt
appended_by user message box None = tt

appended_on : (user : List ℕ) (message : Message) (box : Option Content) → StaysOwn user (append_on message box).turn
unfolding append_on
appended_on user message None = tt
appended_on user message (Some box) = appended_by user message box (append_fault box (message ∷ []))

counted_on : (user shown : List ℕ) (items : List StatusItem) (box : Option Content) → StaysOwn user (status_on shown items box).turn
unfolding status_on
counted_on user shown items None = tt
counted_on user shown items (Some box) = tt

selected_on : (user : List ℕ) (it : Opening) (name : List ℕ) (box : Option Content) → it.user ≡ user → StaysOwn user (select_on it name box).turn
unfolding select_on
selected_on user it name None own = own
selected_on user it name (Some box) own = own

either_on : (user : List ℕ) (test : Bool) (one other : Worked) → StaysOwn user one.turn → StaysOwn user other.turn
    → StaysOwn user (if test then one else other).turn
either_on user true one other is is_other = is
either_on user false one other is is_other = is_other

stored_on : (user : List ℕ) (view : View) (it : FlagStore) (box : Content) (many : Bool) → view.user ≡ user → StaysOwn user (stored_at view it box many).turn
stored_on user view it box true own = own
stored_on user view it box false own = own

fetched_on : (user : List ℕ) (view : View) (it : Fetching) (box : Content) → view.user ≡ user → StaysOwn user (fetch_at view it box).turn
fetched_on user view it box own =
    let before = messages_at box.messages it.uids in
    let after = stored box it.uids Add seen_flags in
    either_on user (sees view it) (record { left = changed after; turn = fetch_told view it before (rows_of after) })
    (record { left = kept; turn = fetch_told view it before (rows_of box) }) own own

there_on : (user : List ℕ) (view : View) (work : ViewWork) (box : Content) → view.user ≡ user → StaysOwn user (work_there view work box).turn
unfolding work_there
there_on user view (view_work.News why) box own = own
there_on user view view_work.Close box own = own
there_on user view (view_work.Expunge only) box own = own
there_on user view (view_work.Store it) box own = stored_on user view it box (has_too_many_flags (rows_stored box it.uids it.mode it.flags)) own
there_on user view (view_work.Fetch it) box own = fetched_on user view it box own
there_on user view (view_work.Search it) box own = own

viewed_stays : (user : List ℕ) (view : View) (work : ViewWork) (box : Option Content) → view.user ≡ user → StaysOwn user (viewed_on view work box).turn
unfolding viewed_on
viewed_stays user view work None own = tt
viewed_stays user view work (Some box) own =
    either_on user (box.serial == view.serial) (work_there view work box) found_gone (there_on user view work box own) tt

-- work for this user
unfoldable IsWorkOf : List ℕ → Work → Type 0
IsWorkOf user (select_work it) = it.user ≡ user
IsWorkOf user (viewed_work view it) = view.user ≡ user
IsWorkOf user work = ⊤

work_stays : (user name : List ℕ) (work : Work) (serial : ℕ) (full : Bool) (box : Option Content) → IsWorkOf user work
    → StaysOwn user (work_on name work serial full box).turn
unfolding work_on IsWorkOf
work_stays user name Make serial full box own = created_on user name serial full box
work_stays user name delete_work serial full box own = deleted_on user box
work_stays user name (append_work message) serial full box own = appended_on user message box
work_stays user name (status_work shown items) serial full box own = counted_on user shown items box
work_stays user name (select_work it) serial full box own = selected_on user it name box own
work_stays user name (viewed_work view it) serial full box own = viewed_stays user view it box own

-- ---- what a command needs

-- a need of this user's session
unfoldable IsNeedOf : List ℕ → Needed → Type 0
IsNeedOf user (Refusal verdict) = ⊤
IsNeedOf user (Turned turn) = StaysOwn user turn
IsNeedOf user (Mailbox name work) = IsWorkOf user work
IsNeedOf user (Names it) = it.user ≡ user

either_need : (user : List ℕ) (test : Bool) (one other : Needed) → IsNeedOf user one → IsNeedOf user other → IsNeedOf user (if test then one else other)
either_need user true one other is is_other = is
either_need user false one other is is_other = is_other

create_need : (user name : List ℕ) (may : Bool) → IsNeedOf user (create_by name may)
unfolding create_by IsNeedOf IsWorkOf
create_need user name true = tt
create_need user name false = tt

create_need_as : (setting : Setting) (user name : List ℕ) (inbox : Bool) (fault : Option NameFault) → IsNeedOf user (create_as setting user name inbox fault)
unfolding create_as IsNeedOf
create_need_as setting user name true fault = tt
create_need_as setting user name false (Some fault) = tt
create_need_as setting user name false None = create_need user name (may_create setting.users user name)

delete_need : (user name : List ℕ) (may : Bool) → IsNeedOf user (delete_by name may)
unfolding delete_by IsNeedOf IsWorkOf
delete_need user name true = tt
delete_need user name false = tt

delete_need_as : (setting : Setting) (user name : List ℕ) (inbox : Bool) (fault : Option NameFault) → IsNeedOf user (delete_as setting user name inbox fault)
unfolding delete_as IsNeedOf
delete_need_as setting user name true fault = tt
delete_need_as setting user name false (Some fault) = tt
delete_need_as setting user name false None = delete_need user name (has_rights setting.users user name)

append_need : (user name : List ℕ) (message : Message) (may : Bool) → IsNeedOf user (append_by name message may)
unfolding append_by IsNeedOf IsWorkOf
append_need user name message true = tt
append_need user name message false = tt

append_need_as : (setting : Setting) (user name : List ℕ) (message : Message) (fault : Option NameFault)
    → IsNeedOf user (append_as setting user name message fault)
unfolding append_as IsNeedOf
append_need_as setting user name message (Some fault) = tt
append_need_as setting user name message None = append_need user name message (has_rights setting.users user name)

status_need : (user name : List ℕ) (items : List StatusItem) (may : Bool) → IsNeedOf user (status_by user name items may)
unfolding status_by IsNeedOf IsWorkOf
status_need user name items true = tt
status_need user name items false = tt

status_need_as : (setting : Setting) (user name : List ℕ) (items : List StatusItem) (fault : Option NameFault)
    → IsNeedOf user (status_as setting user name items fault)
unfolding status_as IsNeedOf
status_need_as setting user name items (Some fault) = tt
status_need_as setting user name items None = status_need user name items (has_rights setting.users user name)

select_need : (user name : List ℕ) (is_writable was_selected may : Bool) → IsNeedOf user (select_by name (opening user name is_writable was_selected) may)
unfolding select_by IsNeedOf IsWorkOf
select_need user name is_writable was_selected true = refl
select_need user name is_writable was_selected false = refl

select_need_as : (setting : Setting) (user name : List ℕ) (is_writable was_selected : Bool) (fault : Option NameFault)
    → IsNeedOf user (select_as setting user name is_writable was_selected fault)
unfolding select_as IsNeedOf
select_need_as setting user name is_writable was_selected (Some fault) = refl
select_need_as setting user name is_writable was_selected None =
    select_need user name is_writable was_selected (has_rights setting.users user name)

list_need : (setting : Setting) (user reference mailbox : List ℕ) → IsNeedOf user (list setting user reference mailbox)
unfolding list IsNeedOf
list_need setting user reference mailbox =
    either_need user (asks_separator mailbox) separator_told (Names (listing_by setting user (pattern_of reference mailbox))) tt refl

begun_need : (setting : Setting) (user : List ℕ) (is_selected : Bool) (it : Command) → IsNeedOf user (need_begun setting user is_selected it)
unfolding need_begun create create_meant delete append status select IsNeedOf
begun_need setting user is_selected (command.Create text) =
    let meant = without_separator text in
    create_need_as setting user (taken_name user meant) (is_inbox meant) (mail_name_fault (taken_name user meant))
begun_need setting user is_selected (command.Delete text) =
    delete_need_as setting user (taken_name user text) (is_inbox text) (mail_name_fault (taken_name user text))
begun_need setting user is_selected (command.Append text flags date body) =
    let name = taken_name user text in
    append_need_as setting user name (new_message setting flags date body) (mail_name_fault name)
begun_need setting user is_selected (command.Status text items) =
    status_need_as setting user (taken_name user text) items (mail_name_fault (taken_name user text))
begun_need setting user is_selected (command.Select text) =
    select_need_as setting user (taken_name user text) true is_selected (mail_name_fault (taken_name user text))
begun_need setting user is_selected (command.Examine text) =
    select_need_as setting user (taken_name user text) false is_selected (mail_name_fault (taken_name user text))
begun_need setting user is_selected (command.List reference mailbox) = list_need setting user reference mailbox
begun_need setting user is_selected it = tt

idled_need : (user line : List ℕ) (done : Needed) → IsNeedOf user done → IsNeedOf user (idled line done)
unfolding IsNeedOf
idled_need user line done is = either_need user (is_done line) done (Refusal (bad_reply Syntax)) is tt

in_need : (setting : Setting) (user : List ℕ) (it : Command) → IsNeedOf user (need_in setting user it)
unfolding need_in IsNeedOf
in_need setting user command.Noop = tt
in_need setting user (command.Idle (Some line)) = idled_need user line (Turned (replied (completed (codes "IDLE")))) tt
in_need setting user (command.Idle None) = begun_need setting user false (command.Idle None)
in_need setting user it = begun_need setting user false it

expunge_need : (view : View) (only : Option (List SetPart)) → IsNeedOf view.user (expunge_named view only)
unfolding IsNeedOf IsWorkOf
expunge_need view None = refl
expunge_need view (Some set) = refl

store_need : (view : View) (by_uid : Bool) (set : List SetPart) (mode : Mode) (is_silent : Bool) (flags : Flags)
    → IsNeedOf view.user (if view.is_writable then store_named view by_uid set mode is_silent flags else read_only)
unfolding IsNeedOf IsWorkOf
store_need view by_uid set mode is_silent flags =
    either_need view.user view.is_writable (store_named view by_uid set mode is_silent flags) read_only refl tt

selected_need : (setting : Setting) (view : View) (it : Command) → IsNeedOf view.user (need_selected setting view it)
unfolding need_selected IsNeedOf IsWorkOf
selected_need setting view command.Noop = refl
selected_need setting view (command.Idle (Some line)) = idled_need view.user line (at_mailbox view (view_work.News news_for.Idle)) refl
selected_need setting view (command.Idle None) = begun_need setting view.user true (command.Idle None)
selected_need setting view command.Close =
    either_need view.user view.is_writable (at_mailbox view view_work.Close) (Turned (left_by view (codes "CLOSE"))) refl refl
selected_need setting view command.Unselect = refl
selected_need setting view (command.Expunge only) =
    either_need view.user view.is_writable (expunge_named view only) read_only (expunge_need view only) tt
selected_need setting view (command.Store by_uid set mode is_silent flags) =
    either_need view.user (names_messages view by_uid set) (if view.is_writable then store_named view by_uid set mode is_silent flags else read_only)
    no_such_number (store_need view by_uid set mode is_silent flags) tt
selected_need setting view (command.Fetch by_uid set items) =
    either_need view.user (names_messages view by_uid set) (fetch_named view by_uid set items) no_such_number refl tt
selected_need setting view (command.Search by_uid keys) =
    let placed = keys_at (length view.rows) (last_uid view.rows) keys in
    either_need view.user (have_all_numbers (length view.rows) keys)
    (at_mailbox view (view_work.Search (record { by_uid = by_uid; keys = placed }))) no_such_number refl tt
selected_need setting view it = begun_need setting view.user true it

own_need : (setting : Setting) (session : Sess) (user : List ℕ) (it : Command) → session_user session ≡ Some user
    → IsNeedOf user (need_taken setting session it)
unfolding session_user need_taken
own_need setting Off user it own = cc
own_need setting (In other) user it own = subst (λ u. IsNeedOf u (need_in setting other it)) (same_Some other user own) (in_need setting other it)
own_need setting (selected view) user it own =
    subst (λ u. IsNeedOf u (need_selected setting view it)) (same_Some view.user user own) (selected_need setting view it)
own_need setting Ended user it own = cc

taken_need : (setting : Setting) (session : Sess) (user : List ℕ) (it : Command) → session_user session ≡ Some user
    → IsNeedOf user (need_of setting session it)
unfolding need_of IsNeedOf
taken_need setting session user it own =
    either_need user (is_in session (traits_of it).states) (need_taken setting session it) (Refusal (bad_reply State)) (own_need setting session user it own) tt

-- ---- what comes of it

own_or_ended : (user : List ℕ) (later : Sess) → IsOwn user later → (session_user later ≡ Some user) ⊎ (later ≡ Ended)
unfolding session_user
own_or_ended user Off is = absurd is
own_or_ended user (In other) is = inl (ap Some is)
own_or_ended user (selected view) is = inl (ap Some is)
own_or_ended user Ended is = inr refl

after_turn : (user : List ℕ) (session : Sess) (later : Option Sess) → session_user session ≡ Some user → IsOwnLater user later
    → (session_user (session_after session later) ≡ Some user) ⊎ (session_after session later ≡ Ended)
after_turn user session None own is = inl own
after_turn user session (Some later) own is = own_or_ended user later is

stays_by : (user : List ℕ) (store : Store) (session : Sess) (serial : ℕ) (need : Needed) → session_user session ≡ Some user → IsNeedOf user need
    → (session_user (act_by store session serial need).session ≡ Some user) ⊎ ((act_by store session serial need).session ≡ Ended)
unfolding act_by IsNeedOf
stays_by user store session serial (Refusal verdict) own is = inl own
stays_by user store session serial (Turned turn) own is = after_turn user session turn.session own is
stays_by user store session serial (Mailbox name work) own is =
    after_turn user session (worked_at store name work serial).turn.session own
    (work_stays user name work serial (is_full store) (box_at store name) is)
stays_by user store session serial (Names it) own is = inl own

pub stays_own : (setting : Setting) (store : Store) (session : Sess) (it : Command) (serial : ℕ) (user : List ℕ) → session_user session ≡ Some user
    → (session_user (act_of setting store session it serial).session ≡ Some user) ⊎ ((act_of setting store session it serial).session ≡ Ended)
unfolding act_of
stays_own setting store session it serial user own =
    stays_by user store session serial (need_of setting session it) own (taken_need setting session user it own)
