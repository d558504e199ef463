-- No command needs a refusal of relocation.
use Rattle.std.proofs.Common.{◌≡◌, ℕ, Bool, true, false, if◌then◌else◌, List, length, Option, None, Some, codes, refl}
use Rattle.std.specs.Prelude.{⊤}
use Rattle.std.specs.Str.{bytes_eq}
use Rattle.mail_message.specs.FlagSets.{Flags}
use Rattle.mail_message.specs.declared.message.Message.{Message}
use Rattle.mail_message.specs.declared.mode.Mode.{Mode}
use Rattle.mail_message.specs.declared.set.SetPart.{SetPart}
use Rattle.mur_base.specs.Inbox.{taken_name}
use Rattle.mur_base.specs.Names.{mail_name_fault}
use Rattle.mur_base.specs.declared.name.NameFault.{NameFault}
use Rattle.mur_base.specs.declared.user.User.{User}
use Rattle.imap_types.specs.declared.command.Command.{Command}
use Rattle.imap_types.specs.declared.command.Command.TheVariants as command
use Rattle.imap_types.specs.declared.command.StatusItem.{StatusItem}
use Rattle.mur_model.specs.Needed.{Needed, Refusal, Turned, Mailbox, Names, at_mailbox, no_such_number, read_only}
use Rattle.mur_model.specs.declared.work.NewsFor.TheVariants as news_for
use Rattle.mur_model.specs.declared.work.ViewWork.TheVariants as view_work
use Rattle.imap_types.specs.declared.reply.BadText.TheVariants.{State, Syntax}
use Rattle.imap_types.specs.declared.reply.Verdict.TheVariants.{Bad as bad_reply}
use Rattle.name_listing.specs.Listing.{asks_separator, pattern_of}
use Rattle.mur_model.specs.declared.commands.select.Opening.{Opening}
use Rattle.mur_model.specs.declared.session.Sess.{Sess}
use Rattle.mur_model.specs.declared.session.Sess.TheVariants.{Off, In, Selected as selected, Ended}
use Rattle.mur_model.specs.declared.session.Turn.{Turn}
use Rattle.mur_model.specs.declared.setting.Setting.{Setting}
use Rattle.mur_model.specs.declared.view.View.{View}
use Rattle.mur_model.specs.Act.{idled, need_begun, need_in, need_of, need_off, need_selected, need_taken}
use Rattle.mur_model.specs.Append.{append, append_as, append_by, new_message}
use Rattle.mur_model.specs.AtOnce.{is_done}
use Rattle.mur_model.specs.Close.{left_by}
use Rattle.mur_model.specs.Create.{create, create_as, create_by, create_meant, is_inbox, without_separator}
use Rattle.mur_model.specs.Delete.{delete, delete_as, delete_by}
use Rattle.mur_model.specs.Expunge.{expunge, expunge_named}
use Rattle.mur_model.specs.Fetch.{fetch_named}
use Rattle.mur_model.specs.Keys.{have_all_numbers, keys_at}
use Rattle.mur_model.specs.Left.{replied}
use Rattle.mur_model.specs.Login.{login, login_as, login_by, login_failed}
use Rattle.mur_model.specs.Listing.{list, listing_by, separator_told}
use Rattle.mur_model.specs.NamedRows.{last_uid, names_messages}
use Rattle.mur_model.specs.Plain.{acts_as, authenticate, authenticate_as, authenticate_by, authenticate_with, cut_at_nul, decoded}
use Rattle.imap_types.specs.Reply.{completed}
use Rattle.mur_model.specs.Rights.{has_rights, may_create, user_named}
use Rattle.mur_model.specs.Select.{opening, select, select_as, select_by}
use Rattle.mur_model.specs.Status.{status, status_as, status_by}
use Rattle.mur_model.specs.StoreFlags.{store_named}
use Rattle.mur_model.specs.Traits.{is_in, traits_of}
use Rattle.store_law.specs.Refusals.{wants_cause}

-- what is answered wants no cause
abbrev pub TurnWantsNone : Turn → Type 0
TurnWantsNone turn = wants_cause turn.reply.verdict ≡ false

abbrev pub NeedWantsNone : Needed → Type 0
NeedWantsNone (Refusal verdict) = wants_cause verdict ≡ false
NeedWantsNone (Turned turn) = TurnWantsNone turn
NeedWantsNone (Mailbox name work) = ⊤
NeedWantsNone (Names it) = ⊤

either : (test : Bool) (one other : Needed) → NeedWantsNone one → NeedWantsNone other → NeedWantsNone (if test then one else other)
either true one other is is_other = is
either false one other is is_other = is_other

login_by_is : (name user : List ℕ) (same : Bool) → NeedWantsNone (login_by name user same)
unfolding login_by wants_cause
login_by_is name user true = refl
login_by_is name user false = refl

login_as_is : (name : List ℕ) (found : Option User) (password : List ℕ) → NeedWantsNone (login_as name found password)
unfolding login_as wants_cause
login_as_is name None password = refl
login_as_is name (Some user) password = login_by_is name user.name (bytes_eq user.password password)

login_is : (users : List User) (name user password : List ℕ) → NeedWantsNone (login users name user password)
unfolding login
login_is users name user password = login_as_is name (user_named users user) password

plain_by_is : (users : List User) (authzid : List ℕ) (rest : Option (List ℕ × List ℕ)) → NeedWantsNone (authenticate_by users authzid rest)
unfolding authenticate_by wants_cause
plain_by_is users authzid None = refl
plain_by_is users authzid (Some (user, password)) =
    either (acts_as authzid user) (login users (codes "AUTHENTICATE") user password) login_failed
    (login_is users (codes "AUTHENTICATE") user password) refl

plain_as_is : (users : List User) (parts : Option (List ℕ × List ℕ)) → NeedWantsNone (authenticate_as users parts)
unfolding authenticate_as wants_cause
plain_as_is users None = refl
plain_as_is users (Some (authzid, rest)) = plain_by_is users authzid (cut_at_nul rest)

plain_with_is : (users : List User) (message : Option (List ℕ)) → NeedWantsNone (authenticate_with users message)
unfolding authenticate_with wants_cause
plain_with_is users None = refl
plain_with_is users (Some message) = plain_as_is users (cut_at_nul message)

plain_is : (users : List User) (response : List ℕ) → NeedWantsNone (authenticate users response)
unfolding authenticate wants_cause
plain_is users response =
    either (bytes_eq response (codes "*")) (Refusal (bad_reply Syntax)) (authenticate_with users (decoded response)) refl
    (plain_with_is users (decoded response))

off_is : (setting : Setting) (it : Command) → NeedWantsNone (need_off setting it)
unfolding need_off wants_cause
off_is setting (command.Login user password) = login_is setting.users (codes "LOGIN") user password
off_is setting (command.Authenticate (Some response)) = plain_is setting.users response
off_is setting (command.Authenticate None) = refl
off_is setting it = refl

create_by_is : (name : List ℕ) (may : Bool) → NeedWantsNone (create_by name may)
unfolding create_by wants_cause
create_by_is name true = tt
create_by_is name false = refl

create_is : (setting : Setting) (user name : List ℕ) (inbox : Bool) (fault : Option NameFault) → NeedWantsNone (create_as setting user name inbox fault)
unfolding create_as wants_cause
create_is setting user name true fault = refl
create_is setting user name false (Some fault) = refl
create_is setting user name false None = create_by_is name (may_create setting.users user name)

delete_by_is : (name : List ℕ) (may : Bool) → NeedWantsNone (delete_by name may)
unfolding delete_by wants_cause
delete_by_is name true = tt
delete_by_is name false = refl

delete_is : (setting : Setting) (user name : List ℕ) (inbox : Bool) (fault : Option NameFault) → NeedWantsNone (delete_as setting user name inbox fault)
unfolding delete_as wants_cause
delete_is setting user name true fault = refl
delete_is setting user name false (Some fault) = refl
delete_is setting user name false None = delete_by_is name (has_rights setting.users user name)

append_by_is : (name : List ℕ) (message : Message) (may : Bool) → NeedWantsNone (append_by name message may)
unfolding append_by wants_cause
append_by_is name message true = tt
append_by_is name message false = refl

append_is : (setting : Setting) (user name : List ℕ) (message : Message) (fault : Option NameFault)
    → NeedWantsNone (append_as setting user name message fault)
unfolding append_as wants_cause
append_is setting user name message (Some fault) = refl
append_is setting user name message None = append_by_is name message (has_rights setting.users user name)

status_by_is : (user name : List ℕ) (items : List StatusItem) (may : Bool) → NeedWantsNone (status_by user name items may)
unfolding status_by wants_cause
status_by_is user name items true = tt
status_by_is user name items false = refl

status_is : (setting : Setting) (user name : List ℕ) (items : List StatusItem) (fault : Option NameFault)
    → NeedWantsNone (status_as setting user name items fault)
unfolding status_as wants_cause
status_is setting user name items (Some fault) = refl
status_is setting user name items None = status_by_is user name items (has_rights setting.users user name)

select_by_is : (name : List ℕ) (it : Opening) (may : Bool) → NeedWantsNone (select_by name it may)
unfolding select_by wants_cause
select_by_is name it true = tt
select_by_is name it false = refl

select_is : (setting : Setting) (user name : List ℕ) (is_writable was_selected : Bool) (fault : Option NameFault)
    → NeedWantsNone (select_as setting user name is_writable was_selected fault)
unfolding select_as wants_cause
select_is setting user name is_writable was_selected (Some fault) = refl
select_is setting user name is_writable was_selected None = select_by_is name (opening user name is_writable was_selected) (has_rights setting.users user name)

list_is : (setting : Setting) (user reference mailbox : List ℕ) → NeedWantsNone (list setting user reference mailbox)
unfolding list wants_cause
list_is setting user reference mailbox =
    either (asks_separator mailbox) separator_told (Names (listing_by setting user (pattern_of reference mailbox))) refl tt

begun_is : (setting : Setting) (user : List ℕ) (is_selected : Bool) (it : Command) → NeedWantsNone (need_begun setting user is_selected it)
unfolding need_begun create create_meant delete append status select wants_cause
begun_is setting user is_selected (command.List reference mailbox) = list_is setting user reference mailbox
begun_is setting user is_selected (command.Create text) =
    let meant = without_separator text in
    create_is setting user (taken_name user meant) (is_inbox meant) (mail_name_fault (taken_name user meant))
begun_is setting user is_selected (command.Delete text) =
    delete_is setting user (taken_name user text) (is_inbox text) (mail_name_fault (taken_name user text))
begun_is setting user is_selected (command.Append text flags date body) =
    append_is setting user (taken_name user text) (new_message setting flags date body) (mail_name_fault (taken_name user text))
begun_is setting user is_selected (command.Status text items) =
    status_is setting user (taken_name user text) items (mail_name_fault (taken_name user text))
begun_is setting user is_selected (command.Select text) =
    select_is setting user (taken_name user text) true is_selected (mail_name_fault (taken_name user text))
begun_is setting user is_selected (command.Examine text) =
    select_is setting user (taken_name user text) false is_selected (mail_name_fault (taken_name user text))
begun_is setting user is_selected it = refl

idled_is : (line : List ℕ) (done : Needed) → NeedWantsNone done → NeedWantsNone (idled line done)
unfolding wants_cause
idled_is line done is = either (is_done line) done (Refusal (bad_reply Syntax)) is refl

in_is : (setting : Setting) (user : List ℕ) (it : Command) → NeedWantsNone (need_in setting user it)
unfolding need_in wants_cause
in_is setting user command.Noop = refl
in_is setting user (command.Idle (Some line)) = idled_is line (Turned (replied (completed (codes "IDLE")))) refl
in_is setting user (command.Idle None) = begun_is setting user false (command.Idle None)
in_is setting user it = begun_is setting user false it

expunge_is : (view : View) (only : Option (List SetPart)) → NeedWantsNone (expunge view only)
unfolding wants_cause
expunge_is view only = either view.is_writable (expunge_named view only) read_only (named only) refl
  where
    named : (it : Option (List SetPart)) → NeedWantsNone (expunge_named view it)
    named None = tt
    named (Some set) = tt

store_is : (view : View) (by_uid : Bool) (set : List SetPart) (mode : Mode) (is_silent : Bool) (flags : Flags)
    → NeedWantsNone (if names_messages view by_uid set
    then if view.is_writable then store_named view by_uid set mode is_silent flags else read_only
    else no_such_number)
unfolding wants_cause
store_is view by_uid set mode is_silent flags =
    let named = store_named view by_uid set mode is_silent flags in
    either (names_messages view by_uid set) (if view.is_writable then named else read_only) no_such_number
    (either view.is_writable named read_only tt refl) refl

selected_is : (setting : Setting) (view : View) (it : Command) → NeedWantsNone (need_selected setting view it)
unfolding need_selected wants_cause
selected_is setting view command.Noop = tt
selected_is setting view (command.Idle (Some line)) = idled_is line (at_mailbox view (view_work.News news_for.Idle)) tt
selected_is setting view (command.Idle None) = begun_is setting view.user true (command.Idle None)
selected_is setting view command.Close =
    either view.is_writable (at_mailbox view view_work.Close) (Turned (left_by view (codes "CLOSE"))) tt refl
selected_is setting view command.Unselect = refl
selected_is setting view (command.Expunge only) = expunge_is view only
selected_is setting view (command.Store by_uid set mode is_silent flags) = store_is view by_uid set mode is_silent flags
selected_is setting view (command.Fetch by_uid set items) =
    either (names_messages view by_uid set) (fetch_named view by_uid set items) no_such_number tt refl
selected_is setting view (command.Search by_uid keys) =
    let placed = keys_at (length view.rows) (last_uid view.rows) keys in
    either (have_all_numbers (length view.rows) keys) (at_mailbox view (view_work.Search (record { by_uid = by_uid; keys = placed }))) no_such_number
    tt refl
selected_is setting view it = begun_is setting view.user true it

taken_is : (setting : Setting) (session : Sess) (it : Command) → NeedWantsNone (need_taken setting session it)
unfolding need_taken wants_cause
taken_is setting Off it = off_is setting it
taken_is setting (In user) it = in_is setting user it
taken_is setting (selected view) it = selected_is setting view it
taken_is setting Ended it = refl

pub need_is : (setting : Setting) (session : Sess) (it : Command) → NeedWantsNone (need_of setting session it)
unfolding need_of wants_cause
need_is setting session it =
    either (is_in session (traits_of it).states) (need_taken setting session it) (Refusal (bad_reply State)) (taken_is setting session it) refl
