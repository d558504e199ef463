-- What holds of each need that a command can end in holds of what the command needs.
use Rattle.std.proofs.Common.{◌≡◌, ℕ, Bool, true, false, if◌then◌else◌, List, length, Option, None, Some, codes, refl}
use Rattle.std.specs.Prelude.{⊤}
use Rattle.std.specs.Str.{bytes_eq}
use Rattle.mail_message.specs.FlagSets.{Flags}
use Rattle.mail_message.specs.Literals.{IsPlain}
use Rattle.mail_message.specs.declared.message.Message.{Message}
use Rattle.mail_message.specs.declared.mode.Mode.{Mode}
use Rattle.mail_message.specs.declared.set.SetPart.{SetPart}
use Rattle.mur_base.specs.Inbox.{shown_name, taken_name}
use Rattle.mur_base.specs.Names.{mail_name_fault}
use Rattle.mur_base.specs.declared.name.NameFault.{NameFault}
use Rattle.mur_base.specs.declared.user.User.{User}
use Rattle.imap_types.specs.declared.command.Command.{Command}
use Rattle.imap_types.specs.declared.command.Command.TheVariants as command
use Rattle.imap_types.specs.declared.command.StatusItem.{StatusItem}
use Rattle.mur_model.specs.declared.commands.fetch.Fetching.{Fetching}
use Rattle.mur_model.specs.declared.commands.list.Listing.{Listing}
use Rattle.mur_model.specs.Needed.{Needed, Refusal, Turned, Mailbox, Names, Work, Make, Delete, Append as append_work, Status as status_work, Select as select_work, at_mailbox, no_such_number, read_only}
use Rattle.mur_model.specs.declared.work.NewsFor.{NewsFor}
use Rattle.mur_model.specs.declared.work.NewsFor.TheVariants as news_for
use Rattle.mur_model.specs.declared.work.ViewWork.TheVariants as view_work
use Rattle.imap_types.specs.declared.reply.BadText.{BadText}
use Rattle.imap_types.specs.declared.reply.BadText.TheVariants.{State, Syntax, Message as no_message}
use Rattle.imap_types.specs.declared.reply.NoText.{NoText}
use Rattle.imap_types.specs.declared.reply.NoText.TheVariants.{AuthenticationFailed, Cannot, NonExistent, NoPerm, TryCreate}
use Rattle.imap_types.specs.declared.reply.Verdict.{Verdict}
use Rattle.imap_types.specs.declared.reply.Verdict.TheVariants.{No as no_reply, Bad as bad_reply}
use Rattle.mur_model.specs.declared.commands.search.Searching.{Searching}
use Rattle.mur_model.specs.declared.commands.select.Opening.{Opening}
use Rattle.mur_model.specs.declared.session.Sess.{Sess}
use Rattle.mur_model.specs.declared.session.Sess.TheVariants.{Off, In, Selected as selected, Ended}
use Rattle.mur_model.specs.declared.setting.Setting.{Setting}
use Rattle.mur_model.specs.declared.view.View.{View}
use Rattle.mur_model.specs.Act.{idled, need_begun, need_in, need_of, need_off, need_selected, need_taken}
use Rattle.mur_model.specs.Append.{append, append_as, append_by, new_message}
use Rattle.mur_model.specs.AtOnce.{capability, enable, is_done, logout}
use Rattle.mur_model.specs.Close.{left_by}
use Rattle.mur_model.specs.Create.{create, create_as, create_by, create_meant, is_inbox, without_separator}
use Rattle.mur_model.specs.Delete.{delete, delete_as, delete_by}
use Rattle.mur_model.specs.Expunge.{expunge, expunge_named}
use Rattle.mur_model.specs.Fetch.{fetch_named}
use Rattle.mur_model.specs.Keys.{have_all_numbers, keys_at}
use Rattle.mur_model.specs.Left.{replied}
use Rattle.name_listing.specs.Listing.{asks_separator, pattern_of}
use Rattle.mur_model.specs.Listing.{list, listing_by, separator_told}
use Rattle.mur_model.specs.Login.{begun_by, login, login_as, login_by, login_failed}
use Rattle.mur_model.specs.NamedRows.{last_uid, named_uids, names_messages}
use Rattle.mur_model.specs.Plain.{acts_as, authenticate, authenticate_as, authenticate_by, authenticate_with, cut_at_nul, decoded}
use Rattle.imap_types.specs.Reply.{completed}
use Rattle.mur_model.specs.Rights.{has_rights, may_create, user_named}
use Rattle.mur_model.specs.Select.{opening, select, select_as, select_by, unselected}
use Rattle.mur_model.specs.Status.{status, status_as, status_by}
use Rattle.mur_model.specs.StoreFlags.{store, store_named}
use Rattle.mur_model.specs.Traits.{is_in, traits_of}

-- what is answered whatever mailboxes there are, in a session that has begun and in one that has not
pub record OfAnswers (Of : Needed → Type 0) : Type 0 where
  pub refused : (why : NoText) → Of (Refusal (no_reply why))
  pub bad : (why : BadText) → Of (Refusal (bad_reply why))
  pub completed : (name : List ℕ) → IsPlain name → Of (Turned (replied (completed name)))
  pub begun : (name user : List ℕ) → IsPlain name → Of (Turned (begun_by name user))
  pub capability : Of capability
  pub logout : Of logout

-- a SELECT, which selects to change, or an EXAMINE
abbrev pub selecting : Bool → List ℕ → Command
selecting true text = command.Select text
selecting false text = command.Examine text

-- what commands need that a session has whether a mailbox is selected or not, of which this is known
pub record OfBegun (setting : Setting) (Asked : Command → Type 0) (Of : Needed → Type 0) : Type 0 where
  pub answers : OfAnswers Of
  pub enable : Of enable
  pub separator : Of separator_told
  pub names : (user pattern : List ℕ) → Of (Names (listing_by setting user pattern))
  pub unselected : (user : List ℕ) (was_selected : Bool) (why : NoText) → Of (Turned (unselected user was_selected why))
  pub make : (name : List ℕ) → mail_name_fault name ≡ None → Of (Mailbox name Make)
  pub delete : (name : List ℕ) → mail_name_fault name ≡ None → Of (Mailbox name Delete)
  pub append : (name text : List ℕ) (flags : Flags) (date : Option (List ℕ)) (body : List ℕ) → Asked (command.Append text flags date body)
      → Of (Mailbox name (append_work (new_message setting flags date body)))
  pub status : (user name : List ℕ) (items : List StatusItem) → mail_name_fault name ≡ None → Of (Mailbox name (status_work (shown_name user name) items))
  pub select : (user name text : List ℕ) (is_writable was_selected : Bool) → Asked (selecting is_writable text) → mail_name_fault name ≡ None
      → Of (Mailbox name (select_work (opening user name is_writable was_selected)))

-- what commands of a session that has this view need
pub record OfViewed (Asked : Command → Type 0) (Of : Needed → Type 0) (view : View) : Type 0 where
  pub left : (name : List ℕ) → IsPlain name → Of (Turned (left_by view name))
  pub news : (why : NewsFor) → Of (at_mailbox view (view_work.News why))
  pub close : Of (at_mailbox view view_work.Close)
  pub expunge : (only : Option (List ℕ)) → Of (at_mailbox view (view_work.Expunge only))
  pub store : (by_uid : Bool) (set : List SetPart) (mode : Mode) (is_silent : Bool) (flags : Flags)
      → Asked (command.Store by_uid set mode is_silent flags) → Of (store_named view by_uid set mode is_silent flags)
  pub fetch : (it : Fetching) → Of (at_mailbox view (view_work.Fetch it))
  pub search : (it : Searching) → Of (at_mailbox view (view_work.Search it))

-- where each refusal has the property, these leaves are enough
pub of_refusals : {Of : Needed → Type 0} → ((verdict : Verdict) → Of (Refusal verdict))
    → ((name : List ℕ) → IsPlain name → Of (Turned (replied (completed name)))) → ((name user : List ℕ) → IsPlain name → Of (Turned (begun_by name user)))
    → Of capability → Of logout → OfAnswers Of
of_refusals refusal completed begun capability logout = record {
  refused = λ why. refusal (no_reply why);
  bad = λ why. refusal (bad_reply why);
  completed = completed;
  begun = begun;
  capability = capability;
  logout = logout;
}

either : (Of : Needed → Type 0) (test : Bool) (one other : Needed) → Of one → Of other → Of (if test then one else other)
either Of true one other is is_other = is
either Of false one other is is_other = is_other

-- ---- LOGIN and AUTHENTICATE

each_login_by : {Of : Needed → Type 0} (of : OfAnswers Of) (name user : List ℕ) (same : Bool) → IsPlain name → Of (login_by name user same)
unfolding login_by
each_login_by of name user true plain = of.begun name user plain
each_login_by of name user false plain = of.refused AuthenticationFailed

each_login_as : {Of : Needed → Type 0} (of : OfAnswers Of) (name : List ℕ) (found : Option User) (password : List ℕ) → IsPlain name
    → Of (login_as name found password)
unfolding login_as
each_login_as of name None password plain = of.refused AuthenticationFailed
each_login_as of name (Some user) password plain = each_login_by of name user.name (bytes_eq user.password password) plain

each_login : {Of : Needed → Type 0} (of : OfAnswers Of) (users : List User) (name user password : List ℕ) → IsPlain name
    → Of (login users name user password)
unfolding login
each_login of users name user password plain = each_login_as of name (user_named users user) password plain

each_plain_by : {Of : Needed → Type 0} (of : OfAnswers Of) (users : List User) (authzid : List ℕ) (rest : Option (List ℕ × List ℕ))
    → Of (authenticate_by users authzid rest)
unfolding authenticate_by
each_plain_by of users authzid None = of.refused AuthenticationFailed
each_plain_by {Of} of users authzid (Some (user, password)) =
    either Of (acts_as authzid user) (login users (codes "AUTHENTICATE") user password) login_failed
    (each_login of users (codes "AUTHENTICATE") user password refl) (of.refused AuthenticationFailed)

each_plain_as : {Of : Needed → Type 0} (of : OfAnswers Of) (users : List User) (parts : Option (List ℕ × List ℕ)) → Of (authenticate_as users parts)
unfolding authenticate_as
each_plain_as of users None = of.refused AuthenticationFailed
each_plain_as of users (Some (authzid, rest)) = each_plain_by of users authzid (cut_at_nul rest)

each_plain_with : {Of : Needed → Type 0} (of : OfAnswers Of) (users : List User) (message : Option (List ℕ)) → Of (authenticate_with users message)
unfolding authenticate_with
each_plain_with of users None = of.refused AuthenticationFailed
each_plain_with of users (Some message) = each_plain_as of users (cut_at_nul message)

each_plain : {Of : Needed → Type 0} (of : OfAnswers Of) (users : List User) (response : List ℕ) → Of (authenticate users response)
unfolding authenticate
each_plain {Of} of users response =
    either Of (bytes_eq response (codes "*")) (Refusal (bad_reply Syntax)) (authenticate_with users (decoded response)) (of.bad Syntax)
    (each_plain_with of users (decoded response))

each_off_taken : {Of : Needed → Type 0} (of : OfAnswers Of) (setting : Setting) (it : Command) → Of (need_off setting it)
unfolding need_off
each_off_taken of setting command.Capability = of.capability
each_off_taken of setting command.Noop = of.completed (codes "NOOP") refl
each_off_taken of setting command.Logout = of.logout
each_off_taken of setting (command.Login user password) = each_login of setting.users (codes "LOGIN") user password refl
each_off_taken of setting (command.Authenticate (Some response)) = each_plain of setting.users response
each_off_taken of setting (command.Authenticate None) = of.bad Syntax
each_off_taken of setting it = of.bad Syntax

either_taken : {Of : Needed → Type 0} (of : OfAnswers Of) (setting : Setting) (session : Sess) (it : Command) → Of (need_taken setting session it)
    → Of (need_of setting session it)
unfolding need_of
either_taken {Of} of setting session it is =
    either Of (is_in session (traits_of it).states) (need_taken setting session it) (Refusal (bad_reply State)) is (of.bad State)

-- a command of a session that hasn't begun
pub each_off : {Of : Needed → Type 0} (of : OfAnswers Of) (setting : Setting) (it : Command) → Of (need_of setting Off it)
unfolding need_taken
each_off of setting it = either_taken of setting Off it (each_off_taken of setting it)

-- ---- commands of a session that has begun

each_create_by : {setting : Setting} {Asked : Command → Type 0} {Of : Needed → Type 0} (of : OfBegun setting Asked Of) (name : List ℕ) (may : Bool)
    → mail_name_fault name ≡ None → Of (create_by name may)
unfolding create_by
each_create_by of name true named = of.make name named
each_create_by of name false named = of.answers.refused NoPerm

each_create : {setting : Setting} {Asked : Command → Type 0} {Of : Needed → Type 0} (of : OfBegun setting Asked Of) (user name : List ℕ) (inbox : Bool)
    (fault : Option NameFault) → mail_name_fault name ≡ fault → Of (create_as setting user name inbox fault)
unfolding create_as
each_create of user name true fault named = of.answers.refused Cannot
each_create of user name false (Some fault) named = of.answers.refused NonExistent
each_create {setting} of user name false None named = each_create_by of name (may_create setting.users user name) named

each_delete_by : {setting : Setting} {Asked : Command → Type 0} {Of : Needed → Type 0} (of : OfBegun setting Asked Of) (name : List ℕ) (may : Bool)
    → mail_name_fault name ≡ None → Of (delete_by name may)
unfolding delete_by
each_delete_by of name true named = of.delete name named
each_delete_by of name false named = of.answers.refused NoPerm

each_delete : {setting : Setting} {Asked : Command → Type 0} {Of : Needed → Type 0} (of : OfBegun setting Asked Of) (user name : List ℕ) (inbox : Bool)
    (fault : Option NameFault) → mail_name_fault name ≡ fault → Of (delete_as setting user name inbox fault)
unfolding delete_as
each_delete of user name true fault named = of.answers.refused Cannot
each_delete of user name false (Some fault) named = of.answers.refused NonExistent
each_delete {setting} of user name false None named = each_delete_by of name (has_rights setting.users user name) named

each_append_by : {setting : Setting} {Asked : Command → Type 0} {Of : Needed → Type 0} (of : OfBegun setting Asked Of) (name : List ℕ) (message : Message)
    (may : Bool) → Of (Mailbox name (append_work message)) → Of (append_by name message may)
unfolding append_by
each_append_by of name message true is = is
each_append_by of name message false is = of.answers.refused NoPerm

each_append : {setting : Setting} {Asked : Command → Type 0} {Of : Needed → Type 0} (of : OfBegun setting Asked Of) (user name : List ℕ) (message : Message)
    (fault : Option NameFault) → Of (Mailbox name (append_work message)) → Of (append_as setting user name message fault)
unfolding append_as
each_append of user name message (Some fault) is = of.answers.refused TryCreate
each_append {setting} of user name message None is = each_append_by of name message (has_rights setting.users user name) is

each_status_by : {setting : Setting} {Asked : Command → Type 0} {Of : Needed → Type 0} (of : OfBegun setting Asked Of) (user name : List ℕ)
    (items : List StatusItem) (may : Bool) → mail_name_fault name ≡ None → Of (status_by user name items may)
unfolding status_by
each_status_by of user name items true named = of.status user name items named
each_status_by of user name items false named = of.answers.refused NoPerm

each_status : {setting : Setting} {Asked : Command → Type 0} {Of : Needed → Type 0} (of : OfBegun setting Asked Of) (user name : List ℕ)
    (items : List StatusItem) (fault : Option NameFault) → mail_name_fault name ≡ fault → Of (status_as setting user name items fault)
unfolding status_as
each_status of user name items (Some fault) named = of.answers.refused NonExistent
each_status {setting} of user name items None named = each_status_by of user name items (has_rights setting.users user name) named

each_select_by : {setting : Setting} {Asked : Command → Type 0} {Of : Needed → Type 0} (of : OfBegun setting Asked Of) (name : List ℕ) (it : Opening)
    (may : Bool) → Of (Mailbox name (select_work it)) → Of (select_by name it may)
unfolding select_by
each_select_by of name it true is = is
each_select_by of name it false is = of.unselected it.user it.was_selected NoPerm

each_select : {setting : Setting} {Asked : Command → Type 0} {Of : Needed → Type 0} (of : OfBegun setting Asked Of) (user name text : List ℕ)
    (is_writable was_selected : Bool) (fault : Option NameFault) → Asked (selecting is_writable text) → mail_name_fault name ≡ fault
    → Of (select_as setting user name is_writable was_selected fault)
unfolding select_as
each_select of user name text is_writable was_selected (Some fault) asked named = of.unselected user was_selected NonExistent
each_select {setting} of user name text is_writable was_selected None asked named =
    let it = opening user name is_writable was_selected in
    each_select_by of name it (has_rights setting.users user name) (of.select user name text is_writable was_selected asked named)

each_list : {setting : Setting} {Asked : Command → Type 0} {Of : Needed → Type 0} (of : OfBegun setting Asked Of) (user reference mailbox : List ℕ)
    → Of (list setting user reference mailbox)
unfolding list
each_list {setting} {Asked} {Of} of user reference mailbox =
    let pattern = pattern_of reference mailbox in
    either Of (asks_separator mailbox) separator_told (Names (listing_by setting user pattern)) of.separator (of.names user pattern)

each_begun : {setting : Setting} {Asked : Command → Type 0} {Of : Needed → Type 0} (of : OfBegun setting Asked Of) (user : List ℕ) (is_selected : Bool)
    (it : Command) → Asked it → Of (need_begun setting user is_selected it)
unfolding need_begun create create_meant delete append status select
each_begun of user is_selected command.Capability asked = of.answers.capability
each_begun of user is_selected command.Logout asked = of.answers.logout
each_begun of user is_selected (command.Enable names) asked = of.enable
each_begun of user is_selected (command.Create text) asked =
    let meant = without_separator text in
    each_create of user (taken_name user meant) (is_inbox meant) (mail_name_fault (taken_name user meant)) refl
each_begun {setting} of user is_selected (command.Append text flags date body) asked =
    let name = taken_name user text in
    each_append of user name (new_message setting flags date body) (mail_name_fault name) (of.append name text flags date body asked)
each_begun of user is_selected (command.Status text items) asked =
    each_status of user (taken_name user text) items (mail_name_fault (taken_name user text)) refl
each_begun of user is_selected (command.Select text) asked =
    each_select of user (taken_name user text) text true is_selected (mail_name_fault (taken_name user text)) asked refl
each_begun of user is_selected (command.Examine text) asked =
    each_select of user (taken_name user text) text false is_selected (mail_name_fault (taken_name user text)) asked refl
each_begun of user is_selected (command.Delete text) asked =
    each_delete of user (taken_name user text) (is_inbox text) (mail_name_fault (taken_name user text)) refl
each_begun of user is_selected (command.List reference mailbox) asked = each_list of user reference mailbox
each_begun of user is_selected (command.Copy by_uid set text) asked = of.answers.refused Cannot
each_begun of user is_selected (command.Xfer text server partition) asked = of.answers.refused Cannot
each_begun of user is_selected (command.LeftOut line) asked = of.answers.refused Cannot
each_begun of user is_selected it asked = of.answers.bad Syntax

each_idled : {Of : Needed → Type 0} (of : OfAnswers Of) (line : List ℕ) (done : Needed) → Of done → Of (idled line done)
each_idled {Of} of line done is = either Of (is_done line) done (Refusal (bad_reply Syntax)) is (of.bad Syntax)

each_in : {setting : Setting} {Asked : Command → Type 0} {Of : Needed → Type 0} (of : OfBegun setting Asked Of) (user : List ℕ) (it : Command)
    → Asked it → Of (need_in setting user it)
unfolding need_in
each_in of user command.Noop asked = of.answers.completed (codes "NOOP") refl
each_in of user (command.Idle (Some line)) asked = each_idled of.answers line _ (of.answers.completed (codes "IDLE") refl)
each_in of user (command.Idle None) asked = each_begun of user false (command.Idle None) asked
each_in of user it asked = each_begun of user false it asked

-- ---- commands of a session that has a mailbox selected

each_expunge : {setting : Setting} {Asked : Command → Type 0} {Of : Needed → Type 0} {view : View} (of : OfBegun setting Asked Of)
    (viewed : OfViewed Asked Of view) (only : Option (List SetPart)) → Of (expunge view only)
each_expunge {setting} {Asked} {Of} {view} of viewed only =
    either Of view.is_writable (expunge_named view only) read_only (named only) (of.answers.refused Cannot)
  where
    named : (it : Option (List SetPart)) → Of (expunge_named view it)
    named None = viewed.expunge None
    named (Some set) = viewed.expunge (Some (named_uids true set view.rows))

each_store : {setting : Setting} {Asked : Command → Type 0} {Of : Needed → Type 0} {view : View} (of : OfBegun setting Asked Of)
    (viewed : OfViewed Asked Of view) (by_uid : Bool) (set : List SetPart) (mode : Mode) (is_silent : Bool) (flags : Flags)
    → Asked (command.Store by_uid set mode is_silent flags) → Of (store view by_uid set mode is_silent flags)
each_store {setting} {Asked} {Of} {view} of viewed by_uid set mode is_silent flags asked =
    let named = store_named view by_uid set mode is_silent flags in
    either Of (names_messages view by_uid set) (if view.is_writable then named else read_only) no_such_number
    (either Of view.is_writable named read_only (viewed.store by_uid set mode is_silent flags asked) (of.answers.refused Cannot)) (of.answers.bad no_message)

each_selected : {setting : Setting} {Asked : Command → Type 0} {Of : Needed → Type 0} {view : View} (of : OfBegun setting Asked Of)
    (viewed : OfViewed Asked Of view) (it : Command) → Asked it → Of (need_selected setting view it)
unfolding need_selected
each_selected of viewed command.Noop asked = viewed.news news_for.Noop
each_selected of viewed (command.Idle (Some line)) asked = each_idled of.answers line _ (viewed.news news_for.Idle)
each_selected {view = view} of viewed (command.Idle None) asked = each_begun of view.user true (command.Idle None) asked
each_selected {setting} {Asked} {Of} {view} of viewed command.Close asked =
    either Of view.is_writable (at_mailbox view view_work.Close) (Turned (left_by view (codes "CLOSE"))) viewed.close (viewed.left (codes "CLOSE") refl)
each_selected of viewed command.Unselect asked = viewed.left (codes "UNSELECT") refl
each_selected of viewed (command.Expunge only) asked = each_expunge of viewed only
each_selected of viewed (command.Store by_uid set mode is_silent flags) asked = each_store of viewed by_uid set mode is_silent flags asked
each_selected {setting} {Asked} {Of} {view} of viewed (command.Fetch by_uid set items) asked =
    either Of (names_messages view by_uid set) (fetch_named view by_uid set items) no_such_number (viewed.fetch _) (of.answers.bad no_message)
each_selected {setting} {Asked} {Of} {view} of viewed (command.Search by_uid keys) asked =
    let placed = keys_at (length view.rows) (last_uid view.rows) keys in
    either Of (have_all_numbers (length view.rows) keys) (at_mailbox view (view_work.Search (record { by_uid = by_uid; keys = placed }))) no_such_number
    (viewed.search _) (of.answers.bad no_message)
each_selected {view = view} of viewed it asked = each_begun of view.user true it asked

each_taken : {setting : Setting} {Asked : Command → Type 0} {Of : Needed → Type 0} (of : OfBegun setting Asked Of) (session : Sess)
    → ((view : View) → session ≡ selected view → OfViewed Asked Of view) → (it : Command) → Asked it → Of (need_taken setting session it)
unfolding need_taken
each_taken {setting} of Off viewed it asked = each_off_taken of.answers setting it
each_taken of (In user) viewed it asked = each_in of user it asked
each_taken of (selected view) viewed it asked = each_selected of (viewed view refl) it asked
each_taken of Ended viewed it asked = of.answers.bad State

-- what a command of any session needs
pub each_need : {setting : Setting} {Asked : Command → Type 0} {Of : Needed → Type 0} (of : OfBegun setting Asked Of) (session : Sess)
    → ((view : View) → session ≡ selected view → OfViewed Asked Of view) → (it : Command) → Asked it → Of (need_of setting session it)
each_need {setting} of session viewed it asked = either_taken of.answers setting session it (each_taken of session viewed it asked)

-- where each work has the property, whatever is asked, these leaves are enough
pub record OfWorks (Of : Needed → Type 0) : Type 0 where
  pub answers : OfAnswers Of
  pub enable : Of enable
  pub separator : Of separator_told
  pub names : (it : Listing) → Of (Names it)
  pub unselected : (user : List ℕ) (was_selected : Bool) (why : NoText) → Of (Turned (unselected user was_selected why))
  pub left : (view : View) (name : List ℕ) → IsPlain name → Of (Turned (left_by view name))
  pub work : (name : List ℕ) (it : Work) → Of (Mailbox name it)

-- any command
abbrev pub AnyCommand : Command → Type 0
AnyCommand it = ⊤

begun_by_works : {Of : Needed → Type 0} (setting : Setting) → OfWorks Of → OfBegun setting AnyCommand Of
begun_by_works setting of = record {
  answers = of.answers;
  enable = of.enable;
  separator = of.separator;
  names = λ user pattern. of.names _;
  unselected = of.unselected;
  make = λ name named. of.work name _;
  delete = λ name named. of.work name _;
  append = λ name text flags date body asked. of.work name _;
  status = λ user name items named. of.work name _;
  select = λ user name text is_writable was_selected asked named. of.work name _;
}

viewed_by_works : {Of : Needed → Type 0} → OfWorks Of → (view : View) → OfViewed AnyCommand Of view
viewed_by_works of view = record {
  left = of.left view;
  news = λ why. of.work view.name _;
  close = of.work view.name _;
  expunge = λ only. of.work view.name _;
  store = λ by_uid set mode is_silent flags asked. of.work view.name _;
  fetch = λ it. of.work view.name _;
  search = λ it. of.work view.name _;
}

pub each_by_works : {Of : Needed → Type 0} (setting : Setting) → OfWorks Of → (session : Sess) (it : Command) → Of (need_of setting session it)
each_by_works setting of session it = each_need (begun_by_works setting of) session (λ view is. viewed_by_works of view) it tt
