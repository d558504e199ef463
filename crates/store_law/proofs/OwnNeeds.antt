-- A command needs work only at a mailbox that its session may use, and only a CREATE makes one.
use Rattle.std.proofs.Common.{◌≡◌, ℕ, Bool, true, false, if◌then◌else◌, List, length, Option, None, Some, codes, refl}
use Rattle.std.specs.Prelude.{⊤}
use Rattle.mail_message.specs.declared.message.Message.{Message}
use Rattle.mail_message.specs.declared.mode.Mode.{Mode}
use Rattle.mail_message.specs.FlagSets.{Flags}
use Rattle.mail_message.specs.declared.set.SetPart.{SetPart}
use Rattle.mur_base.specs.Inbox.{taken_name}
use Rattle.mur_base.specs.Names.{mail_name_fault}
use Rattle.mur_base.specs.declared.name.NameFault.{NameFault}
use Rattle.mur_base.specs.declared.user.User.{User}
use Rattle.imap_types.specs.declared.command.Command.{Command}
use Rattle.imap_types.specs.declared.command.Command.TheVariants as command
use Rattle.imap_types.specs.declared.command.StatusItem.{StatusItem}
use Rattle.imap_types.specs.declared.reply.BadText.TheVariants.{State, Syntax}
use Rattle.imap_types.specs.declared.reply.Verdict.TheVariants.{Bad as bad_reply}
use Rattle.name_listing.specs.Listing.{asks_separator, pattern_of}
use Rattle.mur_model.specs.declared.session.Sess.{Sess}
use Rattle.mur_model.specs.declared.session.Sess.TheVariants.{Off, In, Selected as selected, Ended}
use Rattle.mur_model.specs.declared.setting.Setting.{Setting}
use Rattle.mur_model.specs.declared.view.View.{View}
use Rattle.mur_model.specs.declared.work.NewsFor.TheVariants as news_for
use Rattle.mur_model.specs.declared.work.ViewWork.TheVariants as view_work
use Rattle.mur_model.specs.Act.{idled, need_begun, need_in, need_of, need_selected, need_taken}
use Rattle.mur_model.specs.Append.{append, append_as, append_by, new_message}
use Rattle.mur_model.specs.AtOnce.{is_done}
use Rattle.mur_model.specs.Close.{left_by}
use Rattle.mur_model.specs.Create.{create, create_as, create_by, create_meant, is_inbox, without_separator}
use Rattle.mur_model.specs.Delete.{delete, delete_as, delete_by}
use Rattle.mur_model.specs.Expunge.{expunge, expunge_named}
use Rattle.mur_model.specs.Fetch.{fetch_named}
use Rattle.mur_model.specs.Keys.{have_all_numbers, keys_at}
use Rattle.mur_model.specs.Left.{replied}
use Rattle.mur_model.specs.Listing.{list, listing_by, separator_told, tells}
use Rattle.mur_model.specs.NamedRows.{last_uid, names_messages}
use Rattle.mur_model.specs.Needed.{Needed, Refusal, Turned, Mailbox, Names, Work, Make, Delete as delete_work, Append as append_work, Status as status_work, Select as select_work, Viewed as viewed_work, at_mailbox, no_such_number, read_only}
use Rattle.mur_model.specs.Rights.{has_rights, may_create}
use Rattle.mur_model.specs.Select.{opening, select, select_as, select_by}
use Rattle.mur_model.specs.Status.{status, status_as, status_by}
use Rattle.mur_model.specs.StoreFlags.{store, store_named}
use Rattle.mur_model.specs.Traits.{is_in, traits_of}
use Rattle.mur_model.proofs.EachNeed.{OfAnswers, each_off, of_refusals}
use Rattle.imap_types.specs.Reply.{completed}
use Rattle.store_law.specs.OthersUnseen.{Creates, HasOwnSelected, HasRightsOn, MayMake, MayMakeAt, MayUse}
use Rattle.store_law.proofs.OwnRights.{has_right, makes_own, may_make}

-- the session goes on as it was, or with its user's own selected
abbrev pub LeavesOwn : List User → Option Sess → Type 0
LeavesOwn users None = ⊤
LeavesOwn users (Some later) = HasOwnSelected users later

-- where the work makes a mailbox, its user may and asks for that; and who has rights on the one that it selects, or is of
abbrev pub IsOwnWork : List User → Sess → Command → List ℕ → Work → Type 0
IsOwnWork users session it name Make = Creates it × MayMake users session name
IsOwnWork users session it name delete_work = ⊤
IsOwnWork users session it name (append_work message) = ⊤
IsOwnWork users session it name (status_work shown items) = ⊤
IsOwnWork users session it name (select_work opened) = HasRightsOn users opened.user name
IsOwnWork users session it name (viewed_work view work) = HasRightsOn users view.user view.name

abbrev pub NeedsOwn : List User → Sess → Command → Needed → Type 0
NeedsOwn users session it (Refusal verdict) = ⊤
NeedsOwn users session it (Turned turn) = LeavesOwn users turn.session
NeedsOwn users session it (Mailbox name work) = MayUse users session name × IsOwnWork users session it name work
NeedsOwn users session it (Names listing) = (name : List ℕ) → tells listing name ≡ true → MayUse users session name

-- ---- commands that are answered at once

answers_own : (users : List User) (session : Sess) (it : Command) → OfAnswers (NeedsOwn users session it)
unfolding HasOwnSelected
answers_own users session it = of_refusals (λ verdict. tt) (λ name plain. tt) (λ name user plain. tt) tt tt

either : (users : List User) (session : Sess) (it : Command) (test : Bool) (one other : Needed) → NeedsOwn users session it one
    → NeedsOwn users session it other → NeedsOwn users session it (if test then one else other)
either users session it true one other is is_other = is
either users session it false one other is is_other = is_other

idled_own : (users : List User) (session : Sess) (it : Command) (line : List ℕ) (done : Needed) → NeedsOwn users session it done
    → NeedsOwn users session it (idled line done)
idled_own users session it line done is = either users session it (is_done line) done (Refusal (bad_reply Syntax)) is tt

-- ---- commands of a session of this user

module _ (setting : Setting) (session : Sess) (user : List ℕ)
    (may : (name : List ℕ) → HasRightsOn setting.users user name → MayUse setting.users session name)
    (makes : (name : List ℕ) → MayMakeAt setting.users user name → MayMake setting.users session name) where
  create_by_own : (text name : List ℕ) (right : Bool) → may_create setting.users user name ≡ right
      → NeedsOwn setting.users session (command.Create text) (create_by name right)
  unfolding create_by Creates
  create_by_own text name true is =
      let here = may_make setting.users user name is in (may name (makes_own setting.users user name here), (tt, makes name here))
  create_by_own text name false is = tt

  create_own : (text name : List ℕ) (inbox : Bool) (fault : Option NameFault)
      → NeedsOwn setting.users session (command.Create text) (create_as setting user name inbox fault)
  unfolding create_as
  create_own text name true fault = tt
  create_own text name false (Some fault) = tt
  create_own text name false None = create_by_own text name (may_create setting.users user name) refl

  delete_by_own : (it : Command) (name : List ℕ) (right : Bool) → has_rights setting.users user name ≡ right
      → NeedsOwn setting.users session it (delete_by name right)
  unfolding delete_by
  delete_by_own it name true is = (may name (has_right setting.users user name is), tt)
  delete_by_own it name false is = tt

  delete_own : (it : Command) (name : List ℕ) (inbox : Bool) (fault : Option NameFault)
      → NeedsOwn setting.users session it (delete_as setting user name inbox fault)
  unfolding delete_as
  delete_own it name true fault = tt
  delete_own it name false (Some fault) = tt
  delete_own it name false None = delete_by_own it name (has_rights setting.users user name) refl

  append_by_own : (it : Command) (name : List ℕ) (message : Message) (right : Bool) → has_rights setting.users user name ≡ right
      → NeedsOwn setting.users session it (append_by name message right)
  unfolding append_by
  append_by_own it name message true is = (may name (has_right setting.users user name is), tt)
  append_by_own it name message false is = tt

  append_own : (it : Command) (name : List ℕ) (message : Message) (fault : Option NameFault)
      → NeedsOwn setting.users session it (append_as setting user name message fault)
  unfolding append_as
  append_own it name message (Some fault) = tt
  append_own it name message None = append_by_own it name message (has_rights setting.users user name) refl

  status_by_own : (it : Command) (name : List ℕ) (items : List StatusItem) (right : Bool) → has_rights setting.users user name ≡ right
      → NeedsOwn setting.users session it (status_by user name items right)
  unfolding status_by
  status_by_own it name items true is = (may name (has_right setting.users user name is), tt)
  status_by_own it name items false is = tt

  status_own : (it : Command) (name : List ℕ) (items : List StatusItem) (fault : Option NameFault)
      → NeedsOwn setting.users session it (status_as setting user name items fault)
  unfolding status_as
  status_own it name items (Some fault) = tt
  status_own it name items None = status_by_own it name items (has_rights setting.users user name) refl

  select_by_own : (it : Command) (name : List ℕ) (is_writable was_selected right : Bool) → has_rights setting.users user name ≡ right
      → NeedsOwn setting.users session it (select_by name (opening user name is_writable was_selected) right)
  unfolding select_by HasOwnSelected
  select_by_own it name is_writable was_selected true is = let has = has_right setting.users user name is in (may name has, has)
  select_by_own it name is_writable was_selected false is = tt

  select_own : (it : Command) (name : List ℕ) (is_writable was_selected : Bool) (fault : Option NameFault)
      → NeedsOwn setting.users session it (select_as setting user name is_writable was_selected fault)
  unfolding select_as HasOwnSelected
  select_own it name is_writable was_selected (Some fault) = tt
  select_own it name is_writable was_selected None = select_by_own it name is_writable was_selected (has_rights setting.users user name) refl

  list_own : (it : Command) (reference mailbox : List ℕ) → NeedsOwn setting.users session it (list setting user reference mailbox)
  unfolding list tells has_rights
  list_own it reference mailbox =
      either setting.users session it (asks_separator mailbox) separator_told (Names (listing_by setting user (pattern_of reference mailbox))) tt
      (λ name is. may name (has_right setting.users user name is))

  begun_own : (is_selected : Bool) (it : Command) → NeedsOwn setting.users session it (need_begun setting user is_selected it)
  unfolding need_begun create create_meant delete append status select HasOwnSelected
  begun_own is_selected (command.Create text) =
      let meant = without_separator text in
      create_own text (taken_name user meant) (is_inbox meant) (mail_name_fault (taken_name user meant))
  begun_own is_selected (command.Delete text) =
      delete_own (command.Delete text) (taken_name user text) (is_inbox text) (mail_name_fault (taken_name user text))
  begun_own is_selected (command.Append text flags date body) =
      append_own (command.Append text flags date body) (taken_name user text) (new_message setting flags date body) (mail_name_fault (taken_name user text))
  begun_own is_selected (command.Status text items) =
      status_own (command.Status text items) (taken_name user text) items (mail_name_fault (taken_name user text))
  begun_own is_selected (command.Select text) =
      select_own (command.Select text) (taken_name user text) true is_selected (mail_name_fault (taken_name user text))
  begun_own is_selected (command.Examine text) =
      select_own (command.Examine text) (taken_name user text) false is_selected (mail_name_fault (taken_name user text))
  begun_own is_selected (command.List reference mailbox) = list_own (command.List reference mailbox) reference mailbox
  begun_own is_selected it = tt

in_own : (setting : Setting) (user : List ℕ) (it : Command) → NeedsOwn setting.users (In user) it (need_in setting user it)
unfolding need_in MayUse MayMake
in_own setting user command.Noop = tt
in_own setting user (command.Idle (Some line)) =
    idled_own setting.users (In user) (command.Idle (Some line)) line (Turned (replied (completed (codes "IDLE")))) tt
in_own setting user (command.Idle None) = begun_own setting (In user) user (λ name has. has) (λ name may. may) false (command.Idle None)
in_own setting user it = begun_own setting (In user) user (λ name has. has) (λ name may. may) false it

-- ---- commands of a session that has this view, of a mailbox on which its user has rights

module _ (setting : Setting) (view : View) (own : HasRightsOn setting.users view.user view.name) where
  either_viewed : (it : Command) (test : Bool) (one other : Needed) → NeedsOwn setting.users (selected view) it one
      → NeedsOwn setting.users (selected view) it other → NeedsOwn setting.users (selected view) it (if test then one else other)
  either_viewed = either setting.users (selected view)

  expunge_own : (it : Command) (only : Option (List SetPart)) → NeedsOwn setting.users (selected view) it (expunge view only)
  unfolding MayUse
  expunge_own it only = either_viewed it view.is_writable (expunge_named view only) read_only (named only) tt
    where
      named : (set : Option (List SetPart)) → NeedsOwn setting.users (selected view) it (expunge_named view set)
      named None = (own, own)
      named (Some set) = (own, own)

  store_own : (it : Command) (by_uid : Bool) (set : List SetPart) (mode : Mode) (is_silent : Bool) (flags : Flags)
      → NeedsOwn setting.users (selected view) it (store view by_uid set mode is_silent flags)
  unfolding MayUse
  store_own it by_uid set mode is_silent flags =
      let named = store_named view by_uid set mode is_silent flags in
      either_viewed it (names_messages view by_uid set) (if view.is_writable then named else read_only) no_such_number
      (either_viewed it view.is_writable named read_only (own, own) tt) tt

  selected_own : (it : Command) → NeedsOwn setting.users (selected view) it (need_selected setting view it)
  unfolding need_selected MayUse MayMake HasOwnSelected
  selected_own command.Noop = (own, own)
  selected_own (command.Idle (Some line)) =
      idled_own setting.users (selected view) (command.Idle (Some line)) line (at_mailbox view (view_work.News news_for.Idle)) (own, own)
  selected_own (command.Idle None) = begun_own setting (selected view) view.user (λ name has. has) (λ name may. may) true (command.Idle None)
  selected_own command.Close =
      either_viewed command.Close view.is_writable (at_mailbox view view_work.Close) (Turned (left_by view (codes "CLOSE"))) (own, own) tt
  selected_own command.Unselect = tt
  selected_own (command.Expunge only) = expunge_own (command.Expunge only) only
  selected_own (command.Store by_uid set mode is_silent flags) =
      store_own (command.Store by_uid set mode is_silent flags) by_uid set mode is_silent flags
  selected_own (command.Fetch by_uid set items) =
      either_viewed (command.Fetch by_uid set items) (names_messages view by_uid set) (fetch_named view by_uid set items) no_such_number (own, own) tt
  selected_own (command.Search by_uid keys) =
      let placed = keys_at (length view.rows) (last_uid view.rows) keys in
      either_viewed (command.Search by_uid keys) (have_all_numbers (length view.rows) keys)
      (at_mailbox view (view_work.Search (record { by_uid = by_uid; keys = placed }))) no_such_number (own, own) tt
  selected_own it = begun_own setting (selected view) view.user (λ name has. has) (λ name may. may) true it

-- ---- of any session

if_taken : (setting : Setting) (session : Sess) (it : Command) → NeedsOwn setting.users session it (need_taken setting session it)
    → NeedsOwn setting.users session it (need_of setting session it)
unfolding need_of
if_taken setting session it is =
    either setting.users session it (is_in session (traits_of it).states) (need_taken setting session it) (Refusal (bad_reply State)) is tt

pub needs_own : (setting : Setting) (session : Sess) (it : Command) → HasOwnSelected setting.users session
    → NeedsOwn setting.users session it (need_of setting session it)
unfolding need_taken HasOwnSelected
needs_own setting Off it own = each_off (answers_own setting.users Off it) setting it
needs_own setting (In user) it own = if_taken setting (In user) it (in_own setting user it)
needs_own setting (selected view) it own = if_taken setting (selected view) it (selected_own setting view own it)
needs_own setting Ended it own = if_taken setting Ended it tt
