-- Which command can end in which work at a mailbox: that takes messages away, changes their flags, adds one, selects it, or deletes it.
use Rattle.std.proofs.Common.{◌≡◌, ℕ, ◌||◌, Bool, true, false, if◌then◌else◌, List, [], ◌∷◌, ◌++◌, length, Option, None, Some, codes}
use Rattle.std.proofs.Common.{refl, sym, ◌∙◌, ap, subst}
use Rattle.std.specs.Prelude.{⊤}
use Rattle.std.specs.List.{Contains, list_any}
use Rattle.std.specs.Str.{bytes_eq}
use Rattle.std.proofs.lemmas.List.Folds.{list_any-append}
use Rattle.mail_message.specs.Boxes.{Content}
use Rattle.mail_message.specs.FlagSets.{Flags, flags_after, with_flag}
use Rattle.mail_message.specs.declared.flag_name.FlagName.TheVariants.{System}
use Rattle.mail_message.specs.declared.item.Item.{Item}
use Rattle.mail_message.specs.declared.message.Message.{Message}
use Rattle.mail_message.specs.declared.mode.Mode.{Mode}
use Rattle.mail_message.specs.declared.set.SetPart.{SetPart}
use Rattle.mail_message.specs.declared.system_flags.SystemFlag.TheVariants.{Seen}
use Rattle.mur_base.specs.Inbox.{taken_name}
use Rattle.mur_base.specs.Names.{mail_name_fault}
use Rattle.mur_base.specs.declared.name.NameFault.{NameFault}
use Rattle.mur_base.specs.declared.user.User.{User}
use Rattle.imap_types.specs.declared.command.Command.{Command}
use Rattle.imap_types.specs.declared.command.Command.TheVariants as command
use Rattle.imap_types.specs.declared.command.StatusItem.{StatusItem}
use Rattle.mur_model.specs.Needed.{Needed, Refusal, Turned, Mailbox, Names, Work, Make, Delete as delete_work, Append as append_work, Status as status_work, Select as select_work, Viewed as viewed_work, at_mailbox, no_such_number, read_only}
use Rattle.mur_model.specs.declared.work.NewsFor.TheVariants as news_for
use Rattle.mur_model.specs.declared.work.ViewWork.{ViewWork}
use Rattle.mur_model.specs.declared.work.ViewWork.TheVariants as view_work
use Rattle.imap_types.specs.declared.reply.BadText.TheVariants.{State, Syntax}
use Rattle.imap_types.specs.declared.reply.Verdict.TheVariants.{Bad as bad_reply}
use Rattle.name_listing.specs.Listing.{asks_separator, pattern_of}
use Rattle.mur_model.specs.declared.commands.select.Opening.{Opening}
use Rattle.mur_model.specs.declared.commands.store.FlagStore.{FlagStore}
use Rattle.mur_model.specs.declared.session.Sess.{Sess}
use Rattle.mur_model.specs.declared.session.Sess.TheVariants.{Off, In, Selected as selected, Ended}
use Rattle.mur_model.specs.declared.setting.Setting.{Setting}
use Rattle.mur_model.specs.declared.view.View.{View}
use Rattle.mur_model.specs.Act.{idled, need_begun, need_in, need_of, need_off, need_selected, need_taken}
use Rattle.mur_model.specs.Append.{append, append_as, append_by, new_message}
use Rattle.mur_model.specs.AtOnce.{is_done}
use Rattle.mur_model.specs.Close.{left_by}
use Rattle.mur_model.specs.Create.{create, create_as, create_by, create_meant, is_inbox, without_separator}
use Rattle.mur_model.specs.Delete.{delete, delete_as, delete_by}
use Rattle.mur_model.specs.Expunge.{expunge, expunge_named}
use Rattle.mur_model.specs.Fetch.{each_once, fetch_named, is_body, same_item}
use Rattle.mur_model.specs.Keys.{have_all_numbers, keys_at}
use Rattle.mur_model.specs.Left.{replied}
use Rattle.mur_model.specs.Login.{login, login_as, login_by, login_failed}
use Rattle.mur_model.specs.Listing.{list, listing_by, separator_told}
use Rattle.mur_model.specs.NamedRows.{last_uid, named_uids, names_messages}
use Rattle.mur_model.specs.Plain.{acts_as, authenticate, authenticate_as, authenticate_by, authenticate_with, cut_at_nul, decoded}
use Rattle.imap_types.specs.Reply.{completed}
use Rattle.mur_model.specs.Rights.{has_rights, may_create, user_named}
use Rattle.mur_model.specs.Select.{opening, select, select_as, select_by}
use Rattle.mur_model.specs.Status.{status, status_as, status_by}
use Rattle.mur_model.specs.StoreFlags.{store, store_named}
use Rattle.mur_model.specs.Traits.{Nothing, Labels, effect_of, is_in, traits_of}
use Rattle.store_law.specs.Appended.{name_meant}
use Rattle.store_law.specs.Examined.{changes_named}
use Rattle.store_law.specs.NoneLost.{Deletes, Expunges, IsAbout, IsNamed, MayBecome, MayChange, MayLabel}

-- all messages are meant, or those of some UIDs
abbrev pub IsMeant : Option (List ℕ) → ℕ → Type 0
IsMeant None uid = ⊤
IsMeant (Some uids) uid = Contains uids uid

-- the session may change messages of some UIDs in the mailbox of the view, where that is there still
abbrev pub MayChangeThese : Sess → Command → List ℕ → View → (ℕ → Type 0) → Type 0
MayChangeThese session it name view P = (box : Content) (uid : ℕ) → box.serial ≡ view.serial → P uid → MayChange session it name box uid

-- the STORE is the one that the command asks for
abbrev pub StoreOf : Command → View → FlagStore → Type 0
StoreOf (command.Store by_uid set mode is_silent flags) view it =
    it ≡ record { by_uid = by_uid; uids = named_uids by_uid set view.rows; mode = mode; is_silent = is_silent; flags = flags }
StoreOf it view asked = ⊥

abbrev pub FitsView : Sess → Command → List ℕ → View → ViewWork → Type 0
FitsView session it name view (view_work.News why) = ⊤
FitsView session it name view view_work.Close = MayChangeThese session it name view (IsMeant None) × Expunges it
FitsView session it name view (view_work.Expunge only) = MayChangeThese session it name view (IsMeant only) × Expunges it
FitsView session it name view (view_work.Store asked) =
    MayChangeThese session it name view (Contains asked.uids) × ((old : Flags) → MayLabel it old (flags_after asked.mode old asked.flags))
    × StoreOf it view asked
FitsView session it name view (view_work.Fetch asked) =
    (view.is_writable ≡ true → MayChangeThese session it name view (Contains asked.uids))
    × (list_any is_body asked.items ≡ true → (old : Flags) → MayLabel it old (with_flag old (System Seen)))
FitsView session it name view (view_work.Search asked) = ⊤

-- a SELECT selects to change, and an EXAMINE to read
abbrev pub Selects : Command → Bool → Type 0
Selects (command.Select text) is_writable = is_writable ≡ true
Selects (command.Examine text) is_writable = is_writable ≡ false
Selects it is_writable = ⊥

abbrev pub FitsWork : Sess → Command → List ℕ → Work → Type 0
FitsWork session it name Make = ⊤
FitsWork session it name delete_work = Deletes session it name
FitsWork session it name (append_work message) = changes_named it ≡ true
FitsWork session it name (status_work shown items) = ⊤
FitsWork session it name (select_work opened) = Selects it opened.is_writable
FitsWork session it name (viewed_work view work) = FitsView session it name view work

-- the work is such as this command of this session ends in
abbrev pub Fits : Sess → Command → Needed → Type 0
Fits session it (Refusal verdict) = ⊤
Fits session it (Turned turn) = ⊤
Fits session it (Mailbox name work) = FitsWork session it name work
Fits session it (Names listing) = ⊤

module _ (session : Sess) (it : Command) where
  either : (test : Bool) (one other : Needed) → (test ≡ true → Fits session it one) → Fits session it other → Fits session it (if test then one else other)
  either true one other is is_other = is refl
  either false one other is is_other = is_other

  login_by_fits : (name user : List ℕ) (same : Bool) → Fits session it (login_by name user same)
  unfolding login_by
  login_by_fits name user true = tt
  login_by_fits name user false = tt

  login_as_fits : (name : List ℕ) (found : Option User) (password : List ℕ) → Fits session it (login_as name found password)
  unfolding login_as
  login_as_fits name None password = tt
  login_as_fits name (Some user) password = login_by_fits name user.name (bytes_eq user.password password)

  login_fits : (users : List User) (name user password : List ℕ) → Fits session it (login users name user password)
  unfolding login
  login_fits users name user password = login_as_fits name (user_named users user) password

  plain_by_fits : (users : List User) (authzid : List ℕ) (rest : Option (List ℕ × List ℕ)) → Fits session it (authenticate_by users authzid rest)
  unfolding authenticate_by
  plain_by_fits users authzid None = tt
  plain_by_fits users authzid (Some (user, password)) =
      either (acts_as authzid user) (login users (codes "AUTHENTICATE") user password) login_failed
      (λ so. login_fits users (codes "AUTHENTICATE") user password) tt

  plain_as_fits : (users : List User) (parts : Option (List ℕ × List ℕ)) → Fits session it (authenticate_as users parts)
  unfolding authenticate_as
  plain_as_fits users None = tt
  plain_as_fits users (Some (authzid, rest)) = plain_by_fits users authzid (cut_at_nul rest)

  plain_with_fits : (users : List User) (message : Option (List ℕ)) → Fits session it (authenticate_with users message)
  unfolding authenticate_with
  plain_with_fits users None = tt
  plain_with_fits users (Some message) = plain_as_fits users (cut_at_nul message)

  plain_fits : (users : List User) (response : List ℕ) → Fits session it (authenticate users response)
  unfolding authenticate
  plain_fits users response =
      either (bytes_eq response (codes "*")) (Refusal (bad_reply Syntax)) (authenticate_with users (decoded response)) (λ so. tt)
      (plain_with_fits users (decoded response))

  off_fits : (setting : Setting) (asked : Command) → Fits session it (need_off setting asked)
  unfolding need_off
  off_fits setting (command.Login user password) = login_fits setting.users (codes "LOGIN") user password
  off_fits setting (command.Authenticate (Some response)) = plain_fits setting.users response
  off_fits setting (command.Authenticate None) = tt
  off_fits setting asked = tt

  create_by_fits : (name : List ℕ) (may : Bool) → Fits session it (create_by name may)
  unfolding create_by
  create_by_fits name true = tt
  create_by_fits name false = tt

  create_fits : (setting : Setting) (user name : List ℕ) (inbox : Bool) (fault : Option NameFault) → Fits session it (create_as setting user name inbox fault)
  unfolding create_as
  create_fits setting user name true fault = tt
  create_fits setting user name false (Some fault) = tt
  create_fits setting user name false None = create_by_fits name (may_create setting.users user name)

  delete_by_fits : (name : List ℕ) (may : Bool) → Deletes session it name → Fits session it (delete_by name may)
  unfolding delete_by
  delete_by_fits name true so = so
  delete_by_fits name false so = tt

  delete_fits : (setting : Setting) (user name : List ℕ) (inbox : Bool) (fault : Option NameFault) → Deletes session it name
      → Fits session it (delete_as setting user name inbox fault)
  unfolding delete_as
  delete_fits setting user name true fault so = tt
  delete_fits setting user name false (Some fault) so = tt
  delete_fits setting user name false None so = delete_by_fits name (has_rights setting.users user name) so

  append_by_fits : (name : List ℕ) (message : Message) (may : Bool) → changes_named it ≡ true → Fits session it (append_by name message may)
  unfolding append_by
  append_by_fits name message true so = so
  append_by_fits name message false so = tt

  append_fits : (setting : Setting) (user name : List ℕ) (message : Message) (fault : Option NameFault) → changes_named it ≡ true
      → Fits session it (append_as setting user name message fault)
  unfolding append_as
  append_fits setting user name message (Some fault) so = tt
  append_fits setting user name message None so = append_by_fits name message (has_rights setting.users user name) so

  status_by_fits : (user name : List ℕ) (items : List StatusItem) (may : Bool) → Fits session it (status_by user name items may)
  unfolding status_by
  status_by_fits user name items true = tt
  status_by_fits user name items false = tt

  status_fits : (setting : Setting) (user name : List ℕ) (items : List StatusItem) (fault : Option NameFault)
      → Fits session it (status_as setting user name items fault)
  unfolding status_as
  status_fits setting user name items (Some fault) = tt
  status_fits setting user name items None = status_by_fits user name items (has_rights setting.users user name)

  select_by_fits : (name : List ℕ) (opened : Opening) (may : Bool) → Selects it opened.is_writable → Fits session it (select_by name opened may)
  unfolding select_by
  select_by_fits name opened true so = so
  select_by_fits name opened false so = tt

  select_fits : (setting : Setting) (user name : List ℕ) (is_writable was_selected : Bool) (fault : Option NameFault) → Selects it is_writable
      → Fits session it (select_as setting user name is_writable was_selected fault)
  unfolding select_as
  select_fits setting user name is_writable was_selected (Some fault) so = tt
  select_fits setting user name is_writable was_selected None so =
      select_by_fits name (opening user name is_writable was_selected) (has_rights setting.users user name) so

  list_fits : (setting : Setting) (user reference mailbox : List ℕ) → Fits session it (list setting user reference mailbox)
  unfolding list
  list_fits setting user reference mailbox =
      either (asks_separator mailbox) separator_told (Names (listing_by setting user (pattern_of reference mailbox))) (λ so. tt) tt

  -- a session of this user means by a text what they do
  begun_fits : (setting : Setting) (user : List ℕ) (is_selected : Bool) (asked : Command) → ((text : List ℕ) → name_meant session text ≡ Some (taken_name user text))
      → it ≡ asked → Fits session it (need_begun setting user is_selected asked)
  unfolding need_begun create create_meant delete append status select changes_named Deletes
  begun_fits setting user is_selected (command.List reference mailbox) means same = list_fits setting user reference mailbox
  begun_fits setting user is_selected (command.Create text) means same =
      let meant = without_separator text in
      create_fits setting user (taken_name user meant) (is_inbox meant) (mail_name_fault (taken_name user meant))
  begun_fits setting user is_selected (command.Delete text) means same =
      delete_fits setting user (taken_name user text) (is_inbox text) (mail_name_fault (taken_name user text))
      (subst (λ (c : Command). Deletes session c (taken_name user text)) (sym same) (means text))
  begun_fits setting user is_selected (command.Append text flags date body) means same =
      append_fits setting user (taken_name user text) (new_message setting flags date body) (mail_name_fault (taken_name user text)) (ap changes_named same)
  begun_fits setting user is_selected (command.Status text items) means same =
      status_fits setting user (taken_name user text) items (mail_name_fault (taken_name user text))
  begun_fits setting user is_selected (command.Select text) means same =
      select_fits setting user (taken_name user text) true is_selected (mail_name_fault (taken_name user text))
      (subst (λ (c : Command). Selects c true) (sym same) refl)
  begun_fits setting user is_selected (command.Examine text) means same =
      select_fits setting user (taken_name user text) false is_selected (mail_name_fault (taken_name user text))
      (subst (λ (c : Command). Selects c false) (sym same) refl)
  begun_fits setting user is_selected asked means same = tt

  idled_fits : (line : List ℕ) (done : Needed) → Fits session it done → Fits session it (idled line done)
  idled_fits line done is = either (is_done line) done (Refusal (bad_reply Syntax)) (λ so. is) tt

  in_fits : (setting : Setting) (user : List ℕ) (asked : Command) → ((text : List ℕ) → name_meant session text ≡ Some (taken_name user text)) → it ≡ asked
      → Fits session it (need_in setting user asked)
  unfolding need_in
  in_fits setting user command.Noop means same = tt
  in_fits setting user (command.Idle (Some line)) means same = idled_fits line (Turned (replied (completed (codes "IDLE")))) tt
  in_fits setting user (command.Idle None) means same = begun_fits setting user false (command.Idle None) means same
  in_fits setting user asked means same = begun_fits setting user false asked means same

-- ---- commands of a session that has this view

may_change : (view : View) (it : Command) (P : ℕ → Type 0) → ((uid : ℕ) → P uid → IsAbout view.rows it uid) → view.is_writable ≡ true
    → MayChangeThese (selected view) it view.name view P
unfolding MayChange
may_change view it P about writable box uid same meant = (refl, sym same, writable, about uid meant)

expunge_fits : (view : View) (only : Option (List SetPart)) → Fits (selected view) (command.Expunge only) (expunge view only)
unfolding Expunges IsAbout IsNamed effect_of
expunge_fits view None =
    either (selected view) (command.Expunge None) view.is_writable (expunge_named view None) read_only
    (λ writable. (may_change view (command.Expunge None) (IsMeant None) (λ uid meant. tt) writable, refl)) tt
expunge_fits view (Some set) =
    either (selected view) (command.Expunge (Some set)) view.is_writable (expunge_named view (Some set)) read_only
    (λ writable. (may_change view (command.Expunge (Some set)) (Contains (named_uids true set view.rows)) (λ uid meant. meant) writable, refl)) tt

store_fits : (view : View) (by_uid : Bool) (set : List SetPart) (mode : Mode) (is_silent : Bool) (flags : Flags)
    → Fits (selected view) (command.Store by_uid set mode is_silent flags) (store view by_uid set mode is_silent flags)
unfolding MayLabel MayBecome IsAbout IsNamed effect_of
store_fits view by_uid set mode is_silent flags =
    let it : Command = command.Store by_uid set mode is_silent flags in
    let named = store_named view by_uid set mode is_silent flags in
    either (selected view) it (names_messages view by_uid set) (if view.is_writable then named else read_only) no_such_number
    (λ so. either (selected view) it view.is_writable named read_only
    (λ writable. (may_change view it (Contains (named_uids by_uid set view.rows)) (λ uid meant. meant) writable, λ old. refl, refl)) tt) tt

asked_before : (told one more : Bool) → (told || more) ≡ true → (told || (one || more)) ≡ true
asked_before true one more is = refl
asked_before false true more is = refl
asked_before false false more is = is

asked_now : (told one more : Bool) → ((told || (one || false)) || more) ≡ true → (told || (one || more)) ≡ true
asked_now true one more is = refl
asked_now false true more is = refl
asked_now false false more is = is

-- what stands in a line once was asked for
once_by : (told : List Item) (item : Item) (items : List Item) (same : Bool)
    → (list_any is_body (if same then told else told ++ item ∷ []) || list_any is_body items) ≡ true
    → (list_any is_body told || list_any is_body (item ∷ items)) ≡ true
once_by told item items true is = asked_before (list_any is_body told) (is_body item) (list_any is_body items) is
once_by told item items false is =
    asked_now (list_any is_body told) (is_body item) (list_any is_body items)
    (ap (λ b. b || list_any is_body items) (sym (list_any-append is_body told (item ∷ []))) ∙ is)

pub once_asked : (told items : List Item) → list_any is_body (each_once told items) ≡ true → (list_any is_body told || list_any is_body items) ≡ true
once_asked told [] is = rw is refl
once_asked told (item ∷ items) is =
    let seen : Bool = list_any (same_item item) told in
    once_by told item items seen (once_asked (if seen then told else told ++ item ∷ []) items is)

-- a FETCH of a body
seen_becomes : (body : Bool) (old : Flags) → body ≡ true
    → MayBecome (if body then Labels (λ flags. with_flag flags (System Seen)) else Nothing) old (with_flag old (System Seen))
unfolding MayBecome
seen_becomes true old is = refl
seen_becomes false old is = cc

fetch_fits : (view : View) (by_uid : Bool) (set : List SetPart) (items : List Item)
    → Fits (selected view) (command.Fetch by_uid set items) (if names_messages view by_uid set then fetch_named view by_uid set items else no_such_number)
unfolding MayLabel MayBecome IsAbout IsNamed effect_of
fetch_fits view by_uid set items =
    either (selected view) (command.Fetch by_uid set items) (names_messages view by_uid set) (fetch_named view by_uid set items) no_such_number
    (λ so. (
      may_change view (command.Fetch by_uid set items) (Contains (named_uids by_uid set view.rows)) (λ uid meant. meant),
      λ body old. seen_becomes (list_any is_body items) old (once_asked [] items body),
    )) tt

close_fits : (view : View)
    → Fits (selected view) command.Close (if view.is_writable then at_mailbox view view_work.Close else Turned (left_by view (codes "CLOSE")))
unfolding Expunges IsAbout IsNamed effect_of
close_fits view =
    either (selected view) command.Close view.is_writable (at_mailbox view view_work.Close) (Turned (left_by view (codes "CLOSE")))
    (λ writable. (may_change view command.Close (IsMeant None) (λ uid meant. tt) writable, refl)) tt

selected_fits : (setting : Setting) (view : View) (it : Command) → Fits (selected view) it (need_selected setting view it)
unfolding need_selected name_meant
selected_fits setting view command.Noop = tt
selected_fits setting view (command.Idle (Some line)) =
    idled_fits (selected view) (command.Idle (Some line)) line (at_mailbox view (view_work.News news_for.Idle)) tt
selected_fits setting view (command.Idle None) = begun_fits (selected view) (command.Idle None) setting view.user true (command.Idle None) (λ text. refl) refl
selected_fits setting view command.Close = close_fits view
selected_fits setting view command.Unselect = tt
selected_fits setting view (command.Expunge only) = expunge_fits view only
selected_fits setting view (command.Store by_uid set mode is_silent flags) = store_fits view by_uid set mode is_silent flags
selected_fits setting view (command.Fetch by_uid set items) = fetch_fits view by_uid set items
selected_fits setting view (command.Search by_uid keys) =
    let placed = keys_at (length view.rows) (last_uid view.rows) keys in
    either (selected view) (command.Search by_uid keys) (have_all_numbers (length view.rows) keys)
    (at_mailbox view (view_work.Search (record { by_uid = by_uid; keys = placed }))) no_such_number (λ so. tt) tt
selected_fits setting view it = begun_fits (selected view) it setting view.user true it (λ text. refl) refl

taken_fits : (setting : Setting) (session : Sess) (it : Command) → Fits session it (need_taken setting session it)
unfolding need_taken name_meant
taken_fits setting Off it = off_fits Off it setting it
taken_fits setting (In user) it = in_fits (In user) it setting user it (λ text. refl) refl
taken_fits setting (selected view) it = selected_fits setting view it
taken_fits setting Ended it = tt

pub need_fits : (setting : Setting) (session : Sess) (it : Command) → Fits session it (need_of setting session it)
unfolding need_of
need_fits setting session it =
    either session it (is_in session (traits_of it).states) (need_taken setting session it) (Refusal (bad_reply State)) (λ so. taken_fits setting session it) tt
