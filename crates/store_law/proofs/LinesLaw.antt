-- Each FETCH line of a reply speaks of the message that has its number in the view.
use Rattle.std.proofs.Common.{◌≡◌, ℕ, ◌==◌, Bool, true, false, if◌then◌else◌, List, [], ◌∷◌, Option, None, Some, refl, sym}
use Rattle.std.proofs.Common.{◌∙◌, ap, subst}
use Rattle.std.specs.Prelude.{⊤, IfSome}
use Rattle.std.specs.Cmp.Lexicographic.{slice_cmp}
use Rattle.std.specs.Ordering.{nat_cmp}
use Rattle.mail_message.specs.Boxes.{Content, messages_at}
use Rattle.mail_message.specs.declared.message.Message.{Message}
use Rattle.mail_message.specs.declared.mode.Mode.TheVariants.{Add}
use Rattle.mail_store.specs.Append.{append_fault}
use Rattle.mail_store.specs.Expunge.{expunged}
use Rattle.mail_store.specs.Store.{stored, rows_stored, has_too_many_flags}
use Rattle.mail_store.specs.declared.fault.StoreFault.{StoreFault}
use Rattle.mur_base.proofs.MapLaws.{names_apart, value_at-with_value}
use Rattle.imap_types.specs.declared.command.Command.{Command}
use Rattle.imap_types.specs.declared.command.StatusItem.{StatusItem}
use Rattle.imap_types.specs.declared.reply.NoText.{NoText}
use Rattle.imap_types.specs.declared.reply.ReplyLine.{ReplyLine}
use Rattle.imap_types.specs.declared.reply.ReplyLine.TheVariants.{Search}
use Rattle.mur_model.specs.Needed.{Needed, Refusal, Turned, Mailbox, Names, Work, Make, Delete as delete_work, Append as append_work, Status as status_work, Select as select_work, Viewed as viewed_work}
use Rattle.mur_model.specs.declared.commands.fetch.Fetching.{Fetching}
use Rattle.mur_model.specs.declared.commands.select.Opening.{Opening}
use Rattle.mur_model.specs.declared.commands.store.FlagStore.{FlagStore}
use Rattle.mur_model.specs.declared.session.Sess.{Sess}
use Rattle.mur_model.specs.declared.session.Sess.TheVariants.{Selected as selected}
use Rattle.mur_model.specs.declared.setting.Setting.{Setting}
use Rattle.mur_model.specs.declared.store.Store.{Store}
use Rattle.mur_model.specs.declared.view.View.{View}
use Rattle.mur_model.specs.declared.work.ViewWork.{ViewWork}
use Rattle.mur_model.specs.declared.work.ViewWork.TheVariants as view_work
use Rattle.mur_model.specs.Act.{act_by, act_of, need_of, work_on}
use Rattle.mur_model.specs.Append.{append_on, append_reply, append_to}
use Rattle.mur_model.specs.ClientView.{Known, known_after}
use Rattle.mur_model.specs.Create.{create_on, make}
use Rattle.mur_model.specs.Delete.{delete_on}
use Rattle.mur_model.specs.Fetch.{fetch_at, fetch_lines, fetch_told, seen_flags, sees}
use Rattle.mur_model.specs.Left.{Left, Worked, box_after, changed, kept, made, removed, store_after}
use Rattle.mur_model.specs.Select.{select_on, unselected}
use Rattle.mur_model.specs.Selected.{rows_of}
use Rattle.mur_model.specs.Status.{status_on, status_reply}
use Rattle.mur_model.specs.Store.{box_at, is_full}
use Rattle.mur_model.specs.StoreFlags.{own_lines, stored_at}
use Rattle.mur_model.specs.Viewing.{found_gone, viewed_on, work_there}
use Rattle.mur_model.proofs.EachNeed.{AnyCommand, OfBegun, OfViewed, OfWorks, each_by_works, each_need, of_refusals}
use Rattle.mur_model.proofs.OwnView.{IsOfNeeded, IsOfWork, need_own}
use Rattle.store_law.specs.Lines.{LinesSpeak, SpeaksByNumbers, known_of}
use Rattle.mur_model.specs.Listing.{list_reply, names_in}
use Rattle.store_law.proofs.ListedLines.{list_quiet}
use Rattle.store_law.proofs.LinesSpoken.{SpeakAlone, news_speak, none_alone, told_uids}
use Rattle.store_law.proofs.CommandsSpeak.{after, all_read, changes, fetch_alone, kept_same, own_alone, stored_same}

-- ---- each command of a view, where its mailbox is there

abbrev WorkSpeaks : View → Content → Worked → Type 0
WorkSpeaks view box worked = LinesSpeak (box_after box worked.left) (known_of view) worked.turn.reply.lines

either_speaks : (view : View) (box : Content) (test : Bool) (one other : Worked) → WorkSpeaks view box one → WorkSpeaks view box other
    → WorkSpeaks view box (if test then one else other)
either_speaks view box true one other is is_other = is
either_speaks view box false one other is is_other = is_other

stored_speaks : (view : View) (it : FlagStore) (box : Content) (many : Bool) → WorkSpeaks view box (stored_at view it box many)
unfolding box_after
stored_speaks view it box true = news_speak box [] view.rows it.by_uid [] (none_alone box (told_uids view.rows))
stored_speaks view it box false =
    news_speak (after it box) (own_lines it (changes it box) view.rows) view.rows it.by_uid _ (own_alone it box view.rows)

fetch_speaks : (view : View) (it : Fetching) (box : Content) → WorkSpeaks view box (fetch_at view it box)
unfolding box_after
fetch_speaks view it box =
    let before = messages_at box.messages it.uids in
    let later = stored box it.uids Add seen_flags in
    either_speaks view box (sees view it) (record { left = changed later; turn = fetch_told view it before (rows_of later) })
    (record { left = kept; turn = fetch_told view it before (rows_of box) })
    (news_speak later (fetch_lines it view.rows (rows_of later) before) view.rows it.by_uid _
    (fetch_alone later view.rows it before (all_read box later it.uids (λ q message at. stored_same box it.uids Add seen_flags q message at))))
    (news_speak box (fetch_lines it view.rows (rows_of box) before) view.rows it.by_uid _
    (fetch_alone box view.rows it before (all_read box box it.uids (λ q message at. kept_same box q message at))))

search_alone : (box : Content) (known : Known) (by_uid : Bool) (numbers : List ℕ) → SpeakAlone box known (Search by_uid numbers ∷ [])
unfolding LinesSpeak known_after
search_alone box known by_uid numbers = (tt, refl)

there_speaks : (view : View) (work : ViewWork) (box : Content) → WorkSpeaks view box (work_there view work box)
unfolding work_there box_after LinesSpeak
there_speaks view (view_work.News why) box = news_speak box [] view.rows true [] (none_alone box (told_uids view.rows))
there_speaks view view_work.Close box = tt
there_speaks view (view_work.Expunge only) box =
    news_speak (expunged box only) [] view.rows true [] (none_alone (expunged box only) (told_uids view.rows))
there_speaks view (view_work.Store it) box = stored_speaks view it box (has_too_many_flags (rows_stored box it.uids it.mode it.flags))
there_speaks view (view_work.Fetch it) box = fetch_speaks view it box
there_speaks view (view_work.Search it) box = news_speak box (_ ∷ []) view.rows it.by_uid [] (search_alone box (told_uids view.rows) _ _)

viewed_speaks : (view : View) (work : ViewWork) (box : Content) → WorkSpeaks view box (viewed_on view work (Some box))
unfolding viewed_on LinesSpeak
viewed_speaks view work box = either_speaks view box (box.serial == view.serial) (work_there view work box) found_gone (there_speaks view work box) tt

-- ---- what tells of no message

abbrev AreQuiet : List ReplyLine → Type 0
AreQuiet lines = (box : Content) (known : Known) → LinesSpeak box known lines

made_quiet : (name : List ℕ) (serial : ℕ) (full : Bool) → AreQuiet (make name serial full).turn.reply.lines
unfolding make LinesSpeak
made_quiet name serial true = λ box known. tt
made_quiet name serial false = λ box known. tt

created_quiet : (name : List ℕ) (serial : ℕ) (full : Bool) (found : Option Content) → AreQuiet (create_on name serial full found).turn.reply.lines
unfolding create_on LinesSpeak
created_quiet name serial full None = made_quiet name serial full
created_quiet name serial full (Some there) = λ box known. tt

deleted_quiet : (found : Option Content) → AreQuiet (delete_on found).turn.reply.lines
unfolding delete_on LinesSpeak
deleted_quiet None = λ box known. tt
deleted_quiet (Some there) = λ box known. tt

appended_quiet : (message : Message) (there : Content) (fault : Option StoreFault) → AreQuiet (append_to message there fault).turn.reply.lines
unfolding append_to append_reply LinesSpeak
appended_quiet message there (Some fault) = λ box known. tt
appended_quiet message there None = λ box known. tt

append_quiet : (message : Message) (found : Option Content) → AreQuiet (append_on message found).turn.reply.lines
unfolding append_on LinesSpeak
append_quiet message None = λ box known. tt
append_quiet message (Some there) = appended_quiet message there (append_fault there (message ∷ []))

status_quiet : (shown : List ℕ) (items : List StatusItem) (found : Option Content) → AreQuiet (status_on shown items found).turn.reply.lines
unfolding status_on status_reply LinesSpeak
status_quiet shown items None = λ box known. tt
status_quiet shown items (Some there) = λ box known. tt

opened_quiet : (was_selected is_writable : Bool) (it : Opening) (name : List ℕ) (found : Option Content)
    → AreQuiet (select_on (record it { was_selected = was_selected; is_writable = is_writable }) name found).turn.reply.lines
unfolding select_on LinesSpeak known_after
opened_quiet true is_writable it name None = λ box known. tt
opened_quiet false is_writable it name None = λ box known. tt
opened_quiet true true it name (Some there) = λ box known. tt
opened_quiet true false it name (Some there) = λ box known. tt
opened_quiet false true it name (Some there) = λ box known. tt
opened_quiet false false it name (Some there) = λ box known. tt

unselected_quiet : (user : List ℕ) (was_selected : Bool) (why : NoText) → AreQuiet (unselected user was_selected why).reply.lines
unfolding LinesSpeak known_after
unselected_quiet user true why = λ box known. tt
unselected_quiet user false why = λ box known. tt

abbrev NeedIsQuiet : Needed → Type 0
NeedIsQuiet (Turned turn) = AreQuiet turn.reply.lines
NeedIsQuiet need = ⊤

works_quiet : OfWorks NeedIsQuiet
unfolding LinesSpeak known_after
works_quiet = record {
  answers = of_refusals (λ verdict. tt) (λ name plain. λ box known. tt) (λ name user plain. λ box known. tt) (λ box known. tt) (λ box known. tt);
  enable = λ box known. tt;
  separator = λ box known. tt;
  names = λ it. tt;
  unselected = unselected_quiet;
  left = λ view name plain. λ box known. tt;
  work = λ name it. tt;
}

-- ---- work for a view is at the mailbox of its name

abbrev pub IsAtOwn : Needed → Type 0
IsAtOwn (Mailbox name (viewed_work view it)) = name ≡ view.name
IsAtOwn need = ⊤

begun_at_own : (setting : Setting) → OfBegun setting AnyCommand IsAtOwn
begun_at_own setting = record {
  answers = of_refusals (λ verdict. tt) (λ name plain. tt) (λ name user plain. tt) tt tt;
  enable = tt;
  separator = tt;
  names = λ user pattern. tt;
  unselected = λ user was_selected why. tt;
  make = λ name named. tt;
  delete = λ name named. tt;
  append = λ name text flags date body asked. tt;
  status = λ user name items named. tt;
  select = λ user name text is_writable was_selected asked named. tt;
}

viewed_at_own : (view : View) → OfViewed AnyCommand IsAtOwn view
viewed_at_own view = record {
  left = λ name plain. tt;
  news = λ why. refl;
  close = refl;
  expunge = λ only. refl;
  store = λ by_uid set mode is_silent flags asked. refl;
  fetch = λ it. refl;
  search = λ it. refl;
}

pub need_at_own : (setting : Setting) (session : Sess) (it : Command) → IsAtOwn (need_of setting session it)
need_at_own setting session it = each_need (begun_at_own setting) session (λ view is. viewed_at_own view) it tt

-- ---- each command

-- the mailbox of a view isn't made anew, nor deleted
abbrev IsNotMade : Left → Type 0
IsNotMade kept = ⊤
IsNotMade (made content) = ⊥
IsNotMade (changed content) = ⊤
IsNotMade removed = ⊥

either_not_made : (test : Bool) (one other : Worked) → IsNotMade one.left → IsNotMade other.left → IsNotMade (if test then one else other).left
either_not_made true one other is is_other = is
either_not_made false one other is is_other = is_other

stored_not_made : (view : View) (it : FlagStore) (box : Content) (many : Bool) → IsNotMade (stored_at view it box many).left
stored_not_made view it box true = tt
stored_not_made view it box false = tt

there_not_made : (view : View) (work : ViewWork) (box : Content) → IsNotMade (work_there view work box).left
unfolding work_there
there_not_made view (view_work.News why) box = tt
there_not_made view view_work.Close box = tt
there_not_made view (view_work.Expunge only) box = tt
there_not_made view (view_work.Store it) box = stored_not_made view it box (has_too_many_flags (rows_stored box it.uids it.mode it.flags))
there_not_made view (view_work.Fetch it) box = either_not_made (sees view it) _ _ tt tt
there_not_made view (view_work.Search it) box = tt

viewed_not_made : (view : View) (work : ViewWork) (box : Content) → IsNotMade (viewed_on view work (Some box)).left
unfolding viewed_on
viewed_not_made view work box =
    either_not_made (box.serial == view.serial) (work_there view work box) found_gone (there_not_made view work box) tt

if_some : (P : Content → Type 0) (found : Option Content) → ((box : Content) → P box) → IfSome found P
if_some P None all = tt
if_some P (Some box) all = all box

module _ (store : Store) (view : View) where
  -- what a reply says of the mailbox of the view that is found then
  abbrev Speaks : Store → List ReplyLine → Type 0
  Speaks later lines = IfSome (box_at later view.name) (λ box. box.serial ≡ view.serial → LinesSpeak box (known_of view) lines)

  quiet_speaks : (later : Store) (lines : List ReplyLine) → AreQuiet lines → Speaks later lines
  quiet_speaks later lines quiet =
      if_some (λ box. box.serial ≡ view.serial → LinesSpeak box (known_of view) lines) (box_at later view.name) (λ box same. quiet box (known_of view))

  left_speaks : (box : Content) (left : Left) (lines : List ReplyLine) → box_at store view.name ≡ Some box
      → LinesSpeak (box_after box left) (known_of view) lines → IsNotMade left → Speaks (store_after store view.name left) lines
  unfolding box_after store_after
  left_speaks box kept lines at speak not_made =
      subst (λ (found : Option Content). IfSome found (λ b. b.serial ≡ view.serial → LinesSpeak b (known_of view) lines)) (sym at) (λ same. speak)
  left_speaks box (made content) lines at speak not_made = absurd not_made
  left_speaks box removed lines at speak not_made = absurd not_made
  left_speaks box (changed content) lines at speak not_made =
      subst (λ (found : Option Content). IfSome found (λ b. b.serial ≡ view.serial → LinesSpeak b (known_of view) lines))
      (sym (value_at-with_value (slice_cmp nat_cmp) names_apart store.boxes view.name content box at)) (λ same. speak)

  found_speaks : (work : ViewWork) (found : Option Content) → box_at store view.name ≡ found
      → Speaks (store_after store view.name (viewed_on view work found).left) (viewed_on view work found).turn.reply.lines
  unfolding viewed_on LinesSpeak store_after
  found_speaks work None at =
      quiet_speaks (store_after store view.name (viewed_on view work None).left) (viewed_on view work None).turn.reply.lines (λ box known. tt)
  found_speaks work (Some box) at =
      left_speaks box (viewed_on view work (Some box)).left (viewed_on view work (Some box)).turn.reply.lines at (viewed_speaks view work box)
      (viewed_not_made view work box)

  work_speaks : (name : List ℕ) (work : Work) (serial : ℕ) (full : Bool) → IsAtOwn (Mailbox name work) → IsOfWork (selected view) work
      → let worked = work_on name work serial full (box_at store name) in Speaks (store_after store name worked.left) worked.turn.reply.lines
  unfolding work_on IsOfWork
  work_speaks name Make serial full at own = let worked = create_on name serial full (box_at store name) in
      quiet_speaks (store_after store name worked.left) worked.turn.reply.lines (created_quiet name serial full (box_at store name))
  work_speaks name delete_work serial full at own = let worked = delete_on (box_at store name) in
      quiet_speaks (store_after store name worked.left) worked.turn.reply.lines (deleted_quiet (box_at store name))
  work_speaks name (append_work message) serial full at own = let worked = append_on message (box_at store name) in
      quiet_speaks (store_after store name worked.left) worked.turn.reply.lines (append_quiet message (box_at store name))
  work_speaks name (status_work shown items) serial full at own = let worked = status_on shown items (box_at store name) in
      quiet_speaks (store_after store name worked.left) worked.turn.reply.lines (status_quiet shown items (box_at store name))
  work_speaks name (select_work it) serial full at own = let worked = select_on it name (box_at store name) in
      quiet_speaks (store_after store name worked.left) worked.turn.reply.lines
      (opened_quiet it.was_selected it.is_writable it name (box_at store name))
  work_speaks name (viewed_work other work) serial full at own =
      let same : view ≡ other = cc in
      let here : name ≡ view.name = at ∙ ap (λ (v : View). v.name) (sym same) in
      subst (λ n. Speaks (store_after store n (viewed_on other work (box_at store n)).left) (viewed_on other work (box_at store n)).turn.reply.lines) (sym here)
      (subst (λ (v : View). Speaks (store_after store view.name (viewed_on v work (box_at store view.name)).left)
      (viewed_on v work (box_at store view.name)).turn.reply.lines) same (found_speaks work (box_at store view.name) refl))

  need_speaks : (serial : ℕ) (need : Needed) → NeedIsQuiet need → IsAtOwn need → IsOfNeeded (selected view) need
      → let acted = act_by store (selected view) serial need in Speaks acted.store acted.reply.lines
  unfolding act_by IsOfNeeded LinesSpeak
  need_speaks serial (Refusal verdict) quiet at own = quiet_speaks store [] (λ box known. tt)
  need_speaks serial (Turned turn) quiet at own = quiet_speaks store turn.reply.lines quiet
  need_speaks serial (Mailbox name work) quiet at own = work_speaks name work serial (is_full store) at own
  need_speaks serial (Names it) quiet at own = quiet_speaks store (list_reply it (names_in store)).lines (list_quiet it (names_in store))

pub speaks_by_numbers : (setting : Setting) → SpeaksByNumbers setting
unfolding act_of
speaks_by_numbers setting store view it serial =
    need_speaks store view serial (need_of setting (selected view) it) (each_by_works setting works_quiet (selected view) it)
    (need_at_own setting (selected view) it) (need_own setting (selected view) it)
