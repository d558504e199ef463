-- The store refuses no command for a relocation.
use Rattle.std.proofs.Common.{◌≡◌, ℕ, ◌==◌, Bool, true, false, if◌then◌else◌, List, [], ◌∷◌, Option, None, Some, refl}
use Rattle.mail_message.specs.Boxes.{Content, messages_at}
use Rattle.mail_message.specs.declared.message.Message.{Message}
use Rattle.mail_message.specs.declared.mode.Mode.TheVariants.{Add}
use Rattle.mail_store.specs.Append.{append_fault}
use Rattle.mail_store.specs.Store.{stored, rows_stored, has_too_many_flags}
use Rattle.mail_store.specs.declared.fault.StoreFault.{StoreFault}
use Rattle.imap_types.specs.declared.command.StatusItem.{StatusItem}
use Rattle.mur_model.specs.declared.commands.fetch.Fetching.{Fetching}
use Rattle.mur_model.specs.Listing.{list_reply}
use Rattle.mur_model.specs.Needed.{Needed, Refusal, Turned, Mailbox, Names, Work, Make, Delete as delete_work, Append as append_work, Status as status_work, Select as select_work, Viewed as viewed_work}
use Rattle.mur_model.specs.declared.work.ViewWork.{ViewWork}
use Rattle.mur_model.specs.declared.work.ViewWork.TheVariants as view_work
use Rattle.imap_types.specs.declared.request.Answer.{Answer}
use Rattle.imap_types.specs.declared.request.Request.{Request}
use Rattle.imap_types.specs.declared.request.Request.TheVariants.{Command as a_command, Unknown as unknown, TooBig as too_big}
use Rattle.mur_model.specs.declared.commands.select.Opening.{Opening}
use Rattle.mur_model.specs.declared.session.Sess.{Sess}
use Rattle.mur_model.specs.declared.setting.Setting.{Setting}
use Rattle.mur_model.specs.declared.store.Store.{Store}
use Rattle.mur_model.specs.declared.commands.store.FlagStore.{FlagStore}
use Rattle.mur_model.specs.declared.view.View.{View}
use Rattle.mur_model.specs.Act.{act_by, act_of, need_of, work_on}
use Rattle.mur_model.specs.Answer.{answer_of}
use Rattle.mur_model.specs.Append.{append_on, append_reply, append_to}
use Rattle.mur_model.specs.Create.{create_on, make}
use Rattle.mur_model.specs.Delete.{delete_on}
use Rattle.mur_model.specs.Fetch.{fetch_at, fetch_told, seen_flags, sees}
use Rattle.mur_model.specs.Left.{Worked, changed, kept}
use Rattle.mur_model.specs.Select.{select_on}
use Rattle.mur_model.specs.Selected.{rows_of}
use Rattle.mur_model.specs.Status.{status_on, status_reply}
use Rattle.mur_model.specs.Store.{box_at, is_full}
use Rattle.mur_model.specs.StoreFlags.{stored_at}
use Rattle.mur_model.specs.Viewing.{found_gone, viewed_on, work_there}
use Rattle.store_law.specs.Refusals.{wants_cause}
use Rattle.store_law.proofs.NeedsNoCause.{TurnWantsNone, NeedWantsNone, need_is}

abbrev WorkWantsNone : Worked → Type 0
WorkWantsNone worked = TurnWantsNone worked.turn

either_work : (test : Bool) (one other : Worked) → WorkWantsNone one → WorkWantsNone other → WorkWantsNone (if test then one else other)
either_work true one other is is_other = is
either_work false one other is is_other = is_other

made_is : (name : List ℕ) (serial : ℕ) (full : Bool) → WorkWantsNone (make name serial full)
unfolding make wants_cause
made_is name serial true = refl
made_is name serial false = refl

created_is : (name : List ℕ) (serial : ℕ) (full : Bool) (box : Option Content) → WorkWantsNone (create_on name serial full box)
unfolding create_on wants_cause
created_is name serial full (Some there) = refl
created_is name serial full None = made_is name serial full

deleted_is : (box : Option Content) → WorkWantsNone (delete_on box)
unfolding delete_on wants_cause
deleted_is None = refl
deleted_is (Some there) = refl

appended_by : (message : Message) (box : Content) (fault : Option StoreFault) → WorkWantsNone (append_to message box fault)
unfolding append_to append_reply wants_cause
appended_by message box (Some fault) = refl
appended_by message box None = refl

appended_is : (message : Message) (box : Option Content) → WorkWantsNone (append_on message box)
unfolding append_on wants_cause
appended_is message None = refl
appended_is message (Some box) = appended_by message box (append_fault box (message ∷ []))

counted_is : (shown : List ℕ) (items : List StatusItem) (box : Option Content) → WorkWantsNone (status_on shown items box)
unfolding status_on status_reply wants_cause
counted_is shown items None = refl
counted_is shown items (Some box) = refl

opened_is : (it : Opening) (name : List ℕ) (box : Option Content) → WorkWantsNone (select_on it name box)
unfolding select_on wants_cause
opened_is it name None = refl
opened_is it name (Some box) = refl

stored_is : (view : View) (it : FlagStore) (box : Content) (many : Bool) → WorkWantsNone (stored_at view it box many)
unfolding wants_cause
stored_is view it box true = refl
stored_is view it box false = refl

fetched_is : (view : View) (it : Fetching) (box : Content) → WorkWantsNone (fetch_at view it box)
unfolding wants_cause
fetched_is view it box =
    let before = messages_at box.messages it.uids in
    let after = stored box it.uids Add seen_flags in
    either_work (sees view it) (record { left = changed after; turn = fetch_told view it before (rows_of after) })
    (record { left = kept; turn = fetch_told view it before (rows_of box) }) refl refl

there_is : (view : View) (work : ViewWork) (box : Content) → WorkWantsNone (work_there view work box)
unfolding work_there wants_cause
there_is view (view_work.Store it) box = stored_is view it box (has_too_many_flags (rows_stored box it.uids it.mode it.flags))
there_is view (view_work.Fetch it) box = fetched_is view it box
there_is view work box = refl

viewed_is : (view : View) (work : ViewWork) (box : Option Content) → WorkWantsNone (viewed_on view work box)
unfolding viewed_on wants_cause
viewed_is view work None = refl
viewed_is view work (Some box) = either_work (box.serial == view.serial) (work_there view work box) found_gone (there_is view work box) refl

work_is : (name : List ℕ) (work : Work) (serial : ℕ) (full : Bool) (box : Option Content) → WorkWantsNone (work_on name work serial full box)
unfolding work_on
work_is name Make serial full box = created_is name serial full box
work_is name delete_work serial full box = deleted_is box
work_is name (append_work message) serial full box = appended_is message box
work_is name (status_work shown items) serial full box = counted_is shown items box
work_is name (select_work it) serial full box = opened_is it name box
work_is name (viewed_work view it) serial full box = viewed_is view it box

-- ---- what a request is answered

abbrev pub AnswerWantsNone : Answer → Type 0
AnswerWantsNone answer = wants_cause answer.reply.verdict ≡ false

act_is : (store : Store) (session : Sess) (serial : ℕ) (need : Needed) → NeedWantsNone need
    → wants_cause (act_by store session serial need).reply.verdict ≡ false
unfolding act_by list_reply wants_cause
act_is store session serial (Refusal verdict) is = is
act_is store session serial (Turned turn) is = is
act_is store session serial (Mailbox name work) is = work_is name work serial (is_full store) (box_at store name)
act_is store session serial (Names it) is = refl

pub answer_is : (setting : Setting) (store : Store) (session : Sess) (request : Request) (serial : ℕ)
    → AnswerWantsNone (answer_of setting store session request serial).answer
unfolding answer_of act_of wants_cause
answer_is setting store session (a_command tag it) serial = act_is store session serial (need_of setting session it) (need_is setting session it)
answer_is setting store session (unknown tag) serial = refl
answer_is setting store session (too_big tag) serial = refl
