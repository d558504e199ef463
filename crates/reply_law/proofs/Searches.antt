-- What a SEARCH in a selected mailbox is answered, by what its keys match: a line of what was found, news, and OK (RFC 9051, 6.4.4 and 7.3.4).
use Rattle.std.proofs.Common.{◌≡◌, ◌∙◌, ℕ, Bool, true, false, List, [], ◌∷◌, ◌++◌, length, map, Option, Some, ap}
use Rattle.std.specs.Prelude.{◌==◌, if◌then◌else◌, codes}
use Prim.Native.String.{String}
use Rattle.std.specs.List.{fold}
use Rattle.mur_base.specs.Ascii.{crlf}
use Rattle.mail_message.specs.Boxes.{Content, messages_at, summary_of}
use Rattle.mail_message.specs.declared.message.Summary.{Summary}
use Rattle.imap_types.specs.declared.command.Command.TheVariants.{Search as search_command}
use Rattle.imap_types.specs.declared.command.Tag.TheVariants.{Text}
use Rattle.imap_types.specs.declared.reply.ReplyLine.TheVariants.{Search as search_line}
use Rattle.imap_types.specs.declared.reply.Verdict.TheVariants.{Ok as ok_reply}
use Rattle.imap_types.specs.declared.request.Request.{Request}
use Rattle.imap_types.specs.declared.request.Request.TheVariants.{Command as a_command}
use Rattle.mur_model.specs.Act.{Acted, act_by, session_after}
use Rattle.mur_model.specs.ClientView.{uids}
use Rattle.mur_model.specs.Keys.{keys_at}
use Rattle.mur_model.specs.Left.{Worked, kept, store_after}
use Rattle.mur_model.specs.NamedRows.{last_uid}
use Rattle.mur_model.specs.Needed.{Needed, at_mailbox, no_such_number}
use Rattle.mur_model.specs.News.{news}
use Rattle.mur_model.specs.Search.{number_at, numbers_told, search, search_name}
use Rattle.mur_model.specs.Selected.{rows_of, with_news}
use Rattle.mur_model.specs.Store.{box_at}
use Rattle.mur_model.specs.StoreFlags.{code_for}
use Rattle.mur_model.specs.Viewing.{found_gone, viewed_on, work_there}
use Rattle.mur_model.specs.declared.session.Sess.{Sess}
use Rattle.mur_model.specs.declared.session.Sess.TheVariants.{Selected}
use Rattle.mur_model.specs.declared.session.Turn.{Turn}
use Rattle.mur_model.specs.declared.store.Store.{Store}
use Rattle.mur_model.specs.declared.view.View.{View}
use Rattle.mur_model.specs.declared.work.ViewWork.{ViewWork}
use Rattle.mur_model.specs.declared.work.ViewWork.TheVariants as work
use Rattle.imap_command.specs.Request.{request_of}
use Rattle.imap_talk.specs.Inputs.{input_at, request_at}
use Rattle.imap_talk.specs.declared.inputs.Before.{Before}
use Rattle.imap_talk.specs.declared.inputs.Before.TheVariants.{Hears}
use Rattle.imap_wire.specs.declared.frame.Frame.TheVariants.{Whole}
use Rattle.reply_law.specs.Talk.{Line, Scene, Told, one, says, talk, talked_on, told, told_answer, told_given}
use Rattle.reply_law.proofs.Computes.{computes}
use Rattle.reply_law.proofs.Sought.{Sought, all_fit, found_by, is_found, keys_fit, keys_of}

-- the first client of a scene has this view of a mailbox
pub record Views (scene : Scene) (view : View) : Type 0 where
  pub hears : scene.first_client.before ≡ Hears true
  pub session : scene.first_client.session ≡ Selected view

-- the mailbox of the view is there still, and so
pub record Has (scene : Scene) (view : View) (box : Content) : Type 0 where
  pub views : Views scene view
  pub there : box_at scene.store view.name ≡ Some box
  pub same : (box.serial == view.serial) ≡ true

-- a SEARCH by these keys
abbrev pub asks : List ℕ → Bool → List Sought → Request
asks tag by_uid sought = a_command (Text tag) (search_command by_uid (keys_of sought))

-- what its client is told of what was done
abbrev pub told_acted : Scene → List ℕ → Acted → Told
told_acted scene tag acted =
    told_answer scene one (Hears true) (record { store = acted.store; session = acted.session; answer = record { tag = Text tag; reply = acted.reply } })

-- what was done, by what the work at the mailbox came to
abbrev pub worked_acted : Store → View → Worked → Acted
worked_acted store view worked = record {
  store = store_after store view.name worked.left;
  session = session_after (Selected view) (worked.turn).session;
  reply = (worked.turn).reply;
}

abbrev pub work_of : View → Bool → List Sought → ViewWork
work_of view by_uid sought = work.Search (record { by_uid = by_uid; keys = keys_at (length view.rows) (last_uid view.rows) (keys_of sought) })

-- the messages of the view that are there, and their numbers
abbrev pub messages_of : View → Content → List Summary
messages_of view box = map summary_of (messages_at box.messages (uids view.rows))

abbrev pub numbers_of : View → Content → List ℕ
numbers_of view box = map (λ (message : Summary). number_at view.rows message.uid) (messages_of view box)

-- those of them that all keys match
abbrev pub uids_found : View → Content → List Sought → List ℕ
uids_found view box sought = found_by (length view.rows) (last_uid view.rows) sought (messages_of view box) (numbers_of view box)

-- what is told where messages with these UIDs were found
abbrev pub found_turn : View → Content → Bool → List ℕ → Turn
found_turn view box by_uid found =
    with_news view (search_line by_uid (numbers_told by_uid view.rows found) ∷ []) (news view.rows (rows_of box) by_uid [])
    (ok_reply (code_for by_uid (rows_of box) (uids view.rows)) (search_name by_uid))

abbrev pub found_acted : Scene → View → Content → Bool → List ℕ → Acted
found_acted scene view box by_uid found =
    worked_acted scene.store view (record { left = kept; turn = found_turn view box by_uid found })

-- ---- the steps of a SEARCH

is_needed : (scene : Scene) (view : View) → Views scene view → (frame tag : List ℕ) (by_uid : Bool) (sought : List Sought)
    → request_of frame ≡ asks tag by_uid sought
    → told scene one frame ≡ told_acted scene tag (act_by scene.store (Selected view) scene.serial (search view by_uid (keys_of sought)))
unfolding computes
is_needed scene view views frame tag by_uid sought read =
    ap (λ (before : Before). told_given scene one scene.first_client.session (input_at scene.setting before (Whole frame))) views.hears
    ∙ ap (λ (request : Request). told_given scene one scene.first_client.session (request_at scene.setting true request)) read
    ∙ ap (λ (session : Sess). told_given scene one session (request_at scene.setting true (asks tag by_uid sought))) views.session

needs_chosen : (view : View) (by_uid : Bool) (sought : List Sought) (fits : Bool) → all_fit (length view.rows) sought ≡ fits
    → search view by_uid (keys_of sought) ≡ (if fits then at_mailbox view (work_of view by_uid sought) else no_such_number)
needs_chosen view by_uid sought fits fit =
    ap (λ (it : Bool). if it then at_mailbox view (work_of view by_uid sought) else no_such_number) (keys_fit (length view.rows) sought ∙ fit)

-- a number in the keys is that of no message
pub is_refused : (scene : Scene) (view : View) → Views scene view → (frame tag : List ℕ) (by_uid : Bool) (sought : List Sought)
    → request_of frame ≡ asks tag by_uid sought → all_fit (length view.rows) sought ≡ false
    → told scene one frame ≡ told_acted scene tag (act_by scene.store (Selected view) scene.serial no_such_number)
is_refused scene view views frame tag by_uid sought read fit =
    is_needed scene view views frame tag by_uid sought read
    ∙ ap (λ (needed : Needed). told_acted scene tag (act_by scene.store (Selected view) scene.serial needed)) (needs_chosen view by_uid sought false fit)

-- the work at the mailbox
pub is_worked : (scene : Scene) (view : View) → Views scene view → (frame tag : List ℕ) (by_uid : Bool) (sought : List Sought)
    → request_of frame ≡ asks tag by_uid sought → all_fit (length view.rows) sought ≡ true
    → told scene one frame ≡ told_acted scene tag (worked_acted scene.store view (viewed_on view (work_of view by_uid sought) (box_at scene.store view.name)))
unfolding computes
is_worked scene view views frame tag by_uid sought read fit =
    is_needed scene view views frame tag by_uid sought read
    ∙ ap (λ (needed : Needed). told_acted scene tag (act_by scene.store (Selected view) scene.serial needed)) (needs_chosen view by_uid sought true fit)

pub is_told : (scene : Scene) (view : View) (box : Content) → Has scene view box → (frame tag : List ℕ) (by_uid : Bool) (sought : List Sought)
    → request_of frame ≡ asks tag by_uid sought → all_fit (length view.rows) sought ≡ true
    → told scene one frame ≡ told_acted scene tag (found_acted scene view box by_uid (uids_found view box sought))
unfolding computes
is_told scene view box has frame tag by_uid sought read fit =
    let it = work_of view by_uid sought in
    is_worked scene view has.views frame tag by_uid sought read fit
    ∙ ap (λ (there : Option Content). told_acted scene tag (worked_acted scene.store view (viewed_on view it there))) has.there
    ∙ ap (λ (same : Bool). told_acted scene tag (worked_acted scene.store view (if same then work_there view it box else found_gone))) has.same
    ∙ ap (λ (found : List ℕ). told_acted scene tag (found_acted scene view box by_uid found))
    (is_found (length view.rows) (last_uid view.rows) sought (messages_of view box) (numbers_of view box))

-- ---- the lines that a client reads

-- what the keys find is told so
pub finds_in : {scene : Scene} {view : View} {box : Content} {read : List ℕ} → Has scene view box → (text tag : List ℕ) (by_uid : Bool) (sought : List Sought)
    → request_of (text ++ crlf) ≡ asks tag by_uid sought → all_fit (length view.rows) sought ≡ true
    → (told_acted scene tag (found_acted scene view box by_uid (uids_found view box sought))).bytes ≡ read
    → (told scene one (text ++ crlf)).bytes ≡ read
finds_in {scene = scene} {view = view} {box = box} has text tag by_uid sought asked fit same =
    ap (λ (it : Told). it.bytes) (is_told scene view box has (text ++ crlf) tag by_uid sought asked fit) ∙ same

pub finds : {scene : Scene} {view : View} {box : Content} {read : List ℕ} → Has scene view box → (text tag : String) (by_uid : Bool) (sought : List Sought)
    → request_of (codes text ++ crlf) ≡ asks (codes tag) by_uid sought → all_fit (length view.rows) sought ≡ true
    → (told_acted scene (codes tag) (found_acted scene view box by_uid (uids_found view box sought))).bytes ≡ read
    → (told scene one (codes text ++ crlf)).bytes ≡ read
finds has text tag by_uid sought asked fit same = finds_in has (codes text) (codes tag) by_uid sought asked fit same

-- the same where lines follow
pub finds_first : {scene : Scene} {view : View} {box : Content} {read : List (List ℕ)} → Has scene view box → (text tag : String) (by_uid : Bool)
    (sought : List Sought) (behind : List Line)
    → request_of (codes text ++ crlf) ≡ asks (codes tag) by_uid sought → all_fit (length view.rows) sought ≡ true
    → (fold says (talked_on [] (told_acted scene (codes tag) (found_acted scene view box by_uid (uids_found view box sought)))) behind).bytes ≡ read
    → (talk scene ((one, text) ∷ behind)).bytes ≡ read
finds_first {scene = scene} {view = view} {box = box} has text tag by_uid sought behind asked fit same =
    ap (λ (it : Told). (fold says (talked_on [] it) behind).bytes) (is_told scene view box has (codes text ++ crlf) (codes tag) by_uid sought asked fit) ∙ same

-- a number that no message has is refused so
pub lacks : {scene : Scene} {view : View} {read : List ℕ} → Views scene view → (text tag : String) (by_uid : Bool) (sought : List Sought)
    → request_of (codes text ++ crlf) ≡ asks (codes tag) by_uid sought → all_fit (length view.rows) sought ≡ false
    → (told_acted scene (codes tag) (act_by scene.store (Selected view) scene.serial no_such_number)).bytes ≡ read
    → (told scene one (codes text ++ crlf)).bytes ≡ read
lacks {scene = scene} {view = view} views text tag by_uid sought asked fit same =
    ap (λ (it : Told). it.bytes) (is_refused scene view views (codes text ++ crlf) (codes tag) by_uid sought asked fit) ∙ same

-- the same where lines follow
pub lacks_first : {scene : Scene} {view : View} {read : List (List ℕ)} → Views scene view → (text tag : String) (by_uid : Bool) (sought : List Sought)
    (behind : List Line)
    → request_of (codes text ++ crlf) ≡ asks (codes tag) by_uid sought → all_fit (length view.rows) sought ≡ false
    → (fold says (talked_on [] (told_acted scene (codes tag) (act_by scene.store (Selected view) scene.serial no_such_number))) behind).bytes ≡ read
    → (talk scene ((one, text) ∷ behind)).bytes ≡ read
lacks_first {scene = scene} {view = view} views text tag by_uid sought behind asked fit same =
    ap (λ (it : Told). (fold says (talked_on [] it) behind).bytes) (is_refused scene view views (codes text ++ crlf) (codes tag) by_uid sought asked fit) ∙ same

-- what becomes of it where the mailbox of the view may be gone
pub works : {scene : Scene} {view : View} {read : List ℕ} → Views scene view → (text tag : String) (by_uid : Bool) (sought : List Sought)
    → request_of (codes text ++ crlf) ≡ asks (codes tag) by_uid sought → all_fit (length view.rows) sought ≡ true
    → (told_acted scene (codes tag)
    (worked_acted scene.store view (viewed_on view (work_of view by_uid sought) (box_at scene.store view.name)))).bytes ≡ read
    → (told scene one (codes text ++ crlf)).bytes ≡ read
works {scene = scene} {view = view} views text tag by_uid sought asked fit same =
    ap (λ (it : Told). it.bytes) (is_worked scene view views (codes text ++ crlf) (codes tag) by_uid sought asked fit) ∙ same
