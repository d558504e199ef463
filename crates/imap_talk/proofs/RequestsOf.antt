-- What frames ask for, as a function.
use Rattle.std.proofs.Common.{◌≡◌, ℕ, ◌+◌, Bool, List, [], ◌∷◌, ◌++◌, length, Option, None, Some, refl, sym, ◌∙◌, ap, subst, arith, append_assoc}
use Rattle.std.proofs.lemmas.List.{append-nil}
use Rattle.imap_command.specs.Request.{request_of, too_big_request}
use Rattle.imap_command.specs.Request.{IsRequest}
use Rattle.imap_command.proofs.RequestLaws.{request_is, too_big_is}
use Rattle.imap_talk.specs.declared.inputs.Before.{Before}
use Rattle.imap_talk.specs.declared.inputs.Before.TheVariants.{Hears, Waits}
use Rattle.imap_talk.specs.declared.inputs.Given.{Given}
use Rattle.imap_talk.specs.declared.inputs.Input.{Input}
use Rattle.imap_talk.specs.declared.inputs.Input.TheVariants.{GoesOn, Asks, Faults}
use Rattle.imap_talk.specs.Inputs.{at_first, before_next, command_by, input_at, inputs_from, inputs_of, line_at, request_at, requests_in, too_big_at, whole_given}
use Rattle.imap_talk.specs.Transcript.{stop_told, replies_to}
use Rattle.imap_talk.specs.Transcript.Stop.{silent}
use Rattle.imap_talk.proofs.TranscriptGrows.{AreAnswered, unanswered_told}
use Rattle.imap_wire.specs.declared.frame.Frame.{Frame}
use Rattle.imap_wire.specs.declared.frame.Frame.TheVariants.{Whole, NeedLiteral, TooBig, Fault}
use Rattle.imap_types.specs.declared.command.Command.{Command}
use Rattle.imap_types.specs.declared.command.Tag.{Tag}
use Rattle.imap_types.specs.declared.request.Answer.{Answer}
use Rattle.imap_types.specs.declared.request.Request.{Request}
use Rattle.imap_types.specs.declared.request.Request.TheVariants.{Command as a_command, Unknown as unknown, TooBig as too_big}
use Rattle.mur_model.specs.declared.setting.Setting.{Setting}
use Rattle.mur_model.specs.declared.wait.Wait.{Wait}
use Rattle.mur_model.specs.History.{numbered}
use Rattle.mur_model.specs.Waits.{wait_of}
use Rattle.mur_model.proofs.Numbered.{numbered_more, numbered_last}
use Rattle.imap_talk.specs.Requests.{AskFor, AreRequests, IsWhole, behind_request}
use Rattle.imap_talk.specs.Requests.AskFor.{no_frames, a_request, a_front, a_line, a_big_line, a_big_one, a_literal, a_fault}

abbrev pub requests_of : Setting → List Frame → List Request
requests_of setting frames = requests_in (inputs_from setting frames)

-- the requests of one input
unfoldable asked_by : Input → List Request
asked_by (Asks request) = request ∷ []
asked_by (GoesOn why) = []
asked_by (Faults fault) = []

asked_first : (input : Input) (inputs : List Input) → requests_in (input ∷ inputs) ≡ asked_by input ++ requests_in inputs
unfolding requests_in asked_by
asked_first (Asks request) inputs = refl
asked_first (GoesOn why) inputs = refl
asked_first (Faults fault) inputs = refl

-- one frame more
abbrev AsksMore : Setting → List Frame → List Request → Frame → Given → Type 0
AsksMore setting frames requests frame given = AskFor setting (frames ++ frame ∷ []) (requests ++ asked_by given.input) given.next

nothing_asked : (setting : Setting) (frames : List Frame) (requests : List Request) (before : Before) → AskFor setting frames requests before
    → AskFor setting frames (requests ++ []) before
nothing_asked setting frames requests before is = subst (λ r. AskFor setting frames r before) (sym (append-nil requests)) is

module _ (setting : Setting) (frames : List Frame) (requests : List Request) where
  command_more : (begun : Bool) (bytes : List ℕ) (tag : Tag) (it : Command) (wait : Option Wait) → wait_of begun it ≡ wait
      → AskFor setting frames requests (Hears begun) → IsRequest bytes (a_command tag it)
      → AsksMore setting frames requests (Whole bytes) (command_by setting begun tag it wait)
  unfolding command_by asked_by behind_request IsWhole
  command_more begun bytes tag it None e asked is = a_request frames requests begun bytes (a_command tag it) asked is e
  command_more begun bytes tag it (Some wait) e asked is =
      nothing_asked setting (frames ++ Whole bytes ∷ []) requests (Waits tag wait) (a_front frames requests begun bytes tag it wait asked is e)

  request_more : (begun : Bool) (bytes : List ℕ) (request : Request) → AskFor setting frames requests (Hears begun) → IsRequest bytes request
      → AsksMore setting frames requests (Whole bytes) (request_at setting begun request)
  unfolding request_at asked_by behind_request IsWhole
  request_more begun bytes (a_command tag it) asked is = command_more begun bytes tag it (wait_of begun it) refl asked is
  request_more begun bytes (unknown tag) asked is = a_request frames requests begun bytes (unknown tag) asked is tt
  request_more begun bytes (too_big tag) asked is = a_request frames requests begun bytes (too_big tag) asked is tt

  frame_more : (before : Before) (frame : Frame) → AskFor setting frames requests before
      → AsksMore setting frames requests frame (input_at setting before frame)
  unfolding input_at whole_given too_big_at line_at asked_by request_at behind_request too_big_request
  frame_more (Hears begun) (Whole bytes) asked = request_more begun bytes (request_of bytes) asked (request_is bytes)
  frame_more (Waits tag wait) (Whole bytes) asked = a_line frames requests bytes tag wait asked
  frame_more (Hears begun) (TooBig bytes) asked = a_big_one frames requests begun bytes (too_big_request bytes) asked (too_big_is bytes)
  frame_more (Waits tag wait) (TooBig bytes) asked = a_big_line frames requests bytes tag wait asked
  frame_more before (NeedLiteral size) asked =
      nothing_asked setting (frames ++ NeedLiteral size ∷ []) requests before (a_literal frames requests before size asked)
  frame_more before (Fault fault) asked =
      nothing_asked setting (frames ++ Fault fault ∷ []) requests before (a_fault frames requests before fault asked)

asks_behind : (setting : Setting) (before : Before) (done frames : List Frame) (requests : List Request) → AskFor setting done requests before
    → AskFor setting (done ++ frames) (requests ++ requests_in (inputs_of setting before frames)) (before_next setting before frames)
unfolding requests_in inputs_of before_next
asks_behind setting before done [] requests asks =
    subst (λ f. AskFor setting f (requests ++ []) before) (sym (append-nil done)) (nothing_asked setting done requests before asks)
asks_behind setting before done (frame ∷ frames) requests asks =
    let given = input_at setting before frame in
    let rest = inputs_of setting given.next frames in
    subst (λ r. AskFor setting (done ++ frame ∷ frames) r (before_next setting given.next frames))
    (append_assoc requests (asked_by given.input) (requests_in rest) ∙ ap (λ r. requests ++ r) (sym (asked_first given.input rest)))
    (subst (λ f. AskFor setting f ((requests ++ asked_by given.input) ++ requests_in rest) (before_next setting given.next frames))
    (append_assoc done (frame ∷ []) frames)
    (asks_behind setting given.next (done ++ frame ∷ []) frames (requests ++ asked_by given.input) (frame_more setting done requests before frame asks)))

pub asks_all : (setting : Setting) (frames : List Frame) → AreRequests setting frames (requests_of setting frames)
asks_all setting frames = record { before = before_next setting at_first frames; asked = asks_behind setting at_first [] frames [] no_frames }

-- inputs whose requests were all answered
pub answered_lengths : (inputs : List Input) (answers : List Answer) → AreAnswered inputs answers → length (requests_in inputs) ≡ length answers
unfolding AreAnswered requests_in
answered_lengths [] [] all = refl
answered_lengths [] (a ∷ answers) all = absurd all
answered_lengths (GoesOn why ∷ inputs) answers all = answered_lengths inputs answers all
answered_lengths (Faults fault ∷ inputs) answers all = absurd all
answered_lengths (Asks request ∷ inputs) [] all = absurd all
answered_lengths (Asks request ∷ inputs) (a ∷ answers) all = omega (arith, answered_lengths inputs answers all.1)

-- the request behind those that were answered
pub next_request : (requests more : List Request) (request : Request) (answered : ℕ) → length requests ≡ answered
    → numbered (requests ++ request ∷ more) (answered + 1) ≡ Some request
next_request requests more request answered e =
    subst (λ l. numbered l (answered + 1) ≡ Some request) (append_assoc requests (request ∷ []) more)
    (numbered_more (requests ++ request ∷ []) more (answered + 1) request
    (subst (λ n. numbered (requests ++ request ∷ []) (n + 1) ≡ Some request) e (numbered_last requests request)))

-- nothing is told behind a request that has no answer
pub replies_stop : (inputs : List Input) (answers : List Answer) (request : Request) (more : List Input) → AreAnswered inputs answers
    → replies_to inputs answers ≡ replies_to (inputs ++ Asks request ∷ more) answers
unfolding stop_told
replies_stop inputs answers request more all =
    sym (append-nil (replies_to inputs answers)) ∙ sym (unanswered_told silent inputs answers request more all)
