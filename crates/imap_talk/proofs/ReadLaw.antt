-- What clients are told is read as it was meant: the requests of their frames are sound, and so is a store in which nothing else was asked.
use Rattle.std.proofs.Common.{◌≡◌, ℕ, Bool, List, [], ◌∷◌, ◌++◌, Option}
use Rattle.std.specs.Prelude.{All, ⊤}
use Rattle.std.proofs.lemmas.List.Elements.{All-nil, All-cons, All-head, All-tail, All-push}
use Rattle.imap_command.specs.Ruled.{IsDate}
use Rattle.imap_talk.specs.SoundRequests.{IsShortFrame, IsSoundRequest, IsSoundStore}
use Rattle.imap_reply.specs.SoundTexts.{IsSoundTag}
use Rattle.imap_talk.specs.declared.inputs.Before.{Before}
use Rattle.imap_talk.specs.declared.inputs.Before.TheVariants.{Hears, Waits}
use Rattle.imap_talk.specs.Transcript.{Stop, transcript_till}
use Rattle.imap_talk.specs.TranscriptRead.{IsAnswerReadAsMeant, IsAllReadTill}
use Rattle.imap_talk.proofs.FrameSizes.{frames_short}
use Rattle.imap_talk.proofs.RequestsSound.{request_sound, too_big_sound}
use Rattle.imap_talk.proofs.SoundAnswers.{HasSoundStore, answers_read}
use Rattle.imap_talk.proofs.TranscriptLaw.{all_read_till}
use Rattle.imap_wire.specs.declared.frame.Frame.{Frame}
use Rattle.imap_wire.specs.declared.frame.Frame.TheVariants.{Whole, NeedLiteral, TooBig, Fault}
use Rattle.mur_base.specs.declared.point.Point.{Point}
use Rattle.imap_types.specs.declared.command.Tag.{Tag}
use Rattle.imap_types.specs.declared.request.Request.{Request}
use Rattle.imap_types.specs.declared.request.Request.TheVariants.{Command as a_command, Unknown as unknown, TooBig as too_big}
use Rattle.mur_model.specs.declared.wait.Wait.{Wait}
use Rattle.mur_model.specs.declared.wait.Wait.TheVariants.{Authenticate as response, Idle as done}
use Rattle.mur_model.specs.Waits.{waits_begun, with_line}
use Rattle.mur_model.specs.declared.setting.Setting.{Setting}
use Rattle.mur_model.specs.History.{Course, Talk, IsLegal}
use Rattle.mur_model.proofs.EachAnswer.{each_answer}
use Rattle.imap_talk.specs.Heard.{Heard, nobody, elsewhere, client, frames_heard}
use Rattle.imap_talk.specs.Requests.{AskFor, AreRequests, behind_request, lined}
use Rattle.imap_talk.specs.Requests.AskFor.{no_frames, a_request, a_front, a_line, a_big_line, a_big_one, a_literal, a_fault}

front_short : (frames more : List Frame) → All IsShortFrame (frames ++ more) → All IsShortFrame frames
front_short [] more all = All-nil IsShortFrame
front_short (frame ∷ frames) more all =
    All-cons IsShortFrame frame frames (All-head IsShortFrame frame (frames ++ more) all)
    (front_short frames more (All-tail IsShortFrame frame (frames ++ more) all))

last_short : (frames : List Frame) (frame : Frame) → All IsShortFrame (frames ++ frame ∷ []) → IsShortFrame frame
last_short [] frame all = All-head IsShortFrame frame [] all
last_short (first ∷ frames) frame all = last_short frames frame (All-tail IsShortFrame first (frames ++ frame ∷ []) all)

lined_sound : (tag : Tag) (wait : Wait) (bytes : List ℕ) → IsSoundTag tag → IsSoundRequest (lined tag wait bytes)
unfolding with_line
lined_sound tag response bytes tagged = (tagged, tt)
lined_sound tag done bytes tagged = (tagged, tt)

-- the tag of a command that waits is sound as well
abbrev IsSoundBefore : Before → Type 0
IsSoundBefore (Hears begun) = ⊤
IsSoundBefore (Waits tag wait) = IsSoundTag tag

behind_sound : (setting : Setting) (begun : Bool) (request : Request) → IsSoundBefore (behind_request setting begun request)
unfolding behind_request
behind_sound setting begun (a_command tag it) = tt
behind_sound setting begun (unknown tag) = tt
behind_sound setting begun (too_big tag) = tt

-- what is asked is sound, and so is what stands before the next frame
abbrev AreSound : List Request → Before → Type 0
AreSound requests before = All IsSoundRequest requests × IsSoundBefore before

one_more : (requests : List Request) (request : Request) (before next : Before) → AreSound requests before → IsSoundRequest request → IsSoundBefore next
    → AreSound (requests ++ request ∷ []) next
one_more requests request before next all is so = (All-push IsSoundRequest requests request all.0 is, so)

requests_sound : (setting : Setting) (frames : List Frame) (requests : List Request) (before : Before) → AskFor setting frames requests before
    → All IsShortFrame frames → AreSound requests before
requests_sound setting _ _ _ no_frames short = (All-nil IsSoundRequest, tt)
requests_sound setting _ _ _ (a_request frames requests begun bytes request asked is whole) short =
    one_more requests request (Hears begun) (behind_request setting begun request)
    (requests_sound setting frames requests (Hears begun) asked (front_short frames (Whole bytes ∷ []) short))
    (request_sound bytes request (last_short frames (Whole bytes) short) is) (behind_sound setting begun request)
requests_sound setting _ _ _ (a_front frames requests begun bytes tag it wait asked is waits) short = (
  (requests_sound setting frames requests (Hears begun) asked (front_short frames (Whole bytes ∷ []) short)).0,
  (request_sound bytes (a_command tag it) (last_short frames (Whole bytes) short) is).0,
)
requests_sound setting _ _ _ (a_line frames requests bytes tag wait asked) short =
    let so = requests_sound setting frames requests (Waits tag wait) asked (front_short frames (Whole bytes ∷ []) short) in
    one_more requests (lined tag wait bytes) (Waits tag wait) (behind_request setting (waits_begun wait) (lined tag wait bytes)) so
    (lined_sound tag wait bytes so.1) (behind_sound setting (waits_begun wait) (lined tag wait bytes))
requests_sound setting _ _ _ (a_big_line frames requests bytes tag wait asked) short =
    let so = requests_sound setting frames requests (Waits tag wait) asked (front_short frames (TooBig bytes ∷ []) short) in
    one_more requests (lined tag wait bytes) (Waits tag wait) (behind_request setting (waits_begun wait) (lined tag wait bytes)) so
    (lined_sound tag wait bytes so.1) (behind_sound setting (waits_begun wait) (lined tag wait bytes))
requests_sound setting _ _ _ (a_big_one frames requests begun bytes request asked is) short =
    one_more requests request (Hears begun) (Hears begun)
    (requests_sound setting frames requests (Hears begun) asked (front_short frames (TooBig bytes ∷ []) short))
    (too_big_sound bytes request is) tt
requests_sound setting _ _ _ (a_literal frames requests before size asked) short =
    requests_sound setting frames requests before asked (front_short frames (NeedLiteral size ∷ []) short)
requests_sound setting _ _ _ (a_fault frames requests before fault asked) short =
    requests_sound setting frames requests before asked (front_short frames (Fault fault ∷ []) short)

heard_short : (heard : Heard) → All IsShortFrame (frames_heard heard)
unfolding frames_heard
heard_short nobody = All-nil IsShortFrame
heard_short elsewhere = All-nil IsShortFrame
heard_short (client bytes closed) = frames_short bytes

-- whatever is heard of a client, its requests are sound
pub heard_sound : (setting : Setting) (heard : Heard) (requests : List Request) → AreRequests setting (frames_heard heard) requests
    → All IsSoundRequest requests
heard_sound setting heard requests is = (requests_sound setting (frames_heard heard) requests is.before is.asked (heard_short heard)).0

pub read_of_legal : (setting : Setting) (first : Course) (talk : Talk) (points : List Point) (last : Course) → IsLegal setting first talk points last
    → IsDate setting.date → IsSoundStore first.store → ((conn : ℕ) → All IsSoundRequest (talk.requests conn))
    → (conn : ℕ) (stop : Stop) (given : List ℕ) (bytes : Option (List ℕ)) → given ≡ transcript_till stop setting bytes (talk.answers conn)
    → IsAllReadTill stop setting given bytes (talk.answers conn)
read_of_legal setting first talk points last legal date_is sound asked conn stop given bytes is =
    all_read_till stop setting given bytes (talk.answers conn) is
    (each_answer setting talk IsSoundRequest HasSoundStore IsAnswerReadAsMeant (answers_read setting date_is) asked first points last legal sound conn)
