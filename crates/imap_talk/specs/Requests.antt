-- What the frames of a connection ask for, in order: each whole frame is a request, and so is one that is too big. But a command that waits for one
-- line more is one request with the frame behind it, whatever that holds (RFC 9051, 6.2.2 and 6.3.13).
use Rattle.std.specs.Prelude.{◌≡◌, ℕ, ⊤, Bool, List, [], ◌∷◌, ◌++◌, None, Some}
use Rattle.imap_command.specs.Request.{IsRequest, IsTooBig}
use Rattle.imap_talk.specs.declared.inputs.Before.{Before}
use Rattle.imap_talk.specs.declared.inputs.Before.TheVariants.{Hears, Waits}
use Rattle.imap_talk.specs.Inputs.{at_first, line_of_frame}
use Rattle.imap_wire.specs.declared.frame.Frame.{Frame}
use Rattle.imap_wire.specs.declared.frame.FrameFault.{FrameFault}
use Rattle.imap_wire.specs.declared.frame.Frame.TheVariants.{Whole, NeedLiteral, TooBig, Fault}
use Rattle.imap_types.specs.declared.command.Command.{Command}
use Rattle.imap_types.specs.declared.command.Tag.{Tag}
use Rattle.imap_types.specs.declared.request.Request.{Request}
use Rattle.imap_types.specs.declared.request.Request.TheVariants.{Command as a_command}
use Rattle.mur_model.specs.declared.setting.Setting.{Setting}
use Rattle.mur_model.specs.declared.wait.Wait.{Wait}
use Rattle.mur_model.specs.Waits.{begun_behind, wait_of, waits_begun, with_line}

-- what stands behind a request: whether a session has begun
unfoldable pub behind_request : Setting → Bool → Request → Before
behind_request setting begun (a_command tag it) = Hears (begun_behind setting begun it)
behind_request setting begun request = Hears begun

-- nothing more is wanted for this request
unfoldable pub IsWhole : Bool → Request → Type 0
IsWhole begun (a_command tag it) = wait_of begun it ≡ None
IsWhole begun request = ⊤

-- the request of a command whose line has come
abbrev pub lined : Tag → Wait → List ℕ → Request
lined tag wait bytes = a_command tag (with_line wait (line_of_frame bytes))

-- what these frames ask for, in order, and what stands behind the last of them
pub data AskFor (setting : Setting) : List Frame → List Request → Before → Type 0 where
  no_frames : AskFor setting [] [] at_first
  a_request : (frames : List Frame) (requests : List Request) (begun : Bool) (bytes : List ℕ) (request : Request)
      → AskFor setting frames requests (Hears begun) → IsRequest bytes request → IsWhole begun request
      → AskFor setting (frames ++ Whole bytes ∷ []) (requests ++ request ∷ []) (behind_request setting begun request)
  a_front : (frames : List Frame) (requests : List Request) (begun : Bool) (bytes : List ℕ) (tag : Tag) (it : Command) (wait : Wait)
      → AskFor setting frames requests (Hears begun) → IsRequest bytes (a_command tag it) → wait_of begun it ≡ Some wait
      → AskFor setting (frames ++ Whole bytes ∷ []) requests (Waits tag wait)
  a_line : (frames : List Frame) (requests : List Request) (bytes : List ℕ) (tag : Tag) (wait : Wait)
      → AskFor setting frames requests (Waits tag wait)
      → AskFor setting (frames ++ Whole bytes ∷ []) (requests ++ lined tag wait bytes ∷ [])
      (behind_request setting (waits_begun wait) (lined tag wait bytes))
  a_big_line : (frames : List Frame) (requests : List Request) (bytes : List ℕ) (tag : Tag) (wait : Wait)
      → AskFor setting frames requests (Waits tag wait)
      → AskFor setting (frames ++ TooBig bytes ∷ []) (requests ++ lined tag wait bytes ∷ [])
      (behind_request setting (waits_begun wait) (lined tag wait bytes))
  a_big_one : (frames : List Frame) (requests : List Request) (begun : Bool) (bytes : List ℕ) (request : Request)
      → AskFor setting frames requests (Hears begun) → IsTooBig bytes request
      → AskFor setting (frames ++ TooBig bytes ∷ []) (requests ++ request ∷ []) (Hears begun)
  a_literal : (frames : List Frame) (requests : List Request) (before : Before) (size : ℕ) → AskFor setting frames requests before
      → AskFor setting (frames ++ NeedLiteral size ∷ []) requests before
  a_fault : (frames : List Frame) (requests : List Request) (before : Before) (fault : FrameFault) → AskFor setting frames requests before
      → AskFor setting (frames ++ Fault fault ∷ []) requests before

-- these are the requests of the frames
pub record AreRequests (setting : Setting) (frames : List Frame) (requests : List Request) : Type 0 where
  pub before : Before
  pub asked : AskFor setting frames requests before
