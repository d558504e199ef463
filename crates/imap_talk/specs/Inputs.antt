-- What the frames of a connection are to its session: a request each (RFC 9051, 2.2.1). But a command that waits for one line more is told to go on,
-- and the next frame is that line, whatever it holds (RFC 9051, 6.2.2 and 6.3.13); so both are one request.
use Rattle.std.specs.Prelude.{ℕ, ◌-◌, Bool, false, List, [], ◌∷◌, length, take, Option, None, Some}
use Rattle.imap_command.specs.Request.{request_of, too_big_request}
use Rattle.imap_wire.specs.declared.frame.Frame.{Frame}
use Rattle.imap_wire.specs.declared.frame.Frame.TheVariants.{Whole, NeedLiteral, TooBig, Fault}
use Rattle.imap_types.specs.declared.command.Command.{Command}
use Rattle.imap_types.specs.declared.command.Tag.{Tag}
use Rattle.imap_types.specs.declared.request.Request.{Request}
use Rattle.imap_types.specs.declared.request.Request.TheVariants.{Command as a_command, Unknown as unknown, TooBig as too_big}
use Rattle.mur_model.specs.declared.setting.Setting.{Setting}
use Rattle.mur_model.specs.declared.wait.Wait.{Wait}
use Rattle.mur_model.specs.declared.wait.Wait.TheVariants.{Authenticate as response, Idle as done}
use Rattle.mur_model.specs.Waits.{begun_behind, wait_of, waits_begun, with_line}
use Rattle.imap_talk.specs.declared.inputs.Before.{Before}
use Rattle.imap_talk.specs.declared.inputs.Before.TheVariants.{Hears, Waits}
use Rattle.imap_reply.specs.declared.continuation.Continuation.{Continuation}
use Rattle.imap_reply.specs.declared.continuation.Continuation.TheVariants.{Literal, Response, Done}
use Rattle.imap_talk.specs.declared.inputs.Given.{Given}
use Rattle.imap_talk.specs.declared.inputs.Input.{Input}
use Rattle.imap_talk.specs.declared.inputs.Input.TheVariants.{GoesOn, Asks, Faults}

unfoldable pub continuation_of : Wait → Continuation
continuation_of response = Response
continuation_of done = Done

-- the line in a frame
abbrev pub line_of_frame : List ℕ → List ℕ
line_of_frame bytes = take (length bytes - 2) bytes

abbrev pub asks_for : Request → Before → Given
asks_for request next = record { input = Asks request; next = next }

unfoldable pub command_by : Setting → Bool → Tag → Command → Option Wait → Given
command_by setting begun tag it (Some wait) = record { input = GoesOn (continuation_of wait); next = Waits tag wait }
command_by setting begun tag it None = asks_for (a_command tag it) (Hears (begun_behind setting begun it))

-- a frame that asks for this, in a session that has begun, or that has not
unfoldable pub request_at : Setting → Bool → Request → Given
request_at setting begun (a_command tag it) = command_by setting begun tag it (wait_of begun it)
request_at setting begun (unknown tag) = asks_for (unknown tag) (Hears begun)
request_at setting begun (too_big tag) = asks_for (too_big tag) (Hears begun)

-- a line of what waits
unfoldable pub line_at : Setting → Tag → Wait → List ℕ → Given
line_at setting tag wait line =
    let it = with_line wait line in
    asks_for (a_command tag it) (Hears (begun_behind setting (waits_begun wait) it))

unfoldable pub whole_given : Setting → Before → List ℕ → Given
whole_given setting (Hears begun) bytes = request_at setting begun (request_of bytes)
whole_given setting (Waits tag wait) bytes = line_at setting tag wait (line_of_frame bytes)

unfoldable pub too_big_at : Setting → Before → List ℕ → Given
too_big_at setting (Hears begun) bytes = request_at setting begun (too_big_request bytes)
too_big_at setting (Waits tag wait) bytes = line_at setting tag wait (line_of_frame bytes)

unfoldable pub input_at : Setting → Before → Frame → Given
input_at setting before (Whole bytes) = whole_given setting before bytes
input_at setting before (TooBig bytes) = too_big_at setting before bytes
input_at setting before (NeedLiteral size) = record { input = GoesOn Literal; next = before }
input_at setting before (Fault fault) = record { input = Faults fault; next = before }

unfoldable pub inputs_of : Setting → Before → List Frame → List Input
inputs_of setting before [] = []
inputs_of setting before (frame ∷ frames) = (input_at setting before frame).input ∷ inputs_of setting (input_at setting before frame).next frames

unfoldable pub before_next : Setting → Before → List Frame → Before
before_next setting before [] = before
before_next setting before (frame ∷ frames) = before_next setting (input_at setting before frame).next frames

-- before the first frame of a connection: no session has begun
abbrev pub at_first : Before
at_first = Hears false

-- the inputs of a connection
abbrev pub inputs_from : Setting → List Frame → List Input
inputs_from setting frames = inputs_of setting at_first frames

-- the requests among them
unfoldable pub requests_in : List Input → List Request
requests_in [] = []
requests_in (Asks request ∷ inputs) = request ∷ requests_in inputs
requests_in (GoesOn why ∷ inputs) = requests_in inputs
requests_in (Faults fault ∷ inputs) = requests_in inputs
