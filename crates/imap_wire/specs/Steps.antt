-- A framer as a machine that takes one byte after the other.
use Rattle.std.specs.Prelude.{◌≡◌, ℕ, ◌-◌, Bool, true, false, ◌&&◌, ◌==◌, nat_lt, List, [], ◌∷◌, ◌++◌, length, Option, None, Some}
use Rattle.std.specs.Prelude.{if◌then◌else◌}
use Rattle.std.specs.Option.{option_to_list}
use Rattle.mur_base.specs.declared.limits.TheConstants.{LINE_LIMIT, COMMAND_LITERALS_LIMIT}
use Rattle.imap_wire.specs.declared.frame.Frame.{Frame}
use Rattle.imap_wire.specs.declared.frame.Frame.TheVariants.{Whole, NeedLiteral, TooBig, Fault}
use Rattle.imap_wire.specs.declared.frame.FrameFault.{FrameFault}
use Rattle.imap_wire.specs.declared.frame.FrameFault.TheVariants.{LineTooLong, PlusTooLong}
use Rattle.imap_wire.specs.declared.literal.Literal.{Literal}
use Rattle.imap_wire.specs.declared.literal.Admission.{Admission}
use Rattle.imap_wire.specs.declared.literal.Admission.TheVariants.{Asked, Unasked, Refused, RefusedUnasked}
use Rattle.mur_base.specs.Ascii.{lf, ends_with_cr}
use Rattle.imap_wire.specs.Line.{without_last, least_length}
use Rattle.imap_wire.specs.Literal.{announced, admission_of}

-- what a framer knows of the command that has begun
pub record State : Type 0 where
  -- all bytes of the command
  pub bytes : List ℕ
  -- those of its present line
  pub line : List ℕ
  -- how many bytes the texts of this line and those behind it may have
  pub line_room : ℕ
  -- how many bytes its further literals may have
  pub literal_room : ℕ
  -- how many bytes of a literal are still to come
  pub literal_left : ℕ
  -- no byte is taken any more
  pub spent : Bool

-- between two commands
abbrev pub start_state : State
start_state = record { bytes = []; line = []; line_room = LINE_LIMIT; literal_room = COMMAND_LITERALS_LIMIT; literal_left = 0; spent = false }

-- what one byte leads to
pub record Step : Type 0 where
  pub frame : Option Frame
  pub after : State

abbrev pub silent : State → Step
silent state = record { frame = None; after = state }

abbrev pub giving : Frame → State → Step
giving frame state = record { frame = Some frame; after = state }

abbrev pub failing : FrameFault → State → Step
failing fault state = giving (Fault fault) (record state { spent = true })

abbrev pub with_literal : State → ℕ → State
with_literal state size = record state { literal_room = state.literal_room - size; literal_left = size }

-- a line has ended that announces this literal
unfoldable pub announced_step : Admission → State → Literal → Step
announced_step Asked state literal = giving (NeedLiteral literal.size) (with_literal state literal.size)
announced_step Unasked state literal = silent (with_literal state literal.size)
announced_step Refused state literal = giving (TooBig state.bytes) start_state
announced_step RefusedUnasked state literal = failing PlusTooLong state

-- a line has ended
unfoldable pub line_end : State → Option Literal → Step
line_end state None = giving (Whole state.bytes) start_state
line_end state (Some literal) = announced_step (admission_of literal state.literal_room) state literal

-- the state at the end of the present line, of this text, where the last byte has come
abbrev pub at_line_end : State → List ℕ → State
at_line_end state text = record state { bytes = state.bytes ++ lf ∷ []; line = []; line_room = state.line_room - length text }

-- one byte of a literal
abbrev pub literal_step : State → ℕ → Step
literal_step state byte = silent (record state { bytes = state.bytes ++ byte ∷ []; literal_left = state.literal_left - 1 })

-- one byte of a line that doesn't end it
abbrev pub line_step : State → ℕ → Step
line_step state byte =
    if nat_lt state.line_room (least_length (state.line ++ byte ∷ [])) then failing LineTooLong state
    else silent (record state { bytes = state.bytes ++ byte ∷ []; line = state.line ++ byte ∷ [] })

-- one byte
unfoldable pub step : State → ℕ → Step
step state byte =
    if state.spent then silent state
    else (if nat_lt 0 state.literal_left then literal_step state byte
    else (if byte == lf && ends_with_cr state.line then line_end (at_line_end state (without_last state.line)) (announced (without_last state.line))
    else line_step state byte))

-- the frames that the bytes lead to, one after the other
unfoldable pub given : State → List ℕ → List Frame
given state [] = []
given state (byte ∷ bytes) = option_to_list (step state byte).frame ++ given (step state byte).after bytes

-- the state after the bytes
unfoldable pub state_after : State → List ℕ → State
state_after state [] = state
state_after state (byte ∷ bytes) = state_after (step state byte).after bytes

-- the bytes of the command that has begun, none once the framer is spent
abbrev pub begun_bytes : State → Option (List ℕ)
begun_bytes state = if state.spent then None else Some state.bytes

-- the state is the one that the bytes of its command lead to
abbrev pub IsReached : State → Type 0
IsReached state = state.spent ≡ false → state_after start_state state.bytes ≡ state
