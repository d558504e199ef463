-- The frames of a connection: its bytes cut into lines with their literals, whatever state the session has (RFC 9051, 2.2.1 and 4.3).
use Rattle.std.specs.Prelude.{ℕ, zero, suc, ◌-◌, nat_lt, List, [], ◌∷◌, ◌++◌, length, take, drop, Option, None, Some, if◌then◌else◌}
use Rattle.mur_base.specs.declared.limits.TheConstants.{LINE_LIMIT, COMMAND_LITERALS_LIMIT}
use Rattle.mur_base.specs.Ascii.{crlf}
use Rattle.imap_wire.specs.declared.frame.Frame.{Frame}
use Rattle.imap_wire.specs.declared.frame.Frame.TheVariants.{Whole, NeedLiteral, TooBig, Fault}
use Rattle.imap_wire.specs.declared.frame.FrameFault.TheVariants.{LineTooLong, PlusTooLong}
use Rattle.imap_wire.specs.declared.literal.Literal.{Literal}
use Rattle.imap_wire.specs.declared.literal.Admission.{Admission}
use Rattle.imap_wire.specs.declared.literal.Admission.TheVariants.{Asked, Unasked, Refused, RefusedUnasked}
use Rattle.imap_wire.specs.Line.{split_line, least_length}
use Rattle.imap_wire.specs.Literal.{announced, admission_of}

-- a command up to the beginning of one of its lines
pub record PartialCommand : Type 0 where
  -- all its bytes so far
  pub bytes : List ℕ
  -- how many bytes the texts of its further lines may have
  pub line_room : ℕ
  -- how many bytes its further literals may have
  pub literal_room : ℕ

-- a command of which nothing has come
abbrev pub empty_command : PartialCommand
empty_command = record { bytes = []; line_room = LINE_LIMIT; literal_room = COMMAND_LITERALS_LIMIT }

-- bytes cut into frames
pub record Cut : Type 0 where
  -- the frames, in the order of their ends
  pub frames : List Frame
  -- the bytes of the command that has begun and not ended; none once there is a fault
  pub begun : Option (List ℕ)

-- one frame more in front
abbrev pub with_frame : Frame → Cut → Cut
with_frame frame cut = record { frames = frame ∷ cut.frames; begun = cut.begun }

-- nothing after this fault
abbrev pub ends_at : Frame → Cut
ends_at fault = record { frames = fault ∷ []; begun = None }

-- nothing ends in the bytes of this command
abbrev pub unfinished : List ℕ → Cut
unfinished bytes = record { frames = []; begun = Some bytes }

-- `go` cuts what follows, from the beginning of a line
module _ (go : PartialCommand → List ℕ → Cut) where
  -- a command's literal of this size and what follows it
  unfoldable pub cut_literal : PartialCommand → ℕ → List ℕ → Cut
  cut_literal command size bytes =
      if nat_lt (length bytes) size then unfinished (command.bytes ++ bytes)
      else go (record command { bytes = command.bytes ++ take size bytes }) (drop size bytes)

  -- the command's last line announces this literal, which is treated so
  unfoldable pub cut_announced : Admission → PartialCommand → Literal → List ℕ → Cut
  cut_announced Asked command literal bytes =
      with_frame (NeedLiteral literal.size) (cut_literal (record command { literal_room = command.literal_room - literal.size }) literal.size bytes)
  cut_announced Unasked command literal bytes =
      cut_literal (record command { literal_room = command.literal_room - literal.size }) literal.size bytes
  cut_announced Refused command literal bytes = with_frame (TooBig command.bytes) (go empty_command bytes)
  cut_announced RefusedUnasked command literal bytes = ends_at (Fault PlusTooLong)

  -- what follows the command's last line, which may announce a literal
  unfoldable pub cut_after : PartialCommand → Option Literal → List ℕ → Cut
  cut_after command None bytes = with_frame (Whole command.bytes) (go empty_command bytes)
  cut_after command (Some literal) bytes = cut_announced (admission_of literal command.literal_room) command literal bytes

  -- the command with one line more, and what follows
  abbrev pub cut_whole_line : PartialCommand → List ℕ → List ℕ → Cut
  cut_whole_line command text bytes =
      cut_after (record { bytes = command.bytes ++ text ++ crlf; line_room = command.line_room - length text; literal_room = command.literal_room })
      (announced text) bytes

  -- a line of a command and what follows it
  unfoldable pub cut_line : PartialCommand → List ℕ → Option (List ℕ × List ℕ) → Cut
  cut_line command bytes None =
      if nat_lt command.line_room (least_length bytes) then ends_at (Fault LineTooLong) else unfinished (command.bytes ++ bytes)
  cut_line command bytes (Some split) =
      if nat_lt command.line_room (length split.0) then ends_at (Fault LineTooLong) else cut_whole_line command split.0 split.1

-- so many lines of a connection, from the beginning of a line of this command
unfoldable pub cut_lines : ℕ → PartialCommand → List ℕ → Cut
cut_lines zero command bytes = unfinished (command.bytes ++ bytes)
cut_lines (suc lines) command bytes = cut_line (cut_lines lines) command bytes (split_line bytes)

-- all bytes of a connection: each line has two bytes or more, but for a last one that isn't whole
unfoldable pub cut : List ℕ → Cut
cut bytes = cut_lines (suc (length bytes)) empty_command bytes

-- the frames of a connection
abbrev pub frames : List ℕ → List Frame
frames bytes = (cut bytes).frames

-- the bytes of the command that has begun, none after a fault
abbrev pub begun : List ℕ → Option (List ℕ)
begun bytes = (cut bytes).begun
