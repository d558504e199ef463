-- No frame of a connection is long: its lines and its literals have limits.
use Rattle.std.proofs.Common.{◌≡◌, ℕ, zero, suc, ◌+◌, ◌*◌, ◌-◌, ◌<◌, ◌≤◌, ◌^◌, Bool, true, false, ◌||◌, nat_lt, List, [], ◌∷◌, ◌++◌, length, take, drop}
use Rattle.std.proofs.Common.{if◌then◌else◌, codes, Option, None, Some, refl, arith, length-append, nat_eq}
use Rattle.std.specs.Prelude.{All}
use Rattle.std.specs.List.{ends_with}
use Rattle.std.proofs.lemmas.Bool.Decides.{nat_tests}
use Rattle.std.proofs.lemmas.List.{length-take}
use Rattle.std.proofs.lemmas.List.Elements.{All-nil, All-cons}
use Rattle.mur_base.specs.Ascii.{crlf}
use Rattle.mur_base.specs.declared.limits.TheConstants.{LINE_LIMIT, COMMAND_LITERALS_LIMIT, MESSAGE_LIMIT, PLUS_LITERAL_LIMIT}
use Rattle.imap_wire.specs.declared.frame.Frame.TheVariants.{Whole, NeedLiteral, TooBig, Fault}
use Rattle.imap_wire.specs.declared.frame.FrameFault.TheVariants.{LineTooLong, PlusTooLong}
use Rattle.imap_wire.specs.declared.literal.Literal.{Literal}
use Rattle.imap_wire.specs.declared.literal.Admission.{Admission}
use Rattle.imap_wire.specs.declared.literal.Admission.TheVariants.{Asked, Unasked, Refused, RefusedUnasked}
use Rattle.imap_wire.specs.Frames.{PartialCommand, Cut, empty_command, unfinished, cut_literal, cut_announced, cut_after, cut_line, cut_lines, cut, frames}
use Rattle.imap_wire.specs.Line.{least_length, split_line}
use Rattle.imap_wire.specs.Literal.{sized, announced, admission_of}
use Rattle.imap_talk.specs.SoundRequests.{IsShortFrame}

-- a line that announces a literal isn't short

sized_some : (waits : Bool) (bytes : List ℕ) (literal : Literal) → sized waits bytes ≡ Some literal → 1 ≤ length bytes
unfolding sized
sized_some waits [] literal e = cc
sized_some waits (byte ∷ bytes) literal e = omega arith

announced_by : (text : List ℕ) (one other : Bool) (literal : Literal)
    → (if one then sized false (take (length text - 2) text) else (if other then sized true (take (length text - 1) text) else None)) ≡ Some literal
    → 2 ≤ length text
announced_by text true other literal e =
    omega (arith, sized_some false (take (length text - 2) text) literal e, length-take (length text - 2) text)
announced_by text false true literal e =
    omega (arith, sized_some true (take (length text - 1) text) literal e, length-take (length text - 1) text)
announced_by text false false literal e = cc

announced_long : (text : List ℕ) (literal : Literal) → announced text ≡ Some literal → 2 ≤ length text
unfolding announced
announced_long text literal e = announced_by text (ends_with nat_eq text (codes "+}")) (ends_with nat_eq text (codes "}")) literal e

-- a literal that is taken has room

not_above : (one other : ℕ) → nat_lt one other ≡ false → other ≤ one
not_above one other h = grind (arith, nat_tests, h)

-- the literal is taken, asked for or not
abbrev is_taken : Admission → Bool
is_taken Asked = true
is_taken Unasked = true
is_taken admission = false

taken_by : (waits long plus many : Bool) → is_taken (if waits then (if long || many then Refused else Asked)
    else (if plus || many then RefusedUnasked else Unasked)) ≡ true → many ≡ false
taken_by true true plus many e = cc
taken_by true false plus true e = cc
taken_by true false plus false e = refl
taken_by false long true many e = cc
taken_by false long false true e = cc
taken_by false long false false e = refl

taken_fits : (literal : Literal) (room : ℕ) → is_taken (admission_of literal room) ≡ true → literal.size ≤ room
unfolding admission_of
taken_fits literal room e =
    not_above room literal.size
    (taken_by literal.waits (nat_lt MESSAGE_LIMIT literal.size) (nat_lt PLUS_LITERAL_LIMIT literal.size) (nat_lt room literal.size) e)

-- a command with the room that it has left is within the limits; a CRLF behind a line that announces a literal is no longer than its text
abbrev Fits : PartialCommand → Type 0
Fits command = length command.bytes + 2 * command.line_room + command.literal_room ≤ 2 * LINE_LIMIT + COMMAND_LITERALS_LIMIT

empty_fits : Fits empty_command
empty_fits = omega arith

abbrev AreShort : Cut → Type 0
AreShort it = All IsShortFrame it.frames

module _ (go : PartialCommand → List ℕ → Cut) (each : (command : PartialCommand) (bytes : List ℕ) → Fits command → AreShort (go command bytes)) where
  behind_literal : (command : PartialCommand) (size : ℕ) (bytes : List ℕ) (test : Bool) → nat_lt (length bytes) size ≡ test
      → length command.bytes + 2 * command.line_room + command.literal_room + size ≤ 2 * LINE_LIMIT + COMMAND_LITERALS_LIMIT
      → AreShort (if test then unfinished (command.bytes ++ bytes)
      else go (record command { bytes = command.bytes ++ take size bytes }) (drop size bytes))
  behind_literal command size bytes true e fits = All-nil IsShortFrame
  behind_literal command size bytes false e fits =
      each (record command { bytes = command.bytes ++ take size bytes }) (drop size bytes)
      (omega (arith, fits, length-append command.bytes (take size bytes), length-take size bytes))

  literal_short : (command : PartialCommand) (literal : Literal) (bytes : List ℕ) → Fits command → literal.size ≤ command.literal_room
      → AreShort (cut_literal go (record command { literal_room = command.literal_room - literal.size }) literal.size bytes)
  unfolding cut_literal
  literal_short command literal bytes fits room =
      behind_literal (record command { literal_room = command.literal_room - literal.size }) literal.size bytes (nat_lt (length bytes) literal.size) refl
      (omega (arith, fits, room))

  announced_short : (admission : Admission) (command : PartialCommand) (literal : Literal) (bytes : List ℕ) → Fits command
      → (is_taken admission ≡ true → literal.size ≤ command.literal_room) → AreShort (cut_announced go admission command literal bytes)
  unfolding cut_announced
  announced_short Asked command literal bytes fits room =
      All-cons IsShortFrame (NeedLiteral literal.size)
      (cut_literal go (record command { literal_room = command.literal_room - literal.size }) literal.size bytes).frames tt
      (literal_short command literal bytes fits (room refl))
  announced_short Unasked command literal bytes fits room = literal_short command literal bytes fits (room refl)
  announced_short Refused command literal bytes fits room =
      All-cons IsShortFrame (TooBig command.bytes) (go empty_command bytes).frames tt (each empty_command bytes empty_fits)
  announced_short RefusedUnasked command literal bytes fits room = All-cons IsShortFrame (Fault PlusTooLong) [] tt (All-nil IsShortFrame)

  after_short : (command : PartialCommand) (it : Option Literal) (bytes : List ℕ) → length command.bytes < 2 ^ 64
      → ((literal : Literal) → it ≡ Some literal → Fits command) → AreShort (cut_after go command it bytes)
  unfolding cut_after
  after_short command None bytes short fits =
      All-cons IsShortFrame (Whole command.bytes) (go empty_command bytes).frames short (each empty_command bytes empty_fits)
  after_short command (Some literal) bytes short fits =
      announced_short (admission_of literal command.literal_room) command literal bytes (fits literal refl) (taken_fits literal command.literal_room)

  -- the command with one line more
  abbrev with_line : PartialCommand → List ℕ → PartialCommand
  with_line command text =
      record { bytes = command.bytes ++ text ++ crlf; line_room = command.line_room - length text; literal_room = command.literal_room }

  line_long : (command : PartialCommand) (text : List ℕ) → length (with_line command text).bytes ≡ length command.bytes + length text + 2
  line_long command text = omega (arith, length-append (command.bytes ++ text) crlf, length-append command.bytes text)

  line_fits : (command : PartialCommand) (text : List ℕ) (literal : Literal) → Fits command → length text ≤ command.line_room
      → announced text ≡ Some literal → Fits (with_line command text)
  line_fits command text literal fits room e = omega (arith, fits, room, line_long command text, announced_long text literal e)

  whole_line : (command : PartialCommand) (text bytes : List ℕ) (test : Bool) → nat_lt command.line_room (length text) ≡ test → Fits command
      → AreShort (if test then record { frames = Fault LineTooLong ∷ []; begun = None } else cut_after go (with_line command text) (announced text) bytes)
  whole_line command text bytes true e fits = All-cons IsShortFrame (Fault LineTooLong) [] tt (All-nil IsShortFrame)
  whole_line command text bytes false e fits =
      let room = not_above command.line_room (length text) e in
      after_short (with_line command text) (announced text) bytes (omega (arith, fits, room, line_long command text))
      (λ literal is. line_fits command text literal fits room is)

  begun_line : (command : PartialCommand) (bytes : List ℕ) (test : Bool)
      → AreShort (if test then record { frames = Fault LineTooLong ∷ []; begun = None } else unfinished (command.bytes ++ bytes))
  begun_line command bytes true = All-cons IsShortFrame (Fault LineTooLong) [] tt (All-nil IsShortFrame)
  begun_line command bytes false = All-nil IsShortFrame

  line_short : (command : PartialCommand) (bytes : List ℕ) (split : Option (List ℕ × List ℕ)) → Fits command → AreShort (cut_line go command bytes split)
  unfolding cut_line
  line_short command bytes None fits = begun_line command bytes (nat_lt command.line_room (least_length bytes))
  line_short command bytes (Some split) fits = whole_line command split.0 split.1 (nat_lt command.line_room (length split.0)) refl fits

lines_short : (lines : ℕ) (command : PartialCommand) (bytes : List ℕ) → Fits command → AreShort (cut_lines lines command bytes)
unfolding cut_lines
lines_short zero command bytes fits = All-nil IsShortFrame
lines_short (suc lines) command bytes fits = line_short (cut_lines lines) (lines_short lines) command bytes (split_line bytes) fits

pub frames_short : (bytes : List ℕ) → All IsShortFrame (frames bytes)
unfolding cut
frames_short bytes = lines_short (suc (length bytes)) empty_command bytes empty_fits
