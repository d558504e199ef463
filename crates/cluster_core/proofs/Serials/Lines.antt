-- Each command of a client takes two bytes or more: a line at least, with the CRLF that ends it (RFC 9051, 2.2.1).
use Rattle.std.proofs.Common.{◌≡◌, ℕ, zero, suc, ◌+◌, ◌-◌, ◌*◌, ◌≤◌, Bool, true, false, ◌&&◌, ◌==◌, cond, nat_lt, List, [], ◌∷◌, ◌++◌, length, take, drop}
use Rattle.std.proofs.Common.{Option, None, Some, refl, ap, arith}
use Rattle.std.specs.Option.{option_map}
use Rattle.std.proofs.lemmas.List.{length-drop}
use Rattle.front_core.proofs.OneConnection.Readings.{inputs_in}
use Rattle.grammar.proofs.Conditions.{and_right}
use Rattle.imap_talk.specs.declared.inputs.Before.{Before}
use Rattle.imap_talk.specs.declared.inputs.Input.{Input}
use Rattle.imap_talk.specs.declared.inputs.Input.TheVariants.{Asks, Faults, GoesOn as goes_on}
use Rattle.imap_talk.specs.Inputs.{at_first, input_at, inputs_of, requests_in}
use Rattle.imap_wire.specs.declared.frame.Frame.{Frame}
use Rattle.imap_wire.specs.declared.frame.Frame.TheVariants.{Whole, NeedLiteral, TooBig, Fault}
use Rattle.imap_wire.specs.declared.frame.FrameFault.TheVariants.{LineTooLong}
use Rattle.imap_wire.specs.declared.literal.Admission.{Admission}
use Rattle.imap_wire.specs.declared.literal.Admission.TheVariants.{Asked, Unasked, Refused, RefusedUnasked}
use Rattle.imap_wire.specs.declared.literal.Literal.{Literal}
use Rattle.imap_wire.specs.Frames.{Cut, PartialCommand, cut, cut_after, cut_announced, cut_line, cut_lines, cut_literal, cut_whole_line, empty_command}
use Rattle.imap_wire.specs.Frames.{ends_at, frames, unfinished}
use Rattle.imap_wire.specs.Line.{least_length, split_line, with_first_byte}
use Rattle.imap_wire.specs.Literal.{admission_of, announced}
use Rattle.mur_base.specs.Ascii.{begins_with_lf, crlf}
use Rattle.mur_model.specs.declared.setting.Setting.{Setting}

-- ---- what stands behind a line

ends_here : (byte : ℕ) (rest : List ℕ) (split : List ℕ × List ℕ) → begins_with_lf rest ≡ true → Some ([], drop 1 rest) ≡ Some split
    → 2 + length split.1 ≤ length (byte ∷ rest)
unfolding begins_with_lf
ends_here byte [] split h e = cc
ends_here byte (next ∷ rest) split h e =
    let same : ([], drop 1 (next ∷ rest)) ≡ split = cc in
    omega (arith, ap (λ (s : List ℕ × List ℕ). length s.1) same, length-drop 1 (next ∷ rest))

behind_line : (bytes : List ℕ) (split : List ℕ × List ℕ) → split_line bytes ≡ Some split → 2 + length split.1 ≤ length bytes
unfolding split_line
behind_line [] split e = cc
behind_line (byte ∷ rest) split e = by (byte == 13 && begins_with_lf rest) refl (split_line rest) (behind_line rest) e
  where
    by : (ends : Bool) → (byte == 13 && begins_with_lf rest) ≡ ends → (found : Option (List ℕ × List ℕ))
        → ((its : List ℕ × List ℕ) → found ≡ Some its → 2 + length its.1 ≤ length rest)
        → cond ends (Some ([], drop 1 rest)) (option_map (with_first_byte byte) found) ≡ Some split → 2 + length split.1 ≤ length (byte ∷ rest)
    by true h found more e = ends_here byte rest split (and_right (byte == 13) (begins_with_lf rest) h) e
    by false h None more e = cc
    by false h (Some its) more e =
        let same : with_first_byte byte its ≡ split = cc in omega (arith, more its refl, ap (λ (s : List ℕ × List ℕ). length s.1) same)

-- ---- frames

-- how many commands end in them
ends_in : List Frame → ℕ
ends_in [] = 0
ends_in (Whole bytes ∷ frames) = 1 + ends_in frames
ends_in (TooBig bytes ∷ frames) = 1 + ends_in frames
ends_in (NeedLiteral size ∷ frames) = ends_in frames
ends_in (Fault fault ∷ frames) = ends_in frames

-- two bytes for each, of so many
IsPaid : ℕ → Cut → Type 0
IsPaid most cut = 2 * ends_in cut.frames ≤ most

one_of : (most : ℕ) (one other : Cut) (b : Bool) → IsPaid most one → IsPaid most other → IsPaid most (cond b one other)
one_of most one other true first second = first
one_of most one other false first second = second

abbrev PaysEach : (PartialCommand → List ℕ → Cut) → Type 0
PaysEach go = (command : PartialCommand) (bytes : List ℕ) → IsPaid (length bytes) (go command bytes)

module _ (go : PartialCommand → List ℕ → Cut) (pays : PaysEach go) where
  literal_pays : (command : PartialCommand) (size : ℕ) (bytes : List ℕ) → IsPaid (length bytes) (cut_literal go command size bytes)
  unfolding cut_literal IsPaid ends_in
  literal_pays command size bytes =
      let later = record command { bytes = command.bytes ++ take size bytes } in
      one_of (length bytes) (unfinished (command.bytes ++ bytes)) (go later (drop size bytes)) (nat_lt (length bytes) size) (omega arith)
      (omega (arith, pays later (drop size bytes), length-drop size bytes))

  -- a command whose last line announces the literal
  abbrev behind_it : PartialCommand → Literal → PartialCommand
  behind_it command literal = record command { literal_room = command.literal_room - literal.size }

  announced_pays : (admission : Admission) (command : PartialCommand) (literal : Literal) (bytes : List ℕ)
      → IsPaid (2 + length bytes) (cut_announced go admission command literal bytes)
  unfolding cut_announced IsPaid ends_in
  announced_pays Asked command literal bytes = omega (arith, literal_pays (behind_it command literal) literal.size bytes)
  announced_pays Unasked command literal bytes = omega (arith, literal_pays (behind_it command literal) literal.size bytes)
  announced_pays Refused command literal bytes = omega (arith, pays empty_command bytes)
  announced_pays RefusedUnasked command literal bytes = omega arith

  after_pays : (command : PartialCommand) (found : Option Literal) (bytes : List ℕ) → IsPaid (2 + length bytes) (cut_after go command found bytes)
  unfolding cut_after IsPaid ends_in
  after_pays command None bytes = omega (arith, pays empty_command bytes)
  after_pays command (Some literal) bytes = announced_pays (admission_of literal command.literal_room) command literal bytes

  -- a command with one line more
  abbrev with_line : PartialCommand → List ℕ → PartialCommand
  with_line command text =
      record { bytes = command.bytes ++ text ++ crlf; line_room = command.line_room - length text; literal_room = command.literal_room }

  line_pays : (command : PartialCommand) (bytes : List ℕ) (found : Option (List ℕ × List ℕ)) → split_line bytes ≡ found
      → IsPaid (length bytes) (cut_line go command bytes found)
  unfolding cut_line IsPaid ends_in
  line_pays command bytes None e =
      one_of (length bytes) (ends_at (Fault LineTooLong)) (unfinished (command.bytes ++ bytes)) (nat_lt command.line_room (least_length bytes)) (omega arith)
      (omega arith)
  line_pays command bytes (Some split) e =
      one_of (length bytes) (ends_at (Fault LineTooLong)) (cut_whole_line go command split.0 split.1) (nat_lt command.line_room (length split.0)) (omega arith)
      (omega (arith, behind_line bytes split e, after_pays (with_line command split.0) (announced split.0) split.1))

lines_pay : (lines : ℕ) → PaysEach (cut_lines lines)
unfolding cut_lines IsPaid ends_in
lines_pay zero command bytes = omega arith
lines_pay (suc lines) command bytes = line_pays (cut_lines lines) (lines_pay lines) command bytes (split_line bytes) refl

-- ---- requests

one_more : (input : Input) (inputs : List Input) → length (requests_in (input ∷ inputs)) ≤ 1 + length (requests_in inputs)
unfolding requests_in
one_more (Asks request) inputs = omega arith
one_more (goes_on why) inputs = omega arith
one_more (Faults fault) inputs = omega arith

module _ (setting : Setting) (before : Before) (frames : List Frame) where
  abbrev behind : Frame → List Input
  behind frame = inputs_of setting (input_at setting before frame).next frames

  frame_ends : (frame : Frame) → length (requests_in (behind frame)) ≤ ends_in frames
      → length (requests_in ((input_at setting before frame).input ∷ behind frame)) ≤ ends_in (frame ∷ frames)
  unfolding input_at requests_in ends_in
  frame_ends (Whole bytes) rest = omega (arith, rest, one_more (input_at setting before (Whole bytes)).input (behind (Whole bytes)))
  frame_ends (TooBig bytes) rest = omega (arith, rest, one_more (input_at setting before (TooBig bytes)).input (behind (TooBig bytes)))
  frame_ends (NeedLiteral size) rest = rest
  frame_ends (Fault fault) rest = rest

requests_end : (setting : Setting) (before : Before) (frames : List Frame) → length (requests_in (inputs_of setting before frames)) ≤ ends_in frames
unfolding inputs_of requests_in ends_in
requests_end setting before [] = omega arith
requests_end setting before (frame ∷ frames) =
    frame_ends setting before frames frame (requests_end setting (input_at setting before frame).next frames)

-- EACH REQUEST TAKES TWO BYTES
pub two_bytes_each : (setting : Setting) (bytes : List ℕ) → 2 * length (requests_in (inputs_in setting bytes)) ≤ length bytes
unfolding cut IsPaid
two_bytes_each setting bytes =
    omega (arith, requests_end setting at_first (frames bytes), lines_pay (suc (length bytes)) empty_command bytes)
