-- What lines and their literals bring, behind any bytes at whose end no command has begun.
use Rattle.std.proofs.Common.{◌≡◌, ◌≢◌, ◌⊎◌, ℕ, ◌+◌, ◌-◌, ◌<◌, ◌≤◌, Bool, true, false, if◌then◌else◌, List, [], ◌∷◌, ◌++◌}
use Rattle.std.proofs.Common.{length, nat_eq, Option, None, Some, inl, inr, refl, sym, ap, ◌∙◌, arith, append_assoc}
use Rattle.std.proofs.lemmas.List.{append-nil}
use Rattle.std.proofs.lemmas.Bool.Decides.{nat_tests}
use Rattle.std.specs.List.{AllByRecursion}
use Rattle.imap_wire.specs.declared.frame.Frame.{Frame}
use Rattle.imap_wire.specs.declared.frame.Frame.TheVariants.{Whole, NeedLiteral, TooBig, Fault}
use Rattle.imap_wire.specs.declared.frame.FrameFault.TheVariants.{LineTooLong, PlusTooLong}
use Rattle.imap_wire.specs.FrameLaws.{Brings, LiteralLine, IsInLine, IsLiteralLine, IsTaken, IsCommandFront, AnnouncesNone, announcement, literal_line_text, announced_size}
use Rattle.imap_wire.specs.FrameLaws.{texts_length, literals_length, lines_bytes, literals_asked_for}
use Rattle.imap_wire.specs.Frames.{PartialCommand, empty_command, Cut, frames, begun, cut}
use Rattle.imap_wire.specs.Literal.{IsDigit, announced}
use Rattle.imap_wire.specs.Steps.{start_state, state_after}
use Rattle.imap_wire.proofs.AnnouncedLaws.{announced_number, announced_none}
use Rattle.imap_wire.proofs.CommandCut.{cut_from, cut_from_start, with_frames, nothing_more, open_cut}
use Rattle.imap_wire.proofs.CommandCut.{taken_cut, whole_cut, asked_cut, refused_cut, plus_cut, long_cut}
use Rattle.imap_wire.proofs.CutLaws.{cut-shown}
use Rattle.imap_wire.proofs.FeedLaws.{IsReached-start, past-state, frames-past, begun-past}
use Rattle.imap_wire.proofs.LiteralLaws.{digit_value-digit}

-- where no command has begun, bytes bring what they would bring to a new connection
brings : (bytes : List ℕ) (new : List Frame) (left : Option (List ℕ)) → cut bytes ≡ record { frames = new; begun = left } → Brings bytes new left
brings bytes new left is past none =
    let state : state_after start_state past ≡ start_state = past-state start_state past refl (IsReached-start start_state refl) none in
    let shown = sym (cut-shown bytes) ∙ is in (
      frames-past start_state past bytes state ∙ ap (λ (c : Cut). frames past ++ c.frames) shown,
      begun-past start_state past bytes state ∙ ap (λ (c : Cut). c.begun) shown,
    )

in_line_append : (front back : List ℕ) → IsInLine front → IsInLine back → IsInLine (front ++ back)
in_line_append [] back calm rest = rest
in_line_append (x ∷ front) back calm rest = (calm.0, in_line_append front back calm.1 rest)

digit_in_line : (byte : ℕ) → IsDigit byte → byte ≢ 10
digit_in_line byte digit is = let large = (digit_value-digit byte digit).1 in omega arith

digits_in_line : (digits : List ℕ) → AllByRecursion IsDigit digits → IsInLine digits
digits_in_line [] each = tt
digits_in_line (x ∷ digits) each = (digit_in_line x each.0, digits_in_line digits each.1)

other_than : (byte other : ℕ) → nat_eq byte other ≡ false → byte ≢ other
other_than byte other apart is = grind (arith, nat_tests)

announcement_in_line : (digits : List ℕ) (waits : Bool) → AllByRecursion IsDigit digits → IsInLine (announcement digits waits)
announcement_in_line digits true each =
    (other_than 123 10 refl, in_line_append digits (125 ∷ []) (digits_in_line digits each) (other_than 125 10 refl, tt))
announcement_in_line digits false each = (
  other_than 123 10 refl,
  in_line_append digits (43 ∷ 125 ∷ []) (digits_in_line digits each) (other_than 43 10 refl, (other_than 125 10 refl, tt)),
)

text_in_line : (it : LiteralLine) → IsLiteralLine it → IsInLine (literal_line_text it)
text_in_line it line =
    in_line_append it.front (announcement it.digits it.waits) line.0 (announcement_in_line it.digits it.waits line.1.1)

-- the command behind lines and their literals
abbrev behind : PartialCommand → List LiteralLine → PartialCommand
behind c lines = record {
  bytes = c.bytes ++ lines_bytes lines;
  line_room = c.line_room - texts_length lines;
  literal_room = c.literal_room - literals_length lines;
}

none_behind : (c : PartialCommand) → behind c [] ≡ c
none_behind c =
    let one : c.line_room - 0 ≡ c.line_room = omega arith in
    let other : c.literal_room - 0 ≡ c.literal_room = omega arith in
    rw (append-nil, one, other) refl

more_behind : (c : PartialCommand) (it : LiteralLine) (lines : List LiteralLine) → behind (behind c (it ∷ [])) lines ≡ behind c (it ∷ lines)
more_behind c it lines =
    let one : c.line_room - (length (literal_line_text it) + 0) - texts_length lines ≡ c.line_room - (length (literal_line_text it) + texts_length lines) = omega arith in
    let other : c.literal_room - (announced_size it + 0) - literals_length lines ≡ c.literal_room - (announced_size it + literals_length lines) = omega arith in
    let bytes : c.bytes ++ (lines_bytes (it ∷ [])) ++ lines_bytes lines ≡ c.bytes ++ lines_bytes (it ∷ lines) =
    append_assoc c.bytes (lines_bytes (it ∷ [])) (lines_bytes lines)
    ∙ ap (λ b. c.bytes ++ (b ++ lines_bytes lines)) (append-nil (literal_line_text it ++ 13 ∷ 10 ∷ [] ++ it.octets)) in
    ap (λ b. record { bytes = b; line_room = (behind (behind c (it ∷ [])) lines).line_room; literal_room = (behind (behind c (it ∷ [])) lines).literal_room })
    bytes
    ∙ ap (λ room. record { bytes = c.bytes ++ lines_bytes (it ∷ lines); line_room = room; literal_room = (behind (behind c (it ∷ [])) lines).literal_room }) one
    ∙ ap (λ room. record { bytes = c.bytes ++ lines_bytes (it ∷ lines); line_room = c.line_room - texts_length (it ∷ lines); literal_room = room }) other

front_cut : (lines : List LiteralLine) (c : PartialCommand) (rest : List ℕ) → AllByRecursion IsTaken lines → texts_length lines ≤ c.line_room
    → literals_length lines ≤ c.literal_room
    → cut_from c (lines_bytes lines ++ rest) ≡ with_frames (literals_asked_for lines) (cut_from (behind c lines) rest)
front_cut [] c rest each texts literals = ap (λ it. cut_from it rest) (sym (none_behind c))
front_cut (it ∷ lines) c rest each texts literals =
    let line = each.0.0 in
    let text = literal_line_text it in
    let size = announced_size it in
    let next = behind c (it ∷ []) in
    let asked = if it.waits then NeedLiteral size ∷ [] else [] in
    let regrouped : lines_bytes (it ∷ lines) ++ rest ≡ text ++ 13 ∷ 10 ∷ (it.octets ++ (lines_bytes lines ++ rest)) =
    append_assoc (text ++ 13 ∷ 10 ∷ [] ++ it.octets) (lines_bytes lines) rest
    ∙ append_assoc (text ++ 13 ∷ 10 ∷ []) it.octets (lines_bytes lines ++ rest)
    ∙ append_assoc text (13 ∷ 10 ∷ []) (it.octets ++ (lines_bytes lines ++ rest)) in
    let stands : record {
      bytes = c.bytes ++ (text ++ 13 ∷ 10 ∷ [] ++ it.octets);
      line_room = c.line_room - length text;
      literal_room = c.literal_room - size;
    } ≡ next =
    (let one : c.line_room - length text ≡ c.line_room - (length text + 0) = omega arith in
    let other : c.literal_room - size ≡ c.literal_room - (size + 0) = omega arith in
    rw (one, other, append-nil) refl) in
    let first = taken_cut it.waits c text size it.octets (lines_bytes lines ++ rest) (text_in_line it line) (omega arith)
    (announced_number it.front it.digits it.waits line.1) each.0.1 each.0.2 (omega arith) in
    let further = front_cut lines next rest each.1 (omega arith) (omega arith) in
    ap (cut_from c) regrouped ∙ first ∙ ap (λ at. with_frames asked (cut_from at (lines_bytes lines ++ rest))) stands ∙ ap (with_frames asked) further
    ∙ ap (λ at. with_frames asked (with_frames (literals_asked_for lines) (cut_from at rest))) (more_behind c it lines)
    ∙ ap (λ f. record { frames = f; begun = (cut_from (behind c (it ∷ lines)) rest).begun })
    (sym (append_assoc asked (literals_asked_for lines) (cut_from (behind c (it ∷ lines)) rest).frames))

abbrev at_front : List LiteralLine → PartialCommand
at_front lines = behind empty_command lines

front_first : (lines : List LiteralLine) (rest : List ℕ) → IsCommandFront lines
    → cut (lines_bytes lines ++ rest) ≡ with_frames (literals_asked_for lines) (cut_from (at_front lines) rest)
front_first lines rest front = cut_from_start (lines_bytes lines ++ rest) ∙ front_cut lines empty_command rest front.0 front.1 front.2

pub open_brings : (lines : List LiteralLine) (text : List ℕ) → IsCommandFront lines → IsInLine text → texts_length lines + length text ≤ 8192
    → Brings (lines_bytes lines ++ text) (literals_asked_for lines) (Some (lines_bytes lines ++ text))
open_brings lines text front calm room =
    brings _ _ _
    (front_first lines text front
    ∙ ap (with_frames (literals_asked_for lines)) (open_cut (at_front lines) text calm (omega arith))
    ∙ ap (λ f. record { frames = f; begun = Some (lines_bytes lines ++ text) }) (append-nil (literals_asked_for lines)))

pub command_brings : (lines : List LiteralLine) (text : List ℕ) → IsCommandFront lines → IsInLine text → AnnouncesNone text → texts_length lines + length text ≤ 8192
    → Brings (lines_bytes lines ++ (text ++ 13 ∷ 10 ∷ [])) (literals_asked_for lines ++ Whole (lines_bytes lines ++ (text ++ 13 ∷ 10 ∷ [])) ∷ []) (Some [])
command_brings lines text front calm none room =
    brings _ _ _
    (front_first lines (text ++ 13 ∷ 10 ∷ []) front
    ∙ ap (with_frames (literals_asked_for lines)) (whole_cut (at_front lines) text [] calm (omega arith) (announced_none text none))
    ∙ ap (λ (c : Cut). record { frames = literals_asked_for lines ++ Whole (lines_bytes lines ++ text ++ 13 ∷ 10 ∷ []) ∷ c.frames; begun = c.begun })
    (nothing_more empty_command)
    ∙ ap (λ b. record { frames = literals_asked_for lines ++ Whole b ∷ []; begun = Some [] }) (append_assoc (lines_bytes lines) text (13 ∷ 10 ∷ [])))

pub line_brings : (text : List ℕ) → IsInLine text → AnnouncesNone text → length text ≤ 8192
    → Brings (text ++ 13 ∷ 10 ∷ []) (Whole (text ++ 13 ∷ 10 ∷ []) ∷ []) (Some [])
line_brings text calm none room = command_brings [] text (tt, omega arith, omega arith) calm none (omega arith)

module _ (lines : List LiteralLine) (it : LiteralLine) (front : IsCommandFront lines) (line : IsLiteralLine it)
    (room : texts_length lines + length (literal_line_text it) ≤ 8192) where
  literal : (waits : Bool) → it.waits ≡ waits → announced (literal_line_text it) ≡ Some (record { size = announced_size it; waits = waits })
  literal waits is = announced_number it.front it.digits it.waits line.1 ∙ ap (λ w. Some (record { size = announced_size it; waits = w })) is

  pub asked_brings : it.waits ≡ true → announced_size it ≤ 1048576 → literals_length lines + announced_size it ≤ 1056768
      → Brings (lines_bytes lines ++ (literal_line_text it ++ 13 ∷ 10 ∷ [])) (literals_asked_for lines ++ NeedLiteral (announced_size it) ∷ [])
      (Some (lines_bytes lines ++ (literal_line_text it ++ 13 ∷ 10 ∷ [])))
  asked_brings waits small fits =
      brings _ _ _
      (front_first lines (literal_line_text it ++ 13 ∷ 10 ∷ []) front
      ∙ ap (with_frames (literals_asked_for lines))
      (asked_cut (at_front lines) (literal_line_text it) (announced_size it) (text_in_line it line) (omega arith) (literal true waits) small (omega arith))
      ∙ ap (λ b. record { frames = literals_asked_for lines ++ NeedLiteral (announced_size it) ∷ []; begun = Some b })
      (append_assoc (lines_bytes lines) (literal_line_text it) (13 ∷ 10 ∷ [])))

  past_room : (limit : ℕ) → (limit < announced_size it) ⊎ (1056768 < literals_length lines + announced_size it)
      → (limit < announced_size it) ⊎ ((at_front lines).literal_room < announced_size it)
  past_room limit (inl large) = inl large
  past_room limit (inr large) = inr (omega (arith, front.2))

  pub refused_brings : it.waits ≡ true → (1048576 < announced_size it) ⊎ (1056768 < literals_length lines + announced_size it)
      → Brings (lines_bytes lines ++ (literal_line_text it ++ 13 ∷ 10 ∷ [])) (literals_asked_for lines ++ TooBig (lines_bytes lines ++ (literal_line_text it ++ 13 ∷ 10 ∷ [])) ∷ []) (Some [])
  refused_brings waits large =
      brings _ _ _
      (front_first lines (literal_line_text it ++ 13 ∷ 10 ∷ []) front
      ∙ ap (with_frames (literals_asked_for lines))
      (refused_cut (at_front lines) (literal_line_text it) [] (announced_size it) (text_in_line it line) (omega arith) (literal true waits) (past_room 1048576 large))
      ∙ ap (λ (c : Cut). record { frames = literals_asked_for lines ++ TooBig (lines_bytes lines ++ literal_line_text it ++ 13 ∷ 10 ∷ []) ∷ c.frames; begun = c.begun })
      (nothing_more empty_command)
      ∙ ap (λ b. record { frames = literals_asked_for lines ++ TooBig b ∷ []; begun = Some [] }) (append_assoc (lines_bytes lines) (literal_line_text it) (13 ∷ 10 ∷ [])))

  pub plus_brings : it.waits ≡ false → (4096 < announced_size it) ⊎ (1056768 < literals_length lines + announced_size it)
      → Brings (lines_bytes lines ++ (literal_line_text it ++ 13 ∷ 10 ∷ [])) (literals_asked_for lines ++ Fault PlusTooLong ∷ []) None
  plus_brings waits large =
      brings _ _ _
      (front_first lines (literal_line_text it ++ 13 ∷ 10 ∷ []) front
      ∙ ap (with_frames (literals_asked_for lines))
      (plus_cut (at_front lines) (literal_line_text it) [] (announced_size it) (text_in_line it line) (omega arith) (literal false waits) (past_room 4096 large)))

pub long_brings : (lines : List LiteralLine) (text : List ℕ) → IsCommandFront lines → IsInLine text → 8192 < texts_length lines + length text
    → Brings (lines_bytes lines ++ (text ++ 13 ∷ 10 ∷ [])) (literals_asked_for lines ++ Fault LineTooLong ∷ []) None
long_brings lines text front calm long =
    brings _ _ _
    (front_first lines (text ++ 13 ∷ 10 ∷ []) front
    ∙ ap (with_frames (literals_asked_for lines)) (long_cut (at_front lines) text [] calm (omega (arith, front.1))))
