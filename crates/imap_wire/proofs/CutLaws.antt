-- The machine that takes one byte after the other gives the frames of the bytes.
use Rattle.std.proofs.Common.{◌≡◌, ℕ, zero, suc, ◌-◌, ◌<◌, ◌≤◌, true, false, ◌&&◌, ◌==◌, nat_lt, List, [], ◌∷◌, ◌++◌}
use Rattle.std.proofs.Common.{length, take, drop, Option, None, Some, inl, inr, refl, sym, ap, ◌∙◌, arith, append_assoc}
use Rattle.std.specs.Option.{option_to_list}
use Rattle.std.proofs.lemmas.List.{append-nil, length-take, length-drop, take-append-drop}
use Rattle.std.proofs.lemmas.Bool.{cases_Bool, cases_lt, and_parts}
use Rattle.std.proofs.lemmas.Bool.Decides.{nat_tests}
use Rattle.imap_wire.specs.declared.frame.Frame.{Frame}
use Rattle.imap_wire.specs.declared.frame.Frame.TheVariants.{Whole, NeedLiteral, TooBig, Fault}
use Rattle.imap_wire.specs.declared.frame.FrameFault.TheVariants.{LineTooLong, PlusTooLong}
use Rattle.imap_wire.specs.declared.literal.Literal.{Literal}
use Rattle.imap_wire.specs.declared.literal.Admission.{Admission}
use Rattle.imap_wire.specs.declared.literal.Admission.TheVariants.{Asked, Unasked, Refused, RefusedUnasked}
use Rattle.mur_base.specs.Ascii.{ends_with_cr}
use Rattle.imap_wire.specs.Line.{without_last, split_line, least_length}
use Rattle.imap_wire.specs.Literal.{announced, admission_of}
use Rattle.imap_wire.specs.Frames.{PartialCommand, empty_command, Cut, with_frame, ends_at, cut_literal, cut_announced, cut_after, cut_line, cut_lines, cut}
use Rattle.imap_wire.specs.Steps.{State, Step, start_state, giving, step, announced_step, line_end, at_line_end, line_step, given, state_after, begun_bytes}
use Rattle.imap_wire.proofs.StepLaws.{step-end, step-line, line_step-fits, line_step-too_long, after-append, given-append, given-spent, after-spent}
use Rattle.imap_wire.proofs.StepLaws.{after-literal, given-literal}
use Rattle.imap_wire.proofs.LineLaws.{without_last-cr, split_line-push, split_line-end, least_length-append, least_length-split}

-- what the machine makes of bytes
abbrev pub shown : State → List ℕ → Cut
shown state bytes = record { frames = given state bytes; begun = begun_bytes (state_after state bytes) }

-- what it makes of bytes behind a step
abbrev pub shown_after : Step → List ℕ → Cut
shown_after first bytes = record { frames = option_to_list first.frame ++ given first.after bytes; begun = begun_bytes (state_after first.after bytes) }

-- within a line of the command, of which this much has come
abbrev pub in_line : PartialCommand → List ℕ → State
in_line c line = record { bytes = c.bytes ++ line; line = line; line_room = c.line_room; literal_room = c.literal_room; literal_left = 0; spent = false }

-- before a line of the command
abbrev pub before_line : PartialCommand → State
before_line c = record { bytes = c.bytes; line = []; line_room = c.line_room; literal_room = c.literal_room; literal_left = 0; spent = false }

-- within a literal of the command
abbrev pub in_literal : PartialCommand → ℕ → State
in_literal c left = record (before_line c) { literal_left = left }

in_line-nil : (c : PartialCommand) → in_line c [] ≡ before_line c
in_line-nil c = rw append-nil refl

shown-append : (s : State) (a b : List ℕ) → given s a ≡ [] → shown s (a ++ b) ≡ shown (state_after s a) b
shown-append s a b none = rw (given-append s a b, after-append s a b, none) refl

shown-nil : (s : State) → shown s [] ≡ record { frames = []; begun = begun_bytes s }
unfolding given state_after
shown-nil s = refl

shown-step : (s : State) (byte : ℕ) (bytes : List ℕ) → shown s (byte ∷ bytes) ≡ shown_after (step s byte) bytes
unfolding given state_after
shown-step s byte bytes = refl

shown_after-fault : (s : State) (fault : Frame) (bytes : List ℕ) → shown_after (giving fault (record s { spent = true })) bytes ≡ ends_at fault
shown_after-fault s fault bytes = rw (given-spent (record s { spent = true }) bytes refl, after-spent (record s { spent = true }) bytes refl) refl

-- `go` cuts as the machine does what is shorter than n
module _ (go : PartialCommand → List ℕ → Cut) (n : ℕ)
    (same : (c : PartialCommand) (bytes : List ℕ) → length bytes < n → shown (before_line c) bytes ≡ go c bytes) where
  shown-literal : (c : PartialCommand) (size : ℕ) (bytes : List ℕ) → length bytes < n → shown (in_literal c size) bytes ≡ cut_literal go c size bytes
  unfolding cut_literal
  shown-literal c size bytes fits = elim (cases_lt (length bytes) size) [
    | inl short ↦
        let test : nat_lt (length bytes) size ≡ true = grind (arith, nat_tests) in
        rw (test, given-literal (in_literal c size) bytes refl (omega arith), after-literal (in_literal c size) bytes refl (omega arith)) refl
    | inr enough ↦
        let test : nat_lt (length bytes) size ≡ false = grind (arith, nat_tests) in
        let front : length (take size bytes) ≡ size = omega (arith, length-take size bytes) in
        let shorter : length (drop size bytes) < n = omega (arith, length-drop size bytes) in
        let no_frame = given-literal (in_literal c size) (take size bytes) refl (omega arith) in
        let moved = after-literal (in_literal c size) (take size bytes) refl (omega arith) in
        let none_left : size - length (take size bytes) ≡ 0 = omega arith in
        let whole = shown-append (in_literal c size) (take size bytes) (drop size bytes) no_frame in
        let arrives = rw (take-append-drop size bytes, moved, none_left) at whole in
        rw test (arrives ∙ same (record c { bytes = c.bytes ++ take size bytes }) (drop size bytes) shorter)
  ]

  shown-announced : (admission : Admission) (c : PartialCommand) (literal : Literal) (bytes : List ℕ) → length bytes < n
      → shown_after (announced_step admission (before_line c) literal) bytes ≡ cut_announced go admission c literal bytes
  unfolding announced_step cut_announced
  shown-announced Asked c literal bytes fits =
      ap (with_frame (NeedLiteral literal.size)) (shown-literal (record c { literal_room = c.literal_room - literal.size }) literal.size bytes fits)
  shown-announced Unasked c literal bytes fits = shown-literal (record c { literal_room = c.literal_room - literal.size }) literal.size bytes fits
  shown-announced Refused c literal bytes fits = ap (with_frame (TooBig c.bytes)) (same empty_command bytes fits)
  shown-announced RefusedUnasked c literal bytes fits = shown_after-fault (before_line c) (Fault PlusTooLong) bytes

  shown-line_end : (c : PartialCommand) (literal : Option Literal) (bytes : List ℕ) → length bytes < n
      → shown_after (line_end (before_line c) literal) bytes ≡ cut_after go c literal bytes
  unfolding line_end cut_after
  shown-line_end c None bytes fits = ap (with_frame (Whole c.bytes)) (same empty_command bytes fits)
  shown-line_end c (Some literal) bytes fits = shown-announced (admission_of literal c.literal_room) c literal bytes fits

  -- the command's line ends with this byte LF
  shown-end : (c : PartialCommand) (line : List ℕ) (bytes : List ℕ) → length bytes < n → split_line line ≡ None → least_length line ≤ c.line_room
      → ends_with_cr line ≡ true
      → shown (in_line c line) (10 ∷ bytes) ≡ cut_line go c (line ++ 10 ∷ bytes) (split_line (line ++ 10 ∷ bytes))
  unfolding cut_line
  shown-end c line bytes fits none room cr =
      let text = without_last line in
      let line_is : line ≡ text ++ 13 ∷ [] = without_last-cr line cr in
      let least : least_length line ≡ length text = rw cr refl in
      let all : line ++ 10 ∷ bytes ≡ text ++ 13 ∷ 10 ∷ bytes =
      ap (λ (l : List ℕ). l ++ 10 ∷ bytes) line_is ∙ append_assoc text (13 ∷ []) (10 ∷ bytes) in
      let split : split_line (line ++ 10 ∷ bytes) ≡ Some (text, bytes) = ap split_line all ∙ split_line-end text bytes (rw line_is at none) in
      let test : nat_lt c.line_room (length text) ≡ false = grind (arith, nat_tests) in
      let joined : c.bytes ++ line ++ 10 ∷ [] ≡ c.bytes ++ text ++ 13 ∷ 10 ∷ [] =
      ap (λ (l : List ℕ). c.bytes ++ l ++ 10 ∷ []) line_is
      ∙ (ap (λ (l : List ℕ). l ++ 10 ∷ []) (sym (append_assoc c.bytes text (13 ∷ []))) ∙ append_assoc (c.bytes ++ text) (13 ∷ []) (10 ∷ [])) in
      let next = record c { bytes = c.bytes ++ text ++ 13 ∷ 10 ∷ []; line_room = c.line_room - length text } in
      let arrives : at_line_end (in_line c line) text ≡ before_line next = rw joined refl in
      let stepped : step (in_line c line) 10 ≡ line_end (before_line next) (announced text) =
      step-end (in_line c line) refl refl cr ∙ ap (λ (s : State). line_end s (announced text)) arrives in
      rw (split, test, shown-step (in_line c line) 10 bytes, stepped) (shown-line_end next (announced text) bytes fits)

  -- a line that is too long already
  cut-too_long : (c : PartialCommand) (line more : List ℕ) → split_line line ≡ None → c.line_room < least_length line
      → (split : Option (List ℕ × List ℕ)) → split_line (line ++ more) ≡ split → cut_line go c (line ++ more) split ≡ ends_at (Fault LineTooLong)
  unfolding cut_line
  cut-too_long c line more none long None is =
      let longer = least_length-append line more in
      let test : nat_lt c.line_room (least_length (line ++ more)) ≡ true = grind (arith, nat_tests) in
      rw test refl
  cut-too_long c line more none long (Some split) is =
      let longer = least_length-split line more split.0 split.1 none is in
      let test : nat_lt c.line_room (length split.0) ≡ true = grind (arith, nat_tests) in
      rw test refl

  -- the rest of a line of which this much has come, and what follows it
  shown-line : (bytes : List ℕ) (c : PartialCommand) (line : List ℕ) → length bytes ≤ n → split_line line ≡ None
      → least_length line ≤ c.line_room
      → shown (in_line c line) bytes ≡ cut_line go c (line ++ bytes) (split_line (line ++ bytes))
  unfolding cut_line
  shown-line [] c line fits none room =
      let test : nat_lt c.line_room (least_length line) ≡ false = grind (arith, nat_tests) in
      rw (append-nil, none, test, shown-nil (in_line c line)) refl
  shown-line (byte ∷ bytes) c line fits none room = elim (cases_Bool (byte == 10 && ends_with_cr line)) [
    | inl ends ↦
        let parts = and_parts (byte == 10) (ends_with_cr line) ends in
        let lf : byte ≡ 10 = grind (arith, nat_tests) in
        rw lf (shown-end c line bytes (omega arith) none room parts.1)
    | inr goes_on ↦
        let longer = line ++ byte ∷ [] in
        let all : line ++ byte ∷ bytes ≡ longer ++ bytes = sym (append_assoc line (byte ∷ []) bytes) in
        let clear : split_line longer ≡ None = split_line-push line byte none goes_on in
        let stepped : step (in_line c line) byte ≡ line_step (in_line c line) byte = step-line (in_line c line) byte refl refl goes_on in
        elim (cases_lt c.line_room (least_length longer)) [
          | inl long ↦
              rw (
                all,
                cut-too_long c longer bytes clear long (split_line (longer ++ bytes)) refl,
                shown-step (in_line c line) byte bytes,
                stepped,
                line_step-too_long (in_line c line) byte long,
              )
              (shown_after-fault (in_line c line) (Fault LineTooLong) bytes)
          | inr short ↦
              rw (all, shown-step (in_line c line) byte bytes, stepped, line_step-fits (in_line c line) byte short, append_assoc c.bytes line (byte ∷ []))
              (shown-line bytes c longer (omega arith) clear short)
        ]
  ]

-- so many lines
pub shown-lines : (lines : ℕ) (c : PartialCommand) (bytes : List ℕ) → length bytes < lines → shown (before_line c) bytes ≡ cut_lines lines c bytes
unfolding cut_lines split_line ends_with_cr
shown-lines zero c bytes fits = absurd (omega arith)
shown-lines (suc lines) c bytes fits =
    rw (← in_line-nil c) (shown-line (cut_lines lines) lines (shown-lines lines) bytes c [] (omega arith) refl (omega arith))

-- the machine gives the frames of the bytes, and holds the command that has begun
pub cut-shown : (bytes : List ℕ) → cut bytes ≡ shown start_state bytes
unfolding cut
cut-shown bytes = sym (shown-lines (suc (length bytes)) empty_command bytes (omega arith))
