-- How lines and their literals are cut, whatever stands before them in their command.
use Rattle.std.proofs.Common.{◌≡◌, ◌⊎◌, ℕ, suc, ◌-◌, ◌<◌, ◌≤◌, Bool, true, false, ◌&&◌, ◌==◌, nat_lt, if◌then◌else◌, List, [], ◌∷◌, ◌++◌}
use Rattle.std.proofs.Common.{length, take, drop, None, Some, inl, inr, refl, sym, ap, ◌∙◌, arith, append_assoc, length-append}
use Rattle.std.proofs.Math.Bool.{or-true}
use Rattle.std.proofs.Math.Seq.{take-append_seam, drop-append_seam}
use Rattle.std.proofs.lemmas.List.{append-nil}
use Rattle.std.proofs.lemmas.Bool.{cases_lt}
use Rattle.std.proofs.lemmas.Bool.Decides.{nat_tests}
use Rattle.mur_base.specs.Ascii.{begins_with_lf, ends_with_cr}
use Rattle.mur_base.specs.declared.limits.TheConstants.{MESSAGE_LIMIT, PLUS_LITERAL_LIMIT}
use Rattle.imap_wire.specs.declared.frame.Frame.{Frame}
use Rattle.imap_wire.specs.declared.frame.Frame.TheVariants.{Whole, NeedLiteral, TooBig, Fault}
use Rattle.imap_wire.specs.declared.frame.FrameFault.TheVariants.{LineTooLong, PlusTooLong}
use Rattle.imap_wire.specs.declared.literal.Literal.{Literal}
use Rattle.imap_wire.specs.declared.literal.Admission.{Admission}
use Rattle.imap_wire.specs.declared.literal.Admission.TheVariants.{Asked, Unasked, Refused, RefusedUnasked}
use Rattle.imap_wire.specs.FrameLaws.{IsInLine}
use Rattle.imap_wire.specs.Line.{split_line, least_length}
use Rattle.imap_wire.specs.Literal.{announced, admission_of}
use Rattle.imap_wire.specs.Frames.{PartialCommand, empty_command, Cut, with_frame, ends_at, unfinished, cut_literal, cut_announced, cut_after}
use Rattle.imap_wire.specs.Frames.{cut_line, cut_lines, cut}
use Rattle.imap_wire.proofs.CutLaws.{shown-lines}
use Rattle.imap_wire.proofs.LineLaws.{and-false, split_line-more, least_length-le}

pub split_in_line : (text rest : List ℕ) → IsInLine text → split_line (text ++ 13 ∷ 10 ∷ rest) ≡ Some (text, rest)
unfolding begins_with_lf split_line
split_in_line [] rest calm = refl
split_in_line (x ∷ []) rest calm = rw (split_line-more x (13 ∷ 10 ∷ rest) (and-false (x == 13))) refl
split_in_line (x ∷ y ∷ text) rest calm =
    let next = calm.1.0 in
    let no : (y == 10) ≡ false = grind (arith, nat_tests) in
    let apart : (x == 13 && begins_with_lf (y ∷ text ++ 13 ∷ 10 ∷ rest)) ≡ false = rw no (and-false (x == 13)) in
    rw (split_line-more x (y ∷ text ++ 13 ∷ 10 ∷ rest) apart, split_in_line (y ∷ text) rest calm.1) refl

pub split_none : (text : List ℕ) → IsInLine text → split_line text ≡ None
unfolding begins_with_lf split_line
split_none [] calm = refl
split_none (x ∷ []) calm = rw (and-false (x == 13)) refl
split_none (x ∷ y ∷ text) calm =
    let next = calm.1.0 in
    let no : (y == 10) ≡ false = grind (arith, nat_tests) in
    let apart : (x == 13 && begins_with_lf (y ∷ text)) ≡ false = rw no (and-false (x == 13)) in
    rw (split_line-more x (y ∷ text) apart, split_none (y ∷ text) calm.1) refl

-- all bytes, from the beginning of a line of this command
abbrev pub cut_from : PartialCommand → List ℕ → Cut
cut_from c bytes = cut_lines (suc (length bytes)) c bytes

enough : (lines : ℕ) (c : PartialCommand) (bytes : List ℕ) → length bytes < lines → cut_lines lines c bytes ≡ cut_from c bytes
enough lines c bytes fits = sym (shown-lines lines c bytes fits) ∙ shown-lines (suc (length bytes)) c bytes (omega arith)

pub cut_from_start : (bytes : List ℕ) → cut bytes ≡ cut_from empty_command bytes
unfolding cut
cut_from_start bytes = refl

-- where no byte follows
pub nothing_more : (c : PartialCommand) → cut_from c [] ≡ unfinished c.bytes
unfolding cut_lines cut_line split_line ends_with_cr
nothing_more c = let test : nat_lt c.line_room 0 ≡ false = grind (arith, nat_tests) in rw (test, append-nil) refl

pub open_cut : (c : PartialCommand) (text : List ℕ) → IsInLine text → length text ≤ c.line_room → cut_from c text ≡ unfinished (c.bytes ++ text)
unfolding cut_lines cut_line
open_cut c text calm fits =
    let least = least_length-le text in
    let test : nat_lt c.line_room (least_length text) ≡ false = grind (arith, nat_tests) in
    rw (split_none text calm, test) refl

-- the cut of what follows a line
abbrev behind_line : List ℕ → List ℕ → PartialCommand → List ℕ → Cut
behind_line text rest = cut_lines (length (text ++ 13 ∷ 10 ∷ rest))

rest_is_shorter : (text rest : List ℕ) → length rest < length (text ++ 13 ∷ 10 ∷ rest)
rest_is_shorter text rest = omega (arith, length-append text (13 ∷ 10 ∷ rest))

abbrev pub with_line : PartialCommand → List ℕ → PartialCommand
with_line c text = record { bytes = c.bytes ++ text ++ 13 ∷ 10 ∷ []; line_room = c.line_room - length text; literal_room = c.literal_room }

line_cut : (c : PartialCommand) (text rest : List ℕ) → IsInLine text → length text ≤ c.line_room
    → cut_from c (text ++ 13 ∷ 10 ∷ rest) ≡ cut_after (behind_line text rest) (with_line c text) (announced text) rest
unfolding cut_lines cut_line
line_cut c text rest calm fits =
    let test : nat_lt c.line_room (length text) ≡ false = grind (arith, nat_tests) in
    rw (split_in_line text rest calm, test) refl

pub long_cut : (c : PartialCommand) (text rest : List ℕ) → IsInLine text → c.line_room < length text
    → cut_from c (text ++ 13 ∷ 10 ∷ rest) ≡ ends_at (Fault LineTooLong)
unfolding cut_lines cut_line
long_cut c text rest calm long =
    let test : nat_lt c.line_room (length text) ≡ true = grind (arith, nat_tests) in
    rw (split_in_line text rest calm, test) refl

pub whole_cut : (c : PartialCommand) (text rest : List ℕ) → IsInLine text → length text ≤ c.line_room → announced text ≡ None
    → cut_from c (text ++ 13 ∷ 10 ∷ rest) ≡ with_frame (Whole (with_line c text).bytes) (cut_from empty_command rest)
unfolding cut_after
whole_cut c text rest calm fits none =
    line_cut c text rest calm fits ∙ ap (λ literal. cut_after (behind_line text rest) (with_line c text) literal rest) none
    ∙ ap (with_frame (Whole (with_line c text).bytes)) (enough (length (text ++ 13 ∷ 10 ∷ rest)) empty_command rest (rest_is_shorter text rest))

announced_cut : (admission : Admission) (c : PartialCommand) (text rest : List ℕ) (literal : Literal) → IsInLine text → length text ≤ c.line_room
    → announced text ≡ Some literal → admission_of literal c.literal_room ≡ admission
    → cut_from c (text ++ 13 ∷ 10 ∷ rest) ≡ cut_announced (behind_line text rest) admission (with_line c text) literal rest
unfolding cut_after
announced_cut admission c text rest literal calm fits some is =
    line_cut c text rest calm fits ∙ ap (λ it. cut_after (behind_line text rest) (with_line c text) it rest) some
    ∙ ap (λ it. cut_announced (behind_line text rest) it (with_line c text) literal rest) is

-- which literals are taken

abbrev literal_of : Bool → ℕ → Literal
literal_of waits size = record { size = size; waits = waits }

abbrev taken : Bool → Admission
taken waits = if waits then Asked else Unasked

admitted : (waits : Bool) (size room : ℕ) → size ≤ (if waits then 1048576 else 4096) → size ≤ room → admission_of (literal_of waits size) room ≡ taken waits
unfolding admission_of
admitted true size room small fits =
    let one : nat_lt MESSAGE_LIMIT size ≡ false = grind (arith, nat_tests) in
    let other : nat_lt room size ≡ false = grind (arith, nat_tests) in
    rw (one, other) refl
admitted false size room small fits =
    let one : nat_lt PLUS_LITERAL_LIMIT size ≡ false = grind (arith, nat_tests) in
    let other : nat_lt room size ≡ false = grind (arith, nat_tests) in
    rw (one, other) refl

refused : (size room : ℕ) → (1048576 < size) ⊎ (room < size) → admission_of (literal_of true size) room ≡ Refused
unfolding admission_of
refused size room (inl large) = let test : nat_lt MESSAGE_LIMIT size ≡ true = grind (arith, nat_tests) in rw test refl
refused size room (inr large) =
    let test : nat_lt room size ≡ true = grind (arith, nat_tests) in rw (test, or-true (nat_lt MESSAGE_LIMIT size)) refl

refused_unasked : (size room : ℕ) → (4096 < size) ⊎ (room < size) → admission_of (literal_of false size) room ≡ RefusedUnasked
unfolding admission_of
refused_unasked size room (inl large) = let test : nat_lt PLUS_LITERAL_LIMIT size ≡ true = grind (arith, nat_tests) in rw test refl
refused_unasked size room (inr large) =
    let test : nat_lt room size ≡ true = grind (arith, nat_tests) in rw (test, or-true (nat_lt PLUS_LITERAL_LIMIT size)) refl

pub asked_cut : (c : PartialCommand) (text : List ℕ) (size : ℕ) → IsInLine text → length text ≤ c.line_room
    → announced text ≡ Some (literal_of true size) → size ≤ 1048576 → size ≤ c.literal_room
    → cut_from c (text ++ 13 ∷ 10 ∷ []) ≡ with_frame (NeedLiteral size) (unfinished (with_line c text).bytes)
unfolding cut_announced cut_literal
asked_cut c text size calm room some small fits =
    let next = record (with_line c text) { literal_room = c.literal_room - size } in
    announced_cut Asked c text [] (literal_of true size) calm room some (admitted true size c.literal_room small fits)
    ∙ ap (with_frame (NeedLiteral size)) (by size refl)
  where
    by : (it : ℕ) → size ≡ it
        → cut_literal (behind_line text []) (record (with_line c text) { literal_room = c.literal_room - size }) size [] ≡ unfinished (with_line c text).bytes
    by it is = elim (cases_lt 0 size) [
      | inl some ↦ let test : nat_lt 0 size ≡ true = grind (arith, nat_tests) in rw (test, append-nil) refl
      | inr none ↦
          let test : nat_lt 0 size ≡ false = grind (arith, nat_tests) in
          let no_bytes : size ≡ 0 = omega arith in
          rw (test, no_bytes, append-nil)
          (enough (length (text ++ 13 ∷ 10 ∷ [])) (record (with_line c text) { literal_room = c.literal_room - 0 }) [] (rest_is_shorter text [])
          ∙ nothing_more (record (with_line c text) { literal_room = c.literal_room - 0 }))
    ]

pub refused_cut : (c : PartialCommand) (text rest : List ℕ) (size : ℕ) → IsInLine text → length text ≤ c.line_room
    → announced text ≡ Some (literal_of true size) → (1048576 < size) ⊎ (c.literal_room < size)
    → cut_from c (text ++ 13 ∷ 10 ∷ rest) ≡ with_frame (TooBig (with_line c text).bytes) (cut_from empty_command rest)
unfolding cut_announced
refused_cut c text rest size calm room some large =
    announced_cut Refused c text rest (literal_of true size) calm room some (refused size c.literal_room large)
    ∙ ap (with_frame (TooBig (with_line c text).bytes)) (enough (length (text ++ 13 ∷ 10 ∷ rest)) empty_command rest (rest_is_shorter text rest))

pub plus_cut : (c : PartialCommand) (text rest : List ℕ) (size : ℕ) → IsInLine text → length text ≤ c.line_room
    → announced text ≡ Some (literal_of false size) → (4096 < size) ⊎ (c.literal_room < size)
    → cut_from c (text ++ 13 ∷ 10 ∷ rest) ≡ ends_at (Fault PlusTooLong)
unfolding cut_announced
plus_cut c text rest size calm room some large =
    announced_cut RefusedUnasked c text rest (literal_of false size) calm room some (refused_unasked size c.literal_room large)

-- a line and its literal

octets_cut : (lines : ℕ) (c : PartialCommand) (size : ℕ) (octets rest : List ℕ) → length octets ≡ size → length rest < lines
    → cut_literal (cut_lines lines) c size (octets ++ rest) ≡ cut_from (record c { bytes = c.bytes ++ octets }) rest
unfolding cut_literal
octets_cut lines c size octets rest is fits =
    let test : nat_lt (length (octets ++ rest)) size ≡ false = (let sum = length-append octets rest in grind (arith, nat_tests)) in
    let front : take size (octets ++ rest) ≡ octets = ap (λ n. take n (octets ++ rest)) (sym is) ∙ take-append_seam octets rest in
    let back : drop size (octets ++ rest) ≡ rest = ap (λ n. drop n (octets ++ rest)) (sym is) ∙ drop-append_seam octets rest in
    rw (test, front, back) (enough lines (record c { bytes = c.bytes ++ octets }) rest fits)

abbrev pub with_frames : List Frame → Cut → Cut
with_frames frames cut = record { frames = frames ++ cut.frames; begun = cut.begun }

abbrev with_literal : PartialCommand → List ℕ → ℕ → List ℕ → PartialCommand
with_literal c text size octets = record {
  bytes = c.bytes ++ (text ++ 13 ∷ 10 ∷ [] ++ octets);
  line_room = c.line_room - length text;
  literal_room = c.literal_room - size;
}

pub taken_cut : (waits : Bool) (c : PartialCommand) (text : List ℕ) (size : ℕ) (octets rest : List ℕ) → IsInLine text → length text ≤ c.line_room
    → announced text ≡ Some (literal_of waits size) → size ≤ (if waits then 1048576 else 4096) → length octets ≡ size → size ≤ c.literal_room
    → cut_from c (text ++ 13 ∷ 10 ∷ (octets ++ rest))
    ≡ with_frames (if waits then NeedLiteral size ∷ [] else []) (cut_from (with_literal c text size octets) rest)
unfolding cut_announced
taken_cut waits c text size octets rest calm room some small is fits =
    announced_cut (taken waits) c text (octets ++ rest) (literal_of waits size) calm room some (admitted waits size c.literal_room small fits)
    ∙ by waits ∙ ap (λ bytes. with_frames (if waits then NeedLiteral size ∷ [] else [])
    (cut_from (record { bytes = bytes; line_room = c.line_room - length text; literal_room = c.literal_room - size }) rest)) joined
  where
    joined : c.bytes ++ text ++ 13 ∷ 10 ∷ [] ++ octets ≡ c.bytes ++ (text ++ 13 ∷ 10 ∷ [] ++ octets)
    joined =
        append_assoc (c.bytes ++ text) (13 ∷ 10 ∷ []) octets ∙ append_assoc c.bytes text (13 ∷ 10 ∷ octets)
        ∙ ap (λ l. c.bytes ++ l) (sym (append_assoc text (13 ∷ 10 ∷ []) octets))

    next : PartialCommand
    next = record (with_line c text) { literal_room = c.literal_room - size }

    shorter : length rest < length (text ++ 13 ∷ 10 ∷ (octets ++ rest))
    shorter = omega (arith, length-append text (13 ∷ 10 ∷ (octets ++ rest)), length-append octets rest)

    by : (it : Bool) → cut_announced (behind_line text (octets ++ rest)) (taken it) (with_line c text) (literal_of it size) (octets ++ rest)
        ≡ with_frames (if it then NeedLiteral size ∷ [] else []) (cut_from (record next { bytes = next.bytes ++ octets }) rest)
    by true = ap (with_frame (NeedLiteral size)) (octets_cut (length (text ++ 13 ∷ 10 ∷ (octets ++ rest))) next size octets rest is shorter)
    by false = octets_cut (length (text ++ 13 ∷ 10 ∷ (octets ++ rest))) next size octets rest is shorter
