-- What a frame leaves of the command that has begun.
use Rattle.std.proofs.Common.{◌≡◌, ℕ, zero, suc, ◌+◌, false, ◌&&◌, ◌==◌, List, [], ◌∷◌, ◌++◌, take, get_or, Option, None, Some}
use Rattle.std.proofs.Common.{inl, inr, refl, ap, ◌∙◌, arith}
use Rattle.std.specs.Option.{option_to_list, IfSome}
use Rattle.std.proofs.lemmas.List.{take_more}
use Rattle.std.proofs.lemmas.Bool.{cases_Bool, cases_lt, and_parts}
use Rattle.std.proofs.lemmas.Bool.Decides.{nat_tests}
use Rattle.imap_wire.specs.declared.frame.Frame.{Frame}
use Rattle.imap_wire.specs.declared.literal.Literal.{Literal}
use Rattle.imap_wire.specs.declared.literal.Admission.{Admission}
use Rattle.imap_wire.specs.declared.literal.Admission.TheVariants.{Asked, Unasked, Refused, RefusedUnasked}
use Rattle.mur_base.specs.Ascii.{ends_with_cr}
use Rattle.imap_wire.specs.Line.{without_last, least_length}
use Rattle.imap_wire.specs.Literal.{announced, admission_of}
use Rattle.imap_wire.specs.Steps.{State, Step, step, given, state_after, begun_bytes, line_end, announced_step, at_line_end}
use Rattle.imap_wire.specs.Begun.{TakesFrame}
use Rattle.imap_wire.specs.Feeding.{Leaves}
use Rattle.imap_wire.proofs.StepLaws.{step-literal, step-end, step-line, line_step-fits, line_step-too_long, given-append, after-append}
use Rattle.imap_wire.proofs.TakeLaws.{spent-none}

-- a step leaves what its frame has to, if it gives one
abbrev pub StepLeaves : Step → Type 0
StepLeaves next = IfSome next.frame (λ frame. Leaves frame (begun_bytes next.after))

announced_step-leaves : (admission : Admission) (s : State) (literal : Literal) → s.spent ≡ false → StepLeaves (announced_step admission s literal)
unfolding announced_step
announced_step-leaves Asked s literal going = rw going refl
announced_step-leaves Unasked s literal going = tt
announced_step-leaves Refused s literal going = refl
announced_step-leaves RefusedUnasked s literal going = refl

line_end-leaves : (s : State) (literal : Option Literal) → s.spent ≡ false → StepLeaves (line_end s literal)
unfolding line_end
line_end-leaves s None going = refl
line_end-leaves s (Some literal) going = announced_step-leaves (admission_of literal s.literal_room) s literal going

pub step-leaves : (s : State) (byte : ℕ) → s.spent ≡ false → StepLeaves (step s byte)
step-leaves s byte going = elim (cases_lt 0 s.literal_left) [
  | inl left ↦ rw (step-literal s byte going left) tt
  | inr none ↦
      let in_line : s.literal_left ≡ 0 = omega arith in
      elim (cases_Bool (byte == 10 && ends_with_cr s.line)) [
        | inl ends ↦
            let parts = and_parts (byte == 10) (ends_with_cr s.line) ends in
            let lf : byte ≡ 10 = grind (arith, nat_tests) in
            rw (lf, step-end s going in_line parts.1) (line_end-leaves (at_line_end s (without_last s.line)) (announced (without_last s.line)) going)
        | inr goes_on ↦ elim (cases_lt s.line_room (least_length (s.line ++ byte ∷ []))) [
          | inl long ↦ rw (step-line s byte going in_line goes_on, line_step-too_long s byte long) refl
          | inr short ↦ rw (step-line s byte going in_line goes_on, line_step-fits s byte short) tt
        ]
      ]
]

-- the last byte's step gave the frame
last-frame : (given_last : Option Frame) (frame : Frame) → option_to_list given_last ++ [] ≡ frame ∷ [] → given_last ≡ Some frame
last-frame None frame h = cc
last-frame (Some last) frame h = cc

pub Takes-leaves : (s to : State) (piece : List ℕ) (frame : Option Frame) (taken : ℕ) → s.spent ≡ false → TakesFrame s piece frame taken to
    → IfSome frame (λ f. Leaves f (begun_bytes to))
unfolding given state_after
Takes-leaves s to piece None taken going takes = tt
Takes-leaves s to piece (Some frame) zero going takes = let none = takes.gives in cc
Takes-leaves s to piece (Some frame) (suc before) going takes =
    let mid = state_after s (take before piece) in
    let byte = get_or piece before 0 in
    let silent : given s (take before piece) ≡ [] = takes.first before (omega arith) in
    let next : suc before ≡ before + 1 = omega arith in
    let split : take (suc before) piece ≡ take before piece ++ byte ∷ [] =
    ap (λ (n : ℕ). take n piece) next ∙ take_more piece before 0 (omega (arith, takes.within)) in
    let last : given mid (byte ∷ []) ≡ frame ∷ [] = rw (split, given-append s (take before piece) (byte ∷ []), silent) at takes.gives in
    let frame_is : (step mid byte).frame ≡ Some frame = last-frame (step mid byte).frame frame last in
    let to_is : to ≡ (step mid byte).after = rw (split, after-append s (take before piece) (byte ∷ [])) at takes.arrives in
    let leaves = step-leaves mid byte (spent-none s (take before piece) going silent) in
    rw to_is (rw frame_is at leaves)
