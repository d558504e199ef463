-- Counts of one stretch of bytes behind those of another.
use Rattle.std.proofs.Common.{◌≡◌, ℕ, ◌+◌, ◌^◌, ◌<◌, ◌≤◌, Option, None, Some, Result, Ok, Err, refl, sym, ap, ◌∙◌, arith}
use Rattle.std.specs.Result.{IfOk}
use Rattle.mur_base.specs.declared.memory.Memory.{Memory}
use Rattle.imap_wire.specs.declared.tally.Tally.{Tally}
use Rattle.imap_wire.specs.declared.frame.Frame.{Frame}
use Rattle.imap_wire.specs.declared.frame.Frame.TheVariants.{Whole, NeedLiteral, TooBig, Fault}
use Rattle.imap_wire.specs.declared.frame.FrameFault.TheVariants.{LineTooLong, PlusTooLong}
use Rattle.imap_wire.specs.Tally.{counted, more, copies, frame_copies, fed, IsFedPart}

pub more-more : (tally : Tally) (taken copied taken_more copied_more : ℕ) → more (more tally taken copied) taken_more copied_more ≡ more tally
    (taken + taken_more) (copied + copied_more)
more-more tally taken copied taken_more copied_more =
    let taken_is : counted (counted (tally.taken + taken) + taken_more) ≡ counted (tally.taken + (taken + taken_more)) = omega arith in
    let copied_is : counted (counted (tally.copied + copied) + copied_more) ≡ counted (tally.copied + (copied + copied_more)) = omega arith in
    rw (taken_is, copied_is) refl

frame_copies-more : (frame : Frame) (taken next : ℕ) → 0 < next → frame_copies frame (taken + next) ≡ taken + frame_copies frame next
frame_copies-more (Whole bytes) taken next some = omega arith
frame_copies-more (NeedLiteral size) taken next some = refl
frame_copies-more (TooBig bytes) taken next some = omega arith
frame_copies-more (Fault LineTooLong) taken next some = omega arith
frame_copies-more (Fault PlusTooLong) taken next some = refl

copies-more : (frame : Option Frame) (taken next : ℕ) → 0 < next → copies frame (taken + next) ≡ taken + copies frame next
copies-more None taken next some = refl
copies-more (Some frame) taken next some = frame_copies-more frame taken next some

-- one call behind another that gives no frame
pub fed-more : (tally mid to : Tally) (frame : Option Frame) (taken next : ℕ) → mid ≡ fed tally None taken → to ≡ fed mid frame next → 0 < next
    → to ≡ fed tally frame (taken + next)
fed-more tally mid to frame taken next mid_is to_is some =
    to_is ∙ (ap (λ (w : Tally). fed w frame next) mid_is
    ∙ (more-more tally taken taken next (copies frame next) ∙ ap (λ (n : ℕ). more tally (taken + next) n) (sym (copies-more frame taken next some))))

-- the last byte of a line is kept, and then the line ends
pub fed-line_end : (result : Result (Option Frame) Memory) (tally mid to : Tally) → mid ≡ more tally 1 1
    → IfOk result (λ frame. to ≡ more mid 0 (copies frame 0)) → IfOk result (λ frame. copies frame 1 ≡ 1 + copies frame 0)
    → IfOk result (λ frame. to ≡ fed tally frame 1)
fed-line_end (Ok frame) tally mid to mid_is to_is kept =
    to_is ∙ (ap (λ (w : Tally). more w 0 (copies frame 0)) mid_is
    ∙ (more-more tally 1 1 0 (copies frame 0) ∙ ap (λ (n : ℕ). more tally 1 n) (sym kept)))
fed-line_end (Err memory) tally mid to mid_is to_is kept = tt

-- nothing was done
pub more-none : (tally : Tally) → tally.taken < 2 ^ 64 → tally.copied < 2 ^ 64 → tally ≡ more tally 0 0
more-none tally taken copied =
    let taken_is : counted (tally.taken + 0) ≡ tally.taken = omega arith in
    let copied_is : counted (tally.copied + 0) ≡ tally.copied = omega arith in
    rw (taken_is, copied_is) refl

-- part of a stretch behind another one
pub fed-part : (tally mid to : Tally) (taken rest size : ℕ) → mid ≡ fed tally None taken → IsFedPart mid rest to → taken + rest ≤ size
    → IsFedPart tally size to
fed-part tally mid to taken rest size mid_is part within = record {
  taken = taken + part.taken;
  within = omega (arith, part.within);
  counts = part.counts ∙ (ap (λ (w : Tally). fed w None part.taken) mid_is ∙ more-more tally taken taken part.taken part.taken);
}

-- what was taken before the call failed
pub fed-failed : (tally mid to : Tally) (taken more size : ℕ) → mid ≡ fed tally None taken → to ≡ fed mid None more → taken + more ≤ size
    → IsFedPart tally size to
fed-failed tally mid to taken more size mid_is to_is within = fed-part tally mid to taken more size mid_is
    (record { taken = more; within = omega arith; counts = to_is }) within
