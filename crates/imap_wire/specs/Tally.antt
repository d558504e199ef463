-- How many bytes a connection brought, and how many were copied for it.
use Rattle.std.specs.Prelude.{◌≡◌, ℕ, ◌+◌, ◌-◌, ◌^◌, ◌<◌, ◌≤◌, length, min, Option, None, Some}
use Rattle.imap_wire.specs.declared.tally.Tally.{Tally}
use Rattle.imap_wire.specs.declared.frame.Frame.{Frame}
use Rattle.imap_wire.specs.declared.frame.Frame.TheVariants.{Whole, NeedLiteral, TooBig, Fault}
use Rattle.imap_wire.specs.declared.frame.FrameFault.TheVariants.{LineTooLong, PlusTooLong}

-- a count stands still at the largest number of 64 bits
abbrev pub counted : ℕ → ℕ
counted n = min n (2 ^ 64 - 1)

abbrev pub no_tally : Tally
no_tally = record { taken = 0; copied = 0 }

abbrev pub IsCounted : Tally → Type 0
IsCounted tally = (tally.taken < 2 ^ 64) × (tally.copied < 2 ^ 64)

-- the counts behind so many bytes that were taken and so many that were copied
abbrev pub more : Tally → ℕ → ℕ → Tally
more tally taken copied = record { taken = counted (tally.taken + taken); copied = counted (tally.copied + copied) }

-- how many bytes are copied where so many are taken and this frame is given: those that are kept, and those of the frame once more
abbrev pub frame_copies : Frame → ℕ → ℕ
frame_copies (Whole bytes) taken = taken + length bytes
frame_copies (NeedLiteral size) taken = taken
frame_copies (TooBig bytes) taken = taken + length bytes
-- the byte that is one too many isn't kept
frame_copies (Fault LineTooLong) taken = taken - 1
frame_copies (Fault PlusTooLong) taken = taken

abbrev pub copies : Option Frame → ℕ → ℕ
copies None taken = taken
copies (Some frame) taken = frame_copies frame taken

-- the counts behind a call that takes so many bytes and gives this frame
abbrev pub fed : Tally → Option Frame → ℕ → Tally
fed tally frame taken = more tally taken (copies frame taken)

-- some of so many bytes were taken, and no frame was given
pub record IsFedPart (from : Tally) (size : ℕ) (to : Tally) : Type 0 where
  pub taken : ℕ
  pub within : taken ≤ size
  pub counts : to ≡ fed from None taken
