-- What a crash may leave between two syncs: the writes and cuts since the last sync are pending, and each may be torn.
use Rattle.std.specs.Prelude.{◌≡◌, ℕ, ◌+◌, ◌≤◌, min, max, List, [], ◌∷◌, length, take, drop}
use Rattle.mur_disk.specs.Calls.{Call, Wrote, CutTo}

-- A torn write of n bytes: the range, and what lies past the old end, may hold any bytes; the bytes outside stay. The old end
-- may lie before the range, if an earlier write was lost.
pub record Torn (at n : ℕ) (old new : List ℕ) : Type 0 where
  pub before : take (min at (length old)) new ≡ take at old
  pub after : drop (at + n) new ≡ drop (at + n) old
  pub no_shorter : length old ≤ length new
  pub no_longer : length new ≤ max (length old) (at + n)

-- a torn cut: the disk has some length between the two
pub record CutShort (len : ℕ) (old new : List ℕ) : Type 0 where
  pub no_shorter : min len (length old) ≤ length new
  pub front : take (length new) old ≡ new

abbrev pub IsTornBy : Call → List ℕ → List ℕ → Type 0
IsTornBy (Wrote at bytes) old new = Torn at (length bytes) old new
IsTornBy (CutTo len) old new = CutShort len old new

-- what a crash may leave of the synced bytes with these calls pending: each torn, in order
abbrev pub IsImage : List ℕ → List Call → List ℕ → Type 0
IsImage synced [] image = image ≡ synced
IsImage synced (call ∷ calls) image = (next : List ℕ) × IsTornBy call synced next × IsImage next calls image

-- each outcome of a crash now is an outcome from before, and then this step
abbrev pub CrashesFollow : (List ℕ → List ℕ → Type 0) → (List ℕ → Type 0) → (List ℕ → Type 0) → Type 0
CrashesFollow step old new = (image : List ℕ) → new image → (before : List ℕ) × old before × step before image

-- each outcome of a crash now was one before
abbrev pub NoMore : (List ℕ → Type 0) → (List ℕ → Type 0) → Type 0
NoMore old new = (image : List ℕ) → new image → old image

-- a crash leaves these bytes and no others
abbrev pub Only : List ℕ → (List ℕ → Type 0) → Type 0
Only bytes outcomes = (image : List ℕ) → outcomes image → image ≡ bytes
