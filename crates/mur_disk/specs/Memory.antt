-- A disk in memory: the bytes of its last sync, the calls since, and what it was at each earlier moment.
use Rattle.std.specs.Prelude.{◌≡◌, ◌⊎◌, ℕ, List, [], ◌∷◌, ◌++◌, length, drop, map}
use mathlib.Core.Logic.{inl, inr}
use Rattle.mur_disk.specs.Calls.{Call, done_call, after_calls}
use Rattle.mur_disk.specs.Crash.{IsImage}
use Rattle.mur_disk.specs.Moments.{Elapses}
use Rattle.mur_disk.specs.Undo.{call_of, undone}
use Rattle.mur_disk.specs.declared.held.Held.{Held}

-- the bytes that the last sync left, and the calls since, in order
abbrev pub synced_of : Held → List ℕ
synced_of held = undone held.pending held.bytes

abbrev pub calls_of : Held → List Call
calls_of held = map call_of held.pending

-- the bytes are what the calls made of those of the last sync
abbrev pub ReadsDone : Held → Type 0
ReadsDone held = held.bytes ≡ after_calls (calls_of held) (synced_of held)

-- what a call does: it is carried out, and pending from now on
pub record DidCall (call : Call) (old new : Held) : Type 0 where
  pub bytes : new.bytes ≡ done_call call old.bytes
  pub pending : calls_of new ≡ calls_of old ++ call ∷ []
  pub synced : synced_of new ≡ synced_of old

-- a disk with these bytes and no pending call
pub record IsStill (bytes : List ℕ) (held : Held) : Type 0 where
  pub bytes_are : held.bytes ≡ bytes
  pub none : held.pending ≡ []

-- what a crash of such a disk may leave
abbrev pub MayLeave : Held → List ℕ → Type 0
MayLeave held image = IsImage (synced_of held) (calls_of held) image

-- what a crash at one of these moments might have left
abbrev pub LeftAtOne : List Held → List ℕ → Type 0
LeftAtOne [] image = ⊥
LeftAtOne (held ∷ moments) image = MayLeave held image ⊎ LeftAtOne moments image

-- what a crash since moment t might have left, then or now
abbrev pub LeftSince : List Held → Held → ℕ → List ℕ → Type 0
LeftSince past held t image = LeftAtOne (drop t past) image ⊎ MayLeave held image

none_left : (past : List Held) (image : List ℕ) → LeftAtOne (drop (length past) past) image → ⊥
none_left [] image left = left
none_left (held ∷ past) image left = none_left past image left

-- since the last of them there is only what may be left now
pub only_now : (past : List Held) (held : Held) (image : List ℕ) → LeftSince past held (length past) image → MayLeave held image
only_now past held image (inl then) = absurd (none_left past image then)
only_now past held image (inr now) = now

-- a disk with these earlier moments has gone on to those, as the clock of a disk does
abbrev pub DiskGoesOn : (past : List Held) (old : Held) (moments : List Held) (new : Held) → Type 0
DiskGoesOn past old moments new = Elapses (length past) (length moments) (LeftSince past old) (LeftSince moments new) (MayLeave new)
