-- A disk in memory that stops inside one of its device calls.
use Rattle.std.specs.Prelude.{◌≡◌, ◌⊎◌, ℕ, Bool, IsFalse, Result, Ok, Err}
use Rattle.mur_disk.specs.Disks.{held_of}
use Rattle.mur_disk.specs.Memory.{IsStill}
use Rattle.mur_disk.specs.Countdowns.{StopsInside, StaysStopped}
use Rattle.mur_disk.specs.declared.fault.DiskFault.{DiskFault}
use Rattle.mur_disk.specs.declared.fault.DiskFault.TheVariants.{Failed, Memory}
use Rattle.mur_disk.specs.declared.held.Held.{Held}
use Rattle.mur_disk.specs.declared.memory.MemDisk.{MemDisk}
use Rattle.mur_disk.specs.declared.stop.StopDisk.{StopDisk}

-- the disk in it; how many device calls it still carries out; whether it has stopped
abbrev pub inner_of : StopDisk → MemDisk
inner_of disk = disk.inner

abbrev pub has_stopped : StopDisk → Bool
has_stopped disk = disk.countdown.stopped

-- this disk, which carries out so many device calls and then stops
pub record IsArmed (inner : MemDisk) (calls : ℕ) (disk : StopDisk) : Type 0 where
  pub inner_is : disk.inner ≡ inner
  pub left_is : disk.countdown.left ≡ calls
  pub runs : IsFalse disk.countdown.stopped

-- what it does to what the disk holds: one thing if it was carried out, another if the disk stopped inside it, else nothing
abbrev pub DidDevice : {T : Type 0} → (passed inside : Held → Held → Type 0) (old new : StopDisk) → Result T DiskFault → Type 0
DidDevice passed inside old new (Ok _) = passed (held_of old.inner) (held_of new.inner)
DidDevice passed inside old new (Err Failed) =
    (StaysStopped old.countdown new.countdown × (held_of new.inner ≡ held_of old.inner))
    ⊎ (StopsInside old.countdown new.countdown × inside (held_of old.inner) (held_of new.inner))
DidDevice passed inside old new (Err Memory) = held_of new.inner ≡ held_of old.inner

abbrev pub Unchanged : Held → Held → Type 0
Unchanged old new = new ≡ old

abbrev pub WasSynced : Held → Held → Type 0
WasSynced old new = IsStill old.bytes new
