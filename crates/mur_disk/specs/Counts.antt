-- The count of a disk's faults, which never falls, and what ties it to an answer.
use Rattle.std.specs.Prelude.{◌≡◌, ℕ, Result, Ok, Err}
use Rattle.mur_base.specs.Counts.{Rose}
use Rattle.mur_disk.specs.declared.fault.DiskFault.{DiskFault}
use Rattle.mur_disk.specs.declared.fault.DiskFault.TheVariants.{Failed, Memory}

-- what a call does to the count: a failure is counted, and nothing else is
abbrev pub HasDiskCause : {T : Type 0} → ℕ → ℕ → Result T DiskFault → Type 0
HasDiskCause before now (Ok _) = now ≡ before
HasDiskCause before now (Err Failed) = Rose before now
HasDiskCause before now (Err Memory) = now ≡ before
