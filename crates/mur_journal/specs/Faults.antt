-- When a journal's calls are refused.
use Rattle.std.specs.Prelude.{◌≡◌, ℕ, Result, Ok, Err}
use Rattle.mur_base.specs.Counts.{Rose}
use Rattle.mur_disk.specs.declared.fault.DiskFault.{DiskFault}
use Rattle.mur_disk.specs.declared.fault.DiskFault.TheVariants.{Failed, Memory as no_room}
use Rattle.mur_journal.specs.declared.fault.AppendFault.{AppendFault}
use Rattle.mur_journal.specs.declared.fault.AppendFault.TheVariants.{Disk, Spent, Memory}
use Rattle.mur_journal.specs.declared.fault.OpenFault.{OpenFault}
use Rattle.mur_journal.specs.declared.fault.OpenFault.TheVariants.{NotAJournal, Disk as disk_failed, Memory as no_memory}

abbrev pub append_fault_of : DiskFault → AppendFault
append_fault_of Failed = Disk
append_fault_of no_room = Memory

abbrev pub open_fault : DiskFault → OpenFault
open_fault Failed = disk_failed
open_fault no_room = no_memory

-- what an append does to the disk's count of faults: a failure of the disk is counted, and nothing else is
abbrev pub HasAppendCause : {T : Type 0} → ℕ → ℕ → Result T AppendFault → Type 0
HasAppendCause before now (Ok _) = now ≡ before
HasAppendCause before now (Err Disk) = Rose before now
HasAppendCause before now (Err Spent) = now ≡ before
HasAppendCause before now (Err Memory) = now ≡ before

-- the same of a disk on which no journal was made, which is never for a spent one
abbrev pub HasFormatCause : ℕ → ℕ → AppendFault → Type 0
HasFormatCause before now Disk = Rose before now
HasFormatCause before now Spent = ⊥
HasFormatCause before now Memory = now ≡ before

-- what opening does to the count
abbrev pub HasOpenFault : ℕ → ℕ → OpenFault → Type 0
HasOpenFault before now (NotAJournal _) = now ≡ before
HasOpenFault before now disk_failed = Rose before now
HasOpenFault before now no_memory = now ≡ before

abbrev pub HasOpenCause : {T : Type 0} → ℕ → ℕ → Result T OpenFault → Type 0
HasOpenCause before now (Ok _) = now ≡ before
HasOpenCause before now (Err fault) = HasOpenFault before now fault
