-- The pending calls of a disk in memory, each with what undoes it.
use Rattle.std.specs.Prelude.{ℕ, List, [], ◌∷◌, take}
use Rattle.mur_disk.specs.Calls.{Call, Wrote, CutTo, written_over}
use Rattle.mur_disk.specs.declared.held.Pending.{Pending}
use Rattle.mur_disk.specs.declared.held.Pending.TheVariants.{Write, Cut}

abbrev pub call_of : Pending → Call
call_of (Write at piece replaced len) = Wrote at piece
call_of (Cut len lost) = CutTo len

-- the bytes from before a call: what it replaced is written back, at the length that they had
abbrev pub undone_call : Pending → List ℕ → List ℕ
undone_call (Write at piece replaced len) bytes = written_over at replaced (take len bytes)
undone_call (Cut len lost) bytes = written_over len lost bytes

-- the bytes from before several calls, the last one undone first
abbrev pub undone : List Pending → List ℕ → List ℕ
undone [] bytes = bytes
undone (call ∷ calls) bytes = undone_call call (undone calls bytes)
