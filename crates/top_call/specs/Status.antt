-- How a call of the program ended: its number, its line on the error output, and the faults that were counted.
use Rattle.std.specs.Prelude.{◌≡◌, ℕ, List, ◌++◌, Option, None, Some, Result, Ok, Err, codes}
use Rattle.std.specs.Fmt.{decimal}
use Rattle.mur_base.specs.Counts.{Rose}
use Rattle.mur_edge.specs.Counts.{SourceFault, OutputFault}
use Rattle.mur_edge.specs.declared.fault.Faults.{Faults}
use Rattle.top_call.specs.declared.status.Status.{Status}
use Rattle.top_call.specs.declared.status.Status.TheVariants.{Done, Words, Config, Schedule, Read, Write, Memory}

abbrev pub code_of : Status → ℕ
code_of Done = 0
code_of Words = 1
code_of (Config rule) = 2
code_of (Schedule line rule) = 3
code_of Read = 4
code_of Write = 5
code_of Memory = 6

-- the line on the error output; there is none where all was done
abbrev pub line_of : Status → Option (List ℕ)
line_of Done = None
line_of Words = Some (codes "murder: words refused\n")
line_of (Config rule) = Some (codes "murder: configuration refused: rule " ++ (decimal rule ++ codes "\n"))
line_of (Schedule line rule) = Some (codes "murder: schedule refused: line " ++ (decimal line ++ (codes " rule " ++ (decimal rule ++ codes "\n"))))
line_of Read = Some (codes "murder: read fault\n")
line_of Write = Some (codes "murder: write fault\n")
line_of Memory = Some (codes "murder: out of memory\n")

-- of three facts the one that goes with a status: with a read fault, with a write fault, or with any other
abbrev pub by_status : Status → Type 0 → Type 0 → Type 0 → Type 0
by_status Read read write other = read
by_status Write read write other = write
by_status Done read write other = other
by_status Words read write other = other
by_status (Config rule) read write other = other
by_status (Schedule line rule) read write other = other
by_status Memory read write other = other

-- before the error line is written, exactly the fault is counted that the status tells
abbrev pub CountsStatus : Status → Faults → Faults → Type 0
CountsStatus status before now = by_status status (SourceFault before now) (OutputFault before now) (now ≡ before)

-- the same of a part of a call that goes on where it succeeds
abbrev pub CountsFile : {T : Type 0} → Result T Status → Faults → Faults → Type 0
CountsFile (Ok _) before now = now ≡ before
CountsFile (Err status) before now = CountsStatus status before now

-- the counts of sources and of outputs, whatever comes of the error line
pub record FileCounts (Sources Outputs : ℕ → ℕ → Type 0) (before now : Faults) : Type 0 where
  pub sources : Sources before.sources now.sources
  pub outputs : Outputs before.outputs now.outputs

abbrev pub IsSame : ℕ → ℕ → Type 0
IsSame before now = now ≡ before

-- and after it: the count of sources rises exactly where the status is Read, that of outputs exactly where it is Write
abbrev pub CountsEnd : Status → Faults → Faults → Type 0
CountsEnd status before now =
    by_status status (FileCounts Rose IsSame before now) (FileCounts IsSame Rose before now) (FileCounts IsSame IsSame before now)
