use Rattle.std.proofs.Common.{take}
use Rattle.master_core.specs.Boot.{IsRead}
use Rattle.master_core.proofs.boot.table_of.Given as goal

-- the table of the entries so far
abbrev pub invariant-loop-entry : goal.invariant-loop-entry
invariant-loop-entry l = IsRead (take l.entry-index l.entries) l.table
