use Rattle.std.proofs.Common.{◌≡◌, ◌++◌, drop}
use Rattle.backend_core.specs.Flags.{differing}
use Rattle.backend_core.proofs.rows.differing.Given as goal

-- the rows so far
abbrev pub invariant-loop-row : goal.invariant-loop-row
invariant-loop-row l = l.made ++ differing l.content (drop l.row-index l.rows) ≡ differing l.content l.rows
