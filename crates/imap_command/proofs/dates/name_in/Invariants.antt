use Rattle.std.proofs.Common.{◌≡◌, drop, map}
use Rattle.imap_command.specs.Dates.{name_in}
use Rattle.imap_command.proofs.dates.name_in.Given as goal

-- the rows that are left decide
abbrev pub invariant-loop-row : goal.invariant-loop-row
invariant-loop-row l =
    name_in (map (λ row. (row.0.now, row.1)) (drop l.row-index l.rows)) l.number ≡ name_in (map (λ row. (row.0.now, row.1)) l.rows) l.number
