use Rattle.std.proofs.Common.{◌≡◌, drop, map}
use Rattle.grammar.specs.Forms.{named}
use Rattle.grammar.proofs.rows.value_of.Given as goal

-- the rows that are left decide
abbrev pub invariant-loop-row : goal.invariant-loop-row
invariant-loop-row g l =
    named l.other (map (λ row. (row.0.now, row.1)) (drop l.row-index l.rows)) l.text ≡ named l.other (map (λ row. (row.0.now, row.1)) l.rows) l.text
