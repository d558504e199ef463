use Rattle.std.proofs.Common.{◌≡◌, [], ◌∷◌, ◌++◌, drop, map}
use Rattle.std.specs.List.{list_any}
use Rattle.grammar.specs.Tables.{starts_name}
use Rattle.grammar.specs.Forms.{names_of}
use Rattle.grammar.proofs.rows.some_begins_with.Given as goal

-- the rows that are left decide
abbrev pub invariant-loop-row : goal.invariant-loop-row
invariant-loop-row g l =
    list_any (λ name. starts_name name (l.text ++ l.byte ∷ [])) (names_of (map (λ row. (row.0.now, row.1)) (drop l.row-index l.rows)))
    ≡ list_any (λ name. starts_name name (l.text ++ l.byte ∷ [])) (names_of (map (λ row. (row.0.now, row.1)) l.rows))
